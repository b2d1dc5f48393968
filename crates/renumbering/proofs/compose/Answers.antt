-- `renumbering::compose` meets its contract: by `compose_short`, `compose_turn` and `compose_done` of proofs/Maps.antt.
use Rattle.std.specs.Prelude.{ℕ, ◌≡◌, ◌++◌, length, take, drop}
use Rattle.plain.specs.Library.{ap, ◌∙◌, length-set, arith}
use Rattle.plain.proofs.Laws.Exits.{refused_exit}
use Rattle.plain.specs.Renumbering.{composed}
use Rattle.renumbering.proofs.Maps.{compose_short, compose_turn, compose_done}
use Rattle.renumbering.proofs.compose.Goals as goal

pub returns-in_err-need : goal.returns-in_err-need
returns-in_err-need c =
    rw (refused_exit _ c.from_residual.ensures.1, c.in_err-need.ensures.1) (compose_short _ _ _ c.in_err-need.ensures.0)

pub loop-i-preserved : goal.loop-i-preserved
loop-i-preserved c =
    let a = c.args in record {
      written = compose_turn a.first.now a.second.now a.res.now c.loop-i.res c.loop-i.i c.lookup_again.result (omega arith) (omega arith)
          c.loop-i.invariant.written c.lookup_again.ensures;
      as_long = simp length-set c.loop-i.invariant.as_long;
    }

pub returns : goal.returns
returns c =
    let a = c.args in
    let e : c.loop-i.i ≡ length a.first.now = omega arith in
    rw (c.loop-i.invariant.written ∙ ap (λ (n : ℕ). take n (composed a.first.now a.second.now) ++ drop n a.res.now) e)
    (compose_done a.first.now a.second.now a.res.now (omega arith))
