-- `validate_lists::walks::list_right` meets its contract.
use Rattle.std.specs.Prelude.{ℕ, ◌≡◌, true, List, ◌∷◌}
use Rattle.plain.specs.Library.{sym, ◌∙◌, arith}
use Rattle.plain.proofs.Laws.ListLaws.{member_first, member_later}
use Rattle.cursor.specs.Laws.Reading.{keep_first, keep_past, keep_none}
use Rattle.marks.specs.Laws.Following.{follow_start, follow_done, pass_fails, pass_more}
use Rattle.validate_lists.specs.Walks.{ListReadable}
use Rattle.validate_lists.proofs.walks.list_right.Goals.{else-has-via-then-has+else-not-pass, else-has-via-else-has}
use Rattle.validate_lists.proofs.walks.list_right.Goals as goal

-- what is read of edges is read of those after the first
later : {list rest ends seen : List ℕ} {e : ℕ} → ListReadable list ends seen → list ≡ e ∷ rest → ListReadable rest ends seen
later {rest = rest} {e = e} r q =
    let t = rw q at r in record { ends_there = λ k m. t.ends_there k (member_later k e rest m); marks_there = λ k m. t.marks_there k (member_later k e rest m) }

pub loop-edge-init : goal.loop-edge-init
loop-edge-init c = rw (c.into_iter-edge-iterator.ensures.into_iter_gives, c.parts-entries.ensures) (follow_start _ _ _, c.requires)

pub pass-requires : goal.pass-requires
pass-requires c =
    let r = rw (keep_first _ c.in-Some.ensures.steps (sym c.has.ensures ∙ c.if-has.true)) at c.loop-edge.invariant.1 in
    let first = member_first c.in-Some.edge _ in
    (r.ends_there _ first, omega (arith, r.marks_there _ first, c.loop-edge.auto.seen))

pub returns-then-not-pass : goal.returns-then-not-pass
returns-then-not-pass c =
    pass_fails c.loop-edge.invariant.0 (keep_first _ c.in-Some.ensures.steps (sym c.has.ensures ∙ c.if-has.true)) c.pass.ensures true c.if-not-pass.true

pub loop-edge-preserved : goal.loop-edge-preserved
loop-edge-preserved c =
    elim c.else-has.branch [
      | else-has-via-then-has+else-not-pass w ↦
          let next = keep_first _ c.in-Some.ensures.steps (sym c.has.ensures ∙ w.if-has.true) in
          rw w.seen-is (pass_more c.loop-edge.invariant.0 next w.pass.ensures w.if-not-pass.false w.pass.auto.seen, later c.loop-edge.invariant.1 next)
      | else-has-via-else-has w ↦ rw w.seen-is (rw (keep_past _ c.in-Some.ensures.steps (sym c.has.ensures ∙ w.if-has.false)) at c.loop-edge.invariant)
    ]

pub returns : goal.returns
returns c = follow_done c.loop-edge.invariant.0 true (keep_none _ c.in-None.ensures.steps.0)
