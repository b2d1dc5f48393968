-- `validate_words::axes::none_above` meets its contract.
use Rattle.std.specs.Prelude.{◌≡◌}
use Rattle.plain.specs.Library.{◌∙◌, ⊎_elim}
use Rattle.validate_words.proofs.Paired.{pairing_start, pairing_on, pairing_done}
use Rattle.validate_words.proofs.axes.none_above.Goals as goal

pub loop-low-init : goal.loop-low-init
loop-low-init c =
    let second : c.zip-low-items.result.b.rest.now ≡ c.args.highs.now = search in
    rw (c.into_iter-low-iterator.ensures.into_iter_gives, c.zip-low-items.ensures.first, c.iter.ensures.rest, second) (pairing_start c.requires)

pub loop-low-preserved : goal.loop-low-preserved
loop-low-preserved c = pairing_on c.loop-low.invariant c.in-Some.ensures.steps.0 c.in-Some.ensures.steps.1

pub returns : goal.returns
returns c =
    pairing_done c.loop-low.invariant c.requires (⊎_elim (λ lows. lows.1.0) (λ highs. c.loop-low.invariant.long ∙ highs.1.0) c.in-None.ensures.steps)
