-- `image_check::check::ends_below` meets its contract. The loop's invariant: the edges from `edge` on decide.
use Rattle.std.specs.Prelude.{◌≡◌, ltb}
use Rattle.validate_words.specs.Laws.Passing.{rest}
use Rattle.image_check.specs.Columns.{value, values_below}
use Rattle.image_check.proofs.check.ends_below.Given as goal

abbrev pub invariant-loop-edge : goal.invariant-loop-edge
invariant-loop-edge l = values_below l.ends l.n ≡ rest (λ e. ltb (value l.ends e) l.n) l.edge l.ends.edges
