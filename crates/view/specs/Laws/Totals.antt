-- What a total says of the weights that a node's transfers may have.
use Rattle.std.specs.Prelude.{ℕ, ◌<◌}
use Rattle.plain.specs.Library.{sym, ap, subst, ◌∙◌}
use Rattle.plain.specs.declared.TraversalDirection.{TraversalDirection}
use Rattle.plain.specs.declared.Total.{Total}
use Rattle.plain.specs.Reads.{payloads_of, total}
use Rattle.plain.specs.Calls.{judged_total}
use Rattle.plain.specs.Laws.Totals.{Totals}
use Rattle.plain.proofs.Laws.Totals.{totals}
use Rattle.shape.specs.Shape.{Words, lists}
use Rattle.shape.specs.Checked.{Checked}
use Rattle.shape.proofs.Laws.Judging.{checked_sound}
use Rattle.shape.proofs.Laws.Slots.{node_bound_of}
use Rattle.view.specs.Calls.{Totalled}

-- "every choice of weights within the ranges sums to between them, and both ends are reached": of what is answered of a node below the bound of a checked store
pub totals_answered : {w : Words} (d : TraversalDirection) (x : ℕ) {r : Total} → Checked w → x < w.counts.nodes.bound
    → Totalled w (λ w. total d (lists w) x) r → Totals r (payloads_of d (lists w) x)
totals_answered {w} d x k l t =
    subst (λ (r : Total). Totals r (payloads_of d (lists w) x))
    (sym (t.answers ∙ ap (λ (n : ℕ). judged_total n (total d (lists w) x)) (checked_sound w k)))
    (totals k.walks d x (k.axis d).sized.edges_within (rw (node_bound_of w) l))
