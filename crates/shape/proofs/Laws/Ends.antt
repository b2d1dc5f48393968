-- The ends of a checked store's live edges.
use Rattle.std.specs.Prelude.{ℕ, ◌<◌, ◌≡◌, List, Bool, true, false, get_or}
use Rattle.plain.specs.Library.{sym, ap, ◌∙◌, subst, arith}
use Rattle.plain.specs.declared.TraversalDirection.{TraversalDirection}
use Rattle.plain.specs.Plain.{end_of}
use Rattle.plain.proofs.Laws.Rank.{live_below}
use Rattle.liveness.specs.Laws.Flags.{length_flags}
use Rattle.shape.specs.Columns.{end_at}
use Rattle.shape.specs.Shape.{Words, lists, live_in, node_live, edge_live, axis_words}
use Rattle.shape.specs.Checked.{Checked}
use Rattle.shape.proofs.Laws.Reading.{plain_node_flags, plain_edge_flags, plain_end}

-- the end of a live edge is a live node
pub checked_end : {w : Words} → Checked w → (d : TraversalDirection) (e : ℕ) → live_in (edge_live w) e ≡ true
    → get_or (node_live w) (end_at (axis_words d w) e) false ≡ true
checked_end {w} k d e live =
    let low : e < w.counts.edges.bound = omega (arith, live_below (edge_live w) e live, length_flags w.live_edges w.counts.edges.bound) in
    subst (λ (x : ℕ). get_or (node_live w) x false ≡ true) (plain_end w d e low)
    (ap (λ (f : List Bool). get_or f (end_of d (lists w) e) false) (sym (plain_node_flags w))
    ∙ k.walks.ends_live d e (ap (λ (f : List Bool). get_or f e false) (plain_edge_flags w) ∙ live))
