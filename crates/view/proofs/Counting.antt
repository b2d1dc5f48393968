-- Bounds and counts: the plain lists of a checked store have them as its record of counts says.
use Rattle.std.specs.Prelude.{ℕ, ◌≡◌, Bool, List, eqb}
use Rattle.plain.specs.Library.{sym, ap, ◌∙◌}
use Rattle.plain.specs.declared.Slots.{Slots}
use Rattle.plain.specs.Reads.{answered, yes_or_no, live_count, node_bound_answer, edge_bound_answer, node_count, edge_count, is_empty}
use Rattle.liveness.specs.Flags.{live_flags}
use Rattle.shape.specs.Shape.{Words, lists}
use Rattle.shape.specs.Checked.{SlotsChecked, Checked}
use Rattle.shape.specs.Laws.Slots.{Told}
use Rattle.shape.proofs.Laws.Slots.{nodes_told, edges_told, node_bound_of, edge_bound_of}

-- ---- of one kind of slot

-- as many are live as the counts say
live_are : {capacity : ℕ} {words : List ℕ} {s : Slots} {flags : List Bool} → SlotsChecked capacity words s → Told flags (live_flags words s.bound) s.bound
    → s.live ≡ live_count flags
live_are k t = k.live.live_right ∙ ap live_count (sym t.same)

-- ---- the answers

module _ {w : Words} (k : Checked w) where
  pub node_bound_read : answered w.counts.nodes.bound ≡ node_bound_answer (lists w)
  unfolding node_bound_answer
  node_bound_read = ap answered (sym (node_bound_of w))

  pub edge_bound_read : answered w.counts.edges.bound ≡ edge_bound_answer (lists w)
  unfolding edge_bound_answer
  edge_bound_read = ap answered (sym (edge_bound_of w))

  pub node_count_read : answered w.counts.nodes.live ≡ node_count (lists w)
  unfolding node_count
  node_count_read = ap answered (live_are k.nodes (nodes_told w))

  pub edge_count_read : answered w.counts.edges.live ≡ edge_count (lists w)
  unfolding edge_count
  edge_count_read = ap answered (live_are k.edges (edges_told w))

  pub is_empty_read : yes_or_no (eqb w.counts.nodes.live 0) ≡ is_empty (lists w)
  unfolding is_empty
  is_empty_read = ap (λ (n : ℕ). yes_or_no (eqb n 0)) (live_are k.nodes (nodes_told w))
