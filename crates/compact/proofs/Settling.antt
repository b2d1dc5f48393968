-- Compacting a checked store, call by call: what each call asks holds, the maps once they are written.
use Rattle.std.specs.Prelude.{ℕ, ◌≡◌, Bool, false, true, List, get_or, length}
use Rattle.plain.specs.Library.{◌∙◌, ap, zero-add, arith}
use Rattle.plain.specs.Compaction.{rank, renumbering}
use Rattle.plain.specs.Lists.{written}
use Rattle.liveness.specs.Laws.Flags.{length_flags}
use Rattle.shape.specs.Shape.{Words, edge_live, node_live}
use Rattle.compact.specs.Dropping.{Droppable}
use Rattle.compact.specs.Settling.{Settleable}
use Rattle.survivors.specs.Working.{Workable}
use Rattle.survivors.proofs.Laws.Slots.{mapped_long, written_from}

pub written_at : (flags : List Bool) (entry : List ℕ) (x : ℕ) → get_or flags x false ≡ true → get_or (written (renumbering flags) entry) x 0 ≡ rank flags x
written_at flags entry x live = written_from 0 flags entry x live ∙ zero-add (rank flags x)

module _ {w : Words} {node_map edge_map work : List ℕ} (pre : Settleable w node_map edge_map work) where
  pub workable : {edge-map' : List ℕ} → edge-map' ≡ written (renumbering (edge_live w)) edge_map → Workable w edge-map' work
  workable {edge-map'} is = record {
    listable = record { checked = pre.checked; room = pre.work_room };
    mapped = λ e l. ap (λ (m : List ℕ). get_or m e 0) is ∙ written_at (edge_live w) edge_map e l;
    edges_there = let flags = length_flags w.live_edges w.counts.edges.bound in
        let room = pre.edges_room in
        let long = ap length is ∙ mapped_long 0 (edge_live w) edge_map (omega arith) in omega arith;
  }

  pub droppable : {node-map' work' : List ℕ} → node-map' ≡ written (renumbering (node_live w)) node_map → length work' ≡ length work → Droppable w node-map' work'
  droppable {node-map'} is same = record {
    checked = pre.checked;
    mapped = λ x l. ap (λ (m : List ℕ). get_or m x 0) is ∙ written_at (node_live w) node_map x l;
    nodes_there = let flags = length_flags w.live_nodes w.counts.nodes.bound in
        let room = pre.nodes_room in
        let long = ap length is ∙ mapped_long 0 (node_live w) node_map (omega arith) in omega arith;
    there = rw same pre.work_room;
  }
