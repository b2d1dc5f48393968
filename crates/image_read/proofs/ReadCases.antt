-- How a reading that is taken ends: with what the bytes hold in place of all. Where it is refused nothing is written.
use Rattle.std.specs.Prelude.{ℕ, ◌≡◌, List}
use Rattle.plain.specs.Library.{sym, ap, ◌∙◌, arith}
use Rattle.plain.specs.declared.TraversalDirection.{TraversalDirection}
use Rattle.plain.specs.declared.TraversalDirection.TheVariants.{Outgoing, Incoming}
use Rattle.plain.specs.declared.Answer.{Answer}
use Rattle.plain.specs.Devices.{Device, Proper}
use Rattle.plain.specs.Calls.{read_image}
use Rattle.shape.specs.Shape.{Words, lengths_of, axis_words, node_capacity, edge_capacity}
use Rattle.shape.specs.Kept.{AxisRenewed, Renewed, renewed_spared, same_nodes, same_edges}
use Rattle.compact.specs.Laws.Holding.{holding_shape, holding_state, holding_checked, holding_canonical, canonical_leaves}
use Rattle.image_read.specs.Reading.{Accepted, ImagePlaced}
use Rattle.image_read.proofs.Reading.{placed_holding, placed_renewed}
use Rattle.image_read.proofs.Answering.{read_accepted}
use Rattle.image_read.specs.Calls.{ReadOf}

module _ {device : Device} (w : Words) (bytes : List ℕ) (answer : Answer) (told : answer ≡ read_image device (lengths_of w) bytes) where
  module _ (p : Proper device) (done : answer.number ≡ 0) where
    pub accepted : Accepted (lengths_of w) bytes
    accepted = read_accepted p (lengths_of w) bytes (ap (λ (a : Answer). a.number) (sym told) ∙ done)

    -- "the result equals what compaction leaves"
    pub read_done : {v : Words} → ImagePlaced w bytes v → ReadOf device w bytes answer.number answer.value v
    read_done {v} placed =
        let holding = placed_holding accepted placed in
        let same = placed.lengths in
        let left = placed_renewed accepted placed in
        let renewed : Renewed w v = record { nodes = left.nodes; edges = left.edges; highs = left.highs; axis = axis_left placed } in
        record {
          answered = told;
          state = λ h. holding_state holding;
          shape = λ h. holding_shape holding;
          checked = λ h. holding_checked holding;
          canonical = λ h. holding_canonical holding;
          lengths = same;
          refused_keeps = λ h. absurd (h done);
          renewed = renewed;
          spared = let c = holding_checked holding in
              renewed_spared (omega (arith, c.nodes.bounded.bound_within, same_nodes same)) (omega (arith, c.edges.bounded.bound_within, same_edges same)) renewed;
          leaves = canonical_leaves w v same (holding_canonical holding) renewed;
        }
      where
        axis_left : {v : Words} → ImagePlaced w bytes v → (d : TraversalDirection)
            → AxisRenewed (axis_words d w) (axis_words d v) (edge_capacity w) (node_capacity w) v.counts.nodes.bound v.counts.edges.bound
        axis_left placed Outgoing = (placed_renewed accepted placed).axis Outgoing
        axis_left placed Incoming = (placed_renewed accepted placed).axis Incoming
