-- What the reads of a slot answer on the plain lists of a store, by the words that they read.
use Rattle.std.specs.Prelude.{ℕ, ◌≤◌, ◌<◌, ◌≡◌, Bool, true, false, List, get_or, Ok, Err}
use Rattle.plain.specs.Library.{sym, ap, ◌∙◌, arith}
use Rattle.plain.specs.declared.refusals.Refusal.{Refusal}
use Rattle.plain.specs.declared.refusals.Refusal.TheVariants.{OutOfRangeEdge, RemovedEdge}
use Rattle.plain.specs.Answers.{edge_record_of}
use Rattle.plain.proofs.Laws.Rank.{live_below}
use Rattle.liveness.specs.Laws.Flags.{length_flags}
use Rattle.plain.specs.declared.TraversalDirection.TheVariants.{Outgoing, Incoming}
use Rattle.plain.specs.Numbers.{NONE}
use Rattle.plain.specs.Reads.{answered, yes_or_no, no_record, node_payload, edge_record, live_edge_record, contains_node, contains_edge}
use Rattle.plain.proofs.Laws.CallCases.{node_payload_absent, node_payload_there, edge_record_absent, edge_record_there, live_edge_record_absent, live_edge_record_removed, live_edge_record_there, contains_node_is, contains_edge_is}
use Rattle.shape.specs.Stores.{slot_refused, EdgeThere}
use Rattle.shape.proofs.Laws.Refused.{by_refused, not_refused}
use Rattle.shape.specs.Shape.{Words, node_live, edge_live, plain_of, lists}
use Rattle.shape.proofs.Laws.Reading.{node_at, edge_at, plain_end}
use Rattle.shape.specs.Checked.{Checked}
use Rattle.shape.proofs.Laws.Slots.{nodes_told, edges_told, node_bound_of, edge_bound_of, live_slot, removed_slot}
use Rattle.view.specs.Slots.{refused, record_words}

pub record_there : {w : Words} → Checked w → (e : ℕ) → e < w.counts.edges.bound → EdgeThere w e
record_there {w} checked e l = record {
  low_there = omega (arith, checked.edges.bounded.bound_within);
  high_there = omega (arith, checked.edges.bounded.bound_within, checked.highs_long);
  source_there = omega (arith, checked.edges.bounded.bound_within, (checked.axis Outgoing).sized.room);
  target_there = omega (arith, checked.edges.bounded.bound_within, (checked.axis Incoming).sized.room);
}

module _ (w : Words) where
  -- a node's payload is refused past the bound
  pub payload_past : (x : ℕ) → w.counts.nodes.bound ≤ x → node_payload (lists w) x ≡ refused 5
  unfolding plain_of
  payload_past x h = node_payload_absent (lists w) x (rw (node_bound_of w) h)

  -- and is the node's word below it
  pub payload_read : (x : ℕ) → x < w.counts.nodes.bound → node_payload (lists w) x ≡ answered (get_or w.nodes x 0)
  unfolding plain_of
  payload_read x l = node_payload_there (lists w) x (rw (node_bound_of w) l) ∙ ap answered (node_at w x l)

  -- a record is refused past the bound
  pub record_past : (e : ℕ) → w.counts.edges.bound ≤ e → edge_record (lists w) e ≡ no_record 7 NONE
  unfolding plain_of
  record_past e h = edge_record_absent (lists w) e (rw (edge_bound_of w) h)

  -- and is the edge's words below it
  pub record_read : (e : ℕ) → e < w.counts.edges.bound → edge_record (lists w) e ≡ record_words w.lows w.highs w.outgoing w.incoming e
  unfolding plain_of
  record_read e l = edge_record_there (lists w) e (rw (edge_bound_of w) l) ∙ rw (plain_end w Outgoing e l, plain_end w Incoming e l, edge_at w e l)

  -- a live record is refused past the bound
  pub live_record_past : (e : ℕ) → w.counts.edges.bound ≤ e → live_edge_record (lists w) e ≡ no_record 7 NONE
  unfolding plain_of
  live_record_past e h = live_edge_record_absent (lists w) e (rw (edge_bound_of w) h)

  -- and of a removed edge
  pub live_record_removed : (e : ℕ) → e < w.counts.edges.bound → get_or (edge_live w) e false ≡ false → live_edge_record (lists w) e ≡ no_record 8 NONE
  unfolding plain_of
  live_record_removed e l dead =
      live_edge_record_removed (lists w) e (removed_slot (edges_told w) e l dead)

  -- and else is the record
  pub live_record_read : (e : ℕ) → e < w.counts.edges.bound → get_or (edge_live w) e false ≡ true
      → live_edge_record (lists w) e ≡ record_words w.lows w.highs w.outgoing w.incoming e
  unfolding plain_of
  live_record_read e l live =
      live_edge_record_there (lists w) e (live_slot (edges_told w) e live) ∙ sym (edge_record_there (lists w) e (rw (edge_bound_of w) l)) ∙ record_read e l

  -- whether a slot is live
  pub node_there : (x : ℕ) → contains_node (lists w) x ≡ yes_or_no (get_or (node_live w) x false)
  unfolding plain_of
  node_there x = contains_node_is (lists w) x ∙ ap (λ (fs : List Bool). yes_or_no (get_or fs x false)) (nodes_told w).same

  pub edge_there : (e : ℕ) → contains_edge (lists w) e ≡ yes_or_no (get_or (edge_live w) e false)
  unfolding plain_of
  edge_there e = contains_edge_is (lists w) e ∙ ap (λ (fs : List Bool). yes_or_no (get_or fs e false)) (edges_told w).same

  -- what a live record is refused with
  pub live_record_refused : (e : ℕ) {r : Refusal} → Err r ≡ slot_refused OutOfRangeEdge RemovedEdge (edge_live w) w.counts.edges.bound e
      → live_edge_record (lists w) e ≡ edge_record_of (Err r)
  live_record_refused e =
      by_refused (edge_live w) w.counts.edges.bound e (λ (r : Refusal). live_edge_record (lists w) e ≡ edge_record_of (Err r))
      (λ past. live_record_past e past)
      (λ below dead. live_record_removed e below dead)

-- an edge that is not refused is live, and below the bound
module _ {w : Words} (k : Checked w) (e : ℕ) {done : Unit} (passed : Ok done ≡ slot_refused OutOfRangeEdge RemovedEdge (edge_live w) w.counts.edges.bound e) where
  edge_passed : get_or (edge_live w) e false ≡ true
  edge_passed = not_refused OutOfRangeEdge RemovedEdge (edge_live w) w.counts.edges.bound e passed

  edge_below : e < w.counts.edges.bound
  edge_below = rw (length_flags w.live_edges w.counts.edges.bound) at (live_below (edge_live w) e edge_passed)

  -- so its words are there
  pub live_record_there : EdgeThere w e
  live_record_there = record_there k e edge_below

  -- and are the live record
  pub live_record_passed : live_edge_record (lists w) e ≡ record_words w.lows w.highs w.outgoing w.incoming e
  live_record_passed = live_record_read w e edge_below edge_passed
