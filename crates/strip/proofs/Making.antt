-- Memory that is long enough is a store with no slot, and what making it comes to follows from the answer to its lengths.
use Rattle.std.specs.Prelude.{ℕ, ◌≤◌, ◌≡◌, refl, List, length}
use Rattle.plain.specs.Library.{sym, ap, subst, ◌∙◌, inl, arith}
use Rattle.plain.specs.declared.TraversalDirection.{TraversalDirection}
use Rattle.plain.specs.declared.TraversalDirection.TheVariants.{Outgoing, Incoming}
use Rattle.plain.specs.declared.Answer.{Answer}
use Rattle.plain.specs.Lists.{all, from, count}
use Rattle.plain.specs.Plain.{Plain}
use Rattle.plain.specs.Step.{State}
use Rattle.plain.specs.declared.Counts.{Counts}
use Rattle.plain.specs.Memory.{Lengths, live_words, axis_length as axis_room}
use Rattle.plain.specs.Devices.{Device, box, Takes, Proper}
use Rattle.plain.specs.Calls.{fresh_state, fresh}
use Rattle.plain.specs.WellFormed.{WellFormed}
use Rattle.plain.proofs.Laws.Operating.{empty_well_formed}
use Rattle.plain.proofs.Laws.Devices.{box_takes}
use Rattle.memory.specs.Laws.{Roomy, fresh_roomy}
use Rattle.liveness.specs.Flags.{packed, live_flags}
use Rattle.shape.specs.Shape.{Words, store, capacities, lengths_of, node_live, edge_live, axis_words, axis_of, shape_of, plain_of, is_compact}
use Rattle.shape.specs.Checked.{AxisChecked, Checked, SlotsChecked}
use Rattle.shape.specs.Steps.{state_of}
use Rattle.strip.specs.Fresh.{empty_slots, empty_counts, FreshOf}

-- counts whose numbers are all 0
pub none_counted : {c : Counts} → ((c.nodes.bound ≡ 0) × ((c.nodes.base ≡ 0) × (c.nodes.live ≡ 0))) × ((c.edges.bound ≡ 0) × ((c.edges.base ≡ 0) × (c.edges.live ≡ 0)))
    → c ≡ empty_counts
none_counted e = λ i. record {
  nodes = record { bound = e.0.0 i; base = e.0.1.0 i; live = e.0.1.1 i };
  edges = record { bound = e.1.0 i; base = e.1.1.0 i; live = e.1.1.1 i };
}

module _ (nodes lows highs live_nodes live_edges outgoing incoming : List ℕ) where
  -- the memory lent, with no slot
  abbrev memory : Words
  memory = store empty_counts nodes lows highs live_nodes live_edges outgoing incoming

  nothing : state_of (shape_of memory) ≡ fresh_state
  unfolding shape_of plain_of axis_of is_compact from all
  nothing = refl

  bare : Takes box (capacities memory) → (d : TraversalDirection) → axis_room (capacities memory) ≤ length (axis_words d memory)
      → AxisChecked (axis_words d memory) (length lows) (length nodes) empty_counts (node_live memory) (edge_live memory)
  bare few d room = record {
    sized = record { edges_within = few.edges; nodes_within = few.nodes; room = room };
    ends_below = λ e l. absurd (omega arith);
    index = inl (refl, refl);
    rings = record { ring = λ x l. absurd (omega arith); own = λ x e l m. absurd (omega arith) };
    runs = record { run = λ x l m. absurd (omega arith); apart = λ x y e l k m n. absurd (omega arith) };
    removed_runs = λ x e l h m. absurd (omega arith);
  }

  both : Takes box (capacities memory) → Roomy (lengths_of memory) → (d : TraversalDirection)
      → AxisChecked (axis_words d memory) (length lows) (length nodes) empty_counts (node_live memory) (edge_live memory)
  both few roomy Outgoing = bare few Outgoing roomy.outgoing_room
  both few roomy Incoming = bare few Incoming roomy.incoming_room

  no_slot : {c : ℕ} {words : List ℕ} → live_words c ≤ length words → SlotsChecked c words empty_slots
  unfolding packed live_flags from count
  no_slot long = record {
    bounded = record { bound_within = omega arith; base_within = omega arith };
    live_long = long;
    live = record { unused_clear = refl; live_right = refl };
  }

  -- memory of a box's capacities that is long enough is a store
  a_store : Takes box (capacities memory) → Roomy (lengths_of memory) → Checked memory
  a_store few roomy = record {
    nodes = no_slot roomy.live_nodes_room;
    edges = no_slot roomy.live_edges_room;
    highs_long = roomy.highs_room;
    axis = both few roomy;
    walks = subst (λ (p : Plain). WellFormed (capacities memory) p) (sym (ap (λ (s : State). s.lists) nothing)) (empty_well_formed (capacities memory));
  }

  -- by the answer to its lengths
  of_answer : {device : Device} → Proper device → {told : Answer} → told ≡ fresh device (lengths_of memory) → FreshOf device memory told.number told.value
  of_answer {device} p {told} is = record {
    answered = is;
    counts = refl;
    state = nothing;
    checked = λ h. let r = fresh_roomy p (lengths_of memory) (ap (λ (a : Answer). a.number) (sym is) ∙ h) in a_store (box_takes p r.takes) r.roomy;
  }

-- whatever words stand there
module _ {device : Device} (p : Proper device) {lengths : Lengths} {told : Answer} (is : told ≡ fresh device lengths) where
  pub made : (w : Words) → lengths_of w ≡ lengths → w.counts ≡ empty_counts → FreshOf device w told.number told.value
  made w measured empty =
      subst (λ (c : Counts). FreshOf device (store c w.nodes w.lows w.highs w.live_nodes w.live_edges w.outgoing w.incoming) told.number told.value) (sym empty)
      (of_answer w.nodes w.lows w.highs w.live_nodes w.live_edges w.outgoing w.incoming p (is ∙ ap (fresh device) (sym measured)))
