-- The answer of joining by numbers: each refusal as it is told, and what is at hand where the answer is 0.
use Rattle.std.specs.Prelude.{ℕ, ◌+◌, ◌<◌, ◌≤◌, suc, zero, ◌≡◌, refl, eqb}
use Rattle.plain.specs.Library.{◌∙◌, ap, sym, ⊎_elim, arith, eq-eqb, eqb-false, eqb-true, le-ltb, lt-ltb, ne_eqb}
use Rattle.plain.specs.declared.Answer.{Answer}
use Rattle.plain.specs.Calls.{fresh, judged, short_answer}
use Rattle.plain.specs.Devices.{Takes, box}
use Rattle.plain.specs.Joining.{MapRooms, Sizes, join_answer, map_slices}
use Rattle.plain.specs.Memory.{Lengths, first_short}
use Rattle.plain.specs.Numbers.{NONE}
use Rattle.plain.proofs.Laws.Booleans.{below_or_not, by_test}
use Rattle.plain.specs.Laws.CallCases.{FirstShort, LongEnough, no_slice, slice_fits}
use Rattle.plain.proofs.Laws.CallCases.{long_or_short, one_short}
use Rattle.plain.proofs.Laws.Devices.{box_proper}
use Rattle.memory.specs.Laws.{Roomy, fresh_roomy}

-- ---- 1

pub judged_none : (rule : ℕ) (a : Answer) → rule ≡ 0 → judged rule a ≡ a
judged_none zero a h = refl
judged_none (suc rule) a h = absurd (omega arith)

-- ---- 13, 2, 10, and 2 for a map

module _ (l : Lengths) (s t : Sizes) (rooms : MapRooms) where
  module _ {told : Answer} (is : told ≡ fresh box l) where
    pub memory_refused : (told.number ≡ 0 → ⊥) → told ≡ join_answer l s t rooms
    unfolding join_answer fresh
    memory_refused h = is ∙ sym (rw (← is, ne_eqb told.number 0 h))

    module _ (there : told.number ≡ 0) where
      pub nodes_exceed : l.capacities.nodes < s.nodes + t.nodes → record { number = 10; value = NONE } ≡ join_answer l s t rooms
      unfolding join_answer fresh
      nodes_exceed h = sym (rw (← is, eq-eqb told.number 0 there, lt-ltb l.capacities.nodes (s.nodes + t.nodes) h))

      module _ (nodes_fit : s.nodes + t.nodes ≤ l.capacities.nodes) where
        pub edges_exceed : l.capacities.edges < s.edges + t.edges → record { number = 10; value = NONE } ≡ join_answer l s t rooms
        unfolding join_answer fresh
        edges_exceed h =
            sym (rw (← is, eq-eqb told.number 0 there, le-ltb l.capacities.nodes (s.nodes + t.nodes) nodes_fit, lt-ltb l.capacities.edges (s.edges + t.edges) h))

        pub maps_answered : s.edges + t.edges ≤ l.capacities.edges → {answer : Answer} → answer ≡ short_answer (first_short (map_slices s t rooms))
            → answer ≡ join_answer l s t rooms
        unfolding join_answer fresh
        maps_answered h a =
            a ∙ sym (rw (← is, eq-eqb told.number 0 there, le-ltb l.capacities.nodes (s.nodes + t.nodes) nodes_fit, le-ltb l.capacities.edges (s.edges + t.edges) h))

-- ---- where the answer is 0

-- The third memory is as a store's has to be, the survivors are within its capacities, and the maps have room.
pub record Accepted (l : Lengths) (s t : Sizes) (rooms : MapRooms) : Type 0 where
  pub takes : Takes box l.capacities
  pub roomy : Roomy l
  pub nodes_fit : s.nodes + t.nodes ≤ l.capacities.nodes
  pub edges_fit : s.edges + t.edges ≤ l.capacities.edges
  pub first_nodes : s.node_bound ≤ rooms.first_nodes
  pub first_edges : s.edge_bound ≤ rooms.first_edges
  pub second_nodes : t.node_bound ≤ rooms.second_nodes
  pub second_edges : t.edge_bound ≤ rooms.second_edges

module _ (l : Lengths) (s t : Sizes) (rooms : MapRooms) (done : (join_answer l s t rooms).number ≡ 0) where
  -- an answer of another number is none
  other : (a : Answer) → a ≡ join_answer l s t rooms → (a.number ≡ 0 → ⊥) → ⊥
  other a is refused = refused (ap (λ (a : Answer). a.number) is ∙ done)

  there : (fresh box l).number ≡ 0
  there = by_test (eqb (fresh box l).number 0) (λ q. eqb-true (fresh box l).number 0 q)
      (λ q. let no = eqb-false (fresh box l).number 0 q in
      absurd (other _ (memory_refused l s t rooms {told = fresh box l} refl no) no))

  nodes_fit : s.nodes + t.nodes ≤ l.capacities.nodes
  nodes_fit = ⊎_elim (λ h. absurd (other _ (nodes_exceed l s t rooms refl there h) (λ q. omega arith))) (λ h. h) (below_or_not l.capacities.nodes (s.nodes + t.nodes))

  edges_fit : s.edges + t.edges ≤ l.capacities.edges
  edges_fit = ⊎_elim (λ h. absurd (other _ (edges_exceed l s t rooms refl there nodes_fit h) (λ q. omega arith))) (λ h. h) (below_or_not l.capacities.edges (s.edges + t.edges))

  short_told : (needed : ℕ) → FirstShort (map_slices s t rooms) needed → record { number = 2; value = needed } ≡ join_answer l s t rooms
  short_told needed short = maps_answered l s t rooms refl there nodes_fit edges_fit (sym (ap short_answer (one_short short)))

  long : LongEnough (map_slices s t rooms)
  long = ⊎_elim (λ h. h) (λ short. absurd (other _ (short_told short.0 short.1) (λ q. omega arith))) (long_or_short (map_slices s t rooms))

  pub accepted : Accepted l s t rooms
  accepted = each long
    where
      each : LongEnough (map_slices s t rooms) → Accepted l s t rooms
      each (slice_fits a (slice_fits b (slice_fits c (slice_fits d no_slice)))) = record {
        takes = (fresh_roomy box_proper l there).takes;
        roomy = (fresh_roomy box_proper l there).roomy;
        nodes_fit = nodes_fit;
        edges_fit = edges_fit;
        first_nodes = a;
        first_edges = b;
        second_nodes = c;
        second_edges = d;
      }

-- a refusal with a rule is no number 0
rule_none : (rule : ℕ) (a : Answer) → (judged rule a).number ≡ 0 → rule ≡ 0
rule_none zero a h = refl
rule_none (suc rule) a h = absurd (omega arith)

-- number 0 is answered only where neither book is broken
module _ (first second : ℕ) (a : Answer) (done : (judged first (judged second a)).number ≡ 0) where
  pub first_sound : first ≡ 0
  first_sound = rule_none first (judged second a) done

  past_first : (judged second a).number ≡ 0
  past_first = ap (λ (b : Answer). b.number) (sym (judged_none first (judged second a) first_sound)) ∙ done

  pub second_sound : second ≡ 0
  second_sound = rule_none second a past_first

  pub join_done : a.number ≡ 0
  join_done = ap (λ (b : Answer). b.number) (sym (judged_none second a second_sound)) ∙ past_first
