-- A store for each rule as the first that is broken, and the sound one that they are made from, proved by computation from the definition of `broken`.
use Rattle.std.specs.Prelude.{ℕ, ◌≡◌, refl, List, [], ◌∷◌, set}
use Rattle.plain.specs.declared.Slots.{Slots}
use Rattle.plain.specs.Lists.{member, distinct, from, keep, all, count, joined}
use Rattle.liveness.specs.Flags.{bit, live_bit, live_flags, packed}
use Rattle.shape.specs.Chains.{chain, until, ring}
use Rattle.shape.specs.Shape.{Words, store, base_of, run_list, run_of, ring_of, axis_of, shape_of, plain_of}
use Rattle.shape.specs.Rules.{rule_1, rule_2, rule_3, rule_4, rule_5, rule_6, rule_7, index_right, ring_right, last_of, runs_right, walks_right, weights_right, broken}

abbrev slots : ℕ → ℕ → ℕ → Slots
slots bound base live = record { bound = bound; base = base; live = live }

-- One node with two edges to itself: edge 0 in the base part, edge 1 in the ring, no run. The columns of its axis, at 0 ends, 2 adjacency, 4 next, 6 link, 8 last,
-- 9 first, 10 tail, 11 count, 12 mark, 13 offsets; the words that say nothing are 9.
abbrev axis : List ℕ
axis = 0 ∷ 0 ∷ 0 ∷ 9 ∷ 9 ∷ 1 ∷ 9 ∷ 9 ∷ 1 ∷ 9 ∷ 9 ∷ 9 ∷ 0 ∷ 0 ∷ 1 ∷ []

-- that store but for its node bound, the highs of its edges, their live word and its outgoing axis
abbrev made : ℕ → List ℕ → ℕ → List ℕ → Words
made bound highs live outgoing =
    store (record { nodes = slots bound 1 1; edges = slots 2 1 2 }) (7 ∷ []) (5 ∷ 6 ∷ []) highs (1 ∷ []) (live ∷ []) outgoing axis

abbrev with_outgoing : List ℕ → Words
with_outgoing = made 1 (5 ∷ 8 ∷ []) 3

-- a run, its mark set
abbrev with_run : ℕ → ℕ → ℕ → List ℕ
with_run first tail count = set (set (set (set axis 9 first) 10 tail) 11 count) 12 1

pub record Examples : Type 0 where
  pub sound : broken (with_outgoing axis) ≡ 0
  -- (1) a node bound above the capacity
  pub first_1 : broken (made 2 (5 ∷ 8 ∷ []) 3 axis) ≡ 1
  -- (1) a high for the first edge alone
  pub highs_1 : broken (made 1 (5 ∷ []) 3 axis) ≡ 1
  -- (2) one live bit, and a count of two
  pub first_2 : broken (made 1 (5 ∷ 8 ∷ []) 1 axis) ≡ 2
  -- (3) edge 1 ends at a node that is not there
  pub first_3 : broken (with_outgoing (set axis 1 1)) ≡ 3
  -- (3) edge 1 has the low 6 and the high 5
  pub weights_3 : broken (made 1 (5 ∷ 5 ∷ []) 3 axis) ≡ 3
  -- (4) the offsets end above the base
  pub first_4 : broken (with_outgoing (set axis 14 2)) ≡ 4
  -- (5) the ring goes on to an edge of the base
  pub first_5 : broken (with_outgoing (set axis 5 0)) ≡ 5
  -- (6) the run 1, 1: an edge twice
  pub first_6 : broken (with_outgoing (set (with_run 1 1 2) 7 1)) ≡ 6
  -- (6) the run 0 whose tail is edge 1
  pub tail_6 : broken (with_outgoing (with_run 0 1 1)) ≡ 6
  -- (7) an empty run, which hides the base: no walk lists edge 0
  pub first_7 : broken (with_outgoing (with_run 9 9 0)) ≡ 7

examples : Examples
unfolding broken rule_1 rule_2 rule_3 weights_right rule_4 rule_5 rule_6 rule_7 index_right ring_right last_of runs_right walks_right base_of run_list run_of ring_of axis_of shape_of plain_of chain until ring member distinct from keep all count joined bit live_bit live_flags packed
examples = record {
  sound = refl;
  first_1 = refl;
  highs_1 = refl;
  first_2 = refl;
  first_3 = refl;
  weights_3 = refl;
  first_4 = refl;
  first_5 = refl;
  first_6 = refl;
  tail_6 = refl;
  first_7 = refl;
}
