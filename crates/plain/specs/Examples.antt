-- Document 01, "Proof by example": M1 to M12 in a single list, proved by computation from the definitions; those after them are of document 02.
use Rattle.std.specs.Prelude.{ℕ, ◌*◌, ◌≡◌, List, [], ◌∷◌, ◌++◌, replicate}
use Rattle.plain.specs.declared.TraversalDirection.TheVariants.{Outgoing, Incoming}
use Rattle.plain.specs.Numbers.{NONE}
use Rattle.plain.specs.Step.{Capacities, State}
use Rattle.plain.specs.Reads.{walk, is_compact, node_bound_answer, edge_bound_answer, contains_node, contains_edge, find, total, answered}
use Rattle.plain.specs.Renumbering.{compose}
use Rattle.plain.specs.Memory.{Lengths, exact}
use Rattle.plain.specs.Devices.{box, skid}
use Rattle.plain.specs.Calls.{strip, fresh_state, fresh, compaction, write_image, reading, read_image}
use Rattle.plain.specs.Lotstrip.{codes, lotstrip}
use Rattle.plain.specs.History.{Call, Strip, Compaction, history as history_on}

abbrev pub capacities : ℕ → ℕ → Capacities
capacities nodes edges = record { nodes = nodes; edges = edges }

abbrev pub small : Capacities
small = capacities 8 8

-- the history of calls on a box
abbrev pub history : Capacities → List Call → State
history caps calls = history_on box caps calls

-- an operation's five words, and its twenty bytes where each word is below 256
abbrev pub op : ℕ → ℕ → ℕ → ℕ → ℕ → List ℕ
op code first second low high = code ∷ first ∷ second ∷ low ∷ high ∷ []

abbrev pub input : ℕ → ℕ → ℕ → ℕ → ℕ → List ℕ
input code first second low high =
    0 ∷ 0 ∷ 0 ∷ code ∷ 0 ∷ 0 ∷ 0 ∷ first ∷ 0 ∷ 0 ∷ 0 ∷ second ∷ 0 ∷ 0 ∷ 0 ∷ low ∷ 0 ∷ 0 ∷ 0 ∷ high ∷ []

-- a strip with room enough for its answers, and the store that it leaves of a fresh one
abbrev pub booked : List ℕ → Call
booked words = Strip words 64

abbrev pub after : List ℕ → State
after words = history small (booked words ∷ [])

-- the answer words of a strip after other calls
abbrev pub answers_after : Capacities → List Call → List ℕ → List ℕ
answers_after caps calls words = (strip caps (history caps calls) words 64).words

-- one node with an edge to itself, and with its node removed
abbrev pub self_loop : List ℕ
self_loop = op 1 0 0 7 0 ++ op 2 0 0 5 5

abbrev pub loop_removed : List ℕ
loop_removed = self_loop ++ op 4 0 0 0 0

-- two nodes with one edge between them, compacted
abbrev pub one_edge : List Call
one_edge = booked (op 1 0 0 7 0 ++ (op 1 0 0 9 0 ++ op 2 0 1 5 5)) ∷ Compaction 2 1 2 ∷ []

-- one node with three edges, the first removed
abbrev pub first_removed : List ℕ
first_removed = op 1 0 0 7 0 ++ (op 2 0 0 1 1 ++ (op 2 0 0 2 2 ++ (op 2 0 0 3 3 ++ op 3 0 0 0 0)))

-- two edges from node 0 to node 1, the first taken to another source and back, so that it comes second in the out-list of node 0
abbrev pub one_taken_back : List ℕ
one_taken_back = op 1 0 0 7 0 ++ (op 1 0 0 9 0 ++ (op 2 0 1 5 5 ++ (op 2 0 1 6 6 ++ (op 5 0 1 0 0 ++ op 5 0 0 0 0))))

-- three edges from node 0 to node 1, the second removed
abbrev pub weights : List ℕ
weights = op 1 0 0 7 0 ++ (op 1 0 0 9 0 ++ (op 2 0 1 5 8 ++ (op 2 0 1 100 200 ++ (op 2 0 1 1 3 ++ op 3 1 0 0 0))))

-- one node with an edge to itself, of a low and a high that differ, compacted
abbrev pub one_range : List Call
one_range = booked (op 1 0 0 7 0 ++ op 2 0 0 5 8) ∷ Compaction 1 1 2 ∷ []

-- an image of n lots without a transfer, n below 256
abbrev pub lots : ℕ → List ℕ
lots n = 0 ∷ n ∷ 0 ∷ 0 ∷ replicate {A = ℕ} (4 * n) 0

-- memory for all that the skid takes
abbrev pub whole_skid : Lengths
whole_skid = exact (capacities 64 128)

-- M12's input
abbrev pub sample : List ℕ
sample = input 1 0 0 7 0 ++ (input 1 0 0 9 0 ++ (input 2 0 1 5 5 ++ (input 2 0 1 6 6 ++ (input 5 0 1 0 0 ++ input 5 0 0 0 0))))

pub record Examples : Type 0 where
  -- M1 fresh: bounds 0, compact.
  pub m1 : (node_bound_answer fresh_state.lists ≡ answered 0) × (edge_bound_answer fresh_state.lists ≡ answered 0)
      × (is_compact fresh_state ≡ answered 1)
  -- M2 fresh, compacted: image 00 00 00 00.
  pub m2 : write_image (history small (Compaction 0 0 0 ∷ [])).lists 0 4 ≡ record { number = 0; value = 4; words = 0 ∷ 0 ∷ 0 ∷ 0 ∷ [] }
  -- M3 a self-loop is in both lists; removing its node removes it.
  pub m3 : (walk Outgoing (after self_loop).lists 0 1 ≡ record { number = 0; value = 1; words = 0 ∷ [] })
      × (walk Incoming (after self_loop).lists 0 1 ≡ record { number = 0; value = 1; words = 0 ∷ [] })
      × (contains_edge (after loop_removed).lists 0 ≡ answered 0) × (contains_node (after loop_removed).lists 0 ≡ answered 0)
      × (walk Outgoing (after loop_removed).lists 0 1 ≡ record { number = 0; value = 0; words = [] })
      × (walk Incoming (after loop_removed).lists 0 1 ≡ record { number = 0; value = 0; words = [] })
  -- M4 redirect to the same end on a compact store: still compact.
  pub m4 : (answers_after small one_edge (op 5 0 0 0 0 ++ op 6 0 1 0 0) ≡ 0 ∷ 0 ∷ 0 ∷ 1 ∷ [])
      × (is_compact (history small (one_edge ++ (booked (op 5 0 0 0 0 ++ op 6 0 1 0 0) ∷ []))) ≡ answered 1)
  -- M5 move from a removed node to node 9,999: done, 0.
  pub m5 : answers_after small (booked loop_removed ∷ []) (op 7 0 9_999 0 0 ++ op 8 0 9_999 0 0) ≡ 0 ∷ 0 ∷ 0 ∷ 0 ∷ []
  -- M6 move old = new, removed: 9.
  pub m6 : answers_after small (booked loop_removed ∷ []) (op 7 0 0 0 0 ++ op 8 0 0 0 0) ≡ 9 ∷ NONE ∷ 9 ∷ NONE ∷ []
  -- M7 three edges, first removed, compacted: map NONE, 0, 1.
  pub m7 : (compaction (after first_removed) 1 3 4).edge_map ≡ NONE ∷ 0 ∷ 1 ∷ []
  -- M8 compose [1, NONE, 0] with [5]: [NONE, NONE, 5].
  pub m8 : compose (1 ∷ NONE ∷ 0 ∷ []) (5 ∷ []) 3 ≡ record { number = 0; value = 0; words = NONE ∷ NONE ∷ 5 ∷ [] }
  -- M9 capacity 1: second node 10, also after removal; after compaction slot 0.
  pub m9 : (answers_after (capacities 1 1) [] (op 1 0 0 7 0 ++ op 1 0 0 8 0) ≡ 0 ∷ 0 ∷ 10 ∷ NONE ∷ [])
      × (answers_after (capacities 1 1) (booked (op 1 0 0 7 0 ++ op 4 0 0 0 0) ∷ []) (op 1 0 0 8 0) ≡ 10 ∷ NONE ∷ [])
      × (answers_after (capacities 1 1) (booked (op 1 0 0 7 0 ++ op 4 0 0 0 0) ∷ Compaction 1 0 0 ∷ []) (op 1 0 0 8 0) ≡ 0 ∷ 0 ∷ [])
  -- M10 walk of two into one word: 2, value 2.
  pub m10 : walk Outgoing (after first_removed).lists 0 1 ≡ record { number = 2; value = 2; words = [] }
  -- M11 image 00 00 00 01: 12, rule 3; with eight more zero bytes rule 5. Capacity 32,768 is taken, 32,769 gives 13.
  pub m11 : (read_image box (exact small) (0 ∷ 0 ∷ 0 ∷ 1 ∷ []) ≡ record { number = 12; value = 3 })
      × (read_image box (exact small) (0 ∷ 0 ∷ 0 ∷ 1 ∷ 0 ∷ 0 ∷ 0 ∷ 0 ∷ 0 ∷ 0 ∷ 0 ∷ 0 ∷ []) ≡ record { number = 12; value = 5 })
      × (fresh box (exact (capacities 32_768 32_768)) ≡ record { number = 0; value = 0 })
      × (fresh box (exact (capacities 32_769 32_768)) ≡ record { number = 13; value = 32_769 })
      × (fresh box (exact (capacities 32_768 32_769)) ≡ record { number = 13; value = 32_769 })
      -- likewise for reading, where 13 comes before 12
      × (read_image box (exact (capacities 32_768 32_768)) (0 ∷ 0 ∷ 0 ∷ 0 ∷ []) ≡ record { number = 0; value = 0 })
      × (read_image box (exact (capacities 32_769 32_768)) (0 ∷ 0 ∷ 0 ∷ 1 ∷ []) ≡ record { number = 13; value = 32_769 })
      × (read_image box (exact (capacities 32_768 32_769)) (0 ∷ 0 ∷ 0 ∷ 1 ∷ []) ≡ record { number = 13; value = 32_769 })
  -- M12: the program `lotstrip`.
  pub m12 : lotstrip sample
      ≡ codes "0 0 0\n1 0 1\n2 0 0\n3 0 1\n4 0 0\n5 0 1\n0002000200000007000000094000000140000001500000006000000069\n"
  -- Document 02, No. 1: finding gives the first in the out-list, not the last, nor the one of the lowest slot.
  pub first_found : (walk Outgoing (after one_taken_back).lists 0 2 ≡ record { number = 0; value = 2; words = 1 ∷ 0 ∷ [] })
      × (find (after one_taken_back).lists 0 1 ≡ answered 1)
  -- Document 02, No. 8: a total is that of the list, so of live edges alone.
  pub totals : (total Outgoing (after weights).lists 0 ≡ record { number = 0; value = 0; low = 6; high = 11 })
      × (total Incoming (after weights).lists 1 ≡ record { number = 0; value = 0; low = 6; high = 11 })
      × (total Incoming (after weights).lists 0 ≡ record { number = 0; value = 0; low = 0; high = 0 })
      × (total Outgoing (after weights).lists 2 ≡ record { number = 5; value = NONE; low = 0; high = 0 })
  -- Number 16 comes directly after 4, so before 7 of code 9 and 5 of code 2.
  pub low_above_high : answers_after small (booked weights ∷ []) (op 9 9 1 6 5 ++ (op 9 9 0 6 5 ++ (op 2 9 9 6 5 ++ (op 9 9 0 5 5 ++ op 9 1 0 5 6))))
      ≡ 4 ∷ NONE ∷ 16 ∷ NONE ∷ 16 ∷ NONE ∷ 7 ∷ NONE ∷ 0 ∷ 0 ∷ []
  -- The image has the low, then the high.
  pub low_then_high : write_image (history small one_range).lists 2 16
      ≡ record { number = 0; value = 16; words = 0 ∷ 1 ∷ 0 ∷ 1 ∷ 0 ∷ 0 ∷ 0 ∷ 7 ∷ 0 ∷ 0 ∷ 0 ∷ 5 ∷ 0 ∷ 0 ∷ 0 ∷ 8 ∷ [] }
  -- Document 02, No. 2: a store with a removed edge has the image that its compaction has; the work slice is asked before the image's.
  pub working_image : (write_image (after first_removed).lists 3 24 ≡ record { number = 2; value = 4; words = [] })
      × (write_image (after first_removed).lists 4 24 ≡ record { number = 2; value = 25; words = [] })
      × (write_image (after first_removed).lists 4 25
      ≡ record {
        number = 0;
        value = 25;
        words = 0 ∷ 1 ∷ 0 ∷ 2 ∷ 0 ∷ 0 ∷ 0 ∷ 7 ∷ 0 ∷ 0 ∷ 0 ∷ 2 ∷ 0 ∷ 0 ∷ 0 ∷ 2 ∷ 0 ∷ 0 ∷ 0 ∷ 3 ∷ 0 ∷ 0 ∷ 0 ∷ 3 ∷ 80 ∷ [];
      })
      × (write_image (history small (booked first_removed ∷ Compaction 1 3 4 ∷ [])).lists 4 25 ≡ write_image (after first_removed).lists 4 25)
  -- Of the slices whose lengths are no capacities that of the highs comes first.
  pub highs_first : fresh box (record { capacities = capacities 8 9; highs = 8; live_nodes = 0; live_edges = 1; outgoing = 85; incoming = 85 }) ≡ record { number = 2; value = 9 }
  -- Document 02, No. 7: the skid takes 64 lots and 128 transfers; 65 or 129 it refuses with 15 and the value asked for, lots before transfers.
  pub skid_fresh : (fresh skid (exact (capacities 64 128)) ≡ record { number = 0; value = 0 })
      × (fresh skid (exact (capacities 65 128)) ≡ record { number = 15; value = 65 })
      × (fresh skid (exact (capacities 64 129)) ≡ record { number = 15; value = 129 })
      × (fresh skid (exact (capacities 65 129)) ≡ record { number = 15; value = 65 })
      × (fresh skid (record { capacities = capacities 64 129; highs = 0; live_nodes = 0; live_edges = 0; outgoing = 0; incoming = 0 }) ≡ record { number = 15; value = 129 })
      × (fresh skid (record { capacities = capacities 64 128; highs = 0; live_nodes = 0; live_edges = 0; outgoing = 0; incoming = 0 }) ≡ record { number = 2; value = 128 })
  -- Reading on it: 64 lots are taken, 65 refused; of transfers likewise, by the rule 0 and the counts of an image (of an image's bytes
  -- `skid_refuses_129` of Laws/Devices), lots before transfers.
  pub skid_reading : (read_image skid whole_skid (lots 64) ≡ record { number = 0; value = 0 })
      × (read_image skid whole_skid (lots 65) ≡ record { number = 15; value = 65 })
      × (reading skid whole_skid 0 64 128 ≡ record { number = 0; value = 0 })
      × (reading skid whole_skid 0 64 129 ≡ record { number = 15; value = 129 })
      × (reading skid whole_skid 0 65 129 ≡ record { number = 15; value = 65 })
      -- right after 12: 65 lots, and no byte of theirs
      × (read_image skid whole_skid (0 ∷ 65 ∷ 0 ∷ 0 ∷ []) ≡ record { number = 12; value = 3 })
      -- before 2
      × (read_image skid (exact small) (lots 65) ≡ record { number = 15; value = 65 })
      × (read_image skid (exact small) (lots 64) ≡ record { number = 2; value = 64 })
      -- the lent memory before 12, "in place of 13"
      × (read_image skid (exact (capacities 65 129)) (0 ∷ 65 ∷ 0 ∷ 0 ∷ []) ≡ record { number = 15; value = 65 })
      × (read_image skid (exact (capacities 64 129)) (0 ∷ 65 ∷ 0 ∷ 0 ∷ []) ≡ record { number = 15; value = 129 })
      -- a box takes it
      × (read_image box (exact (capacities 65 8)) (lots 65) ≡ record { number = 0; value = 0 })
