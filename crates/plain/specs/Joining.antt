-- Two books joined. Document 02, No. 6: "Join two checked stores into a third lent memory as a compact store: the first's survivors in slot order, then the
-- second's, edges likewise, with each list kept in its order."
use Rattle.std.specs.Prelude.{ℕ, ◌+◌, Bool, true, cond, ◌||◌, List, [], ◌∷◌, ◌++◌, map, length, eqb, ltb}
use Rattle.plain.specs.declared.Answer.{Answer}
use Rattle.plain.specs.Numbers.{NONE, done, full}
use Rattle.plain.specs.Plain.{Plain, node_bound, edge_bound, node_flags, edge_flags}
use Rattle.plain.specs.Step.{Capacities, State}
use Rattle.plain.specs.Reads.{live_nodes, live_edges}
use Rattle.plain.specs.Memory.{Slice, first_short, Lengths}
use Rattle.plain.specs.Compaction.{EdgeRecord, Survivors, survivors, of_survivors, renumbering_from, renumbering}
use Rattle.plain.specs.Devices.{box}
use Rattle.plain.specs.Calls.{judged, short_answer, fresh}

-- ---- the joined book

-- numbers of the second book, behind those of the first
abbrev pub raised : ℕ → List ℕ → List ℕ
raised by xs = map (λ x. by + x) xs

abbrev pub raised_edge : ℕ → EdgeRecord → EdgeRecord
raised_edge by r = record { source = by + r.source; target = by + r.target; payload = r.payload }

-- "the first's survivors in slot order, then the second's, edges likewise, with each list kept in its order": the second's numbers raised by the first's counts
unfoldable pub joined_survivors : Survivors → Survivors → Survivors
joined_survivors s t = record {
  nodes = s.nodes ++ t.nodes;
  edges = s.edges ++ map (raised_edge (length s.nodes)) t.edges;
  outs = s.outs ++ map (raised (length s.edges)) t.outs;
  ins = s.ins ++ map (raised (length s.edges)) t.ins;
}

-- "The plain lists of the result are the renumbered lists of both."
unfoldable pub joined_plain : Plain → Plain → Plain
joined_plain p q = of_survivors (joined_survivors (survivors p) (survivors q))

-- ---- the maps

-- "Four maps to the joined store's slots, made and measured as in compaction, go into lent slices: nodes and edges of the first book, then of the second."
pub record Maps : Type 0 where
  pub first_nodes : List ℕ
  pub first_edges : List ℕ
  pub second_nodes : List ℕ
  pub second_edges : List ℕ

unfoldable pub join_maps : Plain → Plain → Maps
join_maps p q = record {
  first_nodes = renumbering (node_flags p);
  first_edges = renumbering (edge_flags p);
  second_nodes = renumbering_from (live_nodes p) (node_flags q);
  second_edges = renumbering_from (live_edges p) (edge_flags q);
}

abbrev pub no_maps : Maps
no_maps = record { first_nodes = []; first_edges = []; second_nodes = []; second_edges = [] }

-- ---- the call

-- What the refusals look at of a book: its bounds and how many slots survive.
pub record Sizes : Type 0 where
  pub node_bound : ℕ
  pub edge_bound : ℕ
  pub nodes : ℕ
  pub edges : ℕ

abbrev pub sizes : Plain → Sizes
sizes p = record { node_bound = node_bound p; edge_bound = edge_bound p; nodes = live_nodes p; edges = live_edges p }

-- the lengths of the four lent slices
pub record MapRooms : Type 0 where
  pub first_nodes : ℕ
  pub first_edges : ℕ
  pub second_nodes : ℕ
  pub second_edges : ℕ

-- "checked in this order", "measured as in compaction": "as long as the bounds before"
abbrev pub map_slices : Sizes → Sizes → MapRooms → List Slice
map_slices s t rooms =
    record { needs = s.node_bound; has = rooms.first_nodes } ∷ record { needs = s.edge_bound; has = rooms.first_edges }
    ∷ record { needs = t.node_bound; has = rooms.second_nodes } ∷ record { needs = t.edge_bound; has = rooms.second_edges } ∷ []

-- "if the survivors of both books together exceed its lot or transfer capacity"
abbrev pub exceeds : Capacities → Sizes → Sizes → Bool
exceeds caps s t = ltb caps.nodes (s.nodes + t.nodes) || ltb caps.edges (s.edges + t.edges)

-- an answer that refuses counts; else it is the other
abbrev pub or_else : Answer → Answer → Answer
or_else answer other = cond (eqb answer.number done) other answer

-- "13 for the third memory (lots before transfers), 2 for its other slices, 10 if the survivors of both books together exceed its lot or transfer capacity, and 2 for
-- a map, in that order": 13 and the first 2 are what a fresh store in that memory answers
unfoldable pub join_answer : Lengths → Sizes → Sizes → MapRooms → Answer
join_answer l s t rooms =
    or_else (fresh box l)
    (cond (exceeds l.capacities s t) (record { number = full; value = NONE }) (short_answer (first_short (map_slices s t rooms))))

-- What joining comes to: number and value, the words that each map's slice then starts with. Where the number is 0, the third memory holds `joined_state`.
pub record Joining : Type 0 where
  pub answer : Answer
  pub maps : Maps

-- "and with nothing written"
abbrev pub joins : Answer → Plain → Plain → Joining
joins answer p q = record { answer = answer; maps = cond (eqb answer.number done) (join_maps p q) no_maps }

-- "It refuses with 1 for the first book, 1 for the second", by the first broken rule of each, 0 for none
unfoldable pub join : ℕ → ℕ → Lengths → Plain → Plain → MapRooms → Joining
join first second l p q rooms = joins (judged first (judged second (join_answer l (sizes p) (sizes q) rooms))) p q

-- "into a third lent memory as a compact store"
abbrev pub joined_state : Plain → Plain → State
joined_state p q = record { lists = joined_plain p q; compact = true }
