-- The rules of the check as tests on counts, lengths and words, and `broken`, the first that fails. Document 01, "Checking a store".
use Rattle.std.specs.Prelude.{ℕ, suc, ◌+◌, ◌*◌, ◌-◌, Bool, false, cond, ◌&&◌, ◌||◌, not, List, [], ◌∷◌, map, length, get_or, eqb, leb, ltb}
use Rattle.plain.specs.declared.TraversalDirection.{TraversalDirection}
use Rattle.plain.specs.declared.TraversalDirection.TheVariants.{Outgoing, Incoming}
use Rattle.plain.specs.declared.Slots.{Slots}
use Rattle.plain.specs.declared.Counts.{Counts}
use Rattle.plain.specs.Numbers.{NONE, LIMIT}
use Rattle.plain.specs.Lists.{member, distinct, all, from, joined}
use Rattle.plain.specs.Plain.{Plain, edge_bound, node_bound, node_flags, edge_flags, list_of, end_of}
use Rattle.plain.specs.Reads.{live_count}
use Rattle.plain.specs.Memory.{live_words}
use Rattle.liveness.specs.Flags.{live_flags, packed}
use Rattle.shape.specs.Columns.{cell, end_at, adjacency_at, last_at, tail_at, offset_at}
use Rattle.shape.specs.Chains.{until}
use Rattle.shape.specs.Shape.{Words, node_capacity, edge_capacity, node_live, edge_live, run_list, shape_of, plain_of}

-- both directions pass a test of an axis
abbrev pub both_axes : (List ℕ → Bool) → Words → Bool
both_axes test w = test w.outgoing && test w.incoming

-- "(1) capacities at most 32,768, bounds within them, base counts within the bounds, every other slice long enough"
abbrev pub slots_right : ℕ → ℕ → Slots → Bool
slots_right capacity live-length s =
    leb capacity LIMIT && (leb s.bound capacity && (leb s.base s.bound && leb (live_words capacity) live-length))

unfoldable pub rule_1 : Words → Bool
rule_1 w =
    slots_right (node_capacity w) (length w.live_nodes) w.counts.nodes && (slots_right (edge_capacity w) (length w.live_edges) w.counts.edges
    && (leb (edge_capacity w) (length w.highs) && both_axes (λ ws. leb (4 * edge_capacity w + 6 * node_capacity w + 1) (length ws)) w))

-- "(2) live bits agree with both counts and the last word's unused bits are 0"
abbrev pub live_agrees : List ℕ → Slots → Bool
live_agrees words s = packed words s.bound && eqb s.live (live_count (live_flags words s.bound))

unfoldable pub rule_2 : Words → Bool
rule_2 w = live_agrees w.live_nodes w.counts.nodes && live_agrees w.live_edges w.counts.edges

-- "(3) ends below the node bound"
abbrev pub ends_right : Counts → List ℕ → Bool
ends_right counts ws = all (λ e. ltb (end_at ws e) counts.nodes.bound) (from 0 counts.edges.bound)

-- and "a low above its high at a slot below the bound, removed or not, breaks rule 3 of the check"
unfoldable pub weights_right : ℕ → List ℕ → List ℕ → Bool
weights_right bound lows highs = all (λ e. leb (get_or lows e 0) (get_or highs e 0)) (from 0 bound)

unfoldable pub rule_3 : Words → Bool
rule_3 w = both_axes (ends_right w.counts) w && weights_right w.counts.edges.bound w.lows w.highs

-- "(4) index as in `check_index`, no index word being read where both base counts are 0"
unfoldable pub index_right : ℕ → ℕ → ℕ → ℕ → List ℕ → Bool
index_right ce cn bn be ws =
    (eqb bn 0 && eqb be 0) || (eqb (offset_at ws ce cn 0) 0 && (all (λ x. leb (offset_at ws ce cn x) (offset_at ws ce cn (suc x))) (from 0 bn)
    && (eqb (offset_at ws ce cn bn) be && all (λ i. ltb (adjacency_at ws ce i) be) (from 0 be))))

unfoldable pub rule_4 : Words → Bool
rule_4 w = both_axes (index_right (edge_capacity w) (node_capacity w) w.counts.nodes.base w.counts.edges.base) w

-- "(5) rings as in `DeltaChains::check`": no ring, or the links from its last edge come back to it, over the node's own edges of the delta
unfoldable pub ring_right : ℕ → ℕ → ℕ → List ℕ → ℕ → Bool
ring_right ce be eb ws x =
    let last = last_at ws ce x in
    let entries = until (cell ws (2 * ce)) last (eb - be) (cell ws (2 * ce) last) in
    eqb last NONE || (all (λ e. leb be e && (ltb e eb && eqb (end_at ws e) x)) entries && member last entries)

unfoldable pub rule_5 : Words → Bool
rule_5 w =
    both_axes (λ ws. all (ring_right (edge_capacity w) w.counts.edges.base w.counts.edges.bound ws) (from 0 w.counts.nodes.bound)) w

-- "(6) run entries below the edge bound, none twice in one direction, lengths true, no live edge in a removed node's run"
unfoldable pub last_of : List ℕ → ℕ → ℕ
last_of [] d = d
last_of (x ∷ l) d = last_of l x

abbrev pub run_right : ℕ → ℕ → ℕ → List ℕ → ℕ → Bool
run_right ce cn eb ws x =
    all (λ e. ltb e eb) (run_list ws ce cn x) && eqb (last_of (run_list ws ce cn x) (tail_at ws ce cn x)) (tail_at ws ce cn x)

unfoldable pub runs_right : ℕ → ℕ → Counts → List Bool → List Bool → List ℕ → Bool
runs_right ce cn counts nodes edges ws =
    let slots = from 0 counts.nodes.bound in
    all (run_right ce cn counts.edges.bound ws) slots && (distinct (joined (map (run_list ws ce cn) slots))
    && all (λ x. get_or nodes x false || all (λ e. not (get_or edges e false)) (run_list ws ce cn x)) slots)

unfoldable pub rule_6 : Words → Bool
rule_6 w = both_axes (runs_right (edge_capacity w) (node_capacity w) w.counts (node_live w) (edge_live w)) w

-- "(7) `check_adjacency`, and in any case each live edge exactly once in its source's out-walk and once in its target's in-walk, both ends live, and no walk listing
-- anything else"
unfoldable pub walks_right : Plain → TraversalDirection → Bool
walks_right p d =
    all (λ x. distinct (list_of d p x) && all (λ e. eqb (end_of d p e) x) (list_of d p x)) (from 0 (node_bound p))
    && all (λ e. not (get_or (edge_flags p) e false) || (member e (list_of d p (end_of d p e)) && get_or (node_flags p) (end_of d p e) false)) (from 0 (edge_bound p))

unfoldable pub rule_7 : Words → Bool
rule_7 w = let p = plain_of (shape_of w) in walks_right p Outgoing && walks_right p Incoming

-- "The first broken rule is the value of answer 1": 0 where the words are a store
unfoldable pub broken : Words → ℕ
broken w =
    cond (not (rule_1 w)) 1
    (cond (not (rule_2 w)) 2
    (cond (not (rule_3 w)) 3 (cond (not (rule_4 w)) 4 (cond (not (rule_5 w)) 5 (cond (not (rule_6 w)) 6 (cond (not (rule_7 w)) 7 0))))))
