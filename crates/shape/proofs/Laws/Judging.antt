-- `broken` is 0 exactly where the words are a checked store, both ways.
use Rattle.std.specs.Prelude.{ℕ, suc, ◌+◌, ◌*◌, ◌≤◌, ◌<◌, ◌^◌, ◌≡◌, refl, Bool, true, false, cond, ◌&&◌, not, List, [], length, get_or, eqb, leb, ltb}
use Rattle.plain.specs.Library.{sym, ap, ◌∙◌, subst, ⊎_elim, length-map, get_or-eq_default, arith, eq-eqb, eqb-true, leb-true, le-leb, ltb-true, lt-ltb}
use Rattle.std.proofs.Common.{lit<}
use Rattle.plain.specs.declared.TraversalDirection.{TraversalDirection}
use Rattle.plain.specs.declared.TraversalDirection.TheVariants.{Outgoing, Incoming}
use Rattle.plain.specs.declared.EdgePayload.{EdgePayload}
use Rattle.plain.specs.declared.Slots.{Slots}
use Rattle.plain.specs.Numbers.{LIMIT}
use Rattle.plain.specs.Lists.{member, keep, all, from}
use Rattle.plain.specs.Plain.{NodeSlot, EdgeSlot, no_node, no_edge, incidence}
use Rattle.plain.specs.Reads.{live_count}
use Rattle.plain.specs.Memory.{live_words}
use Rattle.plain.specs.WellFormed.{Weighed}
use Rattle.plain.proofs.Laws.Booleans.{below_or_not, and_left, and_right, both_true, true_false}
use Rattle.plain.proofs.Laws.Operating.{no_payload_weighed}
use Rattle.plain.proofs.Laws.ListLaws.{member_keep, get_or_map_each}
use Rattle.liveness.specs.Flags.{live_flags, packed}
use Rattle.shape.specs.Columns.{end_at}
use Rattle.shape.specs.Chains.{In}
use Rattle.shape.specs.Shape.{Words, Axis, node_capacity, edge_capacity, node_live, edge_live, node_slot_at, edge_payload_at, axis_words, raw, live_in, adjacency_of, node_flags_of, edge_flags_of, shape_of, plain_of}
use Rattle.shape.specs.Checked.{LiveRight, SlotsChecked, AxisChecked, Checked}
use Rattle.shape.specs.Rules.{both_axes, slots_right, rule_1, live_agrees, rule_2, ends_right, weights_right, rule_3, index_right, rule_4, ring_right, rule_5, runs_right, rule_6, walks_right, rule_7, broken}
use Rattle.shape.proofs.Laws.Refining.{lists_length, list_is_walk}
use Rattle.shape.specs.Laws.Checking.{Framed}
use Rattle.shape.proofs.Laws.Checking.{all_below, below_all, ring_sound, ring_own, ring_complete, index_sound, index_complete, runs_sound, dead_runs_sound, runs_complete, walks_live, walks_sound, walks_complete}
use Rattle.shape.proofs.Laws.Reading.{edge_at, plain_ends, plain_end, node_bound_is, edge_bound_is, axis_is, axis_ends, axis_nodes}
use Rattle.shape.specs.Laws.Judging.{Passes, Payloads, SizesRight, SlotsRight, Structured}

-- one of both directions
axis_passes : (test : List ℕ → Bool) (w : Words) → both_axes test w ≡ true → (d : TraversalDirection) → test (axis_words d w) ≡ true
axis_passes test w h Outgoing = and_left (test w.outgoing) (test w.incoming) h
axis_passes test w h Incoming = and_right (test w.outgoing) (test w.incoming) h

axes_pass : (test : List ℕ → Bool) (w : Words) → ((d : TraversalDirection) → test (axis_words d w) ≡ true) → both_axes test w ≡ true
axes_pass test w h = both_true (h Outgoing) (h Incoming)

-- ---- one kind of slot

pub slots_sound : (capacity live-length : ℕ) (s : Slots) → slots_right capacity live-length s ≡ true → SlotsRight capacity live-length s
slots_sound capacity live-length s h =
    let a = leb capacity LIMIT in
    let b = leb s.bound capacity in
    let c = leb s.base s.bound in
    let e = leb (live_words capacity) live-length in
    let rest = and_right a (b && (c && e)) h in
    let last = and_right b (c && e) rest in
    record {
      within = leb-true capacity LIMIT (and_left a (b && (c && e)) h);
      bounded = record {
        bound_within = leb-true s.bound capacity (and_left b (c && e) rest);
        base_within = leb-true s.base s.bound (and_left c e last);
      };
      long = leb-true (live_words capacity) live-length (and_right c e last);
    }

pub live_sound : (words : List ℕ) (s : Slots) → live_agrees words s ≡ true → LiveRight words s
live_sound words s h =
    let live = live_count (live_flags words s.bound) in
    record {
      unused_clear = and_left (packed words s.bound) (eqb s.live live) h;
      live_right = eqb-true s.live live (and_right (packed words s.bound) (eqb s.live live) h);
    }

-- ---- what the plain lists of any words have

-- an entry of a walk is live
walk_live : (flags : List Bool) (live : Bool) (l : List ℕ) (e : ℕ) → In e (cond live (keep (live_in flags) l) []) → get_or flags e false ≡ true
unfolding member
walk_live flags true l e m = and_right (member e l) (live_in flags e) (sym (member_keep (live_in flags) e l) ∙ m)
walk_live flags false l e m = true_false refl (sym m)

module _ (w : Words) where
  plain_lists_length : (d : TraversalDirection) → length (incidence d (plain_of (shape_of w))).lists ≡ length (shape_of w).nodes
  unfolding plain_of
  plain_lists_length Outgoing =
      lists_length (edge_flags_of (shape_of w)) (node_flags_of (shape_of w)) (shape_of w).outgoing ∙ ap (λ (a : Axis). length a.nodes) (axis_is w Outgoing)
      ∙ axis_nodes w.outgoing (edge_capacity w) (node_capacity w) w.counts ∙ sym (node_bound_is w)
  plain_lists_length Incoming =
      lists_length (edge_flags_of (shape_of w)) (node_flags_of (shape_of w)) (shape_of w).incoming ∙ ap (λ (a : Axis). length a.nodes) (axis_is w Incoming)
      ∙ axis_nodes w.incoming (edge_capacity w) (node_capacity w) w.counts ∙ sym (node_bound_is w)

-- ---- from the tests to the store

module _ (w : Words) where
  pub sizes_sound : rule_1 w ≡ true → SizesRight w
  unfolding rule_1
  sizes_sound h =
      let ce = edge_capacity w in
      let cn = node_capacity w in
      let long : List ℕ → Bool = λ ws. leb (4 * ce + 6 * cn + 1) (length ws) in
      let a = slots_right cn (length w.live_nodes) w.counts.nodes in
      let b = slots_right ce (length w.live_edges) w.counts.edges in
      let c = leb ce (length w.highs) in
      let rest = and_right a (b && (c && both_axes long w)) h in
      let last = and_right b (c && both_axes long w) rest in
      let n = slots_sound cn (length w.live_nodes) w.counts.nodes (and_left a (b && (c && both_axes long w)) h) in
      let e = slots_sound ce (length w.live_edges) w.counts.edges (and_left b (c && both_axes long w) rest) in
      record {
        nodes = n;
        edges = e;
        highs_long = leb-true ce (length w.highs) (and_left c (both_axes long w) last);
        sized = λ d. record {
          edges_within = e.within;
          nodes_within = n.within;
          room = leb-true (4 * ce + 6 * cn + 1) (length (axis_words d w)) (axis_passes long w (and_right c (both_axes long w) last) d);
        };
      }

  -- what rule 2 says of the nodes and of the edges
  pub nodes_live_sound : rule_2 w ≡ true → LiveRight w.live_nodes w.counts.nodes
  unfolding rule_2
  nodes_live_sound h =
      live_sound w.live_nodes w.counts.nodes (and_left (live_agrees w.live_nodes w.counts.nodes) (live_agrees w.live_edges w.counts.edges) h)

  pub edges_live_sound : rule_2 w ≡ true → LiveRight w.live_edges w.counts.edges
  unfolding rule_2
  edges_live_sound h =
      live_sound w.live_edges w.counts.edges (and_right (live_agrees w.live_nodes w.counts.nodes) (live_agrees w.live_edges w.counts.edges) h)

module _ (w : Words) (p : Structured w) where
  sizes : SizesRight w
  sizes = sizes_sound w p.r1

  ends_low : (d : TraversalDirection) (e : ℕ) → e < w.counts.edges.bound → end_at (axis_words d w) e < w.counts.nodes.bound
  unfolding rule_3
  ends_low d e l =
      ltb-true (end_at (axis_words d w) e) w.counts.nodes.bound
      (all_below (λ e. ltb (end_at (axis_words d w) e) w.counts.nodes.bound) w.counts.edges.bound
      (axis_passes (ends_right w.counts) w
      (and_left (both_axes (ends_right w.counts) w) (weights_right w.counts.edges.bound w.lows w.highs) p.r3) d) e l)

  in_order : (e : ℕ) → e < w.counts.edges.bound → get_or w.lows e 0 ≤ get_or w.highs e 0
  unfolding rule_3 weights_right
  in_order e l =
      leb-true (get_or w.lows e 0) (get_or w.highs e 0)
      (all_below (λ e. leb (get_or w.lows e 0) (get_or w.highs e 0)) w.counts.edges.bound
      (and_right (both_axes (ends_right w.counts) w) (weights_right w.counts.edges.bound w.lows w.highs) p.r3) e l)

  rings_right : (d : TraversalDirection) (x : ℕ) → x < w.counts.nodes.bound
      → ring_right (edge_capacity w) w.counts.edges.base w.counts.edges.bound (axis_words d w) x ≡ true
  unfolding rule_5
  rings_right d =
      let test : List ℕ → ℕ → Bool = ring_right (edge_capacity w) w.counts.edges.base w.counts.edges.bound in
      all_below (test (axis_words d w)) w.counts.nodes.bound (axis_passes (λ ws. all (test ws) (from 0 w.counts.nodes.bound)) w p.r5 d)

  -- rules 3 to 6 of one direction
  pub axis_sound : (d : TraversalDirection) → AxisChecked (axis_words d w) (edge_capacity w) (node_capacity w) w.counts (node_live w) (edge_live w)
  unfolding rule_4 rule_6
  axis_sound d =
      let ce = edge_capacity w in
      let cn = node_capacity w in
      let be = w.counts.edges.base in
      let eb = w.counts.edges.bound in
      let six = axis_passes (runs_right ce cn w.counts (node_live w) (edge_live w)) w p.r6 d in
      record {
        sized = sizes.sized d;
        ends_below = ends_low d;
        index = index_sound ce cn w.counts.nodes.base be (axis_words d w) (axis_passes (index_right ce cn w.counts.nodes.base be) w p.r4 d);
        rings = record {
          ring = λ x l. ring_sound ce be eb (axis_words d w) x (rings_right d x l);
          own = λ x e l. ring_own ce be eb (axis_words d w) x (rings_right d x l) e;
        };
        runs = runs_sound (axis_words d w) ce cn w.counts (node_live w) (edge_live w) six;
        removed_runs = dead_runs_sound (axis_words d w) ce cn w.counts (node_live w) (edge_live w) six;
      }

  -- the plain lists of the shape have the lengths, ends and live entries that rule 7 takes for granted
  framed : (d : TraversalDirection) → Framed (plain_of (shape_of w)) d
  unfolding plain_of
  framed d =
      let ce = edge_capacity w in
      let cn = node_capacity w in
      let flags = length-map (shape_of w).edges (λ (e : EdgeSlot). e.live) in
      record {
        ends_length = ap length (plain_ends w d) ∙ axis_ends (axis_words d w) ce cn w.counts ∙ sym (flags ∙ edge_bound_is w);
        lists_length = plain_lists_length w d;
        ends_below = λ e l. let low : e < w.counts.edges.bound = omega (arith, flags, edge_bound_is w) in rw (plain_end w d e low, node_bound_is w) (ends_low d e low);
        entries_live = λ x e m. walk_live (edge_flags_of (shape_of w)) (get_or (node_flags_of (shape_of w)) x false) (raw (adjacency_of d (shape_of w) x)) e
            (ap (member e) (sym (list_is_walk (shape_of w) d x)) ∙ m);
      }

  -- the payload of every edge slot, removed or not
  weighed : ((e : ℕ) → get_or w.highs e 0 < 2 ^ 32) → (e : ℕ) → Weighed (get_or (shape_of w).edges e no_edge).payload
  weighed fit e =
      ⊎_elim (λ l. rw (edge_at w e l) (record { in_order = in_order e l; fits = fit e }))
      (λ l. let past : get_or (shape_of w).edges e no_edge ≡ no_edge = get_or-eq_default (shape_of w).edges no_edge (rw (edge_bound_is w) l) in
      rw past no_payload_weighed)
      (below_or_not e w.counts.edges.bound)

module _ (w : Words) (p : Passes w) where
  walks_of : (d : TraversalDirection) → walks_right (plain_of (shape_of w)) d ≡ true
  unfolding rule_7
  walks_of Outgoing = and_left (walks_right (plain_of (shape_of w)) Outgoing) (walks_right (plain_of (shape_of w)) Incoming) p.r7
  walks_of Incoming = and_right (walks_right (plain_of (shape_of w)) Outgoing) (walks_right (plain_of (shape_of w)) Incoming) p.r7

  -- words that pass every rule, with payloads of 32 bits, are a checked store
  pub passes_checked : Payloads w → Checked w
  unfolding plain_of shape_of
  passes_checked pay =
      let t = p.structured in
      let sizes = sizes_sound w t.r1 in
      record {
        nodes = record { bounded = sizes.nodes.bounded; live_long = sizes.nodes.long; live = nodes_live_sound w t.r2 };
        edges = record { bounded = sizes.edges.bounded; live_long = sizes.edges.long; live = edges_live_sound w t.r2 };
        highs_long = sizes.highs_long;
        axis = axis_sound w t;
        walks = record {
          nodes_within = rw (node_bound_is w) sizes.nodes.bounded.bound_within;
          edges_within = rw (edge_bound_is w) sizes.edges.bounded.bound_within;
          outgoing = walks_sound (plain_of (shape_of w)) Outgoing (walks_of Outgoing) (framed w t Outgoing);
          incoming = walks_sound (plain_of (shape_of w)) Incoming (walks_of Incoming) (framed w t Incoming);
          ends_live = λ d. walks_live (plain_of (shape_of w)) d (walks_of d);
          node_payloads = get_or_map_each (λ (n : NodeSlot). n.payload < 2 ^ 32) (node_slot_at w) (from 0 w.counts.nodes.bound) no_node (lit< tt) pay.nodes;
          edge_payloads = weighed w t pay.highs;
        };
      }

-- ---- from the store to the tests

module _ (capacity : ℕ) (words : List ℕ) (s : Slots) (c : SlotsChecked capacity words s) where
  slots_complete : capacity ≤ LIMIT → slots_right capacity (length words) s ≡ true
  slots_complete few =
      let b = c.bounded in
      both_true (le-leb capacity LIMIT few)
      (both_true (le-leb s.bound capacity b.bound_within)
      (both_true (le-leb s.base s.bound b.base_within) (le-leb (live_words capacity) (length words) c.live_long)))

  live_complete : live_agrees words s ≡ true
  live_complete = both_true c.live.unused_clear (eq-eqb s.live (live_count (live_flags words s.bound)) c.live.live_right)

-- the payload of an edge slot of a checked store, removed or not
pub checked_weighed : (w : Words) → Checked w → (e : ℕ) → e < w.counts.edges.bound → Weighed (edge_payload_at w e)
unfolding plain_of
checked_weighed w c e l = subst (λ (p : EdgePayload). Weighed p) (edge_at w e l) (c.walks.edge_payloads e)

-- a checked store passes every rule
pub checked_passes : (w : Words) → Checked w → Passes w
unfolding rule_1 rule_2 rule_3 weights_right rule_4 rule_5 rule_6 rule_7
checked_passes w c =
    let ce = edge_capacity w in
    let cn = node_capacity w in
    let be = w.counts.edges.base in
    let eb = w.counts.edges.bound in
    let nb = w.counts.nodes.bound in
    let p = plain_of (shape_of w) in
    record {
      structured = record {
        r1 = both_true (slots_complete cn w.live_nodes w.counts.nodes c.nodes (c.axis Outgoing).sized.nodes_within)
            (both_true (slots_complete ce w.live_edges w.counts.edges c.edges (c.axis Outgoing).sized.edges_within)
            (both_true (le-leb ce (length w.highs) c.highs_long)
            (axes_pass (λ ws. leb (4 * ce + 6 * cn + 1) (length ws)) w (λ d. le-leb (4 * ce + 6 * cn + 1) (length (axis_words d w)) (c.axis d).sized.room))));
        r2 = both_true (live_complete cn w.live_nodes w.counts.nodes c.nodes) (live_complete ce w.live_edges w.counts.edges c.edges);
        r3 = both_true
            (axes_pass (ends_right w.counts) w
            (λ d. below_all (λ e. ltb (end_at (axis_words d w) e) nb) eb (λ e l. lt-ltb (end_at (axis_words d w) e) nb ((c.axis d).ends_below e l))))
            (below_all (λ e. leb (get_or w.lows e 0) (get_or w.highs e 0)) eb
            (λ e l. le-leb (get_or w.lows e 0) (get_or w.highs e 0) (checked_weighed w c e l).in_order));
        r4 = axes_pass (index_right ce cn w.counts.nodes.base be) w (λ d. index_complete ce cn w.counts.nodes.base be (axis_words d w) (c.axis d).index);
        r5 = axes_pass (λ ws. all (ring_right ce be eb ws) (from 0 nb)) w
            (λ d. below_all (ring_right ce be eb (axis_words d w)) nb
            (λ x l. ring_complete ce be eb (axis_words d w) x ((c.axis d).rings.ring x l) (λ e m. (c.axis d).rings.own x e l m)));
        r6 = axes_pass (runs_right ce cn w.counts (node_live w) (edge_live w)) w
            (λ d. runs_complete (axis_words d w) ce cn w.counts (node_live w) (edge_live w) (c.axis d).runs (c.axis d).removed_runs);
      };
      r7 = both_true (walks_complete p Outgoing c.walks) (walks_complete p Incoming c.walks);
    }

-- ---- the first broken rule

-- the first rule that fails, by its number
first_rule : (b : Bool) (k : ℕ) (rest : ℕ) → cond (not b) (suc k) rest ≡ 0 → (b ≡ true) × (rest ≡ 0)
first_rule true k rest h = (refl, h)
first_rule false k rest h = absurd (omega arith)

broken_passes : (w : Words) → broken w ≡ 0 → Passes w
unfolding broken
broken_passes w h =
    let a = first_rule (rule_1 w) 0 _ h in
    let b = first_rule (rule_2 w) 1 _ a.1 in
    let c = first_rule (rule_3 w) 2 _ b.1 in
    let d = first_rule (rule_4 w) 3 _ c.1 in
    let e = first_rule (rule_5 w) 4 _ d.1 in
    let f = first_rule (rule_6 w) 5 _ e.1 in
    let g = first_rule (rule_7 w) 6 0 f.1 in
    record { structured = record { r1 = a.0; r2 = b.0; r3 = c.0; r4 = d.0; r5 = e.0; r6 = f.0 }; r7 = g.0 }

-- no rule is broken in a checked store
pub checked_sound : (w : Words) → Checked w → broken w ≡ 0
unfolding broken
checked_sound w c =
    let p = checked_passes w c in
    let t = p.structured in
    rw (t.r1, t.r2, t.r3, t.r4, t.r5, t.r6, p.r7)

-- words of which no rule is broken, with payloads of 32 bits, are a checked store
pub unbroken_checked : (w : Words) → Payloads w → broken w ≡ 0 → Checked w
unbroken_checked w pay h = passes_checked w (broken_passes w h) pay
