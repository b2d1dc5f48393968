-- What rule 1 establishes, the first broken rule in parts, what each rule takes from the rules before it, and rule 7 by the words of each direction.
use Rattle.std.specs.Prelude.{ℕ, ◌*◌, ◌^◌, ◌≤◌, ◌<◌, ◌≡◌, Bool, true, false, ◌&&◌, ◌||◌, not, List, length, get_or, eqb, ltb}
use Rattle.plain.specs.Library.{sym, ap, ap₂, ◌∙◌, arith, ltb-true}
use Rattle.plain.specs.declared.Slots.{Slots}
use Rattle.plain.specs.declared.TraversalDirection.{TraversalDirection}
use Rattle.plain.specs.declared.TraversalDirection.TheVariants.{Outgoing, Incoming}
use Rattle.plain.specs.Lists.{member, distinct, all, from}
use Rattle.plain.specs.Plain.{Plain, node_bound, edge_bound, node_flags, edge_flags, list_of, end_of}
use Rattle.shape.specs.Columns.{end_at}
use Rattle.shape.specs.Shape.{Words, node_capacity, edge_capacity, node_live, edge_live, axis_words, shape_of, plain_of}
use Rattle.plain.proofs.Laws.Booleans.{and_left, and_right}
use Rattle.shape.specs.Rules.{both_axes, ends_right, weights_right, index_right, ring_right, walks_right, rule_1, rule_3, rule_4, rule_5, rule_6, broken}
use Rattle.shape.proofs.Laws.Checking.{all_below, ring_sound, ring_own, index_sound}
use Rattle.shape.specs.Laws.Judging.{Structured, SlotsRight}
use Rattle.shape.proofs.Laws.Judging.{unbroken_checked, sizes_sound, nodes_live_sound, edges_live_sound, axis_sound}
use Rattle.shape.proofs.Laws.Reading.{plain_node_bound, plain_edge_bound, plain_node_flags, plain_edge_flags, plain_end}
use Rattle.adjacency.specs.Walk.{Walkable}
use Rattle.adjacency.specs.Laws.Walk.{walk_below}
use Rattle.adjacency.specs.Laws.StoreWalks.{list_is_walk}
use Rattle.validate_words.specs.Laws.Passing.{entries_agree, slots_agree}
use Rattle.validate_words.specs.Sizes.{AxisSized}
use Rattle.validate.specs.Rules.{Threaded}
use Rattle.validate.specs.Judging.{Judged}
use Rattle.validate_lists.specs.Runs.{RunsReadable}
use Rattle.validate.specs.Flat.{ListsReadable}
use Rattle.validate_lists.specs.Walks.{WalksReadable, node_walk, walk_test, listed_test, walks_test}

-- ---- rule 1

-- the live bits of every slot below the bound are there
pub live_there : {capacity words : ℕ} {s : Slots} → SlotsRight capacity words s → s.bound ≤ 64 * words
live_there {capacity} {words} {s} h = let l = h.long in let b = h.bounded.bound_within in omega arith

pub axis_sized : (w : Words) → rule_1 w ≡ true → (d : TraversalDirection) → AxisSized (axis_words d w) (edge_capacity w) (node_capacity w) w.counts
axis_sized w h d = let s = sizes_sound w h in record { sized = s.sized d; nodes = s.nodes.bounded; edges = s.edges.bounded }

-- the weights of every slot below the bound are there
pub weights_there : (w : Words) → rule_1 w ≡ true → (w.counts.edges.bound ≤ length w.lows) × (w.counts.edges.bound ≤ length w.highs)
weights_there w h =
    let s = sizes_sound w h in
    let within = s.edges.bounded.bound_within in
    (within, omega (arith, s.highs_long))

-- ---- the rules in their order

-- rules 1 to 6 hold
pub structured : {w : Words} → Threaded w → rule_6 w ≡ true → Structured w
structured t h = record { r1 = t.r1; r2 = t.r2; r3 = t.r3; r4 = t.r4; r5 = t.r5; r6 = h }

-- a slice's payload words are words of 32 bits, so words of which no rule is broken are a checked store
pub judges : {w : Words} {rule : ℕ} → rule ≡ broken w → ((x : ℕ) → get_or w.nodes x 0 < 2 ^ 32) → ((e : ℕ) → get_or w.highs e 0 < 2 ^ 32) → Judged w rule
judges {w} first nodes highs = record { first = first; checked = λ h. unbroken_checked w (record { nodes = nodes; highs = highs }) (sym first ∙ h) }

-- ---- rule 7

-- Rule 7 of plain lists by what they are read from: the walks, the ends and the flags.
walks_read : (p : Plain) (d : TraversalDirection) (walk : ℕ → List ℕ) (ends : ℕ → ℕ) (nodes edges : List Bool) (nb eb : ℕ)
    → node_bound p ≡ nb → edge_bound p ≡ eb → node_flags p ≡ nodes → edge_flags p ≡ edges
    → ((x : ℕ) → x < nb → list_of d p x ≡ walk x) → ((e : ℕ) → e < eb → end_of d p e ≡ ends e)
    → ((x e : ℕ) → x < nb → member e (walk x) ≡ true → e < eb) → ((e : ℕ) → e < eb → ends e < nb)
    → walks_right p d
    ≡ (all (λ x. distinct (walk x) && all (λ e. eqb (ends e) x) (walk x)) (from 0 nb)
    && all (λ e. not (get_or edges e false) || (member e (walk (ends e)) && get_or nodes (ends e) false)) (from 0 eb))
unfolding walks_right
walks_read p d walk ends nodes edges nb eb node-size edge-size node_live edge_live lists ends_are below low =
    ap₂ ◌&&◌
    (ap (λ (n : ℕ). all of_node (from 0 n)) node-size ∙ slots_agree of_node (λ x. distinct (walk x) && all (λ e. eqb (ends e) x) (walk x)) nb node_agrees)
    (ap (λ (n : ℕ). all of_edge (from 0 n)) edge-size
    ∙ slots_agree of_edge (λ e. not (get_or edges e false) || (member e (walk (ends e)) && get_or nodes (ends e) false)) eb
    (λ e l. rw (node_live, edge_live, ends_are e l, lists (ends e) (low e l))))
  where
    of_node : ℕ → Bool
    of_node x = distinct (list_of d p x) && all (λ e. eqb (end_of d p e) x) (list_of d p x)

    of_edge : ℕ → Bool
    of_edge e = not (get_or (edge_flags p) e false) || (member e (list_of d p (end_of d p e)) && get_or (node_flags p) (end_of d p e) false)

    node_agrees : (x : ℕ) → x < nb → of_node x ≡ (distinct (walk x) && all (λ e. eqb (ends e) x) (walk x))
    node_agrees x l =
        rw (lists x l)
        (ap (λ (b : Bool). distinct (walk x) && b)
        (entries_agree (λ e. eqb (end_of d p e) x) (λ e. eqb (ends e) x) (walk x) (λ e m. ap (λ (y : ℕ). eqb y x) (ends_are e (below x e l m)))))

-- a test of both directions, in one of them
axis_passes : (test : List ℕ → Bool) (w : Words) → both_axes test w ≡ true → (d : TraversalDirection) → test (axis_words d w) ≡ true
axis_passes test w h Outgoing = and_left (test w.outgoing) (test w.incoming) h
axis_passes test w h Incoming = and_right (test w.outgoing) (test w.incoming) h

module _ (w : Words) (d : TraversalDirection) where
  abbrev ws : List ℕ
  ws = axis_words d w

  abbrev ce : ℕ
  ce = edge_capacity w

  abbrev cn : ℕ
  cn = node_capacity w

  -- rule 6 can be tested after rule 1
  pub runs_readable : rule_1 w ≡ true → RunsReadable ws ce cn w.counts w.live_nodes w.live_edges
  runs_readable h =
      let s = sizes_sound w h in
      record { axis = axis_sized w h d; nodes_long = live_there s.nodes; edges_long = live_there s.edges }

  -- the lists can be looked at after rule 5
  pub lists_readable : Threaded w → ListsReadable ws ce cn w.counts w.live_nodes w.live_edges
  unfolding rule_3 rule_4 rule_5
  lists_readable t =
      let s = sizes_sound w t.r1 in
      let nb = w.counts.nodes.bound in
      let be = w.counts.edges.base in
      let eb = w.counts.edges.bound in
      let ring = all_below (ring_right ce be eb ws) nb (axis_passes (λ a. all (ring_right ce be eb a) (from 0 nb)) w t.r5 d) in
      let three = axis_passes (ends_right w.counts) w (and_left (both_axes (ends_right w.counts) w) (weights_right eb w.lows w.highs) t.r3) d in
      record {
        axis = axis_sized w t.r1 d;
        index = index_sound ce cn w.counts.nodes.base be ws (axis_passes (index_right ce cn w.counts.nodes.base be) w t.r4 d);
        rings = record { ring = λ x l. ring_sound ce be eb ws x (ring x l); own = λ x e l. ring_own ce be eb ws x (ring x l) e };
        ends_below = λ e l. ltb-true (end_at ws e) nb (all_below (λ e. ltb (end_at ws e) nb) eb three e l);
        nodes_long = live_there s.nodes;
        edges_long = live_there s.edges;
        live = nodes_live_sound w t.r2;
      }

  module _ (t : Structured w) where
    -- every node can be walked after rule 6
    walkable : (x : ℕ) → x < w.counts.nodes.bound → Walkable ws ce cn w.counts w.live_edges x
    walkable x l =
        let s = sizes_sound w t.r1 in
        let a = axis_sound w t d in
        record {
          readable = record { sized = a.sized; nodes = s.nodes.bounded; edges = s.edges.bounded; index = a.index; rings = a.rings; runs = a.runs; node = l };
          live_long = live_there s.edges;
          live_right = edges_live_sound w t.r2;
        }

    -- rule 7 can be tested
    pub walks_readable : WalksReadable ws ce cn w.counts w.live_nodes w.live_edges
    walks_readable =
        let s = sizes_sound w t.r1 in
        let few = s.edges.within in
        let within = s.edges.bounded.bound_within in
        record {
          edges_few = omega arith;
          nodes_long = live_there s.nodes;
          edges_long = live_there s.edges;
          walkable = walkable;
          ends_below = (axis_sound w t d).ends_below;
        }

    -- rule 7 of the plain lists is the test of the words
    pub walks_rule : walks_test ws ce cn w.counts w.live_nodes w.live_edges ≡ walks_right (plain_of (shape_of w)) d
    unfolding walks_test walk_test listed_test node_walk
    walks_rule =
        sym (walks_read (plain_of (shape_of w)) d (node_walk ws ce cn w.counts w.live_nodes w.live_edges) (end_at ws) (node_live w) (edge_live w)
        w.counts.nodes.bound w.counts.edges.bound (plain_node_bound w) (plain_edge_bound w) (plain_node_flags w) (plain_edge_flags w) (list_is_walk w d) (plain_end w d)
        (λ x e l m. walk_below (walkable x l) (get_or (node_live w) x false) e m) (axis_sound w t d).ends_below)
