-- A store after a node was removed: its slot is dead, the edges of both its walks are dead, and no list is edited.
use Rattle.std.specs.Prelude.{ℕ, ◌+◌, ◌≤◌, ◌<◌, ◌≡◌, refl, Bool, true, false, ◌⊎◌, List, ◌++◌, map, length, get_or, set, eqb}
use Rattle.plain.specs.Library.{sym, ap, subst, ◌∙◌, inl, inr, arith, eqb-true}
use Rattle.plain.specs.declared.TraversalDirection.{TraversalDirection}
use Rattle.plain.specs.declared.TraversalDirection.TheVariants.{Outgoing, Incoming}
use Rattle.plain.specs.declared.Operation.TheVariants.{RemoveNode}
use Rattle.plain.specs.Numbers.{LIMIT}
use Rattle.plain.specs.Lists.{from}
use Rattle.plain.specs.Plain.{NodeSlot, killed_node, no_node, list_of}
use Rattle.plain.proofs.Laws.Booleans.{by_test, true_false}
use Rattle.plain.specs.Laws.Cases.{remove_node}
use Rattle.plain.proofs.Laws.Cases.{comes_to}
use Rattle.plain.proofs.Laws.Deleting.{get_d_set}
use Rattle.plain.proofs.Laws.Rank.{live_below}
use Rattle.liveness.specs.Calls.{Cleared}
use Rattle.liveness.specs.Laws.Flags.{length_flags}
use Rattle.shape.specs.Chains.{In}
use Rattle.shape.specs.Shape.{Words, node_capacity, edge_capacity, node_live, edge_live, node_slot_at, axis_words, axis_of, shape_of, plain_of, lists, store}
use Rattle.shape.specs.Checked.{AxisChecked, Checked}
use Rattle.shape.specs.Kept.{SameLengths, AxisKept, each_length, axis_kept_none}
use Rattle.shape.specs.Steps.{acted, walk_in as walk_of_shape}
use Rattle.shape.proofs.Laws.Refining.{list_is_walk}
use Rattle.shape.proofs.Laws.Keeping.{in_either}
use Rattle.shape.proofs.Laws.Reading.{made_at, node_flags_are}
use Rattle.shape.proofs.Laws.Shapes.{shape_ext}
use Rattle.adjacency.specs.Walk.{walk_in}
use Rattle.adjacency.specs.Clear.{Retired, Clearable}
use Rattle.adjacency.specs.Laws.StoreClears.{checked_clearable, retired_slots, retired_within, retired_checked, node_retired, node_dead}
use Rattle.store.proofs.Keeping.{cleared_word, cleared_other, retired_word}
use Rattle.store.proofs.Made.{slots_set}
use Rattle.store.specs.Operations.{Acted, RemovedNode, fewer}
use Rattle.store.proofs.Acting.{acted_walks, live_within, some_live, cleared_checked}

-- a node slot by its payload and its flag
abbrev node_slot : ℕ → Bool → NodeSlot
node_slot v b = record { payload = v; live = b }

module _ {w : Words} (checked : Checked w) (node : ℕ) (live : get_or (node_live w) node false ≡ true) where
  node_below : node < w.counts.nodes.bound
  node_below = rw (← length_flags w.live_nodes w.counts.nodes.bound) (live_below (node_live w) node live)

  -- the edges of both walks
  abbrev incident : List ℕ
  incident = walk_of_shape Outgoing (shape_of w) node ++ walk_of_shape Incoming (shape_of w) node

  -- the store without it, from what was written
  module _
      {nodes-after edges-after : List ℕ}
      {answer : Bool}
      {n : ℕ}
      (cleared : Cleared w.live_nodes w.counts.nodes.bound node answer nodes-after)
      (long : length nodes-after ≡ length w.live_nodes)
      (gone : Retired w.counts.edges.bound incident w.live_edges edges-after n)
    where
      abbrev without_node : Words
      without_node =
          store (record { nodes = fewer 1 w.counts.nodes; edges = fewer n w.counts.edges }) w.nodes w.lows w.highs nodes-after edges-after w.outgoing w.incoming

      clear_lengths : SameLengths w without_node
      clear_lengths = each_length refl refl refl long gone.long refl refl

      -- another node that is dead now was dead
      was_dead : (x : ℕ) → eqb x node ≡ false → get_or (node_live without_node) x false ≡ false → get_or (node_live w) x false ≡ false
      was_dead x other dead =
          sym (ap (λ (f : List Bool). get_or f x false) cleared.flags ∙ get_d_set (node_live w) node x false false (live_below (node_live w) node live) ∙ rw other) ∙ dead

      -- a direction passes the check without it: a live edge of the node's run went with it
      clear_direction : (d : TraversalDirection)
          → AxisChecked (axis_words d w) (edge_capacity w) (node_capacity w) without_node.counts (node_live without_node) (edge_live without_node)
      clear_direction d =
          let old = checked.axis d in
          record {
            sized = old.sized;
            ends_below = old.ends_below;
            index = old.index;
            rings = old.rings;
            runs = old.runs;
            removed_runs = λ x e l dead m. by_test (eqb x node)
                (λ t. node_dead w node node_below live gone d e (rw (eqb-true x node t) at m))
                (λ t. gone.flags e ∙ rw (old.removed_runs x e l (was_dead x t dead) m));
          }

      clear_shape : shape_of without_node ≡ acted (RemoveNode node) (shape_of w)
      unfolding shape_of acted axis_of
      clear_shape =
          let slots = from 0 w.counts.nodes.bound in
          let old = node_slot_at w in
          let payload : ℕ → ℕ = λ x. get_or w.nodes x 0 in
          shape_ext
          (rw cleared.flags
          (slots_set node_slot payload payload (node_live w) w.counts.nodes.bound (length_flags w.live_nodes w.counts.nodes.bound)
          node (payload node) false node_below refl (λ y ne. refl)
          ∙ ap (λ (s : NodeSlot). set (map old slots) node (killed_node s)) (sym (made_at old w.counts.nodes.bound node no_node node_below))))
          (retired_slots w without_node refl refl refl gone) refl refl refl refl

      -- the node was removed
      pub cleared_acted : Acted (RemoveNode node) w without_node
      unfolding plain_of
      cleared_acted = record {
        shape = clear_shape;
        checked = record {
          nodes = cleared_checked checked.nodes node live cleared long;
          edges = retired_checked checked.edges gone;
          highs_long = checked.highs_long;
          axis = directions;
          walks = acted_walks checked (RemoveNode node) (comes_to (remove_node (rw (node_flags_are w) live))) refl without_node tt clear_lengths clear_shape;
        };
        lengths = clear_lengths;
        kept = record {
          nodes_grow = omega arith;
          edges_grow = omega arith;
          nodes = record { payloads = λ i h. refl; live = cleared_word cleared node_below };
          edges = record { payloads = λ i h. refl; live = retired_word gone };
          highs = λ i h. refl;
          axis = kept;
        };
        live_only = tt;
        writes = record {
          nodes = λ x off. refl;
          lows = λ e off. refl;
          highs = λ e off. refl;
          live_nodes = cleared_other cleared;
          live_edges = λ i off. gone.others i (λ e m alive q. off (e, walked e m, q));
          axis = written;
        };
      }
        where
          -- an edge of both walks is of one of them
          walked : (e : ℕ) → In e incident → In e (list_of Outgoing (lists w) node) ⊎ In e (list_of Incoming (lists w) node)
          walked e m =
              in_either e (walk_of_shape Outgoing (shape_of w) node) (walk_of_shape Incoming (shape_of w) node) m
              (λ k. inl (subst (λ (l : List ℕ). In e l) (sym (list_is_walk (shape_of w) Outgoing node)) k))
              (λ k. inr (subst (λ (l : List ℕ). In e l) (sym (list_is_walk (shape_of w) Incoming node)) k))

          written : (d : TraversalDirection) (i : ℕ) → (⊥ → ⊥) → get_or (axis_words d without_node) i 0 ≡ get_or (axis_words d w) i 0
          written Outgoing i off = refl
          written Incoming i off = refl

          kept : (d : TraversalDirection)
              → AxisKept (axis_words d w) (axis_words d without_node) (edge_capacity w) (node_capacity w) w.counts.nodes.bound w.counts.nodes.bound w.counts.edges.bound
          kept Outgoing = axis_kept_none w.outgoing (edge_capacity w) (node_capacity w) w.counts.nodes.bound w.counts.edges.bound
          kept Incoming = axis_kept_none w.incoming (edge_capacity w) (node_capacity w) w.counts.nodes.bound w.counts.edges.bound

          directions : (d : TraversalDirection)
              → AxisChecked (axis_words d without_node) (edge_capacity w) (node_capacity w) without_node.counts (node_live without_node) (edge_live without_node)
          directions Outgoing = clear_direction Outgoing
          directions Incoming = clear_direction Incoming

-- what was found and cleared, in the order of the program
module _
    {w : Words}
    (checked : Checked w)
    (node : ℕ)
    {nodes-after : List ℕ}
    {answer : Bool}
    (cleared : Cleared w.live_nodes w.counts.nodes.bound node answer nodes-after)
  where
    -- nothing live was there
    pub clearing_none : answer ≡ false
        → RemovedNode node w false (store w.counts w.nodes w.lows w.highs nodes-after w.live_edges w.outgoing w.incoming)
    clearing_none none = record {
      answers = sym none ∙ cleared.answers;
      acts = λ q. true_false q refl;
      keeps = λ _. ap (λ (l : List ℕ). store w.counts w.nodes w.lows w.highs l w.live_edges w.outgoing w.incoming) (cleared.keeps none);
    }

    module _ (found : answer ≡ true) where
      pub was_live : get_or (node_live w) node false ≡ true
      was_live = sym cleared.answers ∙ found

      -- so a live node can be counted off
      pub node_counted : 0 < w.counts.nodes.live
      node_counted = some_live checked.nodes node was_live

      -- and its walks can be cleared, the second after the first
      pub node_clearable : (d : TraversalDirection) {live_edges : List ℕ} → length live_edges ≡ length w.live_edges
          → Clearable (axis_words d w) (edge_capacity w) (node_capacity w) w.counts live_edges node
      node_clearable d long = checked_clearable checked d node (node_below checked node was_live) long

      module _
          {mid edges-after : List ℕ}
          {n m : ℕ}
          (first : Retired w.counts.edges.bound (walk_in w.outgoing (edge_capacity w) (node_capacity w) w.counts w.live_edges node true) w.live_edges mid n)
          (second : Retired w.counts.edges.bound (walk_in w.incoming (edge_capacity w) (node_capacity w) w.counts mid node true) mid edges-after m)
        where
          pub both_gone : Retired w.counts.edges.bound (incident checked node was_live) w.live_edges edges-after (n + m)
          both_gone = node_retired w node (node_below checked node was_live) {mid = mid} {after = edges-after} {n = n} {m = m} (rw was_live first) (rw was_live second)

          -- as many live edges are counted
          pub edges_counted : n + m ≤ w.counts.edges.live
          edges_counted = retired_within checked.edges both_gone

          -- which is a small number
          pub edges_few : n + m ≤ LIMIT
          edges_few =
              omega (arith, edges_counted, live_within checked.edges, checked.edges.bounded.bound_within, (checked.axis Outgoing).sized.edges_within)

          pub clearing_live : (long : length nodes-after ≡ length w.live_nodes)
              → RemovedNode node w true (without_node checked node was_live cleared long both_gone)
          clearing_live long = record {
            answers = sym found ∙ cleared.answers;
            acts = λ _. cleared_acted checked node was_live cleared long both_gone;
            keeps = λ q. true_false refl q;
          }
