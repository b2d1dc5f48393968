-- The edges of a node of a whole store made dead: both walks can be cleared, one after the other, and what that leaves is what the shape's own step leaves of the
-- edge slots.
use Rattle.std.specs.Prelude.{ℕ, ◌+◌, ◌-◌, ◌≤◌, ◌<◌, ◌≡◌, refl, Bool, true, false, ◌&&◌, not, List, [], ◌∷◌, ◌++◌, map, length, get_or, set, eqb}
use Rattle.plain.specs.Library.{sym, ap₂, ◌∙◌, map-map, length-map, ext_get_or, arith}
use Rattle.std.proofs.Math.Seq.{map-set_same}
use Rattle.plain.specs.declared.TraversalDirection.{TraversalDirection}
use Rattle.plain.specs.declared.TraversalDirection.TheVariants.{Outgoing, Incoming}
use Rattle.plain.specs.declared.EdgePayload.{EdgePayload}
use Rattle.plain.specs.declared.Counts.{Counts}
use Rattle.plain.specs.declared.Slots.{Slots}
use Rattle.plain.specs.Lists.{member, from}
use Rattle.plain.specs.Plain.{EdgeSlot, killed_edge, no_edge}
use Rattle.plain.proofs.Laws.Booleans.{by_test, and_true, and_false, or_true}
use Rattle.plain.proofs.Laws.ListLaws.{member_append, member_keep}
use Rattle.plain.proofs.Laws.Deleting.{map_set}
use Rattle.liveness.specs.Flags.{live_flags}
use Rattle.liveness.specs.Laws.Flags.{length_flags}
use Rattle.shape.specs.Columns.{mark_at}
use Rattle.shape.specs.Chains.{In}
use Rattle.shape.specs.Shape.{Words, node_capacity, edge_capacity, node_live, edge_live, axis_words, edge_payload_at, edge_slot_at, shape_of, adjacency_in, run_list, run_of, part, raw, live_in}
use Rattle.shape.specs.Checked.{SlotsChecked, Checked}
use Rattle.shape.specs.Steps.{retired, walk_in as walk_of_shape}
use Rattle.shape.proofs.Laws.Chains.{in_none}
use Rattle.shape.proofs.Laws.Keeping.{retired_length}
use Rattle.shape.proofs.Laws.Reading.{edge_bound_is, edge_flags_are}
use Rattle.adjacency.specs.Walk.{walk_in}
use Rattle.adjacency.specs.Laws.StoreWalks.{checked_readable, checked_walkable, shape_walk}
use Rattle.adjacency.specs.Clear.{Retired, Clearable}
use Rattle.adjacency.specs.Laws.Clear.{get_or_cleared, retired_both}

-- a node of a checked store can be cleared in either direction, whatever stands in the live words
pub checked_clearable : {w : Words} → Checked w → (d : TraversalDirection) (x : ℕ) → x < w.counts.nodes.bound → {live_edges : List ℕ}
    → length live_edges ≡ length w.live_edges → Clearable (axis_words d w) (edge_capacity w) (node_capacity w) w.counts live_edges x
checked_clearable k d x node long =
    let enough = (checked_walkable k d x node).live_long in
    record { readable = checked_readable k d x node; live_long = omega arith }

-- ---- edge slots made dead

abbrev live_of : EdgeSlot → Bool
live_of s = s.live

abbrev payload_of : EdgeSlot → EdgePayload
payload_of s = s.payload

-- a slot is live afterwards where it was and is not among them
slot_live : (es : List ℕ) (edges : List EdgeSlot) (k : ℕ) → get_or (map live_of (retired es edges)) k false ≡ (get_or (map live_of edges) k false && not (member k es))
unfolding retired member
slot_live [] edges k = sym (and_true (get_or (map live_of edges) k false))
slot_live (e ∷ es) edges k =
    let slot = killed_edge (get_or edges e no_edge) in
    slot_live es (set edges e slot) k
    ∙ rw (map_set live_of edges e slot, get_or_cleared (map live_of edges) e k)
    (by_test (eqb k e) (λ q. rw (q, and_false (get_or (map live_of edges) k false))) (λ q. rw (q, and_true (get_or (map live_of edges) k false))))

-- its payload is kept
slot_payloads : (es : List ℕ) (edges : List EdgeSlot) → map payload_of (retired es edges) ≡ map payload_of edges
unfolding retired
slot_payloads [] edges = refl
slot_payloads (e ∷ es) edges =
    let slot = killed_edge (get_or edges e no_edge) in
    slot_payloads es (set edges e slot) ∙ map-set_same payload_of edges e slot no_edge refl

-- slots with the same payloads and flags are the same
slots_ext : (a b : List EdgeSlot) → map payload_of a ≡ map payload_of b → map live_of a ≡ map live_of b → a ≡ b
slots_ext [] [] p l = refl
slots_ext [] (t ∷ b) p l = let z : ◌≡◌ {A = ℕ} 0 1 = cc in absurd (omega arith)
slots_ext (s ∷ a) [] p l = let z : ◌≡◌ {A = ℕ} 0 1 = cc in absurd (omega arith)
slots_ext (s ∷ a) (t ∷ b) p l =
    let payload : s.payload ≡ t.payload = cc in
    let live : s.live ≡ t.live = cc in
    let slot : s ≡ t = λ i. record { payload = payload i; live = live i } in
    ap₂ {B = List EdgeSlot} (λ x xs. x ∷ xs) slot (slots_ext a b (cc) (cc))

-- the payloads of a store's edge slots
payloads_are : (w : Words) → map payload_of (shape_of w).edges ≡ map (λ e. edge_payload_at w e) (from 0 w.counts.edges.bound)
unfolding shape_of
payloads_are w =
    map-map payload_of (edge_slot_at w) (from 0 w.counts.edges.bound)

-- A store v whose live words are those of w with the edges es made dead, all else of the edge slots as it was.
module _ (w v : Words) (lows : v.lows ≡ w.lows) (highs : v.highs ≡ w.highs) (bound : v.counts.edges.bound ≡ w.counts.edges.bound) {es : List ℕ} {n : ℕ}
    (gone : Retired w.counts.edges.bound es w.live_edges v.live_edges n) where
  -- its flags are those of the slots made dead
  pub retired_flags : edge_live v ≡ map live_of (retired es (shape_of w).edges)
  retired_flags =
      let slots = retired es (shape_of w).edges in
      let flags = live_flags v.live_edges w.counts.edges.bound in
      rw bound
      (ext_get_or false flags (map live_of slots)
      (length_flags v.live_edges w.counts.edges.bound ∙ sym (length-map slots live_of ∙ retired_length es (shape_of w).edges ∙ edge_bound_is w))
      (λ k _. gone.flags k ∙ sym (slot_live es (shape_of w).edges k ∙ rw (edge_flags_are w))))

  -- and so are its slots
  pub retired_slots : (shape_of v).edges ≡ retired es (shape_of w).edges
  retired_slots =
      slots_ext (shape_of v).edges (retired es (shape_of w).edges)
      (payloads_are v ∙ rw (lows, highs, bound) (sym (slot_payloads es (shape_of w).edges ∙ payloads_are w))) (edge_flags_are v ∙ retired_flags)

-- ---- the live count

module _ {c : ℕ} {words after es : List ℕ} {s : Slots} {n : ℕ} (k : SlotsChecked c words s) (gone : Retired s.bound es words after n) where
  -- no more are made dead than are counted
  pub retired_within : n ≤ s.live
  retired_within = omega (arith, k.live.live_right, gone.counted)

  -- and counted off, the slots pass the check again
  pub retired_checked : SlotsChecked c after (record { bound = s.bound; base = s.base; live = s.live - n })
  retired_checked = record {
    bounded = record { bound_within = k.bounded.bound_within; base_within = k.bounded.base_within };
    live_long = rw gone.long k.live_long;
    live = record { unused_clear = gone.packs k.live.unused_clear; live_right = omega (arith, k.live.live_right, gone.counted) };
  }

-- ---- a node's edges

-- the walk of one direction cleared, and then that of the other, as it is read then: both walks of the shape are dead
pub node_retired : (w : Words) (x : ℕ) → x < w.counts.nodes.bound → {mid after : List ℕ} {n m : ℕ} → let live = get_or (node_live w) x false in
    Retired w.counts.edges.bound (walk_in w.outgoing (edge_capacity w) (node_capacity w) w.counts w.live_edges x live) w.live_edges mid n
    → Retired w.counts.edges.bound (walk_in w.incoming (edge_capacity w) (node_capacity w) w.counts mid x live) mid after m
    → Retired w.counts.edges.bound (walk_of_shape Outgoing (shape_of w) x ++ walk_of_shape Incoming (shape_of w) x) w.live_edges after (n + m)
node_retired w x node first second =
    rw (shape_walk w Outgoing x node, shape_walk w Incoming x node)
    (retired_both (get_or (node_live w) x false) (adjacency_in w.outgoing (edge_capacity w) (node_capacity w) w.counts x)
    (adjacency_in w.incoming (edge_capacity w) (node_capacity w) w.counts x) first second)

-- an entry of a node's run is an entry of its adjacency
run_raw : (ws : List ℕ) (ce cn : ℕ) (counts : Counts) (x e : ℕ) → In e (run_list ws ce cn x) → In e (raw (adjacency_in ws ce cn counts x))
unfolding run_list run_of
run_raw ws ce cn counts x e m =
    by_test (eqb (mark_at ws ce cn x) 0) (λ q. in_none e (rw q at m))
    (λ q. member_append e (part (adjacency_in ws ce cn counts x)) (adjacency_in ws ce cn counts x).ring ∙ rw (q, rw q at m))

-- then no live edge is in the node's run, in either direction
pub node_dead : (w : Words) (x : ℕ) → x < w.counts.nodes.bound → get_or (node_live w) x false ≡ true → {after : List ℕ} {n : ℕ}
    → Retired w.counts.edges.bound (walk_of_shape Outgoing (shape_of w) x ++ walk_of_shape Incoming (shape_of w) x) w.live_edges after n
    → (d : TraversalDirection) (e : ℕ) → In e (run_list (axis_words d w) (edge_capacity w) (node_capacity w) x)
    → get_or (live_flags after w.counts.edges.bound) e false ≡ false
node_dead w x node live gone d e m =
    gone.flags e ∙ by_test (get_or (edge_live w) e false) (λ q. rw (q, either d (walked d m q))) (λ q. rw q)
  where
    out : List ℕ
    out = walk_of_shape Outgoing (shape_of w) x

    into : List ℕ
    into = walk_of_shape Incoming (shape_of w) x

    walked : (d : TraversalDirection) → In e (run_list (axis_words d w) (edge_capacity w) (node_capacity w) x) → get_or (edge_live w) e false ≡ true
        → In e (walk_of_shape d (shape_of w) x)
    walked d m q =
        let adjacency = adjacency_in (axis_words d w) (edge_capacity w) (node_capacity w) w.counts x in
        rw (shape_walk w d x node, live)
        (member_keep (live_in (edge_live w)) e (raw adjacency)
        ∙ rw (run_raw (axis_words d w) (edge_capacity w) (node_capacity w) w.counts x e m, q))

    either : (d : TraversalDirection) → In e (walk_of_shape d (shape_of w) x) → In e (out ++ into)
    either Outgoing k = member_append e out into ∙ rw k
    either Incoming k = member_append e out into ∙ rw (k, or_true (member e out))
