-- A store that holds survivors and nothing else, which is what compaction and image reading leave: "the result equals what compaction leaves". Its shape and its
-- plain lists are the survivors', it is checked and compact, and its words are canonical. The argument, once for both calls:
-- 1. `Holding v s` says what the two programs have written: counts that are all bound, base and live; the payloads at the front of their slices; the live words of
--    as many slots; and in each direction a new base of the survivors' ends and lists (`NewBase` of crate shape).
-- 2. All flags are true, so each slot is its payload and true (`slots_held`), and these are the slots of the survivors' shape.
-- 3. A new base has one base part a node, the node's list, and neither run nor ring (`new_axis`); so the axis is that of the survivors' shape. With 2 this is
--    `holding_shape`, and the plain lists and the compact flag follow from it (`holding_state`).
-- 4. The check: bounds, live words and their count come from 1 and 2; ends, index, rings and runs from the new base (`new_checked`); rule 7 from the survivors being
--    sound, since lists made of sound survivors are well formed (`holding_checked`).
-- 5. Canonical words: offsets count the ends below each node, the entries are the lists of all nodes joined, rings are NONE and marks are 0, all by the new base
--    (`holding_canonical`). That is what a second compaction meets (proofs/Again).
use Rattle.std.specs.Prelude.{ℕ, ◌%◌, ◌*◌, ◌+◌, ◌-◌, ◌/◌, ◌^◌, ◌≤◌, ◌≡◌, refl, Bool, cond, false, true, List, [], ◌++◌, ◌∷◌, map, drop, get_or, length, replicate, eqb}
use Rattle.plain.specs.Library.{◌∙◌, ap, ap₂, subst, sym, map-map, length-append, length-replicate, arith, eqb-false, lt-ltb, ltb-true}
use Rattle.std.proofs.Math.Seq.{drop-append_seam}
use Rattle.std.proofs.Common.{get_or-append-add, get_or-drop}
use Rattle.plain.specs.declared.Counts.{Counts}
use Rattle.plain.specs.declared.EdgePayload.{EdgePayload}
use Rattle.plain.specs.declared.Slots.{Slots}
use Rattle.plain.specs.declared.TraversalDirection.{TraversalDirection}
use Rattle.plain.specs.declared.TraversalDirection.TheVariants.{Incoming, Outgoing}
use Rattle.plain.specs.Based.{based}
use Rattle.plain.specs.Compaction.{EdgeRecord, Survivors, kept_edge, kept_node, of_survivors, payload_of, source_of, target_of}
use Rattle.plain.specs.Lists.{from, joined}
use Rattle.plain.specs.Memory.{live_words}
use Rattle.plain.specs.Plain.{EdgeSlot, NodeSlot, Plain, list_of}
use Rattle.plain.specs.Reads.{live_count}
use Rattle.plain.specs.WellFormed.{Sound, WellFormed}
use Rattle.plain.proofs.Laws.Booleans.{by_test}
use Rattle.plain.proofs.Laws.Compacting.{of_survivors_well_formed}
use Rattle.plain.proofs.Laws.Fitting.{fitted_many}
use Rattle.plain.specs.Laws.ImageBits.{record_high, record_low}
use Rattle.plain.proofs.Laws.ListLaws.{map_get_or, map_same, member_below}
use Rattle.plain.proofs.Laws.Rank.{live_all_live, live_count_all_live}
use Rattle.liveness.specs.Calls.{Reset, all_live}
use Rattle.liveness.specs.Flags.{live_flags}
use Rattle.shape.specs.Checked.{AxisChecked, Checked, SlotsChecked}
use Rattle.shape.specs.Columns.{Sized, cell}
use Rattle.shape.specs.Fields.{RenewalLeaves}
use Rattle.shape.specs.Index.{before, ends_of}
use Rattle.shape.specs.Kept.{Renewed, SameLengths}
use Rattle.shape.specs.Shape.{Words, axis_words, capacities, edge_capacity, edge_live, edge_payload_at, lists, node_capacity, node_live, plain_of, shape_of}
use Rattle.shape.specs.Steps.{state_of}
use Rattle.shape.proofs.Laws.Indexing.{before_zero}
use Rattle.shape.specs.Laws.NewBase.{NewBase}
use Rattle.shape.proofs.Laws.NewBase.{new_axis, new_checked}
use Rattle.shape.proofs.Laws.NoFields.{renewed_leaves}
use Rattle.shape.proofs.Laws.Shapes.{shape_ext}
use Rattle.compact.specs.Survivors.{shape_of_survivors}
use Rattle.compact.specs.Laws.Survivors.{survivors_plain, survivors_state}
use Rattle.compact.specs.Calls.{AxisCanonical, Canonical, SlotsCanonical}

-- the words at the front of a slice
abbrev pub front : List ℕ → ℕ → List ℕ
front words n = map (λ x. get_or words x 0) (from 0 n)

-- Survivors that have an image, in a store of their counts: their payloads in the slots, every slot live, and in each direction a base of their ends and lists.
pub record Holding (v : Words) (s : Survivors) : Type 0 where
  pub sound : Sound s
  pub counts : v.counts ≡ record { nodes = based (length s.nodes); edges = based (length s.edges) }
  pub nodes_fit : length s.nodes ≤ node_capacity v
  pub edges_fit : length s.edges ≤ edge_capacity v
  pub highs_long : edge_capacity v ≤ length v.highs
  pub live_nodes_long : live_words (node_capacity v) ≤ length v.live_nodes
  pub live_edges_long : live_words (edge_capacity v) ≤ length v.live_edges
  pub sized : (d : TraversalDirection) → Sized (axis_words d v) (edge_capacity v) (node_capacity v)
  pub nodes : front v.nodes (length s.nodes) ≡ s.nodes
  pub lows : front v.lows (length s.edges) ≡ map record_low s.edges
  pub highs : front v.highs (length s.edges) ≡ map record_high s.edges
  pub live_nodes : Reset v.live_nodes (length s.nodes) v.live_nodes
  pub live_edges : Reset v.live_edges (length s.edges) v.live_edges
  pub outgoing : NewBase v.outgoing (edge_capacity v) (node_capacity v) v.counts (map source_of s.edges) s.outs
  pub incoming : NewBase v.incoming (edge_capacity v) (node_capacity v) v.counts (map target_of s.edges) s.ins

-- ---- for those who make one

-- words whose slots were all made live are those words
pub reset_same : {entry exit : List ℕ} {slots : ℕ} → Reset entry slots exit → Reset exit slots exit
reset_same {entry} {exit} {slots} p = record {
  flags = p.flags;
  packs = p.packs;
  words = p.words ∙ ap (λ (l : List ℕ). all_live slots ++ l) (sym (drop-append_seam (all_live slots) (drop (length (all_live slots)) entry)))
      ∙ sym (ap (λ (l : List ℕ). all_live slots ++ drop (length (all_live slots)) l) p.words);
}

-- they are as many as the slots need
length_all_live : (slots : ℕ) → length (all_live slots) ≤ live_words slots
unfolding all_live
length_all_live slots =
    rw (length-append (replicate (slots / 64) (2 ^ 64 - 1)) (cond (eqb (slots % 64) 0) [] ((2 ^ (slots % 64) - 1) ∷ [])), length-replicate (slots / 64) (2 ^ 64 - 1))
    (by_test (eqb (slots % 64) 0) (λ t. rw t (omega arith)) (λ t. let ne = eqb-false (slots % 64) 0 t in rw t (omega arith)))

-- and the words past theirs are as they were
pub reset_word : {entry exit : List ℕ} {slots : ℕ} → Reset entry slots exit → (i : ℕ) → slots ≤ 64 * i → get_or exit i 0 ≡ get_or entry i 0
reset_word {entry} {exit} {slots} p i h =
    let few = length_all_live slots in
    let front = length (all_live slots) in
    let place : front + (i - front) ≡ i = omega arith in
    ap (λ (l : List ℕ). get_or l i 0) p.words
    ∙ ap (λ (k : ℕ). get_or (all_live slots ++ drop front entry) k 0) (sym place)
    ∙ get_or-append-add (all_live slots) (drop front entry) (i - front) 0
    ∙ get_or-drop front entry (i - front) 0
    ∙ ap (λ (k : ℕ). get_or entry k 0) place

pub sized_as : {ws ws' : List ℕ} {ce cn : ℕ} → length ws' ≡ length ws → Sized ws ce cn → Sized ws' ce cn
sized_as same sized = record { edges_within = sized.edges_within; nodes_within = sized.nodes_within; room = rw same sized.room }

-- ---- parts of a store that holds survivors

-- a slot, from its payload and its flag
abbrev node_slot : ℕ → Bool → NodeSlot
node_slot payload live = record { payload = payload; live = live }

abbrev edge_slot : EdgePayload → Bool → EdgeSlot
edge_slot payload live = record { payload = payload; live = live }

-- an edge's payload, from the functions that give its weights
abbrev weights : (ℕ → ℕ) → (ℕ → ℕ) → ℕ → EdgePayload
weights low high e = record { low = low e; high = high e }

-- slots that are all live, from their payloads
slots_held : {P A : Type 0} (make : P → Bool → A) (payload : ℕ → P) (flags : List Bool) (n : ℕ) → flags ≡ replicate n true
    → map (λ x. make (payload x) (get_or flags x false)) (from 0 n) ≡ map (λ p. make p true) (map payload (from 0 n))
slots_held make payload flags n on =
    map_same (λ x. make (payload x) (get_or flags x false)) (λ x. make (payload x) true) (from 0 n)
    (λ x m. ap (make (payload x))
    (ap (λ (f : List Bool). get_or f x false) on ∙ live_all_live n x ∙ lt-ltb x n (ltb-true x n (sym (member_below x n) ∙ m))))
    ∙ sym (map-map (λ p. make p true) payload (from 0 n))

-- lows and highs of edges, slot by slot, are their payloads
payloads_held : (low high : ℕ → ℕ) (slots : List ℕ) (edges : List EdgeRecord) → map low slots ≡ map record_low edges → map high slots ≡ map record_high edges
    → map (weights low high) slots ≡ map payload_of edges
payloads_held low high [] [] p q = refl
payloads_held low high [] (x ∷ edges) p q = absurd (omega (arith, ap length p))
payloads_held low high (e ∷ slots) [] p q = absurd (omega (arith, ap length p))
payloads_held low high (e ∷ slots) (x ∷ edges) p q =
    let a : low e ≡ x.payload.low = cc in
    let b : high e ≡ x.payload.high = cc in
    let ps : map low slots ≡ map record_low edges = cc in
    let qs : map high slots ≡ map record_high edges = cc in
    ap₂ {C = List EdgePayload} (λ (y : EdgePayload) (l : List EdgePayload). y ∷ l) (λ i. record { low = a i; high = b i }) (payloads_held low high slots edges ps qs)

-- slots that are all live and all in the base pass the check
slots_checked : {c : ℕ} {words : List ℕ} {slots : Slots} (n : ℕ) → slots ≡ based n → n ≤ c → live_words c ≤ length words → Reset words n words → SlotsChecked c words slots
slots_checked {c} {words} n is fit long reset =
    subst (λ (s : Slots). SlotsChecked c words s) (sym is)
    (record {
      bounded = record { bound_within = fit; base_within = omega arith };
      live_long = long;
      live = record { unused_clear = reset.packs; live_right = sym (ap live_count reset.flags ∙ live_count_all_live n) };
    })

-- and are canonical
slots_canonical : {words : List ℕ} {slots : Slots} (n : ℕ) → slots ≡ based n → Reset words n words → SlotsCanonical words slots
slots_canonical {words} n is reset = subst (λ (s : Slots). SlotsCanonical words s) (sym is) (record { based = refl; live = refl; words_set = reset })

-- a new base is canonical
axis_canonical : {ws : List ℕ} {ce cn : ℕ} {counts : Counts} {ends : List ℕ} {ls : List (List ℕ)} → NewBase ws ce cn counts ends ls
    → AxisCanonical ws ce cn counts.nodes.bound counts.edges.bound (joined ls)
axis_canonical {ws} {ce} {cn} {counts} {ends} b =
    let there : ends_of ws counts.edges.bound ≡ ends = ap (ends_of ws) b.edges_bound ∙ b.built.ends_there in
    record {
      offsets = λ x h. b.built.offsets x h ∙ ap (λ (l : List ℕ). before l x) (sym there);
      lists = ap (λ (m : ℕ). map (cell ws ce) (from 0 m)) b.edges_bound ∙ b.built.entries;
      rings = b.rings;
      marks = b.marks;
    }

-- the lists of all nodes are the lists
pub all_lists : (n : ℕ) (ls : List (List ℕ)) → length ls ≡ n → map (λ x. get_or ls x []) (from 0 n) ≡ ls
all_lists n ls is = ap (λ (k : ℕ). map (λ x. get_or ls x []) (from 0 k)) (sym is) ∙ map_get_or ls []

-- ---- the store

module _ {v : Words} {s : Survivors} (h : Holding v s) where
  node_slots : v.counts.nodes ≡ based (length s.nodes)
  node_slots = ap (λ (c : Counts). c.nodes) h.counts

  edge_slots : v.counts.edges ≡ based (length s.edges)
  edge_slots = ap (λ (c : Counts). c.edges) h.counts

  nodes_bound : v.counts.nodes.bound ≡ length s.nodes
  nodes_bound = ap (λ (c : Slots). c.bound) node_slots

  nodes_base : v.counts.nodes.base ≡ length s.nodes
  nodes_base = ap (λ (c : Slots). c.base) node_slots

  edges_bound : v.counts.edges.bound ≡ length s.edges
  edges_bound = ap (λ (c : Slots). c.bound) edge_slots

  edges_base : v.counts.edges.base ≡ length s.edges
  edges_base = ap (λ (c : Slots). c.base) edge_slots

  -- the node slots
  nodes_held : (shape_of v).nodes ≡ map kept_node s.nodes
  unfolding shape_of
  nodes_held =
      ap (λ (n : ℕ). map (λ x. node_slot (get_or v.nodes x 0) (get_or (node_live v) x false)) (from 0 n)) nodes_bound
      ∙ slots_held node_slot (λ x. get_or v.nodes x 0) (node_live v) (length s.nodes) (ap (live_flags v.live_nodes) nodes_bound ∙ h.live_nodes.flags)
      ∙ ap (map kept_node) h.nodes

  -- the edge slots
  edges_held : (shape_of v).edges ≡ map kept_edge s.edges
  unfolding shape_of
  edges_held =
      ap (λ (n : ℕ). map (λ e. edge_slot (edge_payload_at v e) (get_or (edge_live v) e false)) (from 0 n)) edges_bound
      ∙ slots_held edge_slot (edge_payload_at v) (edge_live v) (length s.edges) (ap (live_flags v.live_edges) edges_bound ∙ h.live_edges.flags)
      ∙ ap (map (λ p. edge_slot p true))
      (payloads_held (λ e. get_or v.lows e 0) (λ e. get_or v.highs e 0) (from 0 (length s.edges)) s.edges h.lows h.highs)
      ∙ map-map (λ p. edge_slot p true) payload_of s.edges

  -- the shape is that of the survivors
  pub holding_shape : shape_of v ≡ shape_of_survivors s
  unfolding shape_of shape_of_survivors
  holding_shape = shape_ext nodes_held edges_held nodes_base edges_base (new_axis h.outgoing) (new_axis h.incoming)

  pub holding_state : state_of (shape_of v) ≡ record { lists = of_survivors s; compact = true }
  holding_state = ap state_of holding_shape ∙ survivors_state s h.sound

  plain_held : lists v ≡ of_survivors s
  plain_held = ap plain_of holding_shape ∙ survivors_plain s h.sound

  -- each direction passes rules 3 to 6
  axis_held : (d : TraversalDirection) → AxisChecked (axis_words d v) (edge_capacity v) (node_capacity v) v.counts (node_live v) (edge_live v)
  axis_held Outgoing = new_checked h.outgoing (h.sized Outgoing) (node_live v) (edge_live v)
  axis_held Incoming = new_checked h.incoming (h.sized Incoming) (node_live v) (edge_live v)

  -- the store is checked
  pub holding_checked : Checked v
  holding_checked = record {
    nodes = slots_checked (length s.nodes) node_slots h.nodes_fit h.live_nodes_long h.live_nodes;
    edges = slots_checked (length s.edges) edge_slots h.edges_fit h.live_edges_long h.live_edges;
    highs_long = h.highs_long;
    axis = axis_held;
    walks = subst (WellFormed (capacities v)) (sym plain_held) (of_survivors_well_formed (capacities v) s h.sound h.nodes_fit h.edges_fit);
  }

  -- the plain lists of all nodes
  listed : (d : TraversalDirection) → map (list_of d (lists v)) (from 0 v.counts.nodes.bound) ≡ map (list_of d (of_survivors s)) (from 0 (length s.nodes))
  listed d = ap₂ (λ (p : Plain) (n : ℕ). map (list_of d p) (from 0 n)) plain_held nodes_bound

  directions : (d : TraversalDirection) → AxisCanonical (axis_words d v) (edge_capacity v) (node_capacity v) v.counts.nodes.bound v.counts.edges.bound
      (joined (map (list_of d (lists v)) (from 0 v.counts.nodes.bound)))
  unfolding of_survivors
  directions Outgoing =
      subst (AxisCanonical v.outgoing (edge_capacity v) (node_capacity v) v.counts.nodes.bound v.counts.edges.bound)
      (sym (ap joined (listed Outgoing ∙ all_lists (length s.nodes) s.outs (fitted_many h.sound.outs)))) (axis_canonical h.outgoing)
  directions Incoming =
      subst (AxisCanonical v.incoming (edge_capacity v) (node_capacity v) v.counts.nodes.bound v.counts.edges.bound)
      (sym (ap joined (listed Incoming ∙ all_lists (length s.nodes) s.ins (fitted_many h.sound.ins)))) (axis_canonical h.incoming)

  -- its words are canonical
  pub holding_canonical : Canonical v
  holding_canonical = record {
    nodes = slots_canonical (length s.nodes) node_slots h.live_nodes;
    edges = slots_canonical (length s.edges) edge_slots h.live_edges;
    axis = directions;
  }

-- What is no field is as it was where such a store stands in place of another, but for the offset of no node.
pub canonical_leaves : (w v : Words) → SameLengths w v → Canonical v → Renewed w v → RenewalLeaves w v
canonical_leaves w v same c k =
    renewed_leaves w v same (c.nodes.based, c.edges.based)
    (λ d. (c.axis d).offsets 0 (omega arith) ∙ before_zero (ends_of (axis_words d v) v.counts.edges.bound)) k
