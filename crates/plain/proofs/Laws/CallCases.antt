-- Each call's answer, by facts on bounds, live flags and lengths: the table of document 01 and its orders of refusal. The cases of a call exclude each other and
-- leave nothing out, so each number is given exactly in its case; a refused call leaves the store.
-- ---- lent slices
use Rattle.std.specs.Prelude.{ℕ, zero, suc, ◌*◌, ◌%◌, ◌≤◌, ◌<◌, ◌≡◌, refl, Bool, false, ◌⊎◌, List, [], ◌∷◌, map, length, get_or}
use Rattle.plain.specs.Library.{sym, ap, ◌∙◌, inl, inr, ⊎_elim, Option, none, some, length-map, get_or-map, arith, eq-eqb, ne_eqb, le-leb, lt-leb, lt-ltb, le-ltb}
use Rattle.std.proofs.Math.ListN.{get_elem?}
use Rattle.plain.specs.declared.TraversalDirection.{TraversalDirection}
use Rattle.plain.specs.declared.TraversalDirection.TheVariants.{Outgoing, Incoming}
use Rattle.plain.specs.declared.Answer.{Answer}
use Rattle.plain.specs.declared.Record.{Record}
use Rattle.plain.specs.Numbers.{NONE}
use Rattle.plain.specs.Lists.{sum}
use Rattle.plain.specs.Plain.{low_of, high_of, Plain, NodeSlot, EdgeSlot, no_node, no_edge, node_bound, edge_bound, node_flags, edge_flags, list_of, end_of, opposite}
use Rattle.plain.specs.Operations.{operation_words, operations}
use Rattle.plain.specs.Step.{Capacities, State, node_missing, run, answers}
use Rattle.plain.specs.Reads.{lent, listing, answered, yes_or_no, no_record, no_total, payloads_of, walk, neighbors, degree, total, node_payload, edge_record, live_edge_record, contains_node, contains_edge, is_live, live_edges, found, find}
use Rattle.plain.specs.Compaction.{survivors}
use Rattle.plain.specs.Image.{image, broken_image, nodes_in, edges_in}
use Rattle.plain.specs.Memory.{Slice, first_short, Lengths, other_slices}
use Rattle.plain.specs.Devices.{Device, Takes}
use Rattle.plain.specs.Calls.{strip, short_answer, within, fresh, compaction_slices, compacting, compaction, write_image, reading_slices, asked, reading, read_image}
use Rattle.plain.proofs.Laws.Booleans.{below_or_not}
use Rattle.plain.proofs.Laws.Operating.{edge_below}
use Rattle.plain.specs.Laws.Cases.{Absent, Removed, Live}
use Rattle.plain.proofs.Laws.Cases.{fault_absent, fault_below}
use Rattle.plain.specs.Laws.CallCases.{FirstShort, LongEnough, no_slice, short_here, short_later, slice_fits}

pub all_long : {slices : List Slice} → LongEnough slices → first_short slices ≡ none
unfolding first_short
all_long no_slice = refl
all_long (slice_fits {s} h rest) = rw (le-leb s.needs s.has h) (all_long rest)

pub one_short : {slices : List Slice} {n : ℕ} → FirstShort slices n → first_short slices ≡ some n
unfolding first_short
one_short (short_here {s} h) = rw (lt-leb s.needs s.has h)
one_short (short_later {s} h rest) = rw (le-leb s.needs s.has h) (one_short rest)

-- one or the other
pub long_or_short : (slices : List Slice) → LongEnough slices ⊎ ((n : ℕ) × FirstShort slices n)
long_or_short [] = inl no_slice
long_or_short (s ∷ slices) =
    ⊎_elim (λ h. inr (s.needs, short_here h))
    (λ h. ⊎_elim (λ rest. inl (slice_fits h rest)) (λ rest. inr (rest.0, short_later h rest.1)) (long_or_short slices))
    (below_or_not s.has s.needs)

-- words for one lent slice
pub lent_short : (room value : ℕ) (words : List ℕ) → room < length words → lent room value words ≡ record { number = 2; value = length words; words = [] }
lent_short room value words h = rw (lt-leb (length words) room h)

pub lent_done : (room value : ℕ) (words : List ℕ) → length words ≤ room → lent room value words ≡ record { number = 0; value = value; words = words }
lent_done room value words h = rw (le-leb (length words) room h)

-- ---- reads of a node: 5 above the bound, and then what the node has

missing : (p : Plain) (x : ℕ) → Absent (node_flags p) x → node_missing p x ≡ 5
missing p x h = fault_absent (λ (s : NodeSlot). s.live) 5 0 p.nodes x h

there : (p : Plain) (x : ℕ) → x < node_bound p → node_missing p x ≡ 0
there p x h = fault_below (λ (s : NodeSlot). s.live) 5 p.nodes x h

module _ (d : TraversalDirection) (p : Plain) (x room : ℕ) where
  pub walk_absent : Absent (node_flags p) x → walk d p x room ≡ record { number = 5; value = NONE; words = [] }
  unfolding walk
  walk_absent h = rw (missing p x h)

  pub walk_there : x < node_bound p → walk d p x room ≡ listing room (list_of d p x)
  unfolding walk
  walk_there h = rw (there p x h)

  pub neighbors_absent : Absent (node_flags p) x → neighbors d p x room ≡ record { number = 5; value = NONE; words = [] }
  unfolding neighbors
  neighbors_absent h = rw (missing p x h)

  pub neighbors_there : x < node_bound p → neighbors d p x room ≡ listing room (map (end_of (opposite d) p) (list_of d p x))
  unfolding neighbors
  neighbors_there h = rw (there p x h)

  pub degree_absent : Absent (node_flags p) x → degree d p x ≡ record { number = 5; value = NONE }
  unfolding degree
  degree_absent h = rw (missing p x h)

  pub degree_there : x < node_bound p → degree d p x ≡ answered (length (list_of d p x))
  unfolding degree
  degree_there h = rw (there p x h)

module _ (d : TraversalDirection) (p : Plain) (x : ℕ) where
  pub total_absent : Absent (node_flags p) x → total d p x ≡ no_total 5 NONE
  unfolding total
  total_absent h = rw (missing p x h)

  pub total_there : x < node_bound p
      → total d p x ≡ record { number = 0; value = 0; low = sum (map low_of (payloads_of d p x)); high = sum (map high_of (payloads_of d p x)) }
  unfolding total
  total_there h = rw (there p x h)

-- ---- reads of a slot

-- the slot itself
slot_above : {A : Type 0} (l : List A) (x : ℕ) → length l ≤ x → get_elem? l x ≡ none
slot_above [] x h = refl
slot_above (a ∷ l) zero h = absurd (omega arith)
slot_above (a ∷ l) (suc x) h = slot_above l x (omega arith)

slot_below : {A : Type 0} (l : List A) (x : ℕ) (a : A) → x < length l → get_elem? l x ≡ some (get_or l x a)
slot_below [] x a h = absurd (omega arith)
slot_below (b ∷ l) zero a h = refl
slot_below (b ∷ l) (suc x) a h = slot_below l x a (omega arith)

module _ (p : Plain) (x : ℕ) where
  pub node_payload_absent : node_bound p ≤ x → node_payload p x ≡ record { number = 5; value = NONE }
  unfolding node_payload
  node_payload_absent h = rw (slot_above p.nodes x h)

  pub node_payload_there : x < node_bound p → node_payload p x ≡ answered (get_or p.nodes x no_node).payload
  unfolding node_payload
  node_payload_there h = rw (slot_below p.nodes x no_node h)

  -- the record of an edge below the bound
  abbrev pub record_there : Record
  record_there = record {
    number = 0;
    value = 0;
    source = end_of Outgoing p x;
    target = end_of Incoming p x;
    payload = (get_or p.edges x no_edge).payload;
  }

  pub edge_record_absent : edge_bound p ≤ x → edge_record p x ≡ no_record 7 NONE
  unfolding edge_record
  edge_record_absent h = rw (slot_above p.edges x h)

  pub edge_record_there : x < edge_bound p → edge_record p x ≡ record_there
  unfolding edge_record
  edge_record_there h = rw (slot_below p.edges x no_edge h)

  pub live_edge_record_absent : edge_bound p ≤ x → live_edge_record p x ≡ no_record 7 NONE
  unfolding live_edge_record
  live_edge_record_absent h = rw (slot_above p.edges x h)

  -- an edge's flag, read off its slot
  flag_is : (get_or p.edges x no_edge).live ≡ get_or (edge_flags p) x false
  flag_is = sym (get_or-map (λ (s : EdgeSlot). s.live) p.edges x no_edge)

  pub live_edge_record_removed : Removed (edge_flags p) x → live_edge_record p x ≡ no_record 8 NONE
  unfolding live_edge_record
  live_edge_record_removed h =
      let low : x < edge_bound p = omega (arith, h.below, length-map p.edges (λ (s : EdgeSlot). s.live)) in
      rw (slot_below p.edges x no_edge low, flag_is, h.dead)

  pub live_edge_record_there : Live (edge_flags p) x → live_edge_record p x ≡ record_there
  unfolding live_edge_record
  live_edge_record_there h = rw (slot_below p.edges x no_edge (edge_below p x h), flag_is, h)

-- "out of range is not live"
flag_there : {A : Type 0} (f : A → Bool) (l : List A) (x : ℕ) → is_live (mathlib.Core.Option.map f (get_elem? l x)) ≡ get_or (map f l) x false
flag_there f [] x = refl
flag_there f (a ∷ l) zero = refl
flag_there f (a ∷ l) (suc x) = flag_there f l x

pub contains_node_is : (p : Plain) (x : ℕ) → contains_node p x ≡ yes_or_no (get_or (node_flags p) x false)
unfolding contains_node
contains_node_is p x = rw (flag_there (λ (s : NodeSlot). s.live) p.nodes x)

pub contains_edge_is : (p : Plain) (e : ℕ) → contains_edge p e ≡ yes_or_no (get_or (edge_flags p) e false)
unfolding contains_edge
contains_edge_is p e = rw (flag_there (λ (s : EdgeSlot). s.live) p.edges e)

-- finding refuses a node at or above the bound, the first before the second, and nothing else
module _ (p : Plain) (a b : ℕ) where
  pub find_first_absent : Absent (node_flags p) a → find p a b ≡ record { number = 5; value = NONE }
  unfolding find
  find_first_absent h = rw (missing p a h)

  pub find_second_absent : a < node_bound p → Absent (node_flags p) b → find p a b ≡ record { number = 5; value = NONE }
  unfolding find
  find_second_absent h k = rw (there p a h, missing p b k)

  pub find_there : a < node_bound p → b < node_bound p → find p a b ≡ answered (found p a b)
  unfolding find
  find_there h k = rw (there p a h, there p b k)

-- ---- the strip: 3, then 2

module _ (caps : Capacities) (s : State) (words : List ℕ) (room : ℕ) where
  pub strip_ragged : (length words % operation_words ≡ 0 → ⊥) → strip caps s words room ≡ record { number = 3; value = length words; words = []; after = s }
  unfolding strip
  strip_ragged h = rw (ne_eqb (length words % operation_words) 0 h)

  pub strip_short : length words % operation_words ≡ 0 → room < 2 * length (operations words)
      → strip caps s words room ≡ record { number = 2; value = 2 * length (operations words); words = []; after = s }
  unfolding strip
  strip_short h k = rw (eq-eqb (length words % operation_words) 0 h, lt-ltb room (2 * length (operations words)) k)

  pub strip_done : length words % operation_words ≡ 0 → 2 * length (operations words) ≤ room
      → strip caps s words room ≡ record { number = 0; value = 0; words = answers caps s (operations words); after = run caps s (operations words) }
  unfolding strip
  strip_done h k = rw (eq-eqb (length words % operation_words) 0 h, le-ltb room (2 * length (operations words)) k)

-- ---- fresh and reading: more than the device takes, nodes before edges; an image that is none; a slice too short

module _ (device : Device) (caps : Capacities) (answer : Answer) where
  pub nodes_above : device.limits.nodes < caps.nodes → within device caps answer ≡ record { number = device.number; value = caps.nodes }
  unfolding within
  nodes_above h = rw (lt-ltb device.limits.nodes caps.nodes h)

  pub edges_above : caps.nodes ≤ device.limits.nodes → device.limits.edges < caps.edges → within device caps answer ≡ record { number = device.number; value = caps.edges }
  unfolding within
  edges_above h k = rw (le-ltb device.limits.nodes caps.nodes h, lt-ltb device.limits.edges caps.edges k)

  pub within_limits : Takes device caps → within device caps answer ≡ answer
  unfolding within
  within_limits t = rw (le-ltb device.limits.nodes caps.nodes t.nodes, le-ltb device.limits.edges caps.edges t.edges)

module _ (device : Device) (l : Lengths) (takes : Takes device l.capacities) where
  pub fresh_done : LongEnough (other_slices l) → fresh device l ≡ record { number = 0; value = 0 }
  unfolding fresh
  fresh_done s = within_limits device l.capacities _ takes ∙ ap short_answer (all_long s)

  pub read_broken : (bytes : List ℕ) (rule : ℕ) → broken_image bytes ≡ suc rule → read_image device l bytes ≡ record { number = 12; value = suc rule }
  unfolding read_image reading
  read_broken bytes rule e = within_limits device l.capacities _ takes ∙ rw e

  -- "right after 12 when an image does"
  pub image_nodes_above : (bytes : List ℕ) → broken_image bytes ≡ 0 → device.limits.nodes < nodes_in bytes
      → read_image device l bytes ≡ record { number = device.number; value = nodes_in bytes }
  unfolding read_image reading
  image_nodes_above bytes e h = within_limits device l.capacities _ takes ∙ rw e (nodes_above device (asked (nodes_in bytes) (edges_in bytes)) _ h)

  pub image_edges_above : (bytes : List ℕ) → broken_image bytes ≡ 0 → nodes_in bytes ≤ device.limits.nodes → device.limits.edges < edges_in bytes
      → read_image device l bytes ≡ record { number = device.number; value = edges_in bytes }
  unfolding read_image reading
  image_edges_above bytes e h k = within_limits device l.capacities _ takes ∙ rw e (edges_above device (asked (nodes_in bytes) (edges_in bytes)) _ h k)

  pub read_short : (bytes : List ℕ) (n : ℕ) → broken_image bytes ≡ 0 → Takes device (asked (nodes_in bytes) (edges_in bytes))
      → FirstShort (reading_slices (nodes_in bytes) (edges_in bytes) l) n → read_image device l bytes ≡ record { number = 2; value = n }
  unfolding read_image reading
  read_short bytes n e t s =
      within_limits device l.capacities _ takes ∙ rw e (within_limits device (asked (nodes_in bytes) (edges_in bytes)) _ t ∙ ap short_answer (one_short s))

  pub read_done : (bytes : List ℕ) → broken_image bytes ≡ 0 → Takes device (asked (nodes_in bytes) (edges_in bytes))
      → LongEnough (reading_slices (nodes_in bytes) (edges_in bytes) l) → read_image device l bytes ≡ record { number = 0; value = 0 }
  unfolding read_image reading
  read_done bytes e t s =
      within_limits device l.capacities _ takes ∙ rw e (within_limits device (asked (nodes_in bytes) (edges_in bytes)) _ t ∙ ap short_answer (all_long s))

-- ---- compaction: 2 in the order of its slices

module _ (s : State) (node_map edge_map work : ℕ) where
  pub compaction_short : (n : ℕ) → FirstShort (compaction_slices s.lists node_map edge_map work) n
      → compaction s node_map edge_map work ≡ record { number = 2; value = n; node_map = []; edge_map = []; work = []; after = s }
  unfolding compaction
  compaction_short n h = ap (λ (o : Option ℕ). compacting o s) (one_short h)

  pub compaction_done : LongEnough (compaction_slices s.lists node_map edge_map work) → compaction s node_map edge_map work ≡ compacting none s
  unfolding compaction
  compaction_done h = ap (λ (o : Option ℕ). compacting o s) (all_long h)

-- ---- image writing: 2 for the work slice, then 2 for the bytes

module _ (p : Plain) (work room : ℕ) where
  pub write_short : work < 2 * live_edges p → write_image p work room ≡ record { number = 2; value = 2 * live_edges p; words = [] }
  unfolding write_image
  write_short h = rw (lt-ltb work (2 * live_edges p) h)

  pub write_lent : 2 * live_edges p ≤ work → write_image p work room ≡ listing room (image (survivors p))
  unfolding write_image
  write_lent h = rw (le-ltb work (2 * live_edges p) h)
