-- Whole histories on the definitions: they keep the lists well formed, what is refused leaves the store, and what the closing calls answer. Demand 3 itself is
-- the theorem of crate histories.
use Rattle.std.specs.Prelude.{ℕ, zero, suc, ◌*◌, ◌%◌, ◌≤◌, ◌≡◌, refl, true, cond, ◌⊎◌, List, length, eqb, ltb}
use Rattle.plain.specs.Library.{sym, ap, ◌∙◌, inl, inr, ⊎_elim, Option, none, some, arith, ne_eqb}
use Rattle.plain.specs.declared.Answer.{Answer}
use Rattle.plain.specs.Operations.{operation_words, operations}
use Rattle.plain.specs.Step.{Capacities, State}
use Rattle.plain.specs.Plain.{Plain}
use Rattle.plain.specs.Reads.{Reply, lent, live_edges}
use Rattle.plain.specs.Compaction.{Survivors, survivors, compacted}
use Rattle.plain.specs.Image.{image, broken_image, nodes_in, edges_in, parsed}
use Rattle.plain.specs.Memory.{first_short, exact}
use Rattle.plain.specs.Devices.{Device, Takes, Proper}
use Rattle.plain.specs.Calls.{strip, fresh_state, compacting, compaction, compaction_slices, reading_slices, asked, read_image, read_state, write_image}
use Rattle.plain.specs.History.{Call, Strip, Compaction, Reading, call, history_from, history, closing_image}
use Rattle.plain.specs.WellFormed.{WellFormed}
use Rattle.plain.proofs.Laws.Booleans.{by_test, below_or_not}
use Rattle.plain.proofs.Laws.Operating.{empty_well_formed}
use Rattle.plain.specs.Laws.Stepping.{Words}
use Rattle.plain.proofs.Laws.Stepping.{run_well_formed, operations_fitting}
use Rattle.plain.specs.Laws.CallCases.{LongEnough, slice_fits}
use Rattle.plain.proofs.Laws.CallCases.{long_or_short, read_broken, image_nodes_above, image_edges_above, read_short, read_done, write_short, write_lent, lent_short, lent_done}
use Rattle.plain.proofs.Laws.Compacting.{survivors_sound, of_survivors_well_formed, survivors_of, compacted_well_formed, length_surviving_edges}
use Rattle.plain.proofs.Laws.ImageLaws.{parsed_sound, nodes_length, edges_length}
use Rattle.plain.proofs.Laws.Devices.{box_takes}
use Rattle.plain.specs.Laws.Histories.{AllLegal, Legal, ReadCase, Within, many_edges, many_nodes, no_call, one_call, read_fits, read_too_short, unreadable, write_compact_image}

-- ---- one call

module _ (device : Device) (caps : Capacities) (takes : Takes device caps) (bytes : List ℕ) where
  -- the case of an answer
  abbrev Case : Answer → Type 0
  Case answer = ReadCase device caps bytes answer.number answer.value

  taken_case : broken_image bytes ≡ 0 → Takes device (asked (nodes_in bytes) (edges_in bytes)) → Case (read_image device (exact caps) bytes)
  taken_case e t =
      ⊎_elim (λ l. rw (read_done device (exact caps) takes bytes e t l) (read_fits e l))
      (λ s. rw (read_short device (exact caps) takes bytes s.0 e t s.1) (read_too_short e s.1))
      (long_or_short (reading_slices (nodes_in bytes) (edges_in bytes) (exact caps)))

  read_case_of : (rule : ℕ) → broken_image bytes ≡ rule → Case (read_image device (exact caps) bytes)
  read_case_of (suc rule) e = rw (read_broken device (exact caps) takes bytes rule e) (unreadable e)
  read_case_of zero e =
      ⊎_elim (λ h. rw (image_nodes_above device (exact caps) takes bytes e h) (many_nodes e h))
      (λ n. ⊎_elim (λ h. rw (image_edges_above device (exact caps) takes bytes e n h) (many_edges e h)) (λ m. taken_case e (record { nodes = n; edges = m }))
      (below_or_not device.limits.edges (edges_in bytes)))
      (below_or_not device.limits.nodes (nodes_in bytes))

  pub read_case : Case (read_image device (exact caps) bytes)
  read_case = read_case_of (broken_image bytes) refl

-- the lists that an accepted image leaves
read_well_formed : (caps : Capacities) (bytes : List ℕ) → broken_image bytes ≡ 0 → LongEnough (reading_slices (nodes_in bytes) (edges_in bytes) (exact caps))
    → WellFormed caps (read_state bytes).lists
read_well_formed caps bytes e (slice_fits h (slice_fits k rest)) =
    of_survivors_well_formed caps (parsed bytes) (parsed_sound bytes e) (rw nodes_length h) (rw edges_length k)

reading_well_formed : {device : Device} → Proper device → (caps : Capacities) (bytes : List ℕ) (s : State) {number value : ℕ} → ReadCase device caps bytes number value
    → WellFormed caps s.lists → WellFormed caps (cond (eqb number 0) (read_state bytes) s).lists
reading_well_formed p caps bytes s (unreadable e) h = h
reading_well_formed {device} p caps bytes s (many_nodes e k) h = rw (ne_eqb device.number 0 p.refuses) h
reading_well_formed {device} p caps bytes s (many_edges e k) h = rw (ne_eqb device.number 0 p.refuses) h
reading_well_formed p caps bytes s (read_too_short e f) h = h
reading_well_formed p caps bytes s (read_fits e f) h = read_well_formed caps bytes e f

compacting_well_formed : (caps : Capacities) → Within caps → (short : Option ℕ) (s : State) → WellFormed caps s.lists
    → WellFormed caps (compacting short s).after.lists
compacting_well_formed caps w none s h = compacted_well_formed caps s.lists h w.nodes w.edges
compacting_well_formed caps w (some needed) s h = h

strip_well_formed : (caps : Capacities) (s : State) (words : List ℕ) (room : ℕ) → Words words → WellFormed caps s.lists
    → WellFormed caps (strip caps s words room).after.lists
unfolding strip
strip_well_formed caps s words room fits h =
    by_test (eqb (length words % operation_words) 0)
    (λ q. rw q (by_test (ltb room (2 * length (operations words))) (λ r. rw r h) (λ r. rw r (run_well_formed s (operations_fitting words fits) h))))
    (λ q. rw q h)

-- a call keeps the lists well formed
pub call_well_formed : {device : Device} → Proper device → (caps : Capacities) → Takes device caps → (s : State) (c : Call) → Legal c → WellFormed caps s.lists
    → WellFormed caps (call device caps s c).after.lists
unfolding call compaction
call_well_formed p caps t s (Strip words room) l h = strip_well_formed caps s words room l h
call_well_formed p caps t s (Compaction node_map edge_map work) l h =
    compacting_well_formed caps (box_takes p t) (first_short (compaction_slices s.lists node_map edge_map work)) s h
call_well_formed {device} p caps t s (Reading bytes) l h = reading_well_formed p caps bytes s (read_case device caps t bytes) h

-- "a refused call or operation leaves the plain lists and the store as they were": a call
compacting_refused : (short : Option ℕ) (s : State) → ((compacting short s).number ≡ 0 → ⊥) → (compacting short s).after ≡ s
compacting_refused none s h = absurd (h refl)
compacting_refused (some needed) s h = refl

strip_refused : (caps : Capacities) (s : State) (words : List ℕ) (room : ℕ) → ((strip caps s words room).number ≡ 0 → ⊥) → (strip caps s words room).after ≡ s
unfolding strip
strip_refused caps s words room =
    by_test (eqb (length words % operation_words) 0) (λ q. rw q (by_test (ltb room (2 * length (operations words))) (λ r. rw r (λ h. refl)) (λ r. rw r (λ h. absurd (h refl)))))
    (λ q. rw q (λ h. refl))

pub call_refused : (device : Device) (caps : Capacities) (s : State) (c : Call) → ((call device caps s c).number ≡ 0 → ⊥) → (call device caps s c).after ≡ s
unfolding call compaction
call_refused device caps s (Strip words room) h = strip_refused caps s words room h
call_refused device caps s (Compaction node_map edge_map work) h =
    compacting_refused (first_short (compaction_slices s.lists node_map edge_map work)) s h
call_refused device caps s (Reading bytes) h = rw (ne_eqb (read_image device (exact caps) bytes).number 0 h)

-- ---- whole histories

history_from_well_formed : {device : Device} → Proper device → (caps : Capacities) → Takes device caps → (s : State) {calls : List Call} → AllLegal calls
    → WellFormed caps s.lists → WellFormed caps (history_from device caps s calls).lists
unfolding history_from
history_from_well_formed p caps t s no_call h = h
history_from_well_formed {device} p caps t s (one_call {c} l ls) h =
    history_from_well_formed p caps t (call device caps s c).after ls (call_well_formed p caps t s c l h)

-- every history leaves well-formed lists
pub history_well_formed : {device : Device} → Proper device → (caps : Capacities) → Takes device caps → {calls : List Call} → AllLegal calls
    → WellFormed caps (history device caps calls).lists
unfolding history
history_well_formed p caps t l = history_from_well_formed p caps t fresh_state l (empty_well_formed caps)

-- ---- the closing compaction and image writing

-- a compaction is done or, for want of room, refused with 2
compacting_number : (short : Option ℕ) (s : State) → ((compacting short s).number ≡ 0) ⊎ ((compacting short s).number ≡ 2)
compacting_number none s = inl refl
compacting_number (some needed) s = inr refl

compacting_done : (short : Option ℕ) (s : State) → (compacting short s).number ≡ 0 → compacting short s ≡ compacting none s
compacting_done none s h = refl
compacting_done (some needed) s h = absurd (omega arith)

lent_number : (room value : ℕ) (words : List ℕ) → ((lent room value words).number ≡ 0) ⊎ ((lent room value words).number ≡ 2)
lent_number room value words =
    ⊎_elim (λ h. inr (ap (λ (r : Reply). r.number) (lent_short room value words h))) (λ h. inl (ap (λ (r : Reply). r.number) (lent_done room value words h)))
    (below_or_not room (length words))

-- what is answered with 0 is written whole
lent_words : (room value : ℕ) (words : List ℕ) → (lent room value words).number ≡ 0 → lent room value words ≡ record { number = 0; value = value; words = words }
lent_words room value words e =
    ⊎_elim (λ h. absurd (let z = sym (ap (λ (r : Reply). r.number) (lent_short room value words h)) ∙ e in omega arith)) (λ h. lent_done room value words h)
    (below_or_not room (length words))

-- what a compaction leaves that answers 0
pub compaction_state : (s : State) (node_map edge_map work : ℕ) → (compaction s node_map edge_map work).number ≡ 0 → compaction s node_map edge_map work ≡ compacting none s
unfolding compaction
compaction_state s node_map edge_map work e = compacting_done (first_short (compaction_slices s.lists node_map edge_map work)) s e

-- ---- image writing, of any lists

module _ (p : Plain) (work room : ℕ) where
  -- it is done or, for want of work or of bytes, refused with 2
  pub write_number : ((write_image p work room).number ≡ 0) ⊎ ((write_image p work room).number ≡ 2)
  write_number =
      ⊎_elim (λ h. inr (ap (λ (r : Reply). r.number) (write_short p work room h)))
      (λ h. rw (write_lent p work room h) (lent_number room (length (image (survivors p))) (image (survivors p))))
      (below_or_not work (2 * live_edges p))

  -- done, it is the image of the survivors, whole
  pub write_whole : (write_image p work room).number ≡ 0
      → write_image p work room ≡ record { number = 0; value = length (image (survivors p)); words = image (survivors p) }
  write_whole e =
      ⊎_elim (λ h. absurd (let z = sym (ap (λ (r : Reply). r.number) (write_short p work room h)) ∙ e in omega arith))
      (λ h. let r = write_lent p work room h in
      r ∙ lent_words room (length (image (survivors p))) (image (survivors p)) (sym (ap (λ (t : Reply). t.number) r) ∙ e))
      (below_or_not work (2 * live_edges p))

-- lists with the same survivors, and so as many live edges, have the same image
pub write_survivors : (p q : Plain) → survivors p ≡ survivors q → (work room : ℕ) → write_image p work room ≡ write_image q work room
unfolding write_image
write_survivors p q same work room =
    let many : live_edges p ≡ live_edges q = sym (length_surviving_edges p) ∙ ap (λ (s : Survivors). length s.edges) same ∙ length_surviving_edges q in
    rw (same, many)

-- "Compact stores give their old bytes": number, value and bytes, wherever the work slice is long enough
pub compact_as_before : (s : State) (work room : ℕ) → s.compact ≡ true → 2 * live_edges s.lists ≤ work
    → write_image s.lists work room ≡ write_compact_image s room
unfolding write_compact_image
compact_as_before s work room compact h = write_lent s.lists work room h ∙ rw compact

module _ (caps : Capacities) (w : Within caps) (s : State) (h : WellFormed caps s.lists) (node_map edge_map work : ℕ) where
  -- "the only other number they can give is 2": the compaction
  pub closing_compaction_number : ((compaction s node_map edge_map work).number ≡ 0) ⊎ ((compaction s node_map edge_map work).number ≡ 2)
  unfolding compaction
  closing_compaction_number = compacting_number (first_short (compaction_slices s.lists node_map edge_map work)) s

  -- compaction keeps the survivors
  pub survivors_compacted : survivors (compacted s.lists) ≡ survivors s.lists
  unfolding compacted
  survivors_compacted = survivors_of (survivors s.lists) (survivors_sound caps s.lists h w.nodes w.edges)

  -- Writing "gives what compaction followed by writing would give": number, value and bytes, where the compaction answers 0
  pub closing_image_is : (compaction s node_map edge_map work).number ≡ 0 → (again room : ℕ)
      → closing_image s node_map edge_map work again room ≡ write_image s.lists again room
  closing_image_is e again room =
      rw (compaction_state s node_map edge_map work e) (write_survivors (compacted s.lists) s.lists survivors_compacted again room)
