-- A strip on a fresh store of lotstrip's capacities, and the image of what survives it: none of the calls is refused, and what they leave is that of the plain lists.
use Rattle.std.specs.Prelude.{ℕ, ◌*◌, ◌≤◌, ◌≡◌, refl, List, length, Result, Ok, IsOk}
use Rattle.plain.specs.Library.{sym, ap, ap₂, subst, ◌∙◌, length-map, arith}
use native.Mathlib.Nat.{mul-le-mul}
use Rattle.plain.specs.declared.Counts.{Counts}
use Rattle.plain.specs.declared.Answer.{Answer}
use Rattle.plain.specs.declared.refusals.Refusal.{Refusal}
use Rattle.plain.specs.Answers.{answer_of, done_of}
use Rattle.lotstrip_text.proofs.Numbered.{done_ok}
use Rattle.plain.specs.Lists.{written}
use Rattle.plain.specs.Operations.{operations}
use Rattle.plain.specs.Plain.{Plain, EdgeSlot, edge_flags}
use Rattle.plain.specs.Reads.{Reply, live_edges}
use Rattle.plain.specs.Step.{Capacities, State}
use Rattle.plain.specs.Compaction.{survivors}
use Rattle.plain.specs.Bits.{least_width}
use Rattle.plain.specs.Image.{image, record_width}
use Rattle.plain.specs.Memory.{Lengths, first_short, exact}
use Rattle.plain.specs.Devices.{box}
use Rattle.plain.specs.Calls.{Stripped, strip, judged_strip, judged_reply, fresh_state, within, fresh}
use Rattle.plain.specs.Lotstrip.{lotstrip_capacities}
use Rattle.plain.specs.WellFormed.{WellFormed}
use Rattle.plain.proofs.Laws.Width.{width_least}
use Rattle.plain.proofs.Laws.ListLaws.{count_length}
use Rattle.plain.proofs.Laws.Strips.{length_operations}
use Rattle.plain.proofs.Laws.CallCases.{strip_done, write_lent, lent_done}
use Rattle.plain.proofs.Laws.Compacting.{survivors_sound, surviving_nodes_within, surviving_edges_within}
use Rattle.plain.proofs.Laws.ImageLaws.{image_length}
use Rattle.shape.specs.Shape.{Words, capacities, lengths_of, shape_of, plain_of, lists}
use Rattle.shape.specs.Kept.{same_capacities}
use Rattle.shape.specs.Rules.{broken}
use Rattle.shape.specs.Steps.{state_of}
use Rattle.shape.proofs.Laws.Judging.{checked_sound}
use Rattle.strip.specs.Fresh.{FreshOf, Made, empty_counts}
use Rattle.strip.specs.Strip.{StripOf, stripped}
use Rattle.image_write.specs.Calls.{written_image, WriteOf}
use Rattle.lotstrip_text.specs.Booking.{booked, booking_answers, node_width, edge_width, image_room, Bookable, Held, Booked, Printable, Printed, Closing}

-- what is made is a fresh store
pub fresh_made : {l : Lengths} {came : Result Counts Refusal} {counts : Counts} → Made box l came → came ≡ Ok counts → (v : Words) → lengths_of v ≡ l → v.counts ≡ counts
    → FreshOf box v 0 0
fresh_made made is v long same = let ok = rw is at made in ok.makes v long (same ∙ ok.counts)

module _ {w : Words} {words entry : List ℕ} (b : Bookable w words entry) where
  memory : lengths_of w ≡ exact lotstrip_capacities
  memory = λ i. record {
    capacities = record { nodes = b.nodes_exact.payloads_long i; edges = b.edges_exact.payloads_long i };
    highs = b.highs_long i;
    live_nodes = b.nodes_exact.live_long i;
    live_edges = b.edges_exact.live_long i;
    outgoing = b.outgoing_long i;
    incoming = b.incoming_long i;
  }

  fresh_done : fresh box (exact lotstrip_capacities) ≡ record { number = 0; value = 0 }
  unfolding fresh within first_short
  fresh_done = refl

  -- making the store is not refused
  pub made_ok : {came : Result Counts Refusal} → Made box (lengths_of w) came → IsOk came
  made_ok {came} made = done_ok (λ _. 0) came (ap (λ (a : Answer). a.number) ((made.makes u refl refl).answered ∙ ap (fresh box) memory ∙ fresh_done))
    where
      u : Words
      u = record w { counts = empty_counts }

  -- nor is the strip
  module _ {v : Words} (is-fresh : FreshOf box v 0 0) (same-memory : lengths_of v ≡ lengths_of w) where
    strip_is : stripped v words (length entry) ≡ record { number = 0; value = 0; words = booking_answers words; after = booked words }
    strip_is =
        let s = state_of (shape_of v) in
        let checked = is-fresh.checked refl in
        let caps = ap (λ (l : Lengths). l.capacities) (same-memory ∙ memory) in
        let room : 2 * length (operations words) ≤ length entry = rw length_operations (omega (arith, b.room)) in
        ap (λ (rule : ℕ). judged_strip rule s (strip (capacities v) s words (length entry))) (checked_sound v checked)
        ∙ ap₂ {C = Stripped} (λ (c : Capacities) (t : State). strip c t words (length entry)) caps is-fresh.state
        ∙ strip_done lotstrip_capacities fresh_state words (length entry) b.whole room

    pub strip_ok : (came : Result Unit Refusal) {z : Words} {exit : List ℕ} → StripOf v words entry (done_of came).number (done_of came).value z exit → IsOk came
    strip_ok came done = done_ok (λ _. 0) came (done.numbered ∙ ap (λ (o : Stripped). o.number) strip_is)

    pub booking : {number value : ℕ} {z : Words} {exit : List ℕ} → StripOf v words entry number value z exit → Booked words entry z exit
    booking done =
        record {
          held = record {
            checked = done.checked (done.numbered ∙ ap (λ (o : Stripped). o.number) strip_is);
            sized = same_capacities done.lengths ∙ ap (λ (l : Lengths). l.capacities) (same-memory ∙ memory);
          };
          state = done.state ∙ ap (λ (o : Stripped). o.after) strip_is;
          answered = done.answered ∙ ap (λ (o : Stripped). written o.words entry) strip_is;
        }

module _ {w : Words} (h : Held w) where
  abbrev plain : Plain
  plain = plain_of (shape_of w)

  well : WellFormed lotstrip_capacities plain
  well = subst (λ (caps : Capacities). WellFormed caps plain) h.sized h.checked.walks

  few : live_edges plain ≤ lotstrip_capacities.edges
  few = omega (arith, count_length (λ f. f) (edge_flags plain), length-map plain.edges (λ (e : EdgeSlot). e.live), well.edges_within)

  -- its image is never longer
  pub image_short : length (image (survivors plain)) ≤ image_room
  image_short =
      let s = survivors plain in
      let nodes : length s.nodes ≤ lotstrip_capacities.nodes = omega (arith, surviving_nodes_within plain, well.nodes_within) in
      let edges : length s.edges ≤ lotstrip_capacities.edges = omega (arith, surviving_edges_within plain, well.edges_within) in
      let narrow = width_least (length s.nodes) node_width nodes in
      let wide = width_least (length s.edges) edge_width edges in
      let across : record_width (least_width (length s.nodes)) ≤ record_width node_width = omega arith in
      let records : record_width (least_width (length s.nodes)) * length s.edges ≤ record_width node_width * lotstrip_capacities.edges = mul-le-mul across edges in
      let entries : least_width (length s.edges) * length s.edges ≤ edge_width * lotstrip_capacities.edges = mul-le-mul wide edges in
      omega (arith, image_length s (survivors_sound lotstrip_capacities plain well (omega arith) (omega arith)))

-- writing the image of a store that a strip led to is not refused
module _ {w : Words} {entry : List ℕ} (p : Printable w entry) where
  abbrev bytes : List ℕ
  bytes = image (survivors (plain_of (shape_of w)))

  reply_is : (work : ℕ) → 2 * lotstrip_capacities.edges ≤ work
      → judged_reply (broken w) (written_image work w (length entry)) ≡ record { number = 0; value = length bytes; words = bytes }
  reply_is work room =
      ap (λ (rule : ℕ). judged_reply rule (written_image work w (length entry))) (checked_sound w p.held.checked)
      ∙ write_lent (lists w) work (length entry) (omega (arith, few p.held))
      ∙ lent_done (length entry) (length bytes) bytes (omega (arith, p.room, image_short p.held))

  module _ {work work' exit : List ℕ} (came : Result ℕ Refusal) (room : 2 * lotstrip_capacities.edges ≤ length work)
      (done : WriteOf w work entry (answer_of came) work' exit) where
    pub image_ok : IsOk came
    image_ok = done_ok (λ n. n) came (done.replied.number ∙ ap (λ (r : Reply). r.number) (reply_is (length work) room))

    pub prints : {size : ℕ} → came ≡ Ok size → Printed w entry size exit
    prints is = record {
      sized = ap (λ (c : Result ℕ Refusal). (answer_of c).value) (sym is) ∙ done.replied.value ∙ ap (λ (r : Reply). r.value) (reply_is (length work) room);
      bytes = done.replied.writes ∙ ap (λ (r : Reply). written r.words entry) (reply_is (length work) room);
    }

pub closing_of : {words answers answers' bytes bytes' : List ℕ} {w : Words} {size : ℕ} → Booked words answers w answers' → Printed w bytes size bytes'
    → Closing words answers bytes answers' size bytes'
closing_of {words} {bytes = bytes} before after =
    let same = ap (λ (s : State). image (survivors s.lists)) before.state in
    record {
      answered = before.answered;
      sized = after.sized ∙ ap length same;
      short = subst (λ (s : State). length (image (survivors s.lists)) ≤ image_room) before.state (image_short before.held);
      printed = after.bytes ∙ ap (λ (l : List ℕ). written l bytes) same;
    }
