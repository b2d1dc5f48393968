-- Every run follows its history: call by call, from the record of the entry's contract.
use Rattle.std.specs.Prelude.{ℕ, zero, suc, ◌≡◌, refl, cond, List, [], ◌∷◌, length, eqb}
use Rattle.plain.specs.Library.{sym, ap, ap₂, subst, subst₂, ◌∙◌, arith}
use Rattle.plain.specs.declared.TraversalDirection.TheVariants.{Outgoing}
use Rattle.plain.specs.declared.Answer.{Answer}
use Rattle.plain.specs.Lists.{written}
use Rattle.plain.specs.Step.{Capacities, State}
use Rattle.plain.specs.Memory.{exact}
use Rattle.plain.specs.Devices.{Device, box, Takes, Proper}
use Rattle.plain.specs.Calls.{Stripped, strip, judged_strip, Compacted, compaction, judged_compaction, read_image, read_state}
use Rattle.plain.specs.History.{Call, Strip, Compaction, Reading, call, called_from, history_from}
use Rattle.plain.specs.Laws.Histories.{Within}
use Rattle.plain.proofs.Laws.Histories.{call_refused}
use Rattle.shape.specs.Shape.{Words, capacities, lengths_of, shape_of}
use Rattle.shape.specs.Checked.{Checked}
use Rattle.shape.specs.Kept.{same_capacities}
use Rattle.shape.specs.Steps.{state_of}
use Rattle.shape.proofs.Laws.Judging.{checked_sound}
use Rattle.memory.specs.Laws.{read_roomy}
use Rattle.strip.specs.Laws.Fresh.{fresh_takes}
use Rattle.strip.specs.Strip.{StripOf, stripped}
use Rattle.compact.specs.Calls.{compacting_of, CompactOf}
use Rattle.image_read.specs.Calls.{ReadOf}
use Rattle.histories.specs.Runs.{Request, StripInto, CompactionInto, ReadingOf, call_of, Heard, Turn, Turned, stripped as by_strip, compacted as by_compaction, read as by_reading, Turns, no_turn, turn, Origin, StoreOf, first_state, Made, made_fresh, made_by_reading, made_elsewhere, Ran}
use Rattle.histories.specs.Follows.{told, CanAnswer, no_answer, one_answer, RefusalKeeps, no_refusal, one_kept, Follows}
use Rattle.histories.proofs.Laws.Calling.{roomy_read, checked_long, call_numbers}

-- ---- a checked store

-- its capacities are within the limit
pub checked_within : {w : Words} → Checked w → Within (capacities w)
checked_within k = record { nodes = (k.axis Outgoing).sized.nodes_within; edges = (k.axis Outgoing).sized.edges_within }

-- so a run on a box may start from any
pub made_on_a_box : {w : Words} → Checked w → Made box w (StoreOf (state_of (shape_of w)))
made_on_a_box k = made_elsewhere k (checked_within k)

-- a compaction of a checked store is that of the definition
pub compacting_is : {w : Words} → Checked w → (node_map edge_map work : ℕ)
    → compacting_of w node_map edge_map work ≡ compaction (state_of (shape_of w)) node_map edge_map work
compacting_is {w} k node_map edge_map work =
    let s = state_of (shape_of w) in
    ap (λ (rule : ℕ). judged_compaction rule s (compaction s node_map edge_map work)) (checked_sound w k)

-- ---- one call

-- A checked store of these capacities, which the device takes, of state s.
record Stands (device : Device) (caps : Capacities) (s : State) (w : Words) : Type 0 where
  pub checked : Checked w
  pub sized : capacities w ≡ caps
  pub state : state_of (shape_of w) ≡ s
  pub takes : Takes device caps

-- What one call comes to on it.
record Followed (device : Device) (caps : Capacities) (s : State) (w : Words) (request : Request) (t : Turn) : Type 0 where
  pub heard : t.heard ≡ told (call device caps s (call_of request)) request
  pub keeps : RefusalKeeps w request t
  pub stands : Stands device caps (call device caps s (call_of request)).after t.store

-- what is left: done, a store that stands; refused, the store as it was
goes_on : {device : Device} {caps : Capacities} {s : State} {w v : Words} (c : Call) → Stands device caps s w → (number : ℕ) → number ≡ (call device caps s c).number
    → (number ≡ 0 → Stands device caps (call device caps s c).after v) → ((number ≡ 0 → ⊥) → v ≡ w) → Stands device caps (call device caps s c).after v
goes_on c at zero is done keeps = done refl
goes_on {device} {caps} {s} {w} {v} c at (suc number) is done keeps =
    subst₂ (λ (t : State) (u : Words). Stands device caps t u) (sym (call_refused device caps s c (λ q. let z = is ∙ q in omega arith)))
    (sym (keeps (λ q. omega arith))) at

module _ {device : Device} {caps : Capacities} {s : State} {w : Words} (at : Stands device caps s w) where
  -- what the contracts say of a call on it is what the definitions say of its state
  stripped_is : (words : List ℕ) (room : ℕ) → stripped w words room ≡ strip caps s words room
  stripped_is words room =
      ap (λ (rule : ℕ). judged_strip rule (state_of (shape_of w)) (strip (capacities w) (state_of (shape_of w)) words room)) (checked_sound w at.checked)
      ∙ ap₂ {C = Stripped} (λ (c : Capacities) (t : State). strip c t words room) at.sized at.state

  compacted_is : (node_map edge_map work : ℕ) → compacting_of w node_map edge_map work ≡ compaction s node_map edge_map work
  compacted_is node_map edge_map work =
      compacting_is at.checked node_map edge_map work
      ∙ ap (λ (t : State). compaction t node_map edge_map work) at.state

  read_is : (bytes : List ℕ) → read_image device (lengths_of w) bytes ≡ read_image device (exact caps) bytes
  read_is bytes = roomy_read device (lengths_of w) (checked_long at.checked) bytes ∙ ap (λ (c : Capacities). read_image device (exact c) bytes) at.sized

  -- so each call follows
  strip_follows : {words entry exit : List ℕ} {number value : ℕ} {v : Words} → StripOf w words entry number value v exit
      → Followed device caps s w (StripInto words entry) (record { heard = record { number = number; value = value; lent = exit ∷ [] }; store = v })
  unfolding call
  strip_follows {words} {entry} {number = number} of =
      let is = stripped_is words (length entry) in
      let numbered = of.numbered ∙ ap (λ (r : Stripped). r.number) is in
      let valued = of.valued ∙ ap (λ (r : Stripped). r.value) is in
      let answered = of.answered ∙ ap (λ (r : Stripped). written r.words entry) is in
      record {
        heard = λ i. record { number = numbered i; value = valued i; lent = answered i ∷ [] };
        keeps = record { call = of.refused_keeps; operations = of.steps };
        stands = goes_on (Strip words (length entry)) at number numbered
            (λ done. record {
              checked = of.checked done;
              sized = same_capacities of.lengths ∙ at.sized;
              state = of.state ∙ ap (λ (r : Stripped). r.after) is;
              takes = at.takes;
            }) of.refused_keeps;
      }

  compaction_follows : {node_map edge_map work node-map' edge-map' work' : List ℕ} {number value : ℕ} {v : Words}
      → CompactOf w node_map edge_map work number value v node-map' edge-map' work'
      → Followed device caps s w (CompactionInto node_map edge_map work)
      (record { heard = record { number = number; value = value; lent = node-map' ∷ edge-map' ∷ work' ∷ [] }; store = v })
  unfolding call
  compaction_follows {node_map} {edge_map} {work} {number = number} of =
      let is = compacted_is (length node_map) (length edge_map) (length work) in
      let numbered = of.numbered ∙ ap (λ (r : Compacted). r.number) is in
      let valued = of.valued ∙ ap (λ (r : Compacted). r.value) is in
      let nodes = of.node_mapped ∙ ap (λ (r : Compacted). written r.node_map node_map) is in
      let edges = of.edge_mapped ∙ ap (λ (r : Compacted). written r.edge_map edge_map) is in
      let worked = of.worked ∙ ap (λ (r : Compacted). written r.work work) is in
      record {
        heard = λ i. record { number = numbered i; value = valued i; lent = nodes i ∷ edges i ∷ worked i ∷ [] };
        keeps = record { call = of.refused_keeps; operations = λ done. tt };
        stands = goes_on (Compaction (length node_map) (length edge_map) (length work)) at number numbered
            (λ done. record {
              checked = of.checked done;
              sized = same_capacities of.lengths ∙ at.sized;
              state = of.state ∙ ap (λ (r : Compacted). r.after) is;
              takes = at.takes;
            }) of.refused_keeps;
      }

  reading_follows : {bytes : List ℕ} {number value : ℕ} {v : Words} → ReadOf device w bytes number value v
      → Followed device caps s w (ReadingOf bytes) (record { heard = record { number = number; value = value; lent = [] }; store = v })
  unfolding call
  reading_follows {bytes} {number} of =
      let is = of.answered ∙ read_is bytes in
      let numbered = ap (λ (a : Answer). a.number) is in
      let valued = ap (λ (a : Answer). a.value) is in
      record {
        heard = λ i. record { number = numbered i; value = valued i; lent = [] };
        keeps = record { call = of.refused_keeps; operations = λ done. tt };
        stands = goes_on (Reading bytes) at number numbered
            (λ done. record {
              checked = of.checked done;
              sized = same_capacities of.lengths ∙ at.sized;
              state = of.state done ∙ sym (ap (λ (n : ℕ). cond (eqb n 0) (read_state bytes) s) (sym numbered ∙ done));
              takes = at.takes;
            }) of.refused_keeps;
      }

  one_call : {request : Request} {t : Turn} → Turned device w request t → Followed device caps s w request t
  one_call (by_strip of) = strip_follows of
  one_call (by_compaction of) = compaction_follows of
  one_call (by_reading of) = reading_follows of

-- ---- a whole run

-- calls on a store that stands
follows_from : {device : Device} {caps : Capacities} {s : State} {w : Words} {requests : List Request} {turns : List Turn} → Stands device caps s w
    → Turns device w requests turns → Follows device caps s w requests turns
unfolding called_from history_from
follows_from at no_turn =
    record { answers = refl; numbers = no_answer; states = refl; ends = at.state; refusals = no_refusal; checked = at.checked }
follows_from {device} {caps} {s} at (turn {request = request} one rest) =
    let f = one_call at one in
    let more = follows_from {s = (call device caps s (call_of request)).after} f.stands rest in
    record {
      answers = ap₂ {C = List Heard} (λ (h : Heard) (l : List Heard). h ∷ l) f.heard more.answers;
      numbers = one_answer
          (subst (CanAnswer device caps s.lists (call_of request)) (sym (ap (λ (h : Heard). h.number) f.heard)) (call_numbers device caps s at.takes (call_of request)))
          more.numbers;
      states = ap₂ {C = List State} (λ (a : State) (l : List State). a ∷ l) f.stands.state more.states;
      ends = more.ends;
      refusals = one_kept f.keeps more.refusals;
      checked = more.checked;
    }

-- a store that was made stands
made_stands : {device : Device} → Proper device → {w : Words} {origin : Origin} → Made device w origin → Stands device (capacities w) (first_state origin) w
made_stands p (made_fresh of) = record { checked = of.checked refl; sized = refl; state = of.state; takes = fresh_takes p of }
made_stands {device} p (made_by_reading {memory} {bytes} of) = record {
  checked = of.checked refl;
  sized = refl;
  state = of.state refl;
  takes = subst (Takes device) (sym (same_capacities of.lengths))
      (read_roomy p (lengths_of memory) bytes (ap (λ (a : Answer). a.number) (sym of.answered))).takes;
}
made_stands p (made_elsewhere k takes) = record { checked = k; sized = refl; state = refl; takes = takes }

pub run_follows : {device : Device} → Proper device → {origin : Origin} {w : Words} {requests : List Request} {turns : List Turn} → Ran device origin w requests turns
    → Follows device (capacities w) (first_state origin) w requests turns
run_follows p ran = follows_from (made_stands p ran.made) ran.went
