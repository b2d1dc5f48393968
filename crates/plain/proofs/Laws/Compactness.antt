-- The compact flag: where it is set, every slot is live. So the image of a compact store, read, gives its lists back.
use Rattle.std.specs.Prelude.{ℕ, ◌*◌, ◌%◌, ◌≡◌, refl, true, List, [], ◌∷◌, length, get_or, replicate, eqb, ltb}
use Rattle.plain.specs.Library.{sym, ap, ◌∙◌, Option, none, some, length-set}
use Rattle.std.proofs.lemmas.Bool.{false≢true}
use Rattle.std.proofs.Math.Seq.{map-set_same}
use Rattle.plain.specs.declared.EdgePayload.{EdgePayload}
use Rattle.plain.specs.declared.Operation.{Operation}
use Rattle.plain.specs.Plain.{Plain, EdgeSlot, no_edge, payload_set}
use Rattle.plain.specs.Operations.{operation_words, operations}
use Rattle.plain.specs.Step.{Capacities, Outcome, State, step, stepped, run}
use Rattle.plain.specs.Compaction.{Survivors, survivors, of_survivors}
use Rattle.plain.specs.Image.{image, parsed}
use Rattle.plain.specs.Memory.{first_short, exact}
use Rattle.plain.specs.Calls.{strip, fresh_state, compacting, compaction, compaction_slices, read_image, read_state}
use Rattle.plain.specs.Devices.{Device, Takes, Proper}
use Rattle.plain.specs.History.{Call, Strip, Compaction, Reading, call, history_from, history}
use Rattle.plain.proofs.Laws.Booleans.{by_test, and_left, and_right}
use Rattle.plain.specs.Laws.Cases.{Case, add_node_full, add_node, add_edge_inverted, add_edge_source_absent, add_edge_source_removed, add_edge_target_absent, add_edge_target_removed, add_edge_full, add_edge, remove_edge_absent, remove_edge_removed, remove_edge, remove_node_absent, remove_node_removed, remove_node, redirect_edge_absent, redirect_edge_removed, redirect_node_absent, redirect_node_removed, redirect_same, redirect, move_onto_itself, move_old_absent, move_nothing, move_new_absent, move_new_removed, move, set_payload_inverted, set_payload_absent, set_payload, unknown}
use Rattle.plain.proofs.Laws.Cases.{case_of}
use Rattle.plain.proofs.Laws.Compacting.{node_flags_of, edge_flags_of, node_bound_of, edge_bound_of, compacted_nodes_live, compacted_edges_live, compacted_node_bound, compacted_edge_bound}
use Rattle.plain.specs.Laws.AllLive.{AllLive}
use Rattle.plain.proofs.Laws.AllLive.{lists_read_back}
use Rattle.plain.specs.Laws.Histories.{AllLegal}
use Rattle.plain.proofs.Laws.Histories.{history_well_formed}
use Rattle.plain.proofs.Laws.Devices.{box_takes}
use Rattle.plain.specs.Laws.Compactness.{Honest}

payload_set_live : (e : ℕ) (v : EdgePayload) (p : Plain) → AllLive p → AllLive (payload_set e v p)
unfolding payload_set
payload_set_live e v p h =
    let slot : EdgeSlot = record { payload = v; live = (get_or p.edges e no_edge).live } in
    record {
      nodes = h.nodes;
      edges = map-set_same (λ (s : EdgeSlot). s.live) p.edges e slot no_edge refl ∙ h.edges
          ∙ ap (λ (n : ℕ). replicate n true) (sym (length-set p.edges e slot));
    }

-- an outcome that keeps a store compact keeps every slot live
case_live : {caps : Capacities} {p : Plain} {operation : Operation} {o : Outcome} → Case caps p operation o → o.keeps_compact ≡ true → AllLive p
    → AllLive o.lists
case_live (add_node_full k) c h = h
case_live (add_node k) c h = absurd (false≢true c)
case_live (add_edge_inverted o) c h = h
case_live (add_edge_source_absent o k) c h = h
case_live (add_edge_source_removed o k) c h = h
case_live (add_edge_target_absent o k l) c h = h
case_live (add_edge_target_removed o k l) c h = h
case_live (add_edge_full o k l m) c h = h
case_live (add_edge o k l m) c h = absurd (false≢true c)
case_live (remove_edge_absent k) c h = h
case_live (remove_edge_removed k) c h = h
case_live (remove_edge k) c h = absurd (false≢true c)
case_live (remove_node_absent k) c h = h
case_live (remove_node_removed k) c h = h
case_live (remove_node k) c h = absurd (false≢true c)
case_live (redirect_edge_absent k) c h = h
case_live (redirect_edge_removed k) c h = h
case_live (redirect_node_absent k l) c h = h
case_live (redirect_node_removed k l) c h = h
case_live (redirect_same k l m) c h = h
case_live (redirect k l m) c h = absurd (false≢true c)
case_live (move_onto_itself k) c h = h
case_live (move_old_absent k l) c h = h
case_live (move_nothing k l m) c h = h
case_live (move_new_absent k l m n) c h = h
case_live (move_new_removed k l m n) c h = h
case_live (move k l m n) c h = absurd (false≢true c)
case_live (set_payload_inverted o) c h = h
case_live (set_payload_absent o k) c h = h
case_live {p = p} (set_payload {e} {v} o k) c h = payload_set_live e v p h
case_live unknown c h = h

stepped_honest : (caps : Capacities) (s : State) (operation : Operation) → Honest s → Honest (stepped caps s operation)
stepped_honest caps s operation h =
    let keeps = (step caps s.lists operation).keeps_compact in
    record {
      all_live = λ c. case_live (case_of caps s.lists operation) (and_right s.compact keeps c) (h.all_live (and_left s.compact keeps c));
    }

run_honest : (caps : Capacities) (s : State) (ops : List Operation) → Honest s → Honest (run caps s ops)
unfolding run
run_honest caps s [] h = h
run_honest caps s (x ∷ ops) h = run_honest caps (stepped caps s x) ops (stepped_honest caps s x h)

survivors_live : (s : Survivors) → AllLive (of_survivors s)
survivors_live s = record {
  nodes = node_flags_of s ∙ ap (λ (n : ℕ). replicate n true) (sym (node_bound_of s));
  edges = edge_flags_of s ∙ ap (λ (n : ℕ). replicate n true) (sym (edge_bound_of s));
}

compacting_honest : (short : Option ℕ) (s : State) → Honest s → Honest (compacting short s).after
compacting_honest (some needed) s h = h
compacting_honest none s h = record {
  all_live = λ c. record {
    nodes = compacted_nodes_live s.lists ∙ ap (λ (n : ℕ). replicate n true) (sym (compacted_node_bound s.lists));
    edges = compacted_edges_live s.lists ∙ ap (λ (n : ℕ). replicate n true) (sym (compacted_edge_bound s.lists));
  };
}

strip_honest : (caps : Capacities) (s : State) (words : List ℕ) (room : ℕ) → Honest s → Honest (strip caps s words room).after
unfolding strip
strip_honest caps s words room h =
    by_test (eqb (length words % operation_words) 0) (λ q. rw q (by_test (ltb room (2 * length (operations words))) (λ r. rw r h) (λ r. rw r (run_honest caps s (operations words) h))))
    (λ q. rw q h)

call_honest : (device : Device) (caps : Capacities) (s : State) (c : Call) → Honest s → Honest (call device caps s c).after
unfolding call compaction
call_honest device caps s (Strip words room) h = strip_honest caps s words room h
call_honest device caps s (Compaction node_map edge_map work) h = compacting_honest (first_short (compaction_slices s.lists node_map edge_map work)) s h
call_honest device caps s (Reading bytes) h =
    by_test (eqb (read_image device (exact caps) bytes).number 0) (λ q. rw q (record { all_live = λ c. survivors_live (parsed bytes) })) (λ q. rw q h)

history_from_honest : (device : Device) (caps : Capacities) (s : State) (calls : List Call) → Honest s → Honest (history_from device caps s calls)
unfolding history_from
history_from_honest device caps s [] h = h
history_from_honest device caps s (c ∷ calls) h = history_from_honest device caps (call device caps s c).after calls (call_honest device caps s c h)

-- in every history a compact store has no dead slot
pub compact_all_live : (device : Device) (caps : Capacities) (calls : List Call) → (history device caps calls).compact ≡ true → AllLive (history device caps calls).lists
unfolding history
compact_all_live device caps calls = (history_from_honest device caps fresh_state calls (record { all_live = λ c. record { nodes = refl; edges = refl } })).all_live

-- reading the image that a compact store of a history writes gives its lists back
pub compact_read_back : {device : Device} → Proper device → (caps : Capacities) → Takes device caps → {calls : List Call} → AllLegal calls → (history device caps calls).compact ≡ true
    → (read_state (image (survivors (history device caps calls).lists))).lists ≡ (history device caps calls).lists
compact_read_back {device} p caps t {calls} l c =
    let few = box_takes p t in
    lists_read_back caps (history device caps calls).lists (history_well_formed p caps t l) (compact_all_live device caps calls c) few.nodes few.edges
