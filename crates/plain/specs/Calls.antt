-- The calls that change a store or speak of its memory, each with the lengths of what is lent: number, value, answer words, plain lists afterwards.
-- Document 01, "The strip", the table and the order of refusals. The reads are in `Reads`, the calls on maps in `Renumbering`.
use Rattle.std.specs.Prelude.{ℕ, zero, suc, ◌*◌, ◌%◌, true, cond, not, List, [], ◌∷◌, length, eqb, ltb}
use Rattle.plain.specs.Library.{Option, none, some}
use Rattle.plain.specs.declared.Answer.{Answer}
use Rattle.plain.specs.declared.Record.{Record}
use Rattle.plain.specs.declared.Total.{Total}
use Rattle.plain.specs.Numbers.{done, no_store, too_short, ragged, unreadable}
use Rattle.plain.specs.Plain.{Plain, empty, node_bound, edge_bound, node_flags, edge_flags}
use Rattle.plain.specs.Operations.{operations, operation_words}
use Rattle.plain.specs.Step.{Capacities, State, run, answers}
use Rattle.plain.specs.Reads.{Reply, lent, live_edges, no_record, no_total}
use Rattle.plain.specs.Compaction.{survivors, of_survivors, compacted, renumbering, adjacency}
use Rattle.plain.specs.Image.{image, parsed, broken_image, nodes_in, edges_in}
use Rattle.plain.specs.Memory.{Slice, first_short, Lengths, other_slices}
use Rattle.plain.specs.Devices.{Device}

-- ---- number 1

-- "words are no store | 1 | rule 1 to 7 | everything": first of all refusals. `rule` is the first broken rule of the check, 0 where the words are a store.
abbrev pub judged : ℕ → Answer → Answer
judged zero answer = answer
judged (suc rule) answer = record { number = no_store; value = suc rule }

abbrev pub judged_reply : ℕ → Reply → Reply
judged_reply zero reply = reply
judged_reply (suc rule) reply = record { number = no_store; value = suc rule; words = [] }

abbrev pub judged_record : ℕ → Record → Record
judged_record zero r = r
judged_record (suc rule) r = no_record no_store (suc rule)

abbrev pub judged_total : ℕ → Total → Total
judged_total zero t = t
judged_total (suc rule) t = no_total no_store (suc rule)

-- "The check, the yes or no reads of a store, bounds and counts: 1."
unfoldable pub check : ℕ → Answer
check rule = judged rule (record { number = done; value = 0 })

-- ---- the strip

-- What a strip comes to: number and value, the words that the answer slice then starts with, and the store.
pub record Stripped : Type 0 where
  pub number : ℕ
  pub value : ℕ
  pub words : List ℕ
  pub after : State

-- "Order: strip 1, 3, 2." Refused, it leaves everything. "A single call is a strip of one."
unfoldable pub strip : Capacities → State → List ℕ → ℕ → Stripped
strip caps s words room =
    let ops = operations words in
    let needed = 2 * length ops in
    cond (not (eqb (length words % operation_words) 0)) (record { number = ragged; value = length words; words = []; after = s })
    (cond (ltb room needed) (record { number = too_short; value = needed; words = []; after = s })
    (record { number = done; value = 0; words = answers caps s ops; after = run caps s ops }))

-- "words are no store | 1 | rule 1 to 7 | everything", of a strip
abbrev pub judged_strip : ℕ → State → Stripped → Stripped
judged_strip zero s stripped = stripped
judged_strip (suc rule) s stripped = record { number = no_store; value = suc rule; words = []; after = s }

-- ---- fresh

-- the state of a fresh store: "A fresh store is empty with bounds 0"; it is compact
abbrev pub fresh_state : State
fresh_state = record { lists = empty; compact = true }

abbrev pub short_answer : Option ℕ → Answer
short_answer none = record { number = done; value = 0 }
short_answer (some needed) = record { number = too_short; value = needed }

-- refused with the device's number where more nodes or edges are asked for than it takes, "nodes before edges"; else as it goes on
unfoldable pub within : Device → Capacities → Answer → Answer
within device caps answer =
    cond (ltb device.limits.nodes caps.nodes) (record { number = device.number; value = caps.nodes })
    (cond (ltb device.limits.edges caps.edges) (record { number = device.number; value = caps.edges }) answer)

-- "Fresh: 13, nodes before edges, then 2"; on the skid 15 "in place of 13 when lent memory exceeds its limits". Done, the state is `fresh_state`.
unfoldable pub fresh : Device → Lengths → Answer
fresh device l = within device l.capacities (short_answer (first_short (other_slices l)))

-- ---- compaction

-- What a compaction comes to: number and value, the words that each lent slice then starts with, and the store.
pub record Compacted : Type 0 where
  pub number : ℕ
  pub value : ℕ
  pub node_map : List ℕ
  pub edge_map : List ℕ
  pub work : List ℕ
  pub after : State

-- "A node map and an edge map, as long as the bounds before, and a work slice of twice the live edge count."
abbrev pub compaction_slices : Plain → ℕ → ℕ → ℕ → List Slice
compaction_slices p node_map edge_map work =
    record { needs = node_bound p; has = node_map } ∷ record { needs = edge_bound p; has = edge_map }
    ∷ record { needs = 2 * live_edges p; has = work } ∷ []

-- "A compaction that refuses writes nothing at all."
abbrev pub compacting : Option ℕ → State → Compacted
compacting (some needed) s = record { number = too_short; value = needed; node_map = []; edge_map = []; work = []; after = s }
compacting none s =
    let p = s.lists in
    record {
      number = done;
      value = 0;
      node_map = renumbering (node_flags p);
      edge_map = renumbering (edge_flags p);
      work = adjacency (survivors p);
      after = record { lists = compacted p; compact = true };
    }

-- "1, then 2 in that order", of the lengths of the three lent slices. "Dead slots are usable again afterwards": the bounds are then the counts.
-- "Compaction works as `Graph::compact`."
unfoldable pub compaction : State → ℕ → ℕ → ℕ → Compacted
compaction s node_map edge_map work = compacting (first_short (compaction_slices s.lists node_map edge_map work)) s

-- "words are no store | 1 | rule 1 to 7 | everything", of a compaction
abbrev pub judged_compaction : ℕ → State → Compacted → Compacted
judged_compaction zero s compacted = compacted
judged_compaction (suc rule) s compacted =
    record { number = no_store; value = suc rule; node_map = []; edge_map = []; work = []; after = s }

-- ---- the image

-- "Writing an image now answers for every store, and gives what compaction followed by writing would give": the image of the survivors. "It needs a work slice of
-- twice the live transfer count, checked for length before the image's slice": 1, 2, 2, by the lengths of the work slice and of the image's slice.
unfoldable pub write_image : Plain → ℕ → ℕ → Reply
write_image p work room =
    let bytes = image (survivors p) in
    cond (ltb work (2 * live_edges p)) (record { number = too_short; value = 2 * live_edges p; words = [] }) (lent room (length bytes) bytes)

-- refused with 12 and the rule, if one is broken; else as it goes on
abbrev pub readable : ℕ → Answer → Answer
readable zero answer = answer
readable (suc rule) answer = record { number = unreadable; value = suc rule }

-- "a payload slice shorter than its count being too short, then the other slices"
abbrev pub reading_slices : ℕ → ℕ → Lengths → List Slice
reading_slices n m l =
    record { needs = n; has = l.capacities.nodes } ∷ record { needs = m; has = l.capacities.edges } ∷ other_slices l

-- what an image of these counts asks of a device
abbrev pub asked : ℕ → ℕ → Capacities
asked n m = record { nodes = n; edges = m }

-- "Reading: 13, 12, 2 (13 and 2 nodes before edges ..)", by the image's first broken rule and its two counts. On the skid it is 15 "and the value asked for, lots before
-- transfers, in place of 13 when lent memory exceeds its limits, and right after 12 when an image does". A box refuses no image so: rule 2 of 12 has (law `boxes_read`).
unfoldable pub reading : Device → Lengths → ℕ → ℕ → ℕ → Answer
reading device l rule n m =
    within device l.capacities
    (readable rule
    (within device (asked n m)
    (short_answer (first_short (reading_slices n m l)))))

unfoldable pub read_image : Device → Lengths → List ℕ → Answer
read_image device l bytes = reading device l (broken_image bytes) (nodes_in bytes) (edges_in bytes)

-- the state that reading leaves where it is done: "image reading puts the image's nodes, edges and lists in place of all, the bounds being its two counts",
-- "and the result equals what compaction leaves"
abbrev pub read_state : List ℕ → State
read_state bytes = record { lists = of_survivors (parsed bytes); compact = true }
