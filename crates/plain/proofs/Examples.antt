-- The specification's list of examples, specs/Examples.antt, is proved: each of them computes.
use Rattle.std.specs.Prelude.{refl}
use Rattle.plain.specs.Lists.{member, without, distinct, sum, from, keep, all, count, joined, append_at, delete_at, set_all}
use Rattle.plain.specs.Plain.{node_added, edge_added, edge_removed, edges_removed, node_removed, redirected, moved, payload_set}
use Rattle.plain.specs.Operations.{unused, decoded, operations}
use Rattle.plain.specs.Step.{step, run, answers}
use Rattle.plain.specs.Reads.{walk, is_compact, node_bound_answer, edge_bound_answer, contains_node, contains_edge, live_from, find, total}
use Rattle.plain.specs.Renumbering.{lookup, composed, compose}
use Rattle.plain.specs.Compaction.{rank, renumbering_from, survivors, of_survivors, compacted, adjacency}
use Rattle.plain.specs.Bits.{bits_of, value_of, bits, field_at, fields_at, row, bytes_of, pack, least_from, least_width}
use Rattle.plain.specs.Image.{edge_bits, image_bits, image, records_at, cut, parsed, at_their_nodes, lists_right, broken_image}
use Rattle.plain.specs.Memory.{first_short}
use Rattle.plain.specs.Calls.{strip, within, fresh, compaction, write_image, reading, read_image}
use Rattle.plain.specs.Lotstrip.{words_of, codes, digits_before, hexadecimal, answer_lines, lotstrip_run, lotstrip}
use Rattle.plain.specs.History.{history_from, history as history_on, call}
use Rattle.plain.specs.Examples.{Examples}

pub examples : Examples
unfolding member without distinct sum from keep all count joined append_at delete_at set_all node_added edge_added edge_removed edges_removed node_removed redirected moved payload_set unused decoded operations step run answers walk is_compact node_bound_answer edge_bound_answer contains_node contains_edge live_from find total lookup composed compose rank renumbering_from survivors of_survivors compacted adjacency bits_of value_of bits field_at fields_at row bytes_of pack least_from least_width edge_bits image_bits image records_at cut parsed at_their_nodes lists_right broken_image first_short strip within fresh compaction write_image reading read_image words_of codes digits_before hexadecimal answer_lines lotstrip_run lotstrip history_from history_on call
examples = record {
  m1 = (refl, refl, refl);
  m2 = refl;
  m3 = (refl, refl, refl, refl, refl, refl);
  m4 = (refl, refl);
  m5 = refl;
  m6 = refl;
  m7 = refl;
  m8 = refl;
  m9 = (refl, refl, refl);
  m10 = refl;
  m11 = (refl, refl, refl, refl, refl, refl, refl, refl);
  m12 = refl;
  first_found = (refl, refl);
  totals = (refl, refl, refl, refl);
  low_above_high = refl;
  low_then_high = refl;
  working_image = (refl, refl, refl, refl);
  highs_first = refl;
  skid_fresh = (refl, refl, refl, refl, refl, refl);
  skid_reading = (refl, refl, refl, refl, refl, refl, refl, refl, refl, refl, refl);
}
