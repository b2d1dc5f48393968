-- A strip on a fresh store of lotstrip's capacities, and the image of what survives it: what they ask and what they come to.
use Rattle.std.specs.Prelude.{ℕ, ◌+◌, ◌*◌, ◌/◌, ◌%◌, ◌≤◌, ◌≡◌, List, length}
use Rattle.plain.specs.Lists.{written}
use Rattle.plain.specs.Operations.{operation_words, operations}
use Rattle.plain.specs.Step.{State, run, answers}
use Rattle.plain.specs.Compaction.{survivors}
use Rattle.plain.specs.Image.{image, record_width, edges_start}
use Rattle.plain.specs.Memory.{live_words, axis_length}
use Rattle.plain.specs.Calls.{fresh_state}
use Rattle.plain.specs.Lotstrip.{lotstrip_capacities}
use Rattle.shape.specs.Shape.{Words, capacities, shape_of, plain_of}
use Rattle.shape.specs.Checked.{Checked}
use Rattle.shape.specs.Steps.{state_of}

-- the plain lists of a strip booked on a fresh store, and what the strip answers
abbrev pub booked : List ℕ → State
booked words = run lotstrip_capacities fresh_state (operations words)

abbrev pub booking_answers : List ℕ → List ℕ
booking_answers words = answers lotstrip_capacities fresh_state (operations words)

-- "compacts, and prints the image": that of what survives, which writing gives with no compaction (document 02, No. 2)
abbrev pub closing : List ℕ → List ℕ
closing words = image (survivors (booked words).lists)

-- the least widths of so many nodes and edges
abbrev pub node_width : ℕ
node_width = 9

abbrev pub edge_width : ℕ
edge_width = 10

-- Bytes that hold any such image: the counts and the nodes' payloads, the edges' records, and an entry of each edge in either direction.
abbrev pub image_room : ℕ
image_room =
    (edges_start lotstrip_capacities.nodes + record_width node_width * lotstrip_capacities.edges + 2 * (edge_width * lotstrip_capacities.edges)) / 8

-- ---- the strip

-- The memory of one kind of slot has no word to spare.
pub record Exact (capacity : ℕ) (payloads live : List ℕ) : Type 0 where
  pub payloads_long : length payloads ≡ capacity
  pub live_long : length live ≡ live_words capacity

-- The memory lent has no word to spare, the strip is whole, and its answers have room.
pub record Bookable (w : Words) (words answers : List ℕ) : Type 0 where
  pub nodes_exact : Exact lotstrip_capacities.nodes w.nodes w.live_nodes
  pub edges_exact : Exact lotstrip_capacities.edges w.lows w.live_edges
  pub highs_long : length w.highs ≡ lotstrip_capacities.edges
  pub outgoing_long : length w.outgoing ≡ axis_length lotstrip_capacities
  pub incoming_long : length w.incoming ≡ axis_length lotstrip_capacities
  pub whole : length words % operation_words ≡ 0
  pub room : 2 * (length words / operation_words) ≤ length answers

-- A store that a strip led to.
pub record Held (w : Words) : Type 0 where
  pub checked : Checked w
  pub sized : capacities w ≡ lotstrip_capacities

pub record Booked (words entry : List ℕ) (v : Words) (exit : List ℕ) : Type 0 where
  pub held : Held v
  pub state : state_of (shape_of v) ≡ booked words
  pub answered : exit ≡ written (booking_answers words) entry

-- ---- the image

-- A store that a strip led to, and bytes for any image of lotstrip's.
pub record Printable (w : Words) (bytes : List ℕ) : Type 0 where
  pub held : Held w
  pub room : image_room ≤ length bytes

pub record Printed (w : Words) (entry : List ℕ) (size : ℕ) (exit : List ℕ) : Type 0 where
  pub sized : size ≡ length (image (survivors (plain_of (shape_of w))))
  pub bytes : exit ≡ written (image (survivors (plain_of (shape_of w)))) entry

-- ---- all of it

-- What a whole strip comes to: its answers, and the image of what survives it.
pub record Closing (words answers bytes answers' : List ℕ) (size : ℕ) (bytes' : List ℕ) : Type 0 where
  pub answered : answers' ≡ written (booking_answers words) answers
  pub sized : size ≡ length (closing words)
  pub short : length (closing words) ≤ image_room
  pub printed : bytes' ≡ written (closing words) bytes
