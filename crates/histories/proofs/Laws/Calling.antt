-- Laws on the definitions of calls: reading into a store's own memory, and the numbers that a call of a history can answer.
use Rattle.std.specs.Prelude.{ℕ, ◌*◌, ◌%◌, ◌≤◌, ◌≡◌, List, ◌∷◌, length, eqb, ltb}
use Rattle.plain.specs.Library.{sym, ap, ◌∙◌, ⊎_elim, Option, arith, ltb-true, eqb-false}
use Rattle.plain.specs.declared.TraversalDirection.TheVariants.{Outgoing, Incoming}
use Rattle.plain.specs.Plain.{Plain}
use Rattle.plain.specs.Operations.{operation_words, operations}
use Rattle.plain.specs.Step.{Capacities, State}
use Rattle.plain.specs.Image.{broken_image, nodes_in, edges_in}
use Rattle.plain.specs.Memory.{Slice, first_short, Lengths, other_slices, exact}
use Rattle.plain.specs.Devices.{Device, box, Takes}
use Rattle.plain.specs.Calls.{strip, short_answer, within, readable, compaction_slices, compaction, asked, reading, read_image}
use Rattle.plain.specs.History.{Call, Strip, Compaction, Reading, call}
use Rattle.plain.proofs.Laws.Booleans.{by_test}
use Rattle.plain.specs.Laws.CallCases.{LongEnough, FirstShort, no_slice, slice_fits, short_here, short_later}
use Rattle.plain.proofs.Laws.CallCases.{all_long, long_or_short, compaction_short, compaction_done as compaction_fits}
use Rattle.plain.proofs.Laws.Devices.{image_taken}
use Rattle.plain.specs.Laws.Histories.{ReadCase, unreadable, many_nodes, many_edges, read_too_short, read_fits}
use Rattle.plain.proofs.Laws.Histories.{read_case}
use Rattle.shape.specs.Shape.{Words, lengths_of}
use Rattle.shape.specs.Checked.{Checked}
use Rattle.histories.specs.Follows.{CanAnswer, strip_done, strip_ragged, strip_short, compaction_done, compaction_nodes, compaction_edges, compaction_work, reading_done, reading_broken, reading_many_nodes, reading_many_edges, reading_nodes, reading_edges}

-- ---- reading into a store's own memory: the slices other than the payloads are never short

-- two slices before others
behind_two : (a b : Slice) (slices others : List Slice) → first_short slices ≡ first_short others → first_short (a ∷ b ∷ slices) ≡ first_short (a ∷ b ∷ others)
unfolding first_short
behind_two a b slices others same = rw same

-- a memory with no word to spare is long enough
exact_long : (caps : Capacities) → LongEnough (other_slices (exact caps))
exact_long caps =
    let itself : (n : ℕ) → n ≤ n = λ n. omega arith in
    slice_fits (itself _) (slice_fits (itself _) (slice_fits (itself _) (slice_fits (itself _) (slice_fits (itself _) no_slice))))

-- so it is read into as one with no word to spare
pub roomy_read : (device : Device) (l : Lengths) → LongEnough (other_slices l) → (bytes : List ℕ)
    → read_image device l bytes ≡ read_image device (exact l.capacities) bytes
unfolding read_image reading
roomy_read device l long bytes =
    ap (λ (short : Option ℕ). within device l.capacities (readable (broken_image bytes) (within device (asked (nodes_in bytes) (edges_in bytes)) (short_answer short))))
    (behind_two (record { needs = nodes_in bytes; has = l.capacities.nodes }) (record { needs = edges_in bytes; has = l.capacities.edges })
    (other_slices l) (other_slices (exact l.capacities)) (all_long long ∙ sym (all_long (exact_long l.capacities))))

-- the memory of a checked store is long enough
pub checked_long : {w : Words} → Checked w → LongEnough (other_slices (lengths_of w))
checked_long k =
    slice_fits k.highs_long
    (slice_fits k.nodes.live_long (slice_fits k.edges.live_long (slice_fits (k.axis Outgoing).sized.room (slice_fits (k.axis Incoming).sized.room no_slice))))

-- ---- the numbers that calls can answer

module _ (device : Device) (caps : Capacities) (s : State) where
  -- 3, 2 or done
  strip_numbers : (words : List ℕ) (room : ℕ) → CanAnswer device caps s.lists (Strip words room) (strip caps s words room).number
  unfolding strip
  strip_numbers words room =
      by_test (eqb (length words % operation_words) 0)
      (λ q. rw q (by_test (ltb room (2 * length (operations words))) (λ r. rw r (strip_short (ltb-true room (2 * length (operations words)) r))) (λ r. rw r strip_done)))
      (λ q. rw q (strip_ragged (eqb-false (length words % operation_words) 0 q)))

  -- 2 where one of the three slices is too short, or done
  too_short : {node_map edge_map work n : ℕ} → FirstShort (compaction_slices s.lists node_map edge_map work) n
      → CanAnswer device caps s.lists (Compaction node_map edge_map work) 2
  too_short (short_here h) = compaction_nodes h
  too_short (short_later k (short_here h)) = compaction_edges h
  too_short (short_later k (short_later l (short_here h))) = compaction_work h
  too_short (short_later k (short_later l (short_later m none_left))) = elim none_left [ ]

  compaction_numbers : (node_map edge_map work : ℕ)
      → CanAnswer device caps s.lists (Compaction node_map edge_map work) (compaction s node_map edge_map work).number
  compaction_numbers node_map edge_map work =
      ⊎_elim (λ long. rw (compaction_fits s node_map edge_map work long) compaction_done)
      (λ short. rw (compaction_short s node_map edge_map work short.0 short.1) (too_short short.1))
      (long_or_short (compaction_slices s.lists node_map edge_map work))

  -- 12, the device's number for the image, 2 for want of capacity, or done: the other slices are just long enough
  reading_numbers : (bytes : List ℕ) {number value : ℕ} → ReadCase device caps bytes number value → CanAnswer device caps s.lists (Reading bytes) number
  reading_numbers bytes (unreadable e) = reading_broken (λ z. let q = sym e ∙ z in omega arith)
  reading_numbers bytes (many_nodes e h) = reading_many_nodes e h
  reading_numbers bytes (many_edges e h) = reading_many_edges e h
  reading_numbers bytes (read_fits e f) = reading_done
  reading_numbers bytes (read_too_short e (short_here h)) = reading_nodes h
  reading_numbers bytes (read_too_short e (short_later k (short_here h))) = reading_edges h
  reading_numbers bytes (read_too_short e (short_later k (short_later l (short_here h)))) = absurd (omega arith)
  reading_numbers bytes (read_too_short e (short_later k (short_later l (short_later m (short_here h))))) = absurd (omega arith)
  reading_numbers bytes (read_too_short e (short_later k (short_later l (short_later m (short_later n (short_here h)))))) = absurd (omega arith)
  reading_numbers bytes (read_too_short e (short_later k (short_later l (short_later m (short_later n (short_later o (short_here h))))))) = absurd (omega arith)
  reading_numbers bytes (read_too_short e (short_later k (short_later l (short_later m (short_later n (short_later o (short_later p (short_here h)))))))) =
      absurd (omega arith)
  reading_numbers bytes (read_too_short e (short_later k (short_later l (short_later m (short_later n (short_later o (short_later p (short_later q none_left)))))))) =
      elim none_left [ ]

  pub call_numbers : Takes device caps → (c : Call) → CanAnswer device caps s.lists c (call device caps s c).number
  unfolding call
  call_numbers few (Strip words room) = strip_numbers words room
  call_numbers few (Compaction node_map edge_map work) = compaction_numbers node_map edge_map work
  call_numbers few (Reading bytes) = reading_numbers bytes (read_case device caps few bytes)

-- a box never answers 13: it takes the image of every store
pub never_13 : {caps : Capacities} {p : Plain} {c : Call} {number : ℕ} → CanAnswer box caps p c number → number ≡ 13 → ⊥
never_13 strip_done is = omega arith
never_13 (strip_ragged h) is = omega arith
never_13 (strip_short h) is = omega arith
never_13 compaction_done is = omega arith
never_13 (compaction_nodes h) is = omega arith
never_13 (compaction_edges h) is = omega arith
never_13 (compaction_work h) is = omega arith
never_13 reading_done is = omega arith
never_13 (reading_broken h) is = omega arith
never_13 (reading_many_nodes {bytes} image h) is = let few = (image_taken bytes image).nodes in omega arith
never_13 (reading_many_edges {bytes} image h) is = let few = (image_taken bytes image).edges in omega arith
never_13 (reading_nodes h) is = omega arith
never_13 (reading_edges h) is = omega arith
