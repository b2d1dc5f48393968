-- The reads of a node's list, way out by way out: what is refused, what is answered, and what is written.
-- ---- a node at or above the bound, and one below it
use Rattle.std.specs.Prelude.{ℕ, ◌≤◌, ◌<◌, ◌≡◌, refl, true, false, Result, Ok, Err, MatchResult, List, [], map, length, get_or}
use Rattle.plain.specs.Library.{sym, ap, ◌∙◌, arith, length-map}
use Rattle.plain.specs.declared.TraversalDirection.{TraversalDirection}
use Rattle.plain.specs.declared.Sums.{Sums}
use Rattle.plain.specs.declared.refusals.Rule.{Rule}
use Rattle.plain.specs.declared.refusals.Rule.TheVariants.{Sizes, Live, Ends, Index, Rings, Runs, Walks}
use Rattle.plain.specs.declared.refusals.Refusal.{Refusal}
use Rattle.plain.specs.declared.refusals.Refusal.TheVariants.{TooShort, OutOfRangeNode}
use Rattle.plain.specs.Answers.{answer_of, sums_total_of}
use Rattle.plain.specs.Numbers.{NONE}
use Rattle.plain.specs.Lists.{member, written}
use Rattle.plain.specs.Plain.{end_of, opposite}
use Rattle.plain.specs.Reads.{Reply, answered, no_total, listing, walk, neighbors, degree, total}
use Rattle.plain.specs.Refusals.{rule_number}
use Rattle.plain.proofs.Laws.CallCases.{walk_absent, walk_there, neighbors_absent, neighbors_there, degree_absent, degree_there, total_absent, total_there}
use Rattle.plain.proofs.Laws.ListLaws.{map_same}
use Rattle.shape.specs.Shape.{Words, node_live, axis_words, lists}
use Rattle.shape.specs.Checked.{Checked}
use Rattle.shape.proofs.Laws.Reading.{plain_end}
use Rattle.shape.proofs.Laws.Slots.{nodes_told, node_bound_of, absent_slot}
use Rattle.cursor.specs.Cursor.{word, Within}
use Rattle.adjacency.specs.Reads.{sums_in}
use Rattle.adjacency.specs.Laws.Walk.{walk_below as edge_below}
use Rattle.adjacency.specs.Laws.StoreWalks.{checked_walkable, list_is_walk}
use Rattle.validate.specs.Judging.{Judged}
use Rattle.view.specs.Calls.{Answered, Totalled, Replied}
use Rattle.view.specs.Laws.Calls.{answer_refuses, answer_done, total_refuses, total_done, reply_refuses, reply_absent, list_short, list_done}
use Rattle.view_walks.specs.Walks.{list_in, far_ends_in, Placed, no_store, past, there, Counted, refused, short, fits}

module _ (w : Words) (d : TraversalDirection) (x : ℕ) where
  degree_past : w.counts.nodes.bound ≤ x → record { number = 5; value = NONE } ≡ degree d (lists w) x
  degree_past h = sym (degree_absent d (lists w) x 0 (absent_slot (nodes_told w) x h))

  degree_below : x < w.counts.nodes.bound → {n : ℕ} → n ≡ length (list_in d w x) → answered n ≡ degree d (lists w) x
  degree_below l is = ap answered is ∙ sym (degree_there d (lists w) x 0 (rw (node_bound_of w) l))

  -- a total is refused past the bound
  total_past : w.counts.nodes.bound ≤ x → no_total 5 NONE ≡ total d (lists w) x
  total_past h = sym (total_absent d (lists w) x (absent_slot (nodes_told w) x h))

  -- and is both sums of the list below it
  total_below : x < w.counts.nodes.bound → {sums : Sums} → sums ≡ sums_in d (lists w) x
      → record { number = 0; value = 0; low = sums.low; high = sums.high } ≡ total d (lists w) x
  total_below l {sums} is =
      ap (λ (s : Sums). record { number = 0; value = 0; low = s.low; high = s.high }) is ∙ sym (total_there d (lists w) x (rw (node_bound_of w) l))

  module _ (room : ℕ) where
    walk_past : w.counts.nodes.bound ≤ x → walk d (lists w) x room ≡ record { number = 5; value = NONE; words = [] }
    walk_past h = walk_absent d (lists w) x room (absent_slot (nodes_told w) x h)

    walk_below : x < w.counts.nodes.bound → walk d (lists w) x room ≡ listing room (list_in d w x)
    walk_below l = walk_there d (lists w) x room (rw (node_bound_of w) l)

    neighbors_past : w.counts.nodes.bound ≤ x → neighbors d (lists w) x room ≡ record { number = 5; value = NONE; words = [] }
    neighbors_past h = neighbors_absent d (lists w) x room (absent_slot (nodes_told w) x h)

    neighbors_below : x < w.counts.nodes.bound → neighbors d (lists w) x room ≡ listing room (far_ends_in d w x)
    neighbors_below l = neighbors_there d (lists w) x room (rw (node_bound_of w) l)

-- as many far ends as entries
far_ends_long : (w : Words) (d : TraversalDirection) (x : ℕ) → length (list_in d w x) ≡ length (far_ends_in d w x)
far_ends_long w d x = sym (length-map (list_in d w x) (end_of (opposite d) (lists w)))

-- a broken rule is not number 0
pub no_zero : (rule : Rule) → rule_number rule ≡ 0 → ⊥
no_zero Sizes q = omega arith
no_zero Live q = omega arith
no_zero Ends q = omega arith
no_zero Index q = omega arith
no_zero Rings q = omega arith
no_zero Runs q = omega arith
no_zero Walks q = omega arith

-- ---- a node that is refused, and one that is not

-- where no rule is broken, a node beside the bound
pub placed : {w : Words} {x : ℕ} → Judged w 0 → (r : Result Unit Refusal)
    → MatchResult r (λ _. x < w.counts.nodes.bound) (λ refusal. (w.counts.nodes.bound ≤ x) × (refusal ≡ OutOfRangeNode)) → Placed w x r
placed j (Ok done) below = there j below
placed j (Err refusal) at = rw at.1 (past j at.0)

module _ {w : Words} {x : ℕ} where
  pub degree_refused : (d : TraversalDirection) {r : Refusal} → Placed w x (Err r) → Answered w (λ w. degree d (lists w) x) (answer_of (Err r))
  degree_refused d (no_store {rule} j) = answer_refuses j (no_zero rule) refl
  degree_refused d (past j b) = answer_done j refl (degree_past w d x b)

  pub total_refused : (d : TraversalDirection) {r : Refusal} → Placed w x (Err r) → Totalled w (λ w. total d (lists w) x) (sums_total_of (Err r))
  total_refused d (no_store {rule} j) = total_refuses j (no_zero rule) refl
  total_refused d (past j b) = total_done j refl (total_past w d x b)

  module _ {done : Unit} where
    pub placed_checked : Placed w x (Ok done) → Checked w
    placed_checked (there j b) = j.checked refl

    pub placed_below : Placed w x (Ok done) → x < w.counts.nodes.bound
    placed_below (there j b) = b

    pub degree_done : (d : TraversalDirection) → Placed w x (Ok done) → {n : ℕ} → n ≡ length (list_in d w x) → Answered w (λ w. degree d (lists w) x) (answer_of (Ok n))
    degree_done d (there j b) is = answer_done j refl (degree_below w d x b is)

    pub total_done_at : (d : TraversalDirection) → Placed w x (Ok done) → {sums : Sums} → sums ≡ sums_in d (lists w) x
        → Totalled w (λ w. total d (lists w) x) (sums_total_of (Ok sums))
    total_done_at d (there j b) is = total_done j refl (total_below w d x b is)

    -- a list beside the room
    pub count_short : {d : TraversalDirection} {room n : ℕ} → Placed w x (Ok done) → n ≡ length (list_in d w x) → room < n → Counted w d x room (Err (TooShort n))
    count_short (there j b) size l = short j b size l

    pub count_fits : {d : TraversalDirection} {room n : ℕ} → Placed w x (Ok done) → n ≡ length (list_in d w x) → n ≤ room → Counted w d x room (Ok n)
    count_fits (there j b) size l = fits j b size l

-- ---- a list that fits

module _ {w : Words} {d : TraversalDirection} {x room n : ℕ} where
  pub fits_checked : Counted w d x room (Ok n) → Checked w
  fits_checked (fits j b size l) = j.checked refl

  pub fits_below : Counted w d x room (Ok n) → x < w.counts.nodes.bound
  fits_below (fits j b size l) = b

  -- each of its edges has an end in the other direction, which is that of the plain lists
  module _ (c : Counted w d x room (Ok n)) where
    list_below : (e : ℕ) → member e (list_in d w x) ≡ true → e < w.counts.edges.bound
    list_below e m =
        edge_below (checked_walkable (fits_checked c) d x (fits_below c)) (get_or (node_live w) x false) e (rw (list_is_walk w d x (fits_below c)) at m)

    pub far_within : Within (axis_words (opposite d) w) (list_in d w x)
    far_within e m =
        let k = fits_checked c in
        omega (arith, list_below e m, (k.axis (opposite d)).sized.room, k.edges.bounded.bound_within)

    pub far_ends_are : map (word (axis_words (opposite d) w)) (list_in d w x) ≡ far_ends_in d w x
    far_ends_are =
        sym (map_same (end_of (opposite d) (lists w)) (word (axis_words (opposite d) w)) (list_in d w x) (λ e m. plain_end w (opposite d) e (list_below e m)))

-- a read of a node that is 5 above the bound and lists as many words below it as the node's list has entries
module _ {w : Words} {d : TraversalDirection} {x : ℕ} {read : Words → ℕ → Reply} (list : List ℕ)
    (past_is : (room : ℕ) → w.counts.nodes.bound ≤ x → read w room ≡ record { number = 5; value = NONE; words = [] })
    (below-is : (room : ℕ) → x < w.counts.nodes.bound → read w room ≡ listing room list) (long : length (list_in d w x) ≡ length list) {entry : List ℕ}
  where
    -- a refusal is the read's, and writes nothing
    read_refused : {r : Refusal} → Counted w d x (length entry) (Err r) → Replied w read entry (answer_of (Err r)) entry
    read_refused (refused (no_store {rule} j)) = reply_refuses j (no_zero rule) refl
    read_refused (refused (past j b)) = reply_absent j refl (past_is (length entry) b)
    read_refused (short j b size l) = list_short j refl list (below-is (length entry) b) (size ∙ long) l

    -- and else the list is written
    read_done : {exit : List ℕ} {n : ℕ} → Counted w d x (length entry) (Ok n) → exit ≡ written list entry → Replied w read entry (answer_of (Ok n)) exit
    read_done (fits j b size l) wrote = list_done j refl list (below-is (length entry) b) (size ∙ long) l wrote

module _ {w : Words} {d : TraversalDirection} {x : ℕ} {entry : List ℕ} where
  pub walk_refused : {r : Refusal} → Counted w d x (length entry) (Err r) → Replied w (λ w room. walk d (lists w) x room) entry (answer_of (Err r)) entry
  walk_refused = read_refused (list_in d w x) (walk_past w d x) (walk_below w d x) refl

  pub walk_done : {exit : List ℕ} {n : ℕ} → Counted w d x (length entry) (Ok n) → exit ≡ written (list_in d w x) entry
      → Replied w (λ w room. walk d (lists w) x room) entry (answer_of (Ok n)) exit
  walk_done = read_done (list_in d w x) (walk_past w d x) (walk_below w d x) refl

  pub neighbors_refused : {r : Refusal} → Counted w d x (length entry) (Err r) → Replied w (λ w room. neighbors d (lists w) x room) entry (answer_of (Err r)) entry
  neighbors_refused = read_refused (far_ends_in d w x) (neighbors_past w d x) (neighbors_below w d x) (far_ends_long w d x)

  pub neighbors_done : {exit : List ℕ} {n : ℕ} → Counted w d x (length entry) (Ok n) → exit ≡ written (far_ends_in d w x) entry
      → Replied w (λ w room. neighbors d (lists w) x room) entry (answer_of (Ok n)) exit
  neighbors_done = read_done (far_ends_in d w x) (neighbors_past w d x) (neighbors_below w d x) (far_ends_long w d x)
