-- Lists that are flat: that the walks list what they should where no node with a run is wrong, and base and delta are flat.
--
-- The argument. An edge is shown where its end has no run. Every shown entry of the compressed index stands in the part of its end, and as many are shown as the parts
-- of nodes with no run have places: so each place of such a part has a shown entry (a list without repeats that is within another and as long has all of it), and an
-- entry that stands in two parts would stand where the offsets do not let it. So such a part holds edges of its node, none twice.
-- The links of the shown edges of the delta are shown edges of the delta, none twice: so each is linked to, from a lower one or from the last of its ring. By
-- induction on the slot each is on the ring of its end, which the links do not leave.
use Rattle.std.specs.Prelude.{ℕ, zero, suc, ◌+◌, ◌-◌, ◌*◌, ◌≤◌, ◌<◌, ◌%◌, ◌≡◌, refl, Bool, true, false, cond, ◌&&◌, ◌⊎◌, List, [], ◌∷◌, ◌++◌, map, length, get_or, eqb, ltb, leb}
use Rattle.plain.specs.Library.{sym, ap, subst, ◌∙◌, inl, inr, ⊎_elim, length-map, length-append, arith, eq-eqb, eqb-true, eqb-false, lt-ltb, le-leb, ltb-true, leb-true}
use mathlib.Core.List.{map-append}
use Rattle.plain.specs.Numbers.{LIMIT}
use Rattle.plain.specs.declared.Counts.{Counts}
use Rattle.plain.specs.Lists.{member, distinct, from, keep, count}
use Rattle.plain.proofs.Laws.Booleans.{by_test, below_or_not, true_false, and_left, and_right, both_true, or_true}
use Rattle.plain.proofs.Laws.ListLaws.{member_first, member_later, member_append, member_mapped, member_source, member_keep, member_from, length_keep, length_from, distinct_full, distinct_left, distinct_right, distinct_keep, distinct_from}
use Rattle.shape.specs.Columns.{cell, end_at, adjacency_at, next_at, last_at, mark_at, offset_at}
use Rattle.shape.specs.Chains.{In, Seg, Ring}
use Rattle.shape.specs.Shape.{between, base_of, ring_of}
use Rattle.shape.specs.Checked.{Index, Indexed, Rings}
use Rattle.shape.proofs.Laws.Chains.{in_none, in_snoc, line_first, ring_last}
use Rattle.shape.proofs.Laws.Walking.{between_member}
use Rattle.shape.proofs.Laws.Frames.{offset_within}
use Rattle.shape.proofs.Laws.Indexing.{from_append}
use Rattle.shape.proofs.Laws.Taking.{keep_append, keep_passing}
use Rattle.validate_words.specs.Laws.Passing.{slots_from, slots_more, slots_none}
use Rattle.marks.specs.Marks.{Marked, Followed, Adds}
use Rattle.validate_words.specs.Climbs.{Linked, Picked}
use Rattle.validate.specs.Flat.{at_base, places, place_shown, base_entries, delta_links, PlaceReadable, EntryPlaced, CountReadable, BaseFlat, DeltaFlat, FlatReadable}
use Rattle.marks.specs.Laws.Following.{Following, follow_start, follow_done, follow_more, followed_once, followed_adds}

-- a bit that is not above another is set only where that is
pub bit_above : (a w : ℕ) → leb a (w % 2) ≡ true → eqb a 1 ≡ true → eqb (w % 2) 1 ≡ true
bit_above a w h q = let low = leb-true a (w % 2) h in let one = eqb-true a 1 q in eq-eqb (w % 2) 1 (omega arith)

-- a place by the three tests
pub place_tested : {ws : List ℕ} {ce cn bn i e : ℕ} → end_at ws e < bn → cell ws (4 * ce + 5 * cn) (end_at ws e) ≤ i
    → i < get_or ws (4 * ce + 5 * cn + end_at ws e + 1) 0 → EntryPlaced ws ce cn bn i e
place_tested {ws} {ce} {cn} {bn} {i} {e} low least most = record {
  end_below = low;
  least = least;
  most = let at : 4 * ce + 5 * cn + suc (end_at ws e) ≡ 4 * ce + 5 * cn + end_at ws e + 1 = omega arith in subst (λ (k : ℕ). i < get_or ws k 0) (sym at) most;
}

-- Of a column's entries from a up to b that pass a test, those before i have a property; they are marked, none twice, beside what was marked before.
pub record Marking (column : ℕ → ℕ) (test : ℕ → Bool) (P : ℕ → Type 0) (a b i : ℕ) (seen₀ seen : List ℕ) : Type 0 where
  pub least : a ≤ i
  pub follows : Following (λ e. true) (map column (keep test (slots_from a b))) seen₀ seen (map column (keep test (slots_from i b)))
  pub holds : (k : ℕ) → a ≤ k → k < i → test k ≡ true → P k

module _ (column : ℕ → ℕ) (test : ℕ → Bool) (P : ℕ → Type 0) (a b : ℕ) where
  pub marking_start : (seen : List ℕ) → Marking column test P a b a seen seen
  marking_start seen = record {
    least = omega arith;
    follows = follow_start (λ e. true) (map column (keep test (slots_from a b))) seen;
    holds = λ k l m. absurd (omega arith);
  }

  -- an entry and those after it
  rest_shown : (i : ℕ) → i < b → test i ≡ true → map column (keep test (slots_from i b)) ≡ column i ∷ map column (keep test (slots_from (i + 1) b))
  unfolding keep
  rest_shown i l q = rw (slots_more i b l, q)

  rest_hidden : (i : ℕ) → i < b → test i ≡ false → map column (keep test (slots_from i b)) ≡ map column (keep test (slots_from (i + 1) b))
  unfolding keep
  rest_hidden i l q = rw (slots_more i b l, q)

  -- an entry that does not pass the test is not looked at
  pub marking_skip : {i : ℕ} {seen₀ seen : List ℕ} → Marking column test P a b i seen₀ seen → i < b → test i ≡ false → Marking column test P a b (i + 1) seen₀ seen
  marking_skip {i} {seen₀} {seen} w l q = record {
    least = omega (arith, w.least);
    follows = subst (λ (r : List ℕ). Following (λ e. true) (map column (keep test (slots_from a b))) seen₀ seen r) (rest_hidden i l q) w.follows;
    holds = λ k low m t. ⊎_elim (λ c. w.holds k low c t) (λ (c : i ≤ k). let at : k ≡ i = omega arith in true_false (rw at at t) q) (below_or_not k i);
  }

  -- one that does is marked
  pub marking_more : {i : ℕ} {seen₀ seen exit : List ℕ} {answer : Bool} → Marking column test P a b i seen₀ seen → i < b → test i ≡ true → P i
      → Marked seen (column i) answer exit → answer ≡ true → length exit ≡ length seen → Marking column test P a b (i + 1) seen₀ exit
  marking_more {i} w l q p m h long = record {
    least = omega (arith, w.least);
    follows = follow_more w.follows (rest_shown i l q) refl m h long;
    holds = λ k low m t. ⊎_elim (λ c. w.holds k low c t) (λ (c : i ≤ k). let at : k ≡ i = omega arith in subst P (sym at) p) (below_or_not k i);
  }

  -- past the last
  pub marking_done : {i : ℕ} {seen₀ seen : List ℕ} → Marking column test P a b i seen₀ seen → b ≤ i
      → Followed (λ e. true) true (map column (keep test (slots_from a b))) seen₀ true seen
  unfolding keep
  marking_done {i} w l = follow_done w.follows true (rw (slots_none i b l))

-- the delta is flat
pub delta_done : (ws : List ℕ) (ce cn : ℕ) (counts : Counts) {e : ℕ} {seen₀ seen : List ℕ}
    → Marking (next_at ws ce) (at_base ws ce cn) (Linked ws ce counts.edges.base counts.edges.bound) counts.edges.base counts.edges.bound e seen₀ seen
    → counts.edges.bound ≤ e → DeltaFlat ws ce cn counts × Adds (delta_links ws ce cn counts) seen₀ seen
delta_done ws ce cn counts w l =
    let f = marking_done (next_at ws ce) (at_base ws ce cn) (Linked ws ce counts.edges.base counts.edges.bound) counts.edges.base counts.edges.bound w l in
    (record { linked = λ k low h q. w.holds k low (omega arith) q; once = followed_once f }, followed_adds f)

-- the base is flat: where no node has a run, and by its count
module _ (ws : List ℕ) (ce cn : ℕ) (counts : Counts) where
  abbrev Placing : ℕ → Type 0
  Placing i = EntryPlaced ws ce cn counts.nodes.base i (adjacency_at ws ce i)

  pub base_done : {i : ℕ} {seen₀ seen : List ℕ} → Marking (adjacency_at ws ce) (place_shown ws ce cn) Placing 0 counts.edges.base i seen₀ seen → counts.edges.base ≤ i
      → ((k : ℕ) → k < counts.edges.base → place_shown ws ce cn k ≡ true) ⊎ (length (places ws ce cn counts.nodes.base) ≡ count (place_shown ws ce cn) (from 0 counts.edges.base))
      → BaseFlat ws ce cn counts × Adds (base_entries ws ce cn counts.edges.base) seen₀ seen
  base_done {i} {seen₀} {seen} w l full =
      let be = counts.edges.base in
      let zero_less : be - 0 ≡ be = omega arith in
      let f = subst (λ (z : ℕ). Followed (λ e. true) true (map (adjacency_at ws ce) (keep (place_shown ws ce cn) (from 0 z))) seen₀ true seen) zero_less
      (marking_done (adjacency_at ws ce) (place_shown ws ce cn) Placing 0 be w l) in
      (record { placed = λ k h q. w.holds k (omega arith) (omega arith) q; once = followed_once f; full = full }, followed_adds f)

-- a list that a column maps into itself, none twice, is what it is mapped to
pub each_once : (column : ℕ → ℕ) (l : List ℕ) → distinct (map column l) ≡ true → ((k : ℕ) → In k l → In (column k) l)
    → (e : ℕ) → In e l → (k : ℕ) × (member k l ≡ true) × (column k ≡ e)
each_once column l once within e m =
    member_source column e l
    (distinct_full (map column l) l once
    (λ k h. let s = member_source column k l h in subst (λ (z : ℕ). In z l) s.2 (within s.0 s.1)) (omega (arith, length-map l column)) e m)

-- what a number kept of a range is
pub record Kept (test : ℕ → Bool) (a b k : ℕ) : Type 0 where
  pub least : a ≤ k
  pub below : k < b
  pub passes : test k ≡ true

module _ (test : ℕ → Bool) (a b : ℕ) where
  pub kept_in : (k : ℕ) → In k (keep test (from a (b - a))) → Kept test a b k
  kept_in k m =
      let h : (member k (from a (b - a)) && test k) ≡ true = sym (member_keep test k (from a (b - a))) ∙ m in
      let r : (leb a k && ltb k (a + (b - a))) ≡ true = sym (member_from k a (b - a)) ∙ and_left (member k (from a (b - a))) (test k) h in
      let low = leb-true a k (and_left (leb a k) (ltb k (a + (b - a))) r) in
      let high = ltb-true k (a + (b - a)) (and_right (leb a k) (ltb k (a + (b - a))) r) in
      record { least = low; below = omega arith; passes = and_right (member k (from a (b - a))) (test k) h }

  pub in_kept : (k : ℕ) → a ≤ k → k < b → test k ≡ true → In k (keep test (from a (b - a)))
  in_kept k low high h =
      member_keep test k (from a (b - a)) ∙ both_true (member_from k a (b - a) ∙ both_true (le-leb a k low) (lt-ltb k (a + (b - a)) (omega arith))) h

-- ---- rings

-- the links of a segment stay in it, up to the entry to which it leads
seg_first : (link : ℕ → ℕ) (e : ℕ) (xs : List ℕ) (t : ℕ) → Seg link e xs t → In e (xs ++ (t ∷ []))
seg_first link e [] t s = rw s (member_first t [])
seg_first link e (x ∷ xs) t s = rw s.0 (member_first x (xs ++ (t ∷ [])))

seg_closed : (link : ℕ → ℕ) (e : ℕ) (xs : List ℕ) (t p : ℕ) → Seg link e xs t → In p xs → In (link p) (xs ++ (t ∷ []))
unfolding member
seg_closed link e [] t p s m = in_none p m
seg_closed link e (x ∷ xs) t p s m =
    by_test (eqb p x)
    (λ q. subst (λ (z : ℕ). In (link z) (x ∷ (xs ++ (t ∷ [])))) (sym (eqb-true p x q)) (member_later (link x) x (xs ++ (t ∷ [])) (seg_first link (link x) xs t s.1)))
    (λ q. member_later (link p) x (xs ++ (t ∷ [])) (seg_closed link (link x) xs t p s.1 (rw q at m)))

-- and those of a ring in the ring
ring_closed : {link : ℕ → ℕ} {lo hi l : ℕ} {xs : List ℕ} → Ring link lo hi l xs → (p : ℕ) → In p xs → In (link p) xs
ring_closed (inl w) p m = in_none p (rw w.1 at m)
ring_closed {link} {l = l} {xs = xs} (inr w) p m =
    ⊎_elim (λ k. rw w.ends (seg_closed link (link l) w.front l p w.visits k)) (λ q. rw q (line_first w))
    (in_snoc p w.front l (rw w.ends at m))

module _ {ws : List ℕ} {ce cn : ℕ} {counts : Counts} (few : counts.edges.bound ≤ LIMIT)
    (low : (e : ℕ) → e < counts.edges.bound → end_at ws e < counts.nodes.bound)
    (rings : Rings ws ce counts.nodes.bound counts.edges.base counts.edges.bound) (f : DeltaFlat ws ce cn counts) where
  abbrev be : ℕ
  be = counts.edges.base

  abbrev eb : ℕ
  eb = counts.edges.bound

  -- the shown edges of the delta
  abbrev shown_edges : List ℕ
  shown_edges = keep (at_base ws ce cn) (from be (eb - be))

  -- each is linked to by one of them
  linked_to : (e : ℕ) → In e shown_edges → (k : ℕ) × (member k shown_edges ≡ true) × (next_at ws ce k ≡ e)
  linked_to =
      each_once (next_at ws ce) shown_edges f.once
      (λ k m. let s = kept_in (at_base ws ce cn) be eb k m in
      let link = f.linked k s.least s.below s.passes in
      in_kept (at_base ws ce cn) be eb (next_at ws ce k) link.least link.below (ap (λ (x : ℕ). eqb (mark_at ws ce cn x) 0) link.own ∙ s.passes))

  -- one that is on the ring of its end, if it is not the last, leads to one that is
  after_ring : (k : ℕ) → In k shown_edges → ((last_at ws ce (end_at ws k) ≡ k → ⊥) → In k (ring_of ws ce be eb (end_at ws k)))
      → In (next_at ws ce k) (ring_of ws ce be eb (end_at ws (next_at ws ce k)))
  after_ring k m on =
      let t = kept_in (at_base ws ce cn) be eb k m in
      let below = t.below in
      let link = f.linked k t.least t.below t.passes in
      let ring = rings.ring (end_at ws k) (low k below) in
      let there : In k (ring_of ws ce be eb (end_at ws k)) =
      by_test (eqb (last_at ws ce (end_at ws k)) k)
      (λ q. let at = eqb-true (last_at ws ce (end_at ws k)) k q in
      subst (λ (z : ℕ). In z (ring_of ws ce be eb (end_at ws k))) at (ring_last (λ none. omega arith) ring))
      (λ q. on (eqb-false (last_at ws ce (end_at ws k)) k q)) in
      subst (λ (x : ℕ). In (next_at ws ce k) (ring_of ws ce be eb x)) (sym link.own) (ring_closed ring k there)

  -- each is linked to from a lower one, or from the ring's last, so it is on the ring of its end
  on_ring : (n e : ℕ) → e < n → In e shown_edges → In e (ring_of ws ce be eb (end_at ws e))
  on_ring zero e l m = absurd (omega arith)
  on_ring (suc n) e l m =
      let s = linked_to e m in
      let k = s.0 in
      let at : next_at ws ce k ≡ e = s.2 in
      let t = kept_in (at_base ws ce cn) be eb k s.1 in
      subst (λ (z : ℕ). In z (ring_of ws ce be eb (end_at ws z))) at
      (after_ring k s.1 (λ other. let up = (f.linked k t.least t.below t.passes).up other in on_ring n k (omega arith) s.1))

  -- so what they are linked to is on the ring of its end
  pub link_there : (e : ℕ) → In e (delta_links ws ce cn counts) → In e (ring_of ws ce be eb (end_at ws e))
  link_there e m =
      let s = member_source (next_at ws ce) e shown_edges m in
      subst (λ (z : ℕ). In z (ring_of ws ce be eb (end_at ws z))) s.2 (after_ring s.0 s.1 (λ _. on_ring (suc s.0) s.0 (omega arith) s.1))

-- what shown edges are linked to is shown
pub link_shown : {ws : List ℕ} {ce cn : ℕ} {counts : Counts} → DeltaFlat ws ce cn counts → (e : ℕ) → In e (delta_links ws ce cn counts) → at_base ws ce cn e ≡ true
link_shown {ws} {ce} {cn} {counts} f e m =
    let be = counts.edges.base in
    let eb = counts.edges.bound in
    let s = member_source (next_at ws ce) e (keep (at_base ws ce cn) (from be (eb - be))) m in
    let t = kept_in (at_base ws ce cn) be eb s.0 s.1 in
    subst (λ (z : ℕ). at_base ws ce cn z ≡ true) s.2
    (ap (λ (x : ℕ). eqb (mark_at ws ce cn x) 0) (f.linked s.0 t.least t.below t.passes).own ∙ t.passes)

-- ---- base parts

-- the entries kept are shown
pub entry_shown : (ws : List ℕ) (ce cn be e : ℕ) → In e (base_entries ws ce cn be) → at_base ws ce cn e ≡ true
entry_shown ws ce cn be e m =
    let test = place_shown ws ce cn in
    let s = member_source (adjacency_at ws ce) e (keep test (from 0 be)) m in
    subst (λ (z : ℕ). at_base ws ce cn z ≡ true) s.2 (and_right (member s.0 (from 0 be)) (test s.0) (sym (member_keep test s.0 (from 0 be)) ∙ s.1))

-- offsets do not descend
offsets_up : {ws : List ℕ} {ce cn bn be : ℕ} → Indexed ws ce cn bn be → (x d : ℕ) → x + d ≤ bn → offset_at ws ce cn x ≤ offset_at ws ce cn (x + d)
offsets_up {ws} {ce} {cn} i x zero l = let q : x + zero ≡ x = omega arith in rw q (omega arith)
offsets_up {ws} {ce} {cn} i x (suc d) l =
    let q : x + suc d ≡ suc (x + d) = omega arith in
    rw q (omega (arith, offsets_up i x d (omega arith), i.ascends (x + d) (omega arith)))

offsets_mono : {ws : List ℕ} {ce cn bn be : ℕ} → Indexed ws ce cn bn be → (x y : ℕ) → x ≤ y → y ≤ bn → offset_at ws ce cn x ≤ offset_at ws ce cn y
offsets_mono {ws} {ce} {cn} i x y l h =
    let q : x + (y - x) ≡ y = omega arith in
    subst (λ (z : ℕ). offset_at ws ce cn x ≤ offset_at ws ce cn z) q (offsets_up i x (y - x) (omega arith))

-- an entry of the compressed index is an edge of the base
pub index_entry : {ws : List ℕ} {ce cn bn be : ℕ} → Index ws ce cn bn be → (i : ℕ) → i < be → adjacency_at ws ce i < be
index_entry (inl none) i l = absurd (omega (arith, none.1))
index_entry (inr x) i l = x.entries i l

-- where offsets are read they ascend, and are within the base
pub index_ascends : {ws : List ℕ} {ce cn bn be : ℕ} → Index ws ce cn bn be → (x : ℕ) → x < bn → offset_at ws ce cn x ≤ offset_at ws ce cn (suc x)
index_ascends (inl none) x l = absurd (omega (arith, none.0))
index_ascends (inr i) x l = i.ascends x l

pub index_within : {ws : List ℕ} {ce cn bn be : ℕ} → Index ws ce cn bn be → (x : ℕ) → x < bn → offset_at ws ce cn (suc x) ≤ be
index_within (inl none) x l = absurd (omega (arith, none.0))
index_within (inr i) x l = offset_within i (suc x) (omega arith)

-- an entry of the compressed index can be looked at
pub entry_readable : {ws : List ℕ} {ce cn : ℕ} {counts : Counts} {runless : Bool} {seen : List ℕ} → FlatReadable ws ce cn counts runless seen → (i : ℕ) → i < counts.edges.base
    → PlaceReadable ws ce cn counts.nodes.base (adjacency_at ws ce i) × (runless ≡ true → mark_at ws ce cn (end_at ws (adjacency_at ws ce i)) ≡ 0)
entry_readable {ws} {ce} {cn} {counts} r i l =
    let edges = r.axis.edges in
    let nodes = r.axis.nodes in
    let e = adjacency_at ws ce i in
    let low : e < counts.edges.bound = omega (arith, index_entry r.index i l, edges.base_within) in
    let end = r.ends_below e low in (
      record {
        sized = r.axis.sized;
        nodes_within = omega (arith, nodes.base_within, nodes.bound_within);
        below = omega (arith, low, edges.bound_within);
        end_within = omega (arith, end, nodes.bound_within);
      },
      λ h. r.no_run h (end_at ws e) end,
    )

-- and the places counted
pub count_readable : {ws : List ℕ} {ce cn : ℕ} {counts : Counts} {runless : Bool} {seen : List ℕ} → FlatReadable ws ce cn counts runless seen → CountReadable ws ce cn counts.nodes.base
count_readable {ws} {ce} {cn} {counts} r =
    let edges = r.axis.edges in
    let nodes = r.axis.nodes in
    let few = r.axis.sized.edges_within in
    record {
      sized = r.axis.sized;
      nodes_within = omega (arith, nodes.base_within, nodes.bound_within);
      ascends = λ x l. let one : suc x ≡ x + 1 = omega arith in subst (λ (z : ℕ). offset_at ws ce cn x ≤ offset_at ws ce cn z) one (index_ascends r.index x l);
      low = λ x l. let one : suc x ≡ x + 1 = omega arith in
          subst (λ (z : ℕ). offset_at ws ce cn z ≤ LIMIT) one (omega (arith, index_within r.index x l, edges.base_within, edges.bound_within, few));
    }

-- the same with another map of that length
pub flat_same : {ws : List ℕ} {ce cn : ℕ} {counts : Counts} {runless : Bool} {seen exit : List ℕ} → FlatReadable ws ce cn counts runless seen → length exit ≡ length seen
    → FlatReadable ws ce cn counts runless exit
flat_same r q = record {
  axis = r.axis;
  index = r.index;
  ends_below = r.ends_below;
  no_run = r.no_run;
  marks_long = omega (arith, r.marks_long);
}

-- a place of the part of a node with no run
pub place_there : (ws : List ℕ) (ce cn bn x i : ℕ) → x < bn → eqb (mark_at ws ce cn x) 0 ≡ true → offset_at ws ce cn x ≤ i → i < offset_at ws ce cn (suc x)
    → In i (places ws ce cn bn)
unfolding places
place_there ws ce cn zero x i l q least most = absurd (omega arith)
place_there ws ce cn (suc n) x i l q least most =
    let part = cond (eqb (mark_at ws ce cn n) 0) (from (offset_at ws ce cn n) (offset_at ws ce cn (suc n) - offset_at ws ce cn n)) [] in
    member_append i (places ws ce cn n) part
    ∙ ⊎_elim (λ k. rw (place_there ws ce cn n x i k q least most))
    (λ k. let at : x ≡ n = omega arith in
    let a = offset_at ws ce cn x in
    let b = offset_at ws ce cn (suc x) in
    let here : In i (cond (eqb (mark_at ws ce cn x) 0) (from a (b - a)) []) =
    rw q (member_from i a (b - a) ∙ both_true (le-leb a i least) (lt-ltb i (a + (b - a)) (omega arith))) in
    rw (subst (λ (z : ℕ). In i (cond (eqb (mark_at ws ce cn z) 0) (from (offset_at ws ce cn z) (offset_at ws ce cn (suc z) - offset_at ws ce cn z)) [])) at here, or_true (member i (places ws ce cn n))))
    (below_or_not x n)

-- The places of the nodes before x are counted; they are no more than come before x.
pub record Counted (ws : List ℕ) (ce cn bn x n : ℕ) : Type 0 where
  pub within : x ≤ bn
  pub is : n ≡ length (places ws ce cn x)
  pub low : n ≤ offset_at ws ce cn x

pub counted_start : (ws : List ℕ) (ce cn bn : ℕ) → Counted ws ce cn bn 0 0
unfolding places
counted_start ws ce cn bn = record { within = omega arith; is = refl; low = omega arith }

-- the last
pub counted_done : (ws : List ℕ) (ce cn bn : ℕ) {x n : ℕ} → Counted ws ce cn bn x n → bn ≤ x → n ≡ length (places ws ce cn bn)
counted_done ws ce cn bn {x} w l = let q : x ≡ bn = omega (arith, w.within) in w.is ∙ ap (λ (z : ℕ). length (places ws ce cn z)) q

-- one node more
pub counted_on : (ws : List ℕ) (ce cn bn : ℕ) {x n step : ℕ} → Counted ws ce cn bn x n → x < bn → offset_at ws ce cn x ≤ offset_at ws ce cn (x + 1)
    → Picked (mark_at ws ce cn x) 0 (offset_at ws ce cn (x + 1) - offset_at ws ce cn x) 0 step → Counted ws ce cn bn (x + 1) (n + step)
unfolding places
counted_on ws ce cn bn {x} {n} {step} w l up p =
    let one : suc x ≡ x + 1 = omega arith in
    let a = offset_at ws ce cn x in
    let part = cond (eqb (mark_at ws ce cn x) 0) (from a (offset_at ws ce cn (suc x) - a)) [] in
    let size : (step ≡ length part) × (step ≤ offset_at ws ce cn (x + 1) - a) =
    by_test (eqb (mark_at ws ce cn x) 0)
    (λ h. let is : step ≡ offset_at ws ce cn (x + 1) - a = p.is ∙ rw h in
    (is ∙ ap (λ (z : ℕ). offset_at ws ce cn z - a) (sym one) ∙ sym (rw h (length_from a (offset_at ws ce cn (suc x) - a))), omega arith))
    (λ h. let is : step ≡ 0 = p.is ∙ rw h in (is ∙ sym (rw h), omega arith)) in
    let long : n + step ≡ length (places ws ce cn (suc x)) = omega (arith, w.is, size.0, length-append (places ws ce cn x) part) in
    record { within = omega arith; is = long ∙ ap (λ (z : ℕ). length (places ws ce cn z)) one; low = omega (arith, w.low, size.1) }

-- An entry of a base part: where it stands.
record Stands (ws : List ℕ) (ce cn bn be x e : ℕ) : Type 0 where
  i : ℕ
  node_below : x < bn
  least : offset_at ws ce cn x ≤ i
  most : i < offset_at ws ce cn (suc x)
  below : i < be
  at : adjacency_at ws ce i ≡ e

module _ {ws : List ℕ} {ce cn : ℕ} {counts : Counts} (index : Index ws ce cn counts.nodes.base counts.edges.base) (f : BaseFlat ws ce cn counts) where
  abbrev bn : ℕ
  bn = counts.nodes.base

  abbrev ben : ℕ
  ben = counts.edges.base

  abbrev shown : ℕ → Bool
  shown = place_shown ws ce cn

  zero_less : ben - 0 ≡ ben
  zero_less = omega arith

  kept : (k : ℕ) → In k (keep shown (from 0 ben)) → Kept shown 0 ben k
  kept k m = kept_in shown 0 ben k (subst (λ (z : ℕ). In k (keep shown (from 0 z))) (sym zero_less) m)

  stands : (x e : ℕ) → In e (base_of ws ce cn bn x) → Stands ws ce cn bn ben x e
  unfolding base_of
  stands x e m =
      by_test (ltb x bn) (λ q. found (ltb-true x bn q) (rw q at m)) (λ q. in_none e (rw q at m))
    where
      found : x < bn → In e (between (cell ws ce) (offset_at ws ce cn x) (offset_at ws ce cn (suc x))) → Stands ws ce cn bn ben x e
      found l k =
          let s = between_member (cell ws ce) (offset_at ws ce cn x) (offset_at ws ce cn (suc x)) e k in
          record { i = s.0; node_below = l; least = s.1; most = s.2; below = omega (arith, s.2, index_within index x l); at = s.3 }

  -- a place of the part of a node with no run has an entry whose end has none
  all_shown : (x i : ℕ) → x < bn → eqb (mark_at ws ce cn x) 0 ≡ true → offset_at ws ce cn x ≤ i → i < offset_at ws ce cn (suc x) → shown i ≡ true
  all_shown x i l q least most =
      let low : i < ben = omega (arith, index_within index x l) in
      ⊎_elim (λ every. every i low)
      (λ same. (kept i
      (distinct_full (keep shown (from 0 ben)) (places ws ce cn bn) (distinct_keep shown (from 0 ben) (distinct_from 0 ben)) inside
      (omega (arith, same, length_keep shown (from 0 ben))) i (place_there ws ce cn bn x i l q least most))).passes)
      f.full
    where
      inside : (k : ℕ) → In k (keep shown (from 0 ben)) → In k (places ws ce cn bn)
      inside k m =
          let s = kept k m in
          let p = f.placed k s.below s.passes in
          place_there ws ce cn bn (end_at ws (adjacency_at ws ce k)) k p.end_below s.passes p.least p.most

  module _ (x : ℕ) (plain : eqb (mark_at ws ce cn x) 0 ≡ true) where
    -- only in the part of its end
    pub base_own : (e : ℕ) → In e (base_of ws ce cn bn x) → end_at ws e ≡ x
    base_own e m = apart index
      where
        s : Stands ws ce cn bn ben x e
        s = stands x e m

        p : EntryPlaced ws ce cn bn s.i e
        p = subst (λ (z : ℕ). EntryPlaced ws ce cn bn s.i z) s.at (f.placed s.i s.below (all_shown x s.i s.node_below plain s.least s.most))

        apart : Index ws ce cn bn ben → end_at ws e ≡ x
        apart (inl none) = absurd (omega (arith, none.0, s.node_below))
        apart (inr ok) =
            ⊎_elim
            (λ (l : end_at ws e < x). absurd (omega (arith, offsets_mono ok (suc (end_at ws e)) x (omega arith) (omega (arith, s.node_below)), p.most, s.least)))
            (λ (l : x ≤ end_at ws e). ⊎_elim
            (λ (k : x < end_at ws e). absurd (omega (arith, offsets_mono ok (suc x) (end_at ws e) (omega arith) (omega (arith, p.end_below)), p.least, s.most)))
            (λ (k : end_at ws e ≤ x). omega arith) (below_or_not x (end_at ws e)))
            (below_or_not (end_at ws e) x)

    -- none twice
    pub base_once : distinct (base_of ws ce cn bn x) ≡ true
    unfolding base_of distinct
    base_once = by_test (ltb x bn) (λ q. rw q (part (ltb-true x bn q))) (λ q. rw q)
      where
        part : x < bn → distinct (between (cell ws ce) (offset_at ws ce cn x) (offset_at ws ce cn (suc x))) ≡ true
        part l =
            let a = offset_at ws ce cn x in
            let n = offset_at ws ce cn (suc x) - a in
            let rest = ben - a - n in
            let within = index_within index x l in
            let up = index_ascends index x l in
            let whole : ben ≡ a + (n + rest) = omega arith in
            let start : 0 + a ≡ a = omega arith in
            let adj = adjacency_at ws ce in
            let split : from 0 ben ≡ from 0 a ++ (from a n ++ from (a + n) rest) =
            ap (from 0) whole ∙ from_append 0 a (n + rest) ∙ ap (λ (z : ℕ). from 0 a ++ from z (n + rest)) start ∙ ap (λ (t : List ℕ). from 0 a ++ t) (from_append a n rest) in
            let mine : keep shown (from a n) ≡ from a n =
            keep_passing shown (from a n)
            (λ i m. let r : (leb a i && ltb i (a + n)) ≡ true = sym (member_from i a n) ∙ m in
            let low = leb-true a i (and_left (leb a i) (ltb i (a + n)) r) in
            let high = ltb-true i (a + n) (and_right (leb a i) (ltb i (a + n)) r) in
            all_shown x i l plain low (omega arith)) in
            let entries : base_entries ws ce cn ben ≡ map adj (keep shown (from 0 a)) ++ (map adj (from a n) ++ map adj (keep shown (from (a + n) rest))) =
            ap (λ (t : List ℕ). map adj (keep shown t)) split ∙ ap (map adj) (keep_append shown (from 0 a) (from a n ++ from (a + n) rest))
            ∙ map-append adj (keep shown (from 0 a)) (keep shown (from a n ++ from (a + n) rest))
            ∙ ap (λ (t : List ℕ). map adj (keep shown (from 0 a)) ++ map adj t) (keep_append shown (from a n) (from (a + n) rest) ∙ ap (λ (t : List ℕ). t ++ keep shown (from (a + n) rest)) mine)
            ∙ ap (λ (t : List ℕ). map adj (keep shown (from 0 a)) ++ t) (map-append adj (from a n) (keep shown (from (a + n) rest))) in
            distinct_left (map adj (from a n)) (map adj (keep shown (from (a + n) rest)))
            (distinct_right (map adj (keep shown (from 0 a))) (map adj (from a n) ++ map adj (keep shown (from (a + n) rest))) (ap distinct (sym entries) ∙ f.once))

  -- an edge of the base
  pub base_low : (x e : ℕ) → In e (base_of ws ce cn bn x) → e < ben
  base_low x e m = let s = stands x e m in subst (λ (z : ℕ). z < ben) s.at (index_entry index s.i s.below)

  -- and each shown entry is in the part of its end
  pub base_there : (e : ℕ) → In e (base_entries ws ce cn ben) → In e (base_of ws ce cn bn (end_at ws e))
  unfolding base_of
  base_there e m = rw (lt-ltb (end_at ws e) bn p.end_below) (subst (λ (z : ℕ). In z entries) at (member_mapped (cell ws ce) i part inside))
    where
      s : (k : ℕ) × (member k (keep shown (from 0 ben)) ≡ true) × (adjacency_at ws ce k ≡ e)
      s = member_source (adjacency_at ws ce) e (keep shown (from 0 ben)) m

      i : ℕ
      i = s.0

      at : adjacency_at ws ce i ≡ e
      at = s.2

      p : EntryPlaced ws ce cn bn i e
      p = let t = kept i s.1 in subst (λ (z : ℕ). EntryPlaced ws ce cn bn i z) at (f.placed i t.below t.passes)

      a : ℕ
      a = offset_at ws ce cn (end_at ws e)

      b : ℕ
      b = offset_at ws ce cn (suc (end_at ws e))

      part : List ℕ
      part = from a (b - a)

      entries : List ℕ
      entries = map (cell ws ce) part

      inside : member i part ≡ true
      inside = member_from i a (b - a) ∙ both_true (le-leb a i p.least) (lt-ltb i (a + (b - a)) (omega (arith, p.most, p.least)))
