-- The six rules that refuse an image: what each says, that an image is refused by the first one broken, and examples of each.
-- ---- what the rules say
use Rattle.std.specs.Prelude.{ℕ, ◌≤◌, ◌<◌, ◌≡◌, refl, Bool, true, false, cond, not, ◌&&◌, ◌||◌, ◌⊎◌, List, map, length, get_or, eqb, ltb, leb}
use Rattle.plain.specs.Library.{ap, ⊎_elim, length-map, get_or-map, arith, ltb-true, lt-ltb, le-ltb, le-leb, leb-true, eqb-true, eq-eqb, ne_eqb, not-false}
use Rattle.std.proofs.Common.{true≢false}
use Rattle.std.proofs.Math.Bool.{and-eq-true_iff, and-false, or-true}
use borrow.Author.Tests.{ltb-false}
use Rattle.plain.specs.Numbers.{LIMIT}
use Rattle.plain.specs.Lists.{member, distinct, from, all, count, joined}
use Rattle.plain.specs.Compaction.{EdgeRecord, source_of, target_of}
use Rattle.plain.specs.Bits.{bits_of, value_of, bits, field_at, fields_at, bytes_for, least_from, least_width}
use Rattle.plain.specs.Image.{nodes_in, edges_in, records_at, cut, parsed, record_right, at_their_nodes, lists_right, broken_image}
use Rattle.plain.proofs.Laws.Booleans.{refuted, and_left, and_right, both_true}
use Rattle.plain.proofs.Laws.ListLaws.{all_places, all_at}
use Rattle.plain.specs.Laws.Compacting.{no_ends}
use Rattle.plain.specs.Laws.Below.{Below}
use Rattle.plain.proofs.Laws.Below.{below_of}
use Rattle.plain.specs.Laws.ImageBits.{record_low, record_high}
use Rattle.plain.proofs.Laws.ImageBits.{length_records_at}
use Rattle.plain.specs.Laws.Refusals.{Counted, Ended, Padded, Readable, Refusals, Sized, highs_in, lows_in, padding_in, size_in, sources_in, targets_in}

-- ---- each rule's test

-- Rule 5 of one edge holds.
record Right (n : ℕ) (e : EdgeRecord) : Type 0 where
  source_below : e.source < n
  target_below : e.target < n
  weights_in_order : e.payload.low ≤ e.payload.high

right_test : {n : ℕ} {e : EdgeRecord} → Right n e → record_right n e ≡ true
right_test {n} {e} h =
    both_true (lt-ltb e.source n h.source_below) (both_true (lt-ltb e.target n h.target_below) (le-leb e.payload.low e.payload.high h.weights_in_order))

test_right : (n : ℕ) (e : EdgeRecord) → record_right n e ≡ true → Right n e
test_right n e q =
    let target : Bool = ltb e.target n in
    let weights : Bool = leb e.payload.low e.payload.high in
    let rest = and_right (ltb e.source n) (target && weights) q in
    record {
      source_below = ltb-true e.source n (and_left (ltb e.source n) (target && weights) q);
      target_below = ltb-true e.target n (and_left target weights rest);
      weights_in_order = leb-true e.payload.low e.payload.high (and_right target weights rest);
    }

-- a number of each edge, as many as there are edges
pub length_edges_in : (bytes : List ℕ) (f : EdgeRecord → ℕ) → length (map f (parsed bytes).edges) ≡ edges_in bytes
unfolding parsed
length_edges_in bytes f = simp (length-map, length_records_at)

-- a bound on a number of each edge, said of each place or of the list
pub below_edges : (bytes : List ℕ) (f : EdgeRecord → ℕ) {n : ℕ} → ((e : ℕ) → e < edges_in bytes → get_or (map f (parsed bytes).edges) e 0 < n)
    → Below n (map f (parsed bytes).edges)
below_edges bytes f h = below_of (map f (parsed bytes).edges) (λ e k. h e (omega (arith, length_edges_in bytes f)))

-- Six tests that all fail.
record Six (a b c d e f : Bool) : Type 0 where
  first : a ≡ false
  second : b ≡ false
  third : c ≡ false
  fourth : d ≡ false
  fifth : e ≡ false
  sixth : f ≡ false

six : (a b c d e f : Bool) → ◌≡◌ {A = ℕ} (cond a 1 (cond b 2 (cond c 3 (cond d 4 (cond e 5 (cond f 6 0)))))) 0 → Six a b c d e f
six true b c d e f q = absurd (omega arith)
six false true c d e f q = absurd (omega arith)
six false false true d e f q = absurd (omega arith)
six false false false true e f q = absurd (omega arith)
six false false false false true f q = absurd (omega arith)
six false false false false false true q = absurd (omega arith)
six false false false false false false q = record { first = refl; second = refl; third = refl; fourth = refl; fifth = refl; sixth = refl }

-- both parts of a disjunction fail where it does
neither : (a b : Bool) → (a || b) ≡ false → (a ≡ false) × (b ≡ false)
neither true b e = absurd (true≢false e)
neither false b e = (refl, e)

module _ (bytes : List ℕ) where
  test₁ : 4 ≤ length bytes → ltb (length bytes) 4 ≡ false
  test₁ h = le-ltb (length bytes) 4 h

  test₂ : Counted bytes → (ltb LIMIT (nodes_in bytes) || ltb LIMIT (edges_in bytes)) ≡ false
  test₂ c = rw (le-ltb LIMIT (nodes_in bytes) c.nodes_within) (le-ltb LIMIT (edges_in bytes) c.edges_within)

  test₃ : Sized bytes → not (eqb (length bytes) (bytes_for (size_in bytes))) ≡ false
  test₃ c = ap not (eq-eqb (length bytes) (bytes_for (size_in bytes)) c.length_right)

  test₄ : Padded bytes → not (eqb (padding_in bytes) 0) ≡ false
  test₄ c = ap not (eq-eqb (padding_in bytes) 0 c.padding_clear)

  -- an edge of the image, below the edge count
  edge_in : ℕ → EdgeRecord
  edge_in e = get_or (parsed bytes).edges e no_ends

  -- a number of it
  of_edge : (f : EdgeRecord → ℕ) (e : ℕ) → get_or (map f (parsed bytes).edges) e (f no_ends) ≡ f (edge_in e)
  unfolding edge_in
  of_edge f e = get_or-map f (parsed bytes).edges e no_ends

  -- rule 5 of each edge
  right_at : all (record_right (nodes_in bytes)) (parsed bytes).edges ≡ true → (e : ℕ) → e < edges_in bytes → Right (nodes_in bytes) (edge_in e)
  unfolding edge_in
  right_at q e h =
      test_right (nodes_in bytes) (get_or (parsed bytes).edges e no_ends) (all_at (record_right (nodes_in bytes)) (parsed bytes).edges no_ends q e
      (omega (arith, length_edges_in bytes source_of, length-map (parsed bytes).edges source_of)))

  test₅ : Ended bytes → not (all (record_right (nodes_in bytes)) (parsed bytes).edges) ≡ false
  unfolding edge_in
  test₅ c =
      ap not (all_places (record_right (nodes_in bytes)) (parsed bytes).edges no_ends
      (λ e k. let low : e < edges_in bytes = omega (arith, length_edges_in bytes source_of, length-map (parsed bytes).edges source_of) in
      right_test {n = nodes_in bytes} {e = get_or (parsed bytes).edges e no_ends} (record {
        source_below = omega (arith, of_edge source_of e, c.sources_below e low);
        target_below = omega (arith, of_edge target_of e, c.targets_below e low);
        weights_in_order = omega (arith, of_edge record_low e, of_edge record_high e, c.in_order e low);
      })))

  test₆ : Readable bytes → not (lists_right (sources_in bytes) (parsed bytes).outs && lists_right (targets_in bytes) (parsed bytes).ins) ≡ false
  test₆ c = rw (c.outs_right, c.ins_right)

  -- ---- the first broken rule

  -- under 4 bytes: 1
  pub refused_1 : length bytes < 4 → broken_image bytes ≡ 1
  unfolding broken_image
  refused_1 h = rw (lt-ltb (length bytes) 4 h)

  -- a count above 32,768: 2
  pub refused_2 : 4 ≤ length bytes → (LIMIT < nodes_in bytes) ⊎ (LIMIT < edges_in bytes) → broken_image bytes ≡ 2
  unfolding broken_image
  refused_2 h o =
      let above : (ltb LIMIT (nodes_in bytes) || ltb LIMIT (edges_in bytes)) ≡ true =
      ⊎_elim (λ l. rw (lt-ltb LIMIT (nodes_in bytes) l)) (λ l. rw (lt-ltb LIMIT (edges_in bytes) l) (or-true (ltb LIMIT (nodes_in bytes)))) o in
      rw (test₁ h, above)

  -- another length than the counts say: 3
  pub refused_3 : Counted bytes → (length bytes ≡ bytes_for (size_in bytes) → ⊥) → broken_image bytes ≡ 3
  unfolding broken_image
  refused_3 c h = rw (test₁ c.four, test₂ c, ne_eqb (length bytes) (bytes_for (size_in bytes)) h)

  -- padding set: 4
  pub refused_4 : Sized bytes → (padding_in bytes ≡ 0 → ⊥) → broken_image bytes ≡ 4
  unfolding broken_image
  refused_4 c h = rw (test₁ c.counted.four, test₂ c.counted, test₃ c, ne_eqb (padding_in bytes) 0 h)

  -- an end not below n, or a low above its high: 5
  pub refused_5 : Padded bytes → (e : ℕ) → e < edges_in bytes
      → (nodes_in bytes ≤ get_or (sources_in bytes) e 0) ⊎ ((nodes_in bytes ≤ get_or (targets_in bytes) e 0) ⊎ (get_or (highs_in bytes) e 0 < get_or (lows_in bytes) e 0))
      → broken_image bytes ≡ 5
  unfolding broken_image
  refused_5 c e h o =
      let astray : all (record_right (nodes_in bytes)) (parsed bytes).edges ≡ false =
      refuted _ (λ q. let right = right_at q e h in
      ⊎_elim (λ l. omega (arith, of_edge source_of e, right.source_below))
      (⊎_elim (λ l. omega (arith, of_edge target_of e, right.target_below))
      (λ l. omega (arith, of_edge record_low e, of_edge record_high e, right.weights_in_order))) o) in
      rw (test₁ c.sized.counted.four, test₂ c.sized.counted, test₃ c.sized, test₄ c, astray)

  -- a list that is not right: 6
  pub refused_6 : Ended bytes → (lists_right (sources_in bytes) (parsed bytes).outs ≡ false) ⊎ (lists_right (targets_in bytes) (parsed bytes).ins ≡ false)
      → broken_image bytes ≡ 6
  unfolding broken_image
  refused_6 c o =
      let wrong : (lists_right (sources_in bytes) (parsed bytes).outs && lists_right (targets_in bytes) (parsed bytes).ins) ≡ false =
      ⊎_elim (λ q. rw q) (λ q. rw q (and-false (lists_right (sources_in bytes) (parsed bytes).outs))) o in
      let p : Padded bytes = c.padded in
      rw (test₁ p.sized.counted.four, test₂ p.sized.counted, test₃ p.sized, test₄ p, test₅ c, wrong)

  -- bytes of which all six rules hold are an image
  pub accepted : Readable bytes → broken_image bytes ≡ 0
  unfolding broken_image
  accepted c =
      let p : Padded bytes = c.ended.padded in
      rw (test₁ p.sized.counted.four, test₂ p.sized.counted, test₃ p.sized, test₄ p, test₅ c.ended, test₆ c)

  -- all six rules hold of an image
  pub readable : broken_image bytes ≡ 0 → Readable bytes
  unfolding broken_image
  readable q =
      let t = six (ltb (length bytes) 4) (ltb LIMIT (nodes_in bytes) || ltb LIMIT (edges_in bytes)) (not (eqb (length bytes) (bytes_for (size_in bytes))))
      (not (eqb (padding_in bytes) 0)) (not (all (record_right (nodes_in bytes)) (parsed bytes).edges))
      (not (lists_right (sources_in bytes) (parsed bytes).outs && lists_right (targets_in bytes) (parsed bytes).ins)) q in
      let counts = neither (ltb LIMIT (nodes_in bytes)) (ltb LIMIT (edges_in bytes)) t.second in
      let right = right_at (not-false _ t.fifth) in
      let lists = (and-eq-true_iff (lists_right (sources_in bytes) (parsed bytes).outs) (lists_right (targets_in bytes) (parsed bytes).ins)).0 (not-false _ t.sixth) in
      let counted : Counted bytes = record {
        four = ltb-false (length bytes) 4 t.first;
        nodes_within = ltb-false LIMIT (nodes_in bytes) counts.0;
        edges_within = ltb-false LIMIT (edges_in bytes) counts.1;
      } in
      let sized : Sized bytes = record { counted = counted; length_right = eqb-true (length bytes) (bytes_for (size_in bytes)) (not-false _ t.third) } in
      let padded : Padded bytes = record { sized = sized; padding_clear = eqb-true (padding_in bytes) 0 (not-false _ t.fourth) } in
      let ended : Ended bytes = record {
        padded = padded;
        sources_below = λ e h. omega (arith, of_edge source_of e, (right e h).source_below);
        targets_below = λ e h. omega (arith, of_edge target_of e, (right e h).target_below);
        in_order = λ e h. omega (arith, of_edge record_low e, of_edge record_high e, (right e h).weights_in_order);
      } in
      record { ended = ended; outs_right = lists.0; ins_right = lists.1 }

-- ---- examples

pub refusals : Refusals
unfolding member distinct from all count joined bits_of value_of bits field_at fields_at least_from least_width records_at cut parsed at_their_nodes lists_right broken_image
refusals = record {
  under_four = refl;
  above_limit = refl;
  other_length = refl;
  padding_set = refl;
  end_not_below = refl;
  low_above_high = refl;
  entry_not_below = refl;
  entry_repeated = refl;
  entry_astray = refl;
  all_right = refl;
}
