-- The rules of an image by the tests of src/check.rt: what the counts and the length say, where the parts stand in the bytes, and that the passes over them
-- answer rules 4 to 6.
use Rattle.std.specs.Prelude.{ℕ, ◌+◌, ◌-◌, ◌*◌, ◌^◌, ◌≤◌, ◌<◌, ◌≡◌, refl, Bool, true, false, cond, ◌&&◌, List, [], ◌∷◌, map, length, get_or, eqb, leb, ltb}
use Rattle.plain.specs.Library.{sym, ap, ap₂, subst, ◌∙◌, inl, inr, arith, leb-true, ltb-true, lt-ltb, eqb-true, eqb-false}
use native.Mathlib.Nat.{mul-le-mul}
use borrow.Author.Tests.{leb-false, ltb-false}
use Rattle.plain.specs.Numbers.{LIMIT}
use Rattle.plain.specs.Lists.{member, distinct, all, from}
use Rattle.plain.specs.Compaction.{source_of, target_of}
use Rattle.plain.specs.Bits.{field_at, fields_at, bytes_for, least_width}
use Rattle.plain.specs.Image.{weight_width, nodes_in, edges_in, edges_start, outs_start, image_size, cut, list_lengths, parsed, lists_right, broken_image}
use Rattle.plain.proofs.Laws.Booleans.{by_test, true_false}
use Rattle.plain.proofs.Laws.ListLaws.{all_member, map_same, member_first, member_later, member_below}
use Rattle.plain.specs.Laws.Below.{Below}
use Rattle.plain.proofs.Laws.Below.{below_of}
use Rattle.plain.proofs.Laws.Bits.{length_fields_at}
use Rattle.plain.proofs.Laws.Width.{width_most}
use Rattle.plain.specs.Laws.Ascending.{ascending}
use Rattle.plain.proofs.Laws.Ascending.{right_by_order}
use Rattle.plain.specs.Laws.Refusals.{Counted, Sized, Padded, Ended, sources_in, targets_in, lows_in, highs_in, size_in, padding_in}
use Rattle.plain.proofs.Laws.Refusals.{length_edges_in, refused_3, refused_4, refused_5, refused_6, accepted}
use Rattle.image_check.specs.Laws.Spread.{spread_at, sources_spread, targets_spread, lows_spread, highs_spread}
use Rattle.image_check.specs.Checks.{field_in, end_in, ends_within, weights_ordered, ordered, Few, Filled, Ends, Weights, Entries, Whole}

-- ---- sizes

-- The products of widths and counts are small.
pub record Small (n m : ℕ) : Type 0 where
  pub nodes : least_width n * m ≤ 32 * LIMIT
  pub edges : least_width m * m ≤ 32 * LIMIT
  pub size : image_size n m < 2 ^ 32

pub small : (n m : ℕ) → Few n m → Small n m
small n m f =
    let a : least_width n * m ≤ 32 * LIMIT = mul-le-mul (width_most n) f.edges in
    let b : least_width m * m ≤ 32 * LIMIT = mul-le-mul (width_most m) f.edges in
    record { nodes = a; edges = b; size = omega arith }

-- ---- rules 1 to 3

module _ (bytes : List ℕ) {n m size : ℕ} (four : 4 ≤ length bytes) (a : n ≡ nodes_in bytes) (b : m ≡ edges_in bytes) (f : Few n m)
    (c : size ≡ bytes_for (image_size n m)) where
  counted : Counted bytes
  counted = record { four = four; nodes_within = rw a at f.nodes; edges_within = rw b at f.edges }

  size_read : size ≡ bytes_for (size_in bytes)
  size_read = c ∙ ap bytes_for (ap₂ image_size a b)

  -- the length is another than the counts say
  pub other_length : (length bytes ≡ size → ⊥) → 3 ≡ broken_image bytes
  other_length h = sym (refused_3 bytes counted (λ q. h (q ∙ sym size_read)))

  -- it is as they say
  pub right_length : length bytes ≡ size → Whole bytes n m
  right_length h = record { nodes = a; edges = b; sized = record { counted = counted; length_right = h ∙ size_read } }

-- ---- the ends in the records

-- One direction of an image: its ends are in the records from bit `at` on.
record Direction (bytes : List ℕ) (at : ℕ) (ends : List ℕ) : Type 0 where
  long : length ends ≡ edges_in bytes
  read : (e : ℕ) → e < edges_in bytes → get_or ends e 0 ≡ end_in bytes at (least_width (nodes_in bytes)) e

-- where the weights begin
abbrev weights_start : List ℕ → ℕ
weights_start bytes = edges_start (nodes_in bytes) + (least_width (nodes_in bytes) + least_width (nodes_in bytes))

module _ (bytes : List ℕ) where
  sources : Direction bytes (edges_start (nodes_in bytes)) (sources_in bytes)
  unfolding parsed
  sources =
      let n : ℕ = nodes_in bytes in
      record {
        long = length_edges_in bytes source_of;
        read = spread_at (end_in bytes (edges_start n) (least_width n)) (edges_in bytes) (sources_spread bytes (least_width n) (edges_start n) (edges_in bytes));
      }

  targets : Direction bytes (edges_start (nodes_in bytes) + least_width (nodes_in bytes)) (targets_in bytes)
  unfolding parsed
  targets =
      let n : ℕ = nodes_in bytes in
      record {
        long = length_edges_in bytes target_of;
        read = spread_at (end_in bytes (edges_start n + least_width n) (least_width n)) (edges_in bytes) (targets_spread bytes (least_width n) (edges_start n) (edges_in bytes));
      }

  -- the weights
  lows_read : (e : ℕ) → e < edges_in bytes → get_or (lows_in bytes) e 0 ≡ field_in bytes (weights_start bytes) (least_width (nodes_in bytes)) weight_width e
  unfolding parsed
  lows_read =
      let n : ℕ = nodes_in bytes in
      spread_at (field_in bytes (edges_start n + (least_width n + least_width n)) (least_width n) weight_width) (edges_in bytes)
      (lows_spread bytes (least_width n) (edges_start n) (edges_in bytes))

  highs_read : (e : ℕ) → e < edges_in bytes → get_or (highs_in bytes) e 0 ≡ field_in bytes (weights_start bytes + weight_width) (least_width (nodes_in bytes)) weight_width e
  unfolding parsed
  highs_read =
      let n : ℕ = nodes_in bytes in
      spread_at (field_in bytes (edges_start n + (least_width n + least_width n) + weight_width) (least_width n) weight_width) (edges_in bytes)
      (highs_spread bytes (least_width n) (edges_start n) (edges_in bytes))

-- ---- rules 5 and 6 of one direction

-- where not all pass, one fails
fails_at : (test : ℕ → Bool) (l : List ℕ) → all test l ≡ false → (e : ℕ) × (member e l ≡ true) × (test e ≡ false)
unfolding all
fails_at test [] h = true_false refl h
fails_at test (x ∷ l) h =
    by_test (test x) (λ q. let found = fails_at test l (rw q at h) in (found.0, member_later found.0 x l found.1, found.2)) (λ q. (x, member_first x l, q))

module _ {bytes : List ℕ} {at : ℕ} {ends : List ℕ} (d : Direction bytes at ends) where
  -- the ends pass
  ends_pass : ends_within bytes at (least_width (nodes_in bytes)) (nodes_in bytes) (edges_in bytes) ≡ true
      → (e : ℕ) → e < edges_in bytes → get_or ends e 0 < nodes_in bytes
  unfolding ends_within
  ends_pass h e l =
      rw (d.read e l)
      (ltb-true _ _ (all_member (λ e. ltb (end_in bytes at (least_width (nodes_in bytes)) e) (nodes_in bytes)) (from 0 (edges_in bytes)) h e
      (member_below e (edges_in bytes) ∙ lt-ltb e (edges_in bytes) l)))

  -- an end does not
  end_astray : ends_within bytes at (least_width (nodes_in bytes)) (nodes_in bytes) (edges_in bytes) ≡ false
      → (e : ℕ) × (e < edges_in bytes) × (nodes_in bytes ≤ get_or ends e 0)
  unfolding ends_within
  end_astray h =
      let found = fails_at (λ e. ltb (end_in bytes at (least_width (nodes_in bytes)) e) (nodes_in bytes)) (from 0 (edges_in bytes)) h in
      let low : found.0 < edges_in bytes = ltb-true _ _ (sym (member_below found.0 (edges_in bytes)) ∙ found.1) in
      (found.0, low, rw (d.read found.0 low) (ltb-false _ _ found.2))

  -- the pass over the entries from bit p on is the rule's test of the lists cut out of them
  lists_pass : (p : ℕ) → ((e : ℕ) → e < edges_in bytes → get_or ends e 0 < nodes_in bytes)
      → let entries = fields_at bytes p (least_width (edges_in bytes)) (edges_in bytes) in
      ordered (end_in bytes at (least_width (nodes_in bytes))) (edges_in bytes) entries ≡ lists_right ends (cut (list_lengths (nodes_in bytes) ends) entries)
  unfolding ordered
  lists_pass p below =
      let n : ℕ = nodes_in bytes in
      let m : ℕ = edges_in bytes in
      let end : ℕ → ℕ = end_in bytes at (least_width n) in
      let entries : List ℕ = fields_at bytes p (least_width m) m in
      let bounded : Below n ends = below_of ends (λ e l. below e (omega (arith, d.long))) in
      sym (right_by_order n entries bounded (length_fields_at bytes p (least_width m) m ∙ sym d.long)
      ∙ ap (λ (z : ℕ). all (λ e. ltb e z) entries && (distinct entries && ascending 0 (map (λ e. get_or ends e 0) entries))) d.long
      ∙ by_test (all (λ e. ltb e m) entries)
      (λ h. ap (λ (l : List ℕ). all (λ e. ltb e m) entries && (distinct entries && ascending 0 l))
      (map_same (λ e. get_or ends e 0) end entries (λ e k. d.read e (ltb-true e m (all_member (λ e. ltb e m) entries h e k)))))
      (λ h. rw h))

-- ---- rule 5 of the weights

module _ (bytes : List ℕ) where
  -- whether the low of edge e is not above its high
  weight_test : ℕ → Bool
  weight_test e =
      leb (field_in bytes (weights_start bytes) (least_width (nodes_in bytes)) weight_width e)
      (field_in bytes (weights_start bytes + weight_width) (least_width (nodes_in bytes)) weight_width e)

  -- the weights pass
  weights_pass : weights_ordered bytes (weights_start bytes) (least_width (nodes_in bytes)) (edges_in bytes) ≡ true
      → (e : ℕ) → e < edges_in bytes → get_or (lows_in bytes) e 0 ≤ get_or (highs_in bytes) e 0
  unfolding weights_ordered weight_test
  weights_pass h e l =
      rw (lows_read bytes e l, highs_read bytes e l)
      (leb-true _ _ (all_member weight_test (from 0 (edges_in bytes)) h e (member_below e (edges_in bytes) ∙ lt-ltb e (edges_in bytes) l)))

  -- a low is above its high
  weights_astray : weights_ordered bytes (weights_start bytes) (least_width (nodes_in bytes)) (edges_in bytes) ≡ false
      → (e : ℕ) × (e < edges_in bytes) × (get_or (highs_in bytes) e 0 < get_or (lows_in bytes) e 0)
  unfolding weights_ordered weight_test
  weights_astray h =
      let found = fails_at weight_test (from 0 (edges_in bytes)) h in
      let low : found.0 < edges_in bytes = ltb-true _ _ (sym (member_below found.0 (edges_in bytes)) ∙ found.1) in
      (found.0, low, rw (lows_read bytes found.0 low, highs_read bytes found.0 low) (leb-false _ _ found.2))

-- ---- rules 4 to 6

-- The first of six tests that fails decides the rule: the padding, the ends of both directions, the weights, the lists of both directions.
pub record Decides (padding sources targets weights outs ins : Bool) (rule : ℕ) : Type 0 where
  pub first : cond padding (cond sources (cond targets (cond weights (cond outs (cond ins 0 6) 6) 5) 5) 5) 4 ≡ rule

module _ {p s t k o i : Bool} {rule : ℕ} (d : Decides p s t k o i rule) where
  pub padding_set : p ≡ false → 4 ≡ rule
  padding_set a = rw a at d.first

  pub source_astray : p ≡ true → s ≡ false → 5 ≡ rule
  source_astray a b = rw (a, b) at d.first

  pub target_astray : p ≡ true → s ≡ true → t ≡ false → 5 ≡ rule
  target_astray a b c = rw (a, b, c) at d.first

  pub weight_astray : p ≡ true → s ≡ true → t ≡ true → k ≡ false → 5 ≡ rule
  weight_astray a b c e = rw (a, b, c, e) at d.first

  pub outs_wrong : p ≡ true → s ≡ true → t ≡ true → k ≡ true → o ≡ false → 6 ≡ rule
  outs_wrong a b c e f = rw (a, b, c, e, f) at d.first

  pub ins_wrong : p ≡ true → s ≡ true → t ≡ true → k ≡ true → o ≡ true → i ≡ false → 6 ≡ rule
  ins_wrong a b c e f g = rw (a, b, c, e, f, g) at d.first

  pub all_right : p ≡ true → s ≡ true → t ≡ true → k ≡ true → o ≡ true → i ≡ true → 0 ≡ rule
  all_right a b c e f g = rw (a, b, c, e, f, g) at d.first

-- What the check of rules 4 to 6 reads, by the two counts, the two widths, the starts of the records and of the out-lists, and the size of one direction's: each
-- part stands in the bytes, and the six tests decide.
pub record Standing (bytes : List ℕ) (n m w v records outs size : ℕ) : Type 0 where
  pub filled : Filled bytes (outs + size + size)
  pub out_entries : Entries bytes records w outs v m
  pub in_entries : Entries bytes (records + w) w (outs + size) v m
  pub weights : Weights bytes (records + w + w) w m
  pub decides : Decides (eqb (field_at bytes (outs + size + size) (8 * length bytes - (outs + size + size))) 0)
      (ends_within bytes records w n m) (ends_within bytes (records + w) w n m) (weights_ordered bytes (records + w + w) w m)
      (ordered (end_in bytes records w) m (fields_at bytes outs v m)) (ordered (end_in bytes (records + w) w) m (fields_at bytes (outs + size) v m))
      (broken_image bytes)

-- the widths and places that the counts of bytes give
abbrev node_width : List ℕ → ℕ
node_width bytes = least_width (nodes_in bytes)

abbrev edge_width : List ℕ → ℕ
edge_width bytes = least_width (edges_in bytes)

abbrev outs_in : List ℕ → ℕ
outs_in bytes = outs_start (nodes_in bytes) (edges_in bytes)

abbrev size_of : List ℕ → ℕ
size_of bytes = edge_width bytes * edges_in bytes

module _ (bytes : List ℕ) (s : Sized bytes) where
  few : Few (nodes_in bytes) (edges_in bytes)
  few = record { nodes = s.counted.nodes_within; edges = s.counted.edges_within }

  bounded : Small (nodes_in bytes) (edges_in bytes)
  bounded = small (nodes_in bytes) (edges_in bytes) few

  -- the ends of either direction are within the bytes
  standing_ends : (at : ℕ) → at ≤ edges_start (nodes_in bytes) + node_width bytes → Ends bytes at (node_width bytes) (edges_in bytes)
  standing_ends at h = record {
    narrow = width_most (nodes_in bytes);
    within = omega (arith, s.length_right);
    small = omega (arith, s.length_right, bounded.size);
  }

  -- so are the weights
  standing_weights : Weights bytes (weights_start bytes) (node_width bytes) (edges_in bytes)
  standing_weights =
      record {
        lows = record { narrow = omega arith; within = omega (arith, s.length_right); small = omega (arith, s.length_right, bounded.size) };
        highs = record { narrow = omega arith; within = omega (arith, s.length_right); small = omega (arith, s.length_right, bounded.size) };
      }

  -- ---- the six tests, and what the rules say where they pass

  padded : eqb (padding_in bytes) 0 ≡ true → Padded bytes
  padded p = record { sized = s; padding_clear = eqb-true (padding_in bytes) 0 p }

  source_test : Bool
  source_test = ends_within bytes (edges_start (nodes_in bytes)) (node_width bytes) (nodes_in bytes) (edges_in bytes)

  target_test : Bool
  target_test = ends_within bytes (edges_start (nodes_in bytes) + node_width bytes) (node_width bytes) (nodes_in bytes) (edges_in bytes)

  weights_test : Bool
  weights_test = weights_ordered bytes (weights_start bytes) (node_width bytes) (edges_in bytes)

  out_test : Bool
  out_test = ordered (end_in bytes (edges_start (nodes_in bytes)) (node_width bytes)) (edges_in bytes) (fields_at bytes (outs_in bytes) (edge_width bytes) (edges_in bytes))

  in_test : Bool
  in_test =
      ordered (end_in bytes (edges_start (nodes_in bytes) + node_width bytes) (node_width bytes)) (edges_in bytes)
      (fields_at bytes (outs_in bytes + size_of bytes) (edge_width bytes) (edges_in bytes))

  ended : eqb (padding_in bytes) 0 ≡ true → source_test ≡ true → target_test ≡ true → weights_test ≡ true → Ended bytes
  unfolding source_test target_test weights_test
  ended p a b c = record {
    padded = padded p;
    sources_below = ends_pass (sources bytes) a;
    targets_below = ends_pass (targets bytes) b;
    in_order = weights_pass bytes c;
  }

  -- the last two are rule 6
  out_rule : Ended bytes → out_test ≡ lists_right (sources_in bytes) (parsed bytes).outs
  unfolding out_test parsed
  out_rule e = lists_pass (sources bytes) (outs_in bytes) e.sources_below

  in_rule : Ended bytes → in_test ≡ lists_right (targets_in bytes) (parsed bytes).ins
  unfolding in_test parsed
  in_rule e = lists_pass (targets bytes) (outs_in bytes + size_of bytes) e.targets_below

  -- the first that fails is the first broken rule
  decided : Decides (eqb (padding_in bytes) 0) source_test target_test weights_test out_test in_test (broken_image bytes)
  unfolding source_test target_test weights_test
  decided =
      by_test (eqb (padding_in bytes) 0)
      (λ p. by_test source_test
      (λ a. by_test target_test
      (λ b. by_test weights_test
      (λ c. let e = ended p a b c in
      by_test out_test
      (λ x. by_test in_test
      (λ y. record { first = rw (p, a, b, c, x, y) (sym (accepted bytes (record { ended = e; outs_right = sym (out_rule e) ∙ x; ins_right = sym (in_rule e) ∙ y }))) })
      (λ y. record { first = rw (p, a, b, c, x, y) (sym (refused_6 bytes e (inr (sym (in_rule e) ∙ y)))) }))
      (λ x. record { first = rw (p, a, b, c, x) (sym (refused_6 bytes e (inl (sym (out_rule e) ∙ x)))) }))
      (λ c. let found = weights_astray bytes c in
      record { first = rw (p, a, b, c) (sym (refused_5 bytes (padded p) found.0 found.1 (inr (inr found.2)))) }))
      (λ b. let found = end_astray (targets bytes) b in
      record { first = rw (p, a, b) (sym (refused_5 bytes (padded p) found.0 found.1 (inr (inl found.2)))) }))
      (λ a. let found = end_astray (sources bytes) a in
      record { first = rw (p, a) (sym (refused_5 bytes (padded p) found.0 found.1 (inl found.2))) }))
      (λ p. record { first = rw p (sym (refused_4 bytes s (eqb-false (padding_in bytes) 0 p))) })

  weights_place : weights_start bytes ≡ edges_start (nodes_in bytes) + node_width bytes + node_width bytes
  weights_place = omega arith

  stands : Standing bytes (nodes_in bytes) (edges_in bytes) (node_width bytes) (edge_width bytes) (edges_start (nodes_in bytes)) (outs_in bytes) (size_of bytes)
  unfolding source_test target_test weights_test out_test in_test
  stands = record {
    filled = record { long = s.length_right; small = bounded.size };
    out_entries = record {
      ends = standing_ends (edges_start (nodes_in bytes)) (omega arith);
      few = few.edges;
      narrow = width_most (edges_in bytes);
      within = omega (arith, s.length_right);
    };
    in_entries = record {
      ends = standing_ends (edges_start (nodes_in bytes) + node_width bytes) (omega arith);
      few = few.edges;
      narrow = width_most (edges_in bytes);
      within = omega (arith, s.length_right);
    };
    weights = subst (λ (z : ℕ). Weights bytes z (node_width bytes) (edges_in bytes)) weights_place standing_weights;
    decides = subst (λ (z : ℕ). Decides (eqb (padding_in bytes) 0) source_test target_test (weights_ordered bytes z (node_width bytes) (edges_in bytes)) out_test in_test (broken_image bytes))
        weights_place decided;
  }

-- the same, where the counts, the widths and the places are answers
pub standing : {bytes : List ℕ} {n m w v records outs size : ℕ} → Whole bytes n m → w ≡ least_width n → v ≡ least_width m → records ≡ edges_start n
    → size ≡ least_width m * m → outs ≡ outs_start n m → Standing bytes n m w v records outs size
standing {bytes} k a b s c d = rw (a, b, s, c, d, k.nodes, k.edges) (stands bytes k.sized)
