-- Rule 6 in one pass: what the entries from one on decide, where those before are marked and the last of their ends is known.
use Rattle.std.specs.Prelude.{ℕ, suc, ◌+◌, ◌-◌, ◌*◌, ◌≤◌, ◌<◌, ◌≡◌, refl, Bool, true, false, ◌&&◌, ◌||◌, List, [], ◌∷◌, map, length, replicate, eqb, leb, ltb}
use Rattle.plain.specs.Library.{sym, ap, ◌∙◌, arith, le-leb, lt-leb, lt-ltb, le-ltb, not-true, not-false}
use native.Mathlib.Nat.{sub-zero}
use Rattle.plain.specs.Lists.{distinct, all}
use Rattle.plain.specs.Bits.{field_at, fields_at}
use Rattle.plain.proofs.Laws.Booleans.{and_false}
use Rattle.plain.specs.Laws.Ascending.{ascending}
use Rattle.marks.specs.Marks.{marked, Marked, passes}
use Rattle.marks.specs.Laws.Fresh.{clear_map, fresh_clear, passes_none, passes_fails, passes_marked, passes_more}
use Rattle.image_check.specs.Checks.{ordered}

-- ---- fields, one after the other

-- a field, and those after it, of m from number i on
fields_more : (bytes : List ℕ) (at v i m : ℕ) → i < m → fields_at bytes at v (m - i) ≡ field_at bytes at v ∷ fields_at bytes (at + v) v (m - (i + 1))
unfolding fields_at
fields_more bytes at v i m l = let q : m - i ≡ suc (m - (i + 1)) = omega arith in ap (fields_at bytes at v) q

fields_none : (bytes : List ℕ) (at v i m : ℕ) → m ≤ i → fields_at bytes at v (m - i) ≡ []
unfolding fields_at
fields_none bytes at v i m l = let q : m - i ≡ 0 = omega arith in ap (fields_at bytes at v) q

-- the bits of the first, and of those after it
bits_more : (v i m : ℕ) → i < m → v * (m - i) ≡ v + v * (m - (i + 1))
bits_more v i m l = let q : m - i ≡ suc (m - (i + 1)) = omega arith in ap (λ (z : ℕ). v * z) q ∙ omega arith

-- ---- entries, one after the other

module _ (end : ℕ → ℕ) (m : ℕ) where
  -- whether the entries are right from here on: below m, not marked, none twice, and their ends do not descend from `last` on
  unfoldable pub right_from : (ℕ → Bool) → ℕ → List ℕ → Bool
  right_from marks last l = passes (λ e. ltb e m) marks l && ascending last (map end l)

  -- all entries, nothing marked
  right_first : (marks : ℕ → Bool) (l : List ℕ) → ((e : ℕ) → marks e ≡ false) → ordered end m l ≡ right_from marks 0 l
  unfolding ordered right_from passes
  right_first marks l clear = rw (fresh_clear marks l clear) (regroup (all (λ e. ltb e m) l) (distinct l) (ascending 0 (map end l)))
    where
      regroup : (a b c : Bool) → (a && (b && c)) ≡ ((a && b) && c)
      regroup true b c = refl
      regroup false b c = refl

  module _ (marks : ℕ → Bool) (last : ℕ) where
    -- none is left
    right_none : right_from marks last [] ≡ true
    unfolding right_from ascending
    right_none = rw (passes_none (λ e. ltb e m) marks)

    module _ (e : ℕ) (l : List ℕ) where
      -- an entry is not below m
      right_past : ltb e m ≡ false → right_from marks last (e ∷ l) ≡ false
      unfolding right_from
      right_past h = rw (passes_fails (λ e. ltb e m) marks e l h)

      -- its end is lower than the last
      right_descends : leb last (end e) ≡ false → right_from marks last (e ∷ l) ≡ false
      unfolding right_from ascending
      right_descends h = rw h (and_false (passes (λ e. ltb e m) marks (e ∷ l)))

      -- it is marked
      right_marked : marks e ≡ true → right_from marks last (e ∷ l) ≡ false
      unfolding right_from
      right_marked h = rw (passes_marked (λ e. ltb e m) marks e l h)

      -- it is right: those after it decide
      right_more : (more : ℕ → Bool) → ((i : ℕ) → more i ≡ (eqb i e || marks i)) → ltb e m ≡ true → leb last (end e) ≡ true → marks e ≡ false
          → right_from marks last (e ∷ l) ≡ right_from more (end e) l
      unfolding right_from ascending
      right_more more step h k new = rw (passes_more (λ e. ltb e m) marks e l more step h new, k)

-- ---- the loop

-- The entries from number i on decide, the first of which stands at bit `at`; those before are marked, and `last` is the last one's end.
pub record Ordering (bytes : List ℕ) (value : ℕ → ℕ) (list v m : ℕ) (seen : List ℕ) (last at i : ℕ) : Type 0 where
  pub answers : ordered value m (fields_at bytes list v m) ≡ right_from value m (marked seen) last (fields_at bytes at v (m - i))
  pub long : length seen ≡ 512
  pub room : at + v * (m - i) ≤ 8 * length bytes

module _ (bytes : List ℕ) (value : ℕ → ℕ) (list v m : ℕ) where
  -- at the start
  pub order_start : list + v * m ≤ 8 * length bytes → Ordering bytes value list v m (replicate 512 0) 0 (list + v * 0) 0
  order_start room = let first : list + v * 0 ≡ list = omega arith in rw first record {
    answers = right_first value m (marked (replicate 512 0)) (fields_at bytes list v m) (clear_map 512)
        ∙ ap (λ (z : ℕ). right_from value m (marked (replicate 512 0)) 0 (fields_at bytes list v z)) (omega arith);
    long = refl;
    room = rw sub-zero room;
  }

module _ {bytes : List ℕ} {value : ℕ → ℕ} {list v m : ℕ} {seen : List ℕ} {last at i : ℕ} (o : Ordering bytes value list v m seen last at i) where
  -- no entry is left
  pub order_done : m ≤ i → true ≡ ordered value m (fields_at bytes list v m)
  order_done l =
      sym (o.answers ∙ ap (right_from value m (marked seen) last) (fields_none bytes at v i m l) ∙ right_none value m (marked seen) last)

  module _ (l : i < m) where
    -- there is room for an entry
    pub order_room : at + v ≤ 8 * length bytes
    order_room = omega (arith, bits_more v i m l, o.room)

    module _ {e : ℕ} (read : e ≡ field_at bytes at v) where
      -- what the entry and those after it decide
      at_entry : ordered value m (fields_at bytes list v m)
          ≡ right_from value m (marked seen) last (e ∷ fields_at bytes (at + v) v (m - (i + 1)))
      at_entry = o.answers ∙ ap (right_from value m (marked seen) last)
          (fields_more bytes at v i m l ∙ ap (λ (z : ℕ). z ∷ fields_at bytes (at + v) v (m - (i + 1))) (sym read))

      -- the entry is not below m
      pub order_past : m ≤ e → false ≡ ordered value m (fields_at bytes list v m)
      order_past h = sym (at_entry ∙ right_past value m (marked seen) last e _ (le-ltb e m h))

      module _ {end : ℕ} (there : end ≡ value e) where
        -- its end is lower than the last
        pub order_descends : end < last → false ≡ ordered value m (fields_at bytes list v m)
        order_descends h = sym (at_entry ∙ right_descends value m (marked seen) last e _ (ap (leb last) (sym there) ∙ lt-leb last end h))

        -- it is right
        pub order_more : {exit : List ℕ} {answer : Bool} → e < m → last ≤ end → Marked seen e answer exit → answer ≡ true → length exit ≡ length seen
            → Ordering bytes value list v m exit end (at + v) (i + 1)
        order_more {exit} h k s a long = record {
          answers = at_entry ∙ right_more value m (marked seen) last e _ (marked exit) s.marks (lt-ltb e m h) (ap (leb last) (sym there) ∙ le-leb last end k)
              (not-true (marked seen e) (sym s.answers ∙ a))
              ∙ ap (λ (z : ℕ). right_from value m (marked exit) z (fields_at bytes (at + v) v (m - (i + 1)))) (sym there);
          long = long ∙ o.long;
          room = omega (arith, bits_more v i m l, o.room);
        }

      -- it is marked already
      pub order_marked : {exit : List ℕ} {answer : Bool} → Marked seen e answer exit → answer ≡ false
          → false ≡ ordered value m (fields_at bytes list v m)
      order_marked s a =
          sym (at_entry ∙ right_marked value m (marked seen) last e _ (not-false (marked seen e) (sym s.answers ∙ a)))
