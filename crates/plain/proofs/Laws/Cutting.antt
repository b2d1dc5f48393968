-- Lists of lists: joined into one, and cut out of it again by their lengths. And the lengths that a list of ends asks for: as many as there are ends.
use Rattle.std.specs.Prelude.{ℕ, zero, suc, ◌+◌, ◌≤◌, ◌<◌, ◌≡◌, refl, cond, List, [], ◌∷◌, ◌++◌, map, length, take, drop, eqb}
use Rattle.plain.specs.Library.{ap, ap₂, ◌∙◌, ⊎_elim, length-append, length-drop, zero-add, arith, eq-eqb, ne_eqb}
use Rattle.std.proofs.Common.{eq-or-lt_of_le, take-append-drop, length-take-le}
use Rattle.std.proofs.Math.Seq.{take-append_seam, drop-append_seam}
use Rattle.plain.specs.Lists.{sum, joined, count, from}
use Rattle.plain.specs.Image.{cut, list_lengths}
use Rattle.plain.specs.Laws.Below.{Below, none, more}
use Rattle.plain.specs.Laws.Cutting.{lengths}

-- joined lists are as long as they are together
pub length_joined : (lists : List (List ℕ)) → length (joined lists) ≡ sum (lengths lists)
unfolding joined sum
length_joined [] = refl
length_joined (l ∷ lists) = rw (length-append l (joined lists), length_joined lists)

-- what was joined is cut into the same lists
pub cut_joined : (lists : List (List ℕ)) → cut (lengths lists) (joined lists) ≡ lists
unfolding cut joined
cut_joined [] = refl
cut_joined (l ∷ lists) =
    ap₂ {C = List (List ℕ)} (λ x y. x ∷ y) (take-append_seam l (joined lists))
    (ap (cut (lengths lists)) (drop-append_seam l (joined lists)) ∙ cut_joined lists)

-- what was cut whole joins to the same list
pub joined_cut : (ns entries : List ℕ) → sum ns ≡ length entries → joined (cut ns entries) ≡ entries
unfolding cut joined sum
joined_cut [] [] e = refl
joined_cut [] (x ∷ entries) e = absurd (omega arith)
joined_cut (n ∷ ns) entries e =
    ap (λ (l : List ℕ). take n entries ++ l) (joined_cut ns (drop n entries) (rw length-drop (omega arith))) ∙ take-append-drop n entries

-- the lists that are cut out have the lengths asked for
pub lengths_cut : (ns entries : List ℕ) → sum ns ≤ length entries → lengths (cut ns entries) ≡ ns
unfolding cut sum
lengths_cut [] entries h = refl
lengths_cut (n ∷ ns) entries h =
    ap₂ {C = List ℕ} (λ x y. x ∷ y) (length-take-le n entries (omega arith)) (lengths_cut ns (drop n entries) (rw length-drop (omega arith)))

-- ---- the lengths that ends ask for

sum_add : (f g : ℕ → ℕ) (l : List ℕ) → sum (map (λ x. f x + g x) l) ≡ sum (map f l) + sum (map g l)
unfolding sum
sum_add f g [] = refl
sum_add f g (x ∷ l) = rw (sum_add f g l) (omega arith)

sum_zero : (l : List ℕ) → sum (map (λ (x : ℕ). 0) l) ≡ 0
unfolding sum
sum_zero [] = refl
sum_zero (x ∷ l) = rw (sum_zero l)

-- 1 where x is e
abbrev one_at : ℕ → ℕ → ℕ
one_at e x = cond (eqb x e) 1 0

none_before : (e a n : ℕ) → e < a → sum (map (one_at e) (from a n)) ≡ 0
unfolding sum from
none_before e a zero h = refl
none_before e a (suc n) h = rw (ne_eqb a e (omega arith), none_before e (suc a) n (omega arith))

one_within : (e a n : ℕ) → a ≤ e → e < a + n → sum (map (one_at e) (from a n)) ≡ 1
unfolding sum from
one_within e a zero h k = absurd (omega arith)
one_within e a (suc n) h k =
    ⊎_elim (λ q. rw (eq-eqb a e q, none_before e (suc a) n (omega arith)))
    (λ l. rw (ne_eqb a e (omega arith), one_within e (suc a) n l (omega arith)) (zero-add 1)) (eq-or-lt_of_le h)

-- n lists as long as the ends say have room for one entry an end
pub sum_list_lengths : (n : ℕ) {ends : List ℕ} → Below n ends → sum (list_lengths n ends) ≡ length ends
unfolding count
sum_list_lengths n none = sum_zero (from 0 n)
sum_list_lengths n (more {x = e} {xs = ends} h s) =
    sum_add (one_at e) (λ x. count (eqb x) ends) (from 0 n)
    ∙ ap₂ (λ (a b : ℕ). a + b) (one_within e 0 n (omega arith) (omega arith)) (sum_list_lengths n s) ∙ omega arith
