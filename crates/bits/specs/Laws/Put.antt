-- Laws of `Put`: writes that follow each other are one write.
use Rattle.std.specs.Prelude.{ℕ, suc, ◌+◌, ◌≤◌, ◌<◌, ◌≡◌, refl, List, [], ◌∷◌, ◌++◌, length, set, take, drop}
use Rattle.plain.specs.Library.{sym, ap, ap₂, ◌∙◌, append_assoc, length-append, add-one, arith}
use Rattle.std.proofs.lemmas.List.Edits.{sets, sets-eq}
use Rattle.std.proofs.Math.Seq.{length-sets}
use Rattle.std.proofs.lemmas.List.{set_comm}
use Rattle.plain.specs.Lists.{written}
use Rattle.bits.specs.Put.{Put}

-- ---- stores

sets_append : (f g s : List ℕ) (p : ℕ) → sets s p (f ++ g) ≡ sets (sets s p f) (p + length f) g
sets_append [] g s p = ap (λ (k : ℕ). sets s k g) (omega arith)
sets_append (x ∷ f) g s p = sets_append f g (set s p x) (suc p) ∙ ap (λ (k : ℕ). sets (sets (set s p x) (suc p) f) k g) (omega arith)

-- a store in front of others may as well come first
set_sets : (f s : List ℕ) (p q x : ℕ) → p < q → set (sets s q f) p x ≡ sets (set s p x) q f
set_sets [] s p q x h = refl
set_sets (y ∷ f) s p q x h =
    set_sets f (set s q y) p (suc q) x (omega arith) ∙ ap (λ (l : List ℕ). sets l (suc q) f) (set_comm s q p y x (λ e. omega arith))

-- ---- one write

pub put_length : {s t f : List ℕ} {p : ℕ} → Put s p f t → length t ≡ length s
put_length {s} {t} {f} {p} a = ap length a.whole ∙ length-sets s p f

pub put_none : (s : List ℕ) (p : ℕ) → p ≤ length s → Put s p [] s
put_none s p h = record { within = omega arith; whole = refl }

pub put_one : (s : List ℕ) (p x : ℕ) → p < length s → Put s p (x ∷ []) (set s p x)
put_one s p x h = record { within = omega arith; whole = refl }

pub put_two : (s : List ℕ) (p x y : ℕ) → p + 2 ≤ length s → Put s p (x ∷ y ∷ []) (set (set s p x) (p + 1) y)
put_two s p x y h = record { within = omega arith; whole = ap (λ (k : ℕ). set (set s p x) k y) (add-one p) }

-- f was written, and then g behind it
pub put_then : {s t u f g : List ℕ} {p q : ℕ} → Put s p f t → Put t q g u → q ≡ p + length f → Put s p (f ++ g) u
put_then {s} {t} {u} {f} {g} {p} {q} a b e =
    record {
      within = rw length-append (omega (arith, b.within, put_length a));
      whole = b.whole ∙ ap₂ (λ (l : List ℕ) (k : ℕ). sets l k g) a.whole e ∙ sym (sets_append f g s p);
    }

-- f was written, and then x in front of it
pub put_before : {s t f : List ℕ} {p : ℕ} (x : ℕ) → Put s (suc p) f t → Put s p (x ∷ f) (set t p x)
put_before {s} {t} {f} {p} x a =
    record {
      within = omega (arith, a.within);
      whole = ap (λ (l : List ℕ). set l p x) a.whole ∙ set_sets f s p (suc p) x (omega arith);
    }

-- ---- the list by its parts

pub put_split : {s t f : List ℕ} {p : ℕ} → Put s p f t → t ≡ take p s ++ (f ++ drop (p + length f) s)
put_split {s} {t} {f} {p} a = a.whole ∙ sets-eq f s p a.within ∙ append_assoc (take p s) f (drop (p + length f) s)

pub split_put : {s t f : List ℕ} {p : ℕ} → p + length f ≤ length s → t ≡ take p s ++ (f ++ drop (p + length f) s) → Put s p f t
split_put {s} {t} {f} {p} room is =
    record { within = room; whole = is ∙ sym (append_assoc (take p s) f (drop (p + length f) s)) ∙ sym (sets-eq f s p room) }

-- at the start
pub put_written : {s t f : List ℕ} → Put s 0 f t → t ≡ written f s
put_written {s} {t} {f} a = let e : 0 + length f ≡ length f = omega arith in put_split a ∙ ap (λ (k : ℕ). f ++ drop k s) e
