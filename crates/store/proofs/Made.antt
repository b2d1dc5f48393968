-- Lists made of the slots below a number, as the lists of a shape are: one more slot, one slot set.
use Rattle.std.specs.Prelude.{ℕ, ◌+◌, ◌<◌, ◌≡◌, Bool, true, false, cond, ◌≢◌, List, [], ◌∷◌, ◌++◌, map, length, get_or, set, eqb}
use Rattle.plain.specs.Library.{sym, ap, ◌∙◌, length-append, length-set, ext_get_or, get_or-set_same, get_or-set_other, arith, eqb-true, eqb-false, eq-eqb, ne_eqb}
use Rattle.plain.specs.declared.EdgePayload.{EdgePayload}
use Rattle.plain.specs.Lists.{from}
use Rattle.plain.proofs.Laws.Booleans.{by_test}
use Rattle.plain.proofs.Laws.Deleting.{get_d_set, get_or_snoc}
use Rattle.shape.proofs.Laws.Reading.{made_length, made_at}

module _ {A : Type 0} (f g : ℕ → A) (n : ℕ) where
  -- one slot more
  pub made_more : ((x : ℕ) → x < n → g x ≡ f x) → map g (from 0 (n + 1)) ≡ map f (from 0 n) ++ (g n ∷ [])
  made_more same =
      ext_get_or (g n) (map g (from 0 (n + 1))) (map f (from 0 n) ++ (g n ∷ []))
      (made_length g (n + 1) ∙ sym (length-append (map f (from 0 n)) (g n ∷ []) ∙ ap (λ (k : ℕ). k + 1) (made_length f n)))
      (λ x h. let l : x < n + 1 = omega (arith, made_length g (n + 1)) in
      made_at g (n + 1) x (g n) l
      ∙ sym (get_or_snoc (map f (from 0 n)) x (g n) (g n)
      ∙ ap (λ (k : ℕ). cond (eqb x k) (g n) (get_or (map f (from 0 n)) x (g n))) (made_length f n) ∙ at x l))
    where
      at : (x : ℕ) → x < n + 1 → cond (eqb x n) (g n) (get_or (map f (from 0 n)) x (g n)) ≡ g x
      at x l =
          by_test (eqb x n) (λ t. rw (t, eqb-true x n t))
          (λ t. let ne = eqb-false x n t in let k : x < n = omega arith in rw t (made_at f n x (g n) k ∙ sym (same x k)))

  -- one slot set
  pub made_set : (x : ℕ) (a : A) → x < n → g x ≡ a → ((y : ℕ) → y < n → y ≢ x → g y ≡ f y) → map g (from 0 n) ≡ set (map f (from 0 n)) x a
  made_set x a l here others =
      ext_get_or a (map g (from 0 n)) (set (map f (from 0 n)) x a)
      (made_length g n ∙ sym (length-set (map f (from 0 n)) x a ∙ made_length f n))
      (λ y h. let k : y < n = omega (arith, made_length g n) in
      made_at g n y a k ∙ sym (get_d_set (map f (from 0 n)) x y a a (rw (made_length f n) l) ∙ at y k))
    where
      at : (y : ℕ) → y < n → cond (eqb y x) a (get_or (map f (from 0 n)) y a) ≡ g y
      at y k =
          by_test (eqb y x) (λ t. rw (t, eqb-true y x t) (sym here))
          (λ t. rw t (made_at f n y a k ∙ sym (others y k (eqb-false y x t))))

-- slots, each made of a payload and a live flag, where the payloads were `old` and are `new`
module _
    {A P : Type 0}
    (make : P → Bool → A)
    (old new : ℕ → P)
    (flags : List Bool)
    (n : ℕ)
    (flagged : length flags ≡ n)
  where
    -- a slot by its payload and its flag
    abbrev pub slot_at : (ℕ → P) → List Bool → ℕ → A
    slot_at payload fs x = make (payload x) (get_or fs x false)

    -- a live slot more
    pub slots_more : (v : P) → new n ≡ v → ((x : ℕ) → x < n → new x ≡ old x)
        → map (slot_at new (flags ++ (true ∷ []))) (from 0 (n + 1)) ≡ map (slot_at old flags) (from 0 n) ++ (make v true ∷ [])
    slots_more v here others =
        made_more (slot_at old flags) (slot_at new (flags ++ (true ∷ []))) n
        (λ x l. let ne : x ≢ n = omega arith in
        rw (others x l, get_or_snoc flags x true false, flagged, ne_eqb x n ne))
        ∙ ap (λ (a : A). map (slot_at old flags) (from 0 n) ++ (a ∷ []))
        (rw (here, get_or_snoc flags n true false, flagged, eq-eqb n n (omega arith)))

    -- one slot with another payload and flag
    pub slots_set : (e : ℕ) (v : P) (b : Bool) → e < n → new e ≡ v → ((y : ℕ) → y ≢ e → new y ≡ old y)
        → map (slot_at new (set flags e b)) (from 0 n) ≡ set (map (slot_at old flags) (from 0 n)) e (make v b)
    slots_set e v b l here others =
        let low : e < length flags = omega arith in
        made_set (slot_at old flags) (slot_at new (set flags e b)) n e (make v b) l
        (rw (here, get_d_set flags e e b false low, eq-eqb e e (omega arith)))
        (λ y k ne. rw (others y ne, get_d_set flags e y b false low, ne_eqb y e ne))

-- a payload written to both its columns
module _ (lows highs : List ℕ) (e : ℕ) (v : EdgePayload) where
  -- what then stands at a slot
  abbrev payload_after : ℕ → EdgePayload
  payload_after x = record { low = get_or (set lows e v.low) x 0; high = get_or (set highs e v.high) x 0 }

  pub payload_here : e < length lows → e < length highs → payload_after e ≡ v
  payload_here l h = rw (get_or-set_same lows e v.low 0 l, get_or-set_same highs e v.high 0 h)

  pub payload_other : (x : ℕ) → x ≢ e → payload_after x ≡ record { low = get_or lows x 0; high = get_or highs x 0 }
  payload_other x ne = rw (get_or-set_other lows e x v.low 0 ne, get_or-set_other highs e x v.high 0 ne)
