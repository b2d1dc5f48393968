-- One entry more written to a slice, and how many entries a walk can have.
use Rattle.std.specs.Prelude.{ℕ, suc, ◌+◌, ◌≤◌, ◌<◌, ◌≡◌, refl, Bool, true, false, List, [], ◌∷◌, ◌++◌, length, get_or, set, drop, eqb}
use Rattle.std.specs.Iterator.{YieldsFirst, Drains}
use Rattle.std.proofs.lemmas.Iterator.{items_from_drains}
use Rattle.std.proofs.lemmas.Iterator.Consumers.{YieldsList-from_first}
use Rattle.plain.specs.Library.{sym, ap, ◌∙◌, length-map, length-append, append_snoc, add-one, arith}
use Rattle.std.proofs.Common.{drop-cons}
use Rattle.std.proofs.lemmas.List.{set_at}
use Rattle.plain.specs.Numbers.{NONE, LIMIT}
use Rattle.plain.specs.Lists.{keep}
use Rattle.plain.proofs.Laws.Booleans.{by_test}
use Rattle.plain.proofs.Laws.ListLaws.{length_keep, count_length}
use Rattle.shape.proofs.Laws.Walking.{until_short}
use Rattle.cursor.specs.declared.AdjacencyCursor.{AdjacencyCursor}
use Rattle.cursor.specs.Cursor.{word, part_left, ring_left, remaining, Ready}
use Rattle.cursor.specs.Laws.Cursor.{part_counted}

-- ---- how many entries a walk can have

-- a walk is short: the base part or run and the ring are
pub remaining_short : {linked : Bool} {entries next : List ℕ} {c : AdjacencyCursor} → Ready linked entries next c
    → length (remaining linked entries next c) ≤ NONE + LIMIT
unfolding remaining
remaining_short {linked} {entries} {next} {c} r =
    let part = part_short linked in
    let ring = ring_short in
    let few = r.few in
    let short = r.short in
    rw (length-append (part_left linked entries c.base c.base_end) (ring_left next c.delta c.delta_last)) (omega arith)
  where
    part_short : (b : Bool) → length (part_left b entries c.base c.base_end) ≤ c.base_end
    part_short true = omega (arith, part_counted true entries c.base c.base_end)
    part_short false = omega (arith, part_counted false entries c.base c.base_end)

    ring_short : length (ring_left next c.delta c.delta_last) ≤ length next
    ring_short =
        by_test (eqb c.delta NONE) (λ q. rw q (omega arith)) (λ q. rw q (until_short (word next) c.delta_last (length next) c.delta))

-- and so are the entries of it that pass
pub kept_short : (test : ℕ → Bool) {linked : Bool} {entries next : List ℕ} {c : AdjacencyCursor} → Ready linked entries next c
    → length (keep test (remaining linked entries next c)) ≤ NONE + LIMIT
kept_short test {linked} {entries} {next} {c} r =
    let short = remaining_short r in
    omega (arith, length_keep test (remaining linked entries next c), count_length test (remaining linked entries next c))

-- ---- a walk written to a slice

-- one more word of a list that is written from the front
pub write_one : (past out₀ : List ℕ) (n v : ℕ) → n ≡ length past → n < length out₀ → set (past ++ drop n out₀) n v ≡ (past ++ (v ∷ [])) ++ drop (n + 1) out₀
write_one past out₀ n v q h =
    rw (drop-cons out₀ n 0 h, add-one n) (set_at past (get_or out₀ n 0) (drop (suc n) out₀) v n (sym q) ∙ sym (append_snoc past v (drop (suc n) out₀)))

-- ---- one entry more, of the entries that pass

module _ (test : ℕ → Bool) {left rest : List ℕ} {e : ℕ} (q : left ≡ e ∷ rest) where
  -- it passes
  pub keep_first : test e ≡ true → keep test left ≡ e ∷ keep test rest
  unfolding keep
  keep_first t = rw (q, t)

  -- it does not
  pub keep_past : test e ≡ false → keep test left ≡ keep test rest
  unfolding keep
  keep_past t = rw (q, t)

-- none more
pub keep_none : (test : ℕ → Bool) {left : List ℕ} → left ≡ [] → keep test left ≡ []
unfolding keep
keep_none test q = rw q

-- ---- an iterator of which the list of what is left is seen

-- `count` counts that list
pub first_counted : {s : List ℕ} {n : ℕ} → (xs : List ℕ) × Drains (YieldsFirst (λ l. l)) s xs × (n ≡ length xs) → n ≡ length s
first_counted {s} ran =
    ran.2 ∙ sym (length-map ran.0 (λ x. x))
    ∙ ap length (items_from_drains ran.0 (ran.1.1.0, ran.1.1.1, λ _. (ran.1.0, ran.1.1.2)) (YieldsList-from_first (λ x. x) (λ l. l) s refl))
