-- The front of a slice that is lent alone: what is asked of it, and what the whole is then.
use Rattle.std.specs.Prelude.{ℕ, ◌≤◌, ◌<◌, ◌≡◌, List, ◌++◌, length, take, drop, get_or}
use Rattle.plain.specs.Library.{ap, zero-add, ◌∙◌, arith}
use Rattle.shape.specs.Index.{Rewritten}
use Rattle.shape.proofs.Laws.Indexing.{rewritten_as}
use Rattle.adjacency.specs.Laws.Parts.{part_long, part_word, part_rewritten}
use Rattle.survivors.specs.Slots.{Translatable, translated_word}

module _ (ws : List ℕ) (n : ℕ) (room : n ≤ length ws) where
  pub front_long : length (take n ws) ≡ n
  front_long = part_long ws 0 n (omega arith)

  pub front_word : (i : ℕ) → i < n → get_or (take n ws) i 0 ≡ get_or ws i 0
  front_word i h = part_word ws 0 n (omega arith) i h ∙ ap (λ (k : ℕ). get_or ws k 0) (zero-add i)

-- ---- put through a map

module _ {ws : List ℕ} {n : ℕ} {entries : List ℕ} (t : Translatable ws n entries) where
  pub front_translatable : Translatable (take n ws) (length (take n ws)) entries
  front_translatable =
      let long = front_long ws n t.room in
      record { room = omega arith; below = λ i h. rw (front_word ws n t.room i (omega arith)) (t.below i (omega arith)) }

  pub front_translated : {xs : List ℕ} → Rewritten (take n ws) xs 0 (length (take n ws)) (translated_word (take n ws) entries)
      → Rewritten ws (take 0 ws ++ (xs ++ drop n (drop 0 ws))) 0 n (translated_word ws entries)
  front_translated r =
      rewritten_as (translated_word ws entries) (part_rewritten ws 0 n (omega (arith, t.room)) r)
      (λ i h. ap (λ (e : ℕ). get_or entries e 0) (front_word ws n t.room i h))
