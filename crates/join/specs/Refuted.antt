-- Wrong programs that the record of a join rules out: one that leaves the second book out, and one that takes the second book first.
use Rattle.std.specs.Prelude.{ℕ, ◌<◌, ◌≡◌, refl, List, ◌∷◌, ◌++◌, map, length, get_or}
use Rattle.plain.specs.Library.{sym, ap, ◌∙◌, length-append, length-map, arith}
use Rattle.plain.specs.Compaction.{survivors, kept_node}
use Rattle.plain.specs.Joining.{joined_survivors}
use Rattle.plain.specs.Plain.{NodeSlot, no_node}
use Rattle.shape.specs.Shape.{Words, Shape, shape_of, lists}
use Rattle.compact.specs.Survivors.{shape_of_survivors}
use Rattle.join.specs.Calls.{LentMaps, JoinOf}

module _ {first second w : Words} {maps : LentMaps} {value : ℕ} {v : Words} {maps' : LentMaps} (does : JoinOf first second w maps 0 value v maps') where
  -- the second book has a live lot, and what is left is the first's
  pub join_takes_the_second : 0 < length (survivors (lists second)).nodes → shape_of v ≡ shape_of_survivors (survivors (lists first)) → ⊥
  unfolding shape_of_survivors joined_survivors
  join_takes_the_second some left =
      let same = ap (λ (h : Shape). length h.nodes) (sym (does.shape refl) ∙ left) in
      let more = length-append (survivors (lists first)).nodes (survivors (lists second)).nodes in
      omega (arith, length-map (survivors (lists first)).nodes kept_node, length-map ((survivors (lists first)).nodes ++ (survivors (lists second)).nodes) kept_node)

  -- each book has a lot, the first lots differ, and what is left is the second's before the first's
  pub join_takes_the_first_first : {x y : ℕ} {xs ys : List ℕ} → (survivors (lists first)).nodes ≡ x ∷ xs → (survivors (lists second)).nodes ≡ y ∷ ys → (x ≡ y → ⊥)
      → shape_of v ≡ shape_of_survivors (joined_survivors (survivors (lists second)) (survivors (lists first))) → ⊥
  unfolding shape_of_survivors joined_survivors
  join_takes_the_first_first {x} {y} {xs} {ys} one two differ left =
      let front : List NodeSlot → ℕ = λ l. (get_or l 0 no_node).payload in
      differ
      (ap (λ (l : List ℕ). front (map kept_node (l ++ (survivors (lists second)).nodes))) (sym one)
      ∙ ap (λ (h : Shape). front h.nodes) (sym (does.shape refl) ∙ left)
      ∙ ap (λ (l : List ℕ). front (map kept_node (l ++ (survivors (lists first)).nodes))) two)
