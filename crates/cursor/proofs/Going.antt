-- An iterator of which the list of what is left is seen makes progress: an item takes one from the list. And what a search for the next listed entry finds is the first
-- of the listed ones.
use Rattle.std.specs.Prelude.{ℕ, ◌≡◌, Bool, true, false, List, [], ◌∷◌, Option, None, Some, IfSome}
use denote.Param.Members.{Mut}
use denote.Ref.{Bor}
use Rattle.std.specs.Fn.{CalledAt}
use Rattle.std.specs.List.{FoldsTo}
use Rattle.std.specs.Iterator.{YieldsFirst, Yields, item_count, MakesProgress}
use Rattle.plain.specs.Library.{sym, subst, arith}
use Rattle.plain.specs.Lists.{keep}

pub goes_on : {can : List ℕ → Type 0} → ((l : List ℕ) → can l) → (found : Option ℕ) {before after : List ℕ} → YieldsFirst (λ l. l) before found after
    → MakesProgress can (item_count (λ l. l)) before found after
goes_on any None first = record { on = λ _. tt; keeps = tt; rests = λ _. tt }
goes_on any (Some e) {before} {after} first = record { on = λ _. (any after, tt, rw first (omega arith)); keeps = any after; rests = λ _. tt }

-- S is what is searched, with the list of what is left of it, and F the test as a function that is called
module _ {S F : Type 0} (left : S → List ℕ) {call : Mut F (Bor ℕ × Unit {0}) Bool} (f : F) (test : ℕ → Bool)
    (told : (e : ℕ) (b : Bool) (g : F) → CalledAt call f e b g → (g ≡ f) × (b ≡ test e)) where
  -- the search ends
  found_last : (before after : S) (found : Option ℕ) → YieldsFirst left before found after → IfSome found (λ e. (g : F) × CalledAt call f e true g)
      → YieldsFirst (λ l. l) (keep test (left before)) found (keep test (left after))
  unfolding keep
  found_last before after None ends hit = (rw ends.0, rw ends.1)
  found_last before after (Some e) ends hit = rw (ends, sym (told e true hit.0 hit.1).1)

  -- it passes over entries that are not listed
  pub found_first : (passed : List ℕ) (before middle after : S) (found : Option ℕ) (g : F) → Yields (YieldsFirst left) before passed middle
      → YieldsFirst left middle found after → FoldsTo (λ p e q. CalledAt call p e false q) f passed g → IfSome found (λ e. (h : F) × CalledAt call g e true h)
      → YieldsFirst (λ l. l) (keep test (left before)) found (keep test (left after))
  unfolding keep
  found_first [] before middle after found g over ends miss hit =
      rw over (found_last middle after found ends (subst (λ (p : F). IfSome found (λ e. (h : F) × CalledAt call p e true h)) (sym miss) hit))
  found_first (e ∷ passed) before middle after found g over ends miss hit =
      let own = told e false miss.0 miss.1 in
      rw (over.1, sym own.1)
      (found_first passed over.0 middle after found g over.2 ends (subst (λ (p : F). FoldsTo (λ p e q. CalledAt call p e false q) p passed g) own.0 miss.2) hit)
