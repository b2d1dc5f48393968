-- Mark maps: which edges are marked, what marking one does, and what following a list of entries does that marks each as it is passed.
use Rattle.std.specs.Prelude.{ℕ, ◌≡◌, Bool, true, false, ◌&&◌, ◌||◌, not, ◌⊎◌, List, eqb}
use Rattle.plain.specs.Lists.{member, distinct, all}
use Rattle.liveness.specs.Flags.{live_bit}

-- whether an edge is marked
abbrev pub marked : List ℕ → ℕ → Bool
marked = live_bit

-- An edge is marked; the answer is whether it was not.
pub record Marked (entry : List ℕ) (edge : ℕ) (answer : Bool) (exit : List ℕ) : Type 0 where
  pub answers : answer ≡ not (marked entry edge)
  pub marks : (e : ℕ) → marked exit e ≡ (eqb e edge || marked entry e)

-- An entry is passed, whether it is listed and passes a test given: only a listed one is looked at, and marked.
pub record Entered (listed passing : Bool) (entry : List ℕ) (edge : ℕ) (answer : Bool) (exit : List ℕ) : Type 0 where
  pub unlisted : listed ≡ false → (answer ≡ true) × (exit ≡ entry)
  pub failing : listed ≡ true → passing ≡ false → answer ≡ false
  pub marking : listed ≡ true → passing ≡ true → Marked entry edge answer exit

-- An entry is looked at, and marked where it passes a test.
pub record Passed (passing : Bool) (entry : List ℕ) (edge : ℕ) (answer : Bool) (exit : List ℕ) : Type 0 where
  pub failing : passing ≡ false → answer ≡ false
  pub marking : passing ≡ true → Marked entry edge answer exit

-- no entry is marked, and none comes twice
unfoldable pub fresh : (ℕ → Bool) → List ℕ → Bool
fresh marks l = distinct l && all (λ e. not (marks e)) l

-- all entries pass a test and are fresh
unfoldable pub passes : (ℕ → Bool) → (ℕ → Bool) → List ℕ → Bool
passes test marks l = all test l && fresh marks l

-- A list of entries is followed up to the first that does not pass, or else to its end, where a last test decides: the answer, and where it is true what is marked.
pub record Followed (test : ℕ → Bool) (final : Bool) (l entry : List ℕ) (answer : Bool) (exit : List ℕ) : Type 0 where
  pub answers : answer ≡ (passes test (marked entry) l && final)
  pub marks : answer ≡ true → (e : ℕ) → marked exit e ≡ (marked entry e || member e l)

-- What is marked in the end was marked before or is in a list.
pub record Adds (l entry exit : List ℕ) : Type 0 where
  pub marks : (e : ℕ) → marked exit e ≡ true → (marked entry e ≡ true) ⊎ (member e l ≡ true)
