-- Renumberings: a map from old slots to new ones, NONE where a slot did not survive. Document 01, "The files that stay", 2.
use Rattle.std.specs.Prelude.{ℕ, Bool, cond, ◌&&◌, List, map, length, get_or, eqb}
use Rattle.plain.specs.declared.Answer.{Answer}
use Rattle.plain.specs.Numbers.{NONE}
use Rattle.plain.specs.Lists.{same, from}
use Rattle.plain.specs.Reads.{Reply, answered, yes_or_no, lent}

-- "The slot a map lookup gives or NONE", which is also what is out of range.
unfoldable pub lookup : List ℕ → ℕ → ℕ
lookup renumbering slot = get_or renumbering slot NONE

-- the first map and then the second: "A short second map gives NONE."
unfoldable pub composed : List ℕ → List ℕ → List ℕ
composed first second = map (λ slot. cond (eqb slot NONE) NONE (lookup second slot)) first

-- "An identity map holds i at each i below the bound."
unfoldable pub is_identity_map : List ℕ → Bool
is_identity_map renumbering = same renumbering (from 0 (length renumbering))

-- ---- the calls: "Map lookup and `is_identity` refuse nothing. Compose: 2."

unfoldable pub lookup_answer : List ℕ → ℕ → Answer
lookup_answer renumbering slot = answered (lookup renumbering slot)

unfoldable pub compose : List ℕ → List ℕ → ℕ → Reply
compose first second room = lent room 0 (composed first second)

unfoldable pub is_identity : List ℕ → List ℕ → Answer
is_identity nodes edges = yes_or_no (is_identity_map nodes && is_identity_map edges)
