-- What checking a ring asks, and which edges may be in it.
use Rattle.std.specs.Prelude.{ℕ, ◌+◌, ◌*◌, ◌≤◌, ◌<◌, Bool, ◌&&◌, List, length, eqb, leb, ltb}
use Rattle.plain.specs.Numbers.{LIMIT}
use Rattle.shape.specs.Columns.{end_at}

-- an edge of the delta whose end is x
unfoldable pub own_test : ℕ → ℕ → List ℕ → ℕ → ℕ → Bool
own_test be eb ws x e = leb be e && (ltb e eb && eqb (end_at ws e) x)

-- The words of rings with up to ce edges, and of node x.
pub record RingReadable (ws : List ℕ) (ce be eb x : ℕ) : Type 0 where
  pub few : ce ≤ LIMIT
  pub edges_within : eb ≤ ce
  pub base_within : be ≤ eb
  pub room : 4 * ce + x < length ws
