-- The definitions that the laws of proofs/Laws/Totals.antt speak of.
use Rattle.std.specs.Prelude.{ℕ, ◌^◌, ◌≤◌, ◌<◌, ◌≡◌, List, [], ◌∷◌}
use Rattle.plain.specs.declared.EdgePayload.{EdgePayload}
use Rattle.plain.specs.declared.Total.{Total}
use Rattle.plain.specs.Lists.{sum}

-- a choice of weights, one within the range of each payload
pub data Chosen : List EdgePayload → List ℕ → Type 0 where
  no_weight : Chosen [] []
  one_weight : {r : EdgePayload} {rs : List EdgePayload} {w : ℕ} {ws : List ℕ} → r.low ≤ w → w ≤ r.high → Chosen rs ws → Chosen (r ∷ rs) (w ∷ ws)

-- A sum that some choice has.
pub record Reached (payloads : List EdgePayload) (n : ℕ) : Type 0 where
  pub choice : List ℕ
  pub chosen : Chosen payloads choice
  pub sums : sum choice ≡ n

-- What a total says of the payloads of a list.
pub record Totals (t : Total) (payloads : List EdgePayload) : Type 0 where
  -- "every choice of weights within the ranges sums to between them"
  pub at_least : (ws : List ℕ) → Chosen payloads ws → t.low ≤ sum ws
  pub at_most : (ws : List ℕ) → Chosen payloads ws → sum ws ≤ t.high
  -- "and both ends are reached"
  pub low_reached : Reached payloads t.low
  pub high_reached : Reached payloads t.high
  -- "each exact in 64 bits"
  pub low_fits : t.low < 2 ^ 64
  pub high_fits : t.high < 2 ^ 64
