-- The definitions that the laws of proofs/Laws/Compactness.antt speak of.
use Rattle.std.specs.Prelude.{◌≡◌, true}
use Rattle.plain.specs.Step.{State}
use Rattle.plain.specs.Laws.AllLive.{AllLive}

-- the flag of a state is honest
pub record Honest (s : State) : Type 0 where
  pub all_live : s.compact ≡ true → AllLive s.lists
