-- Text that grows in lent bytes.
use Rattle.std.specs.Prelude.{ℕ, ◌+◌, ◌≡◌, List, length}
use Rattle.bits.specs.Put.{Put}
use Rattle.lotstrip_text.specs.declared.text.Text.{Text}

-- text was written behind what was there, into the slice that was lent
pub record Appended (a : Text) (f : List ℕ) (b : Text) : Type 0 where
  pub same : b.bytes.ghost_name ≡ a.bytes.ghost_name
  pub put : Put a.bytes.now a.end f b.bytes.now
  pub ended : b.end ≡ a.end + length f
