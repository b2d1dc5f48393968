-- Images written directly, of stores that are not compacted before. Document 02, No. 2: "The image comparison between two stores may now be made without compacting
-- either." Proved in proofs/Direct.
use Rattle.std.specs.Prelude.{◌≡◌, List, ◌↔◌}
use Rattle.plain.specs.Devices.{Device}
use Rattle.plain.specs.Compaction.{survivors}
use Rattle.shape.specs.Shape.{Words}
use Rattle.histories.specs.Runs.{Request, Turn, Origin, final}
use Rattle.histories.specs.Closing.{Writing, image_in, Images}
use Rattle.histories.specs.Demand.{history_of}

-- What holds of two runs, each closed by an image writing alone: the same as of those closed by a compaction and an image writing (`Demand3`).
pub record DirectImages (device₁ device₂ : Device) (origin₁ origin₂ : Origin) (w₁ w₂ : Words) (requests₁ requests₂ : List Request) (turns₁ turns₂ : List Turn)
    (a₁ : Writing (final w₁ turns₁)) (a₂ : Writing (final w₂ turns₂)) : Type 0 where
  pub first : Images (history_of device₁ origin₁ w₁ requests₁).lists a₁
  pub second : Images (history_of device₂ origin₂ w₂ requests₂).lists a₂
  pub images : a₁.answer.number ≡ 0 → a₂.answer.number ≡ 0
      → (image_in a₁ ≡ image_in a₂) ↔ (survivors (history_of device₁ origin₁ w₁ requests₁).lists ≡ survivors (history_of device₂ origin₂ w₂ requests₂).lists)
