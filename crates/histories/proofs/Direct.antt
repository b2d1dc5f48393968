-- Images written directly: `direct_images` of any two checked stores, and `run_images` of every two runs. What it says of runs stands in specs/Direct.
use Rattle.std.specs.Prelude.{◌≡◌, List, ◌↔◌}
use Rattle.plain.specs.Library.{sym, ap, subst, subst₂, ◌∙◌}
use Rattle.plain.specs.Step.{State}
use Rattle.plain.specs.Devices.{Device, Proper}
use Rattle.plain.specs.Compaction.{survivors}
use Rattle.plain.specs.Image.{image}
use Rattle.plain.proofs.Laws.ImageLaws.{image_injective}
use Rattle.shape.specs.Shape.{Words, lists}
use Rattle.shape.specs.Checked.{Checked}
use Rattle.histories.specs.Runs.{Request, Turn, Origin, Ran, final}
use Rattle.histories.specs.Closing.{Writing, image_in, Images}
use Rattle.histories.specs.Direct.{DirectImages}
use Rattle.histories.proofs.Laws.Following.{run_follows}
use Rattle.histories.proofs.Laws.Closing.{checked_image, left_sound}

-- Of any two checked stores, wherever they come from and whatever was removed in them: where both writings answer 0, the images are equal, length and bytes, exactly
-- when what survives of the plain lists is equal.
pub direct_images : {w₁ w₂ : Words} → Checked w₁ → Checked w₂ → (a₁ : Writing w₁) (a₂ : Writing w₂) → a₁.answer.number ≡ 0 → a₂.answer.number ≡ 0
    → (image_in a₁ ≡ image_in a₂) ↔ (survivors (lists w₁) ≡ survivors (lists w₂))
direct_images {w₁} {w₂} k₁ k₂ a₁ a₂ d₁ d₂ =
    let i₁ = (checked_image k₁ a₁).imaged d₁ in
    let i₂ = (checked_image k₂ a₂).imaged d₂ in (
      λ same. image_injective (survivors (lists w₁)) (survivors (lists w₂)) (left_sound k₁) (left_sound k₂) (sym i₁ ∙ same ∙ i₂),
      λ same. i₁ ∙ ap image same ∙ sym i₂,
    )

-- every two runs, each on its device
pub run_images : {device₁ device₂ : Device} → Proper device₁ → Proper device₂ → {origin₁ origin₂ : Origin} {w₁ w₂ : Words} {requests₁ requests₂ : List Request} {turns₁ turns₂ : List Turn}
    → Ran device₁ origin₁ w₁ requests₁ turns₁ → Ran device₂ origin₂ w₂ requests₂ turns₂ → (a₁ : Writing (final w₁ turns₁)) (a₂ : Writing (final w₂ turns₂))
    → DirectImages device₁ device₂ origin₁ origin₂ w₁ w₂ requests₁ requests₂ turns₁ turns₂ a₁ a₂
run_images p₁ p₂ ran₁ ran₂ a₁ a₂ =
    let f₁ = run_follows p₁ ran₁ in
    let f₂ = run_follows p₂ ran₂ in
    record {
      first = subst (λ (s : State). Images s.lists a₁) f₁.ends (checked_image f₁.checked a₁);
      second = subst (λ (s : State). Images s.lists a₂) f₂.ends (checked_image f₂.checked a₂);
      images = λ d₁ d₂. subst₂ (λ (s t : State). (image_in a₁ ≡ image_in a₂) ↔ (survivors s.lists ≡ survivors t.lists)) f₁.ends f₂.ends
          (direct_images f₁.checked f₂.checked a₁ a₂ d₁ d₂);
    }
