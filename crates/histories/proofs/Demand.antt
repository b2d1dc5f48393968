-- DEMAND 3, proved: `demand_3` of every two runs, and `checked_images` of any two checked stores. What it says stands in specs/Demand, sentence by sentence.
use Rattle.std.specs.Prelude.{◌≡◌, List, ◌↔◌}
use Rattle.plain.specs.Library.{sym, ap, subst, subst₂, ◌∙◌}
use Rattle.plain.specs.Step.{State}
use Rattle.plain.specs.Devices.{Device, Proper}
use Rattle.plain.specs.Compaction.{survivors}
use Rattle.plain.specs.Image.{image}
use Rattle.plain.proofs.Laws.ImageLaws.{image_injective}
use Rattle.shape.specs.Shape.{Words, lists}
use Rattle.shape.specs.Checked.{Checked}
use Rattle.histories.specs.Runs.{Request, Turn, Origin, Ran, final}
use Rattle.histories.specs.Closing.{Closing, Done, image_of, Closes}
use Rattle.histories.specs.Demand.{Demand3}
use Rattle.histories.proofs.Laws.Following.{run_follows}
use Rattle.histories.proofs.Laws.Closing.{checked_closes, left_sound}

-- The image half, of any two checked stores, wherever they come from. Document 02, No. 9: "compaction, joining and the image keep every walk of every store that
-- passes the check, ring order included. So equality of images now covers all checked stores and not only those built by operations." Where the closing calls answer 0,
-- the images are equal exactly when what survives of the plain lists is equal. `images` of demand 3 is its case of runs.
pub checked_images : {w₁ w₂ : Words} → Checked w₁ → Checked w₂ → (c₁ : Closing w₁) (c₂ : Closing w₂) → Done c₁ → Done c₂
    → (image_of c₁ ≡ image_of c₂) ↔ (survivors (lists w₁) ≡ survivors (lists w₂))
checked_images {w₁} {w₂} k₁ k₂ c₁ c₂ d₁ d₂ =
    let i₁ = (checked_closes k₁ c₁).imaged d₁ in
    let i₂ = (checked_closes k₂ c₂).imaged d₂ in (
      λ same. image_injective (survivors (lists w₁)) (survivors (lists w₂)) (left_sound k₁) (left_sound k₂) (sym i₁ ∙ same ∙ i₂),
      λ same. i₁ ∙ ap image same ∙ sym i₂,
    )

-- every two runs, each on its device and closed in any way
pub demand_3 : {device₁ device₂ : Device} → Proper device₁ → Proper device₂ → {origin₁ origin₂ : Origin} {w₁ w₂ : Words} {requests₁ requests₂ : List Request} {turns₁ turns₂ : List Turn}
    → Ran device₁ origin₁ w₁ requests₁ turns₁ → Ran device₂ origin₂ w₂ requests₂ turns₂ → (c₁ : Closing (final w₁ turns₁)) (c₂ : Closing (final w₂ turns₂))
    → Demand3 device₁ device₂ origin₁ origin₂ w₁ w₂ requests₁ requests₂ turns₁ turns₂ c₁ c₂
demand_3 p₁ p₂ ran₁ ran₂ c₁ c₂ =
    let f₁ = run_follows p₁ ran₁ in
    let f₂ = run_follows p₂ ran₂ in
    record {
      first = f₁;
      second = f₂;
      first_closes = subst (λ (s : State). Closes s c₁) f₁.ends (checked_closes f₁.checked c₁);
      second_closes = subst (λ (s : State). Closes s c₂) f₂.ends (checked_closes f₂.checked c₂);
      images = λ d₁ d₂. subst₂ (λ (s t : State). (image_of c₁ ≡ image_of c₂) ↔ (survivors s.lists ≡ survivors t.lists)) f₁.ends f₂.ends
          (checked_images f₁.checked f₂.checked c₁ c₂ d₁ d₂);
    }
