-- DEMAND 3, one theorem about two whole lists of calls. Document 01, sentence by sentence:
-- "It is one claim about two whole lists of calls, not one for each call." `demand_3`: of any two runs, in any memory, with whatever is lent, each from a fresh
-- store on (`history`), from an image read into memory that may hold anything, or from a store from elsewhere that passes the check.
-- "Every number answered in them follows from the plain lists and the calls' arguments, lengths included, never from the store's counts or words": `answers` and
-- `numbers` of `Follows`; of the closing calls `Compacts` and `Writes`.
-- "a refused call or operation leaves the plain lists and the store as they were": `refusals` of `Follows`.
-- "The closing compactions and image writings are meant where they answer 0; the only other number they can give is 2": `Done`, and `zero_or_two` of both.
-- "A field is a count of the record or a word of the store's own memory .. whose content can change an answer": `unchanged` of `NothingMore` has every count and
-- every word, field or not.
-- "an identity map holds i at each i below the bound": `node_map` and `edge_map` of `NothingMore`.
-- "Order and image equality are measured on the plain lists, never on the port's own walks": `images`, by the survivors of the history's plain lists.
-- Document 02, No. 7: "Whatever is proved of a store is proved over the capacity, with no copy for the skid." Each run is on a device of its own, a box or the skid; two boxes
-- are one case.
-- The theorem is proved in proofs/Demand, the laws that it rests on in proofs/Laws.
use Rattle.std.specs.Prelude.{◌≡◌, refl, List, map, ◌↔◌}
use Rattle.plain.specs.Step.{State}
use Rattle.plain.specs.Devices.{Device}
use Rattle.plain.specs.Compaction.{survivors}
use Rattle.plain.specs.History.{history_from, history}
use Rattle.shape.specs.Shape.{Words, capacities}
use Rattle.histories.specs.Runs.{Request, call_of, Turn, Origin, FreshStore, first_state, final}
use Rattle.histories.specs.Follows.{Follows}
use Rattle.histories.specs.Closing.{Closing, Done, image_of, Closes}

-- the history of requests in memory w: of the device, the origin, the capacities and the calls, of no count and no word
abbrev pub history_of : Device → Origin → Words → List Request → State
history_of device origin w requests = history_from device (capacities w) (first_state origin) (map call_of requests)

-- from a fresh store on it is the `history` of the definitions
pub history_of_fresh : (device : Device) (w : Words) (requests : List Request)
    → history_of device FreshStore w requests ≡ history device (capacities w) (map call_of requests)
unfolding history
history_of_fresh device w requests = refl

-- What holds of two runs, each closed by a compaction and an image writing: "It is one claim about two whole lists of calls, not one for each call."
pub record Demand3 (device₁ device₂ : Device) (origin₁ origin₂ : Origin) (w₁ w₂ : Words) (requests₁ requests₂ : List Request) (turns₁ turns₂ : List Turn)
    (c₁ : Closing (final w₁ turns₁)) (c₂ : Closing (final w₂ turns₂)) : Type 0 where
  pub first : Follows device₁ (capacities w₁) (first_state origin₁) w₁ requests₁ turns₁
  pub second : Follows device₂ (capacities w₂) (first_state origin₂) w₂ requests₂ turns₂
  pub first_closes : Closes (history_of device₁ origin₁ w₁ requests₁) c₁
  pub second_closes : Closes (history_of device₂ origin₂ w₂ requests₂) c₂
  -- where the closing calls answer 0, the images are equal, length and bytes, exactly when the survivors are equal: payloads, ends, and both lists of each lot
  pub images : Done c₁ → Done c₂
      → (image_of c₁ ≡ image_of c₂) ↔ (survivors (history_of device₁ origin₁ w₁ requests₁).lists ≡ survivors (history_of device₂ origin₂ w₂ requests₂).lists)
