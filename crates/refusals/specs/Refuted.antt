-- A wrong program that the record of an operation rules out: a removal that finds nothing live, answers 0 with value 0, and writes a spare word all the same.
-- No must-fail edit can say it, since a word that no read looks at is caught by the record alone.
use Rattle.std.specs.Prelude.{ℕ, ◌<◌, ◌≡◌, length, get_or, set, eqb}
use Rattle.plain.specs.Library.{sym, ap, ◌∙◌, get_or-set_same}
use Rattle.plain.specs.declared.Operation.TheVariants.{RemoveEdge}
use Rattle.shape.specs.Shape.{Words, store}
use Rattle.refusals.specs.Step.{StepOf}

-- Word 512 of the live words is spare in every store: 32,768 slots have the words 0 to 511. Another word is written there, and nothing else is changed.
pub idle_removal_writes_no_spare_word : (w : Words) (e word : ℕ) → 512 < length w.live_edges → (get_or w.live_edges 512 0 ≡ word → ⊥)
    → StepOf (RemoveEdge e) w (store w.counts w.nodes w.lows w.highs w.live_nodes (set w.live_edges 512 word) w.outgoing w.incoming) 0 0 → ⊥
idle_removal_writes_no_spare_word w e word room differs does =
    differs (sym (ap (λ (v : Words). get_or v.live_edges 512 0) (does.idle_keeps (ap (λ (n : ℕ). eqb n 1) (sym does.valued)))) ∙ get_or-set_same w.live_edges 512 word 0 room)
