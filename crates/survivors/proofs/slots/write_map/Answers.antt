-- `survivors::slots::write_map` meets its contract. The loop's invariant: the entries of the slots passed are written, all other words are as they were, and
-- `next` is the number of live slots passed, counted from `first` on.
use Rattle.std.specs.Prelude.{◌≤◌}
use Rattle.plain.specs.Library.{sym, ◌∙◌, arith}
use Rattle.shape.proofs.Laws.Indexing.{rewritten_none, rewritten_all}
use Rattle.adjacency.specs.Laws.Parts.{part_rewritten}
use Rattle.survivors.proofs.Laws.Fronts.{front_long}
use Rattle.survivors.proofs.Laws.Turns.{mapped_live, mapped_dead, mapped_all, rewritten_next, passed_none, passed_live, passed_dead}
use Rattle.survivors.proofs.slots.write_map.Goals.{then-is_live, else-is_live}
use Rattle.survivors.proofs.slots.write_map.Goals as goal

pub loop-slot-init : goal.loop-slot-init
loop-slot-init c = (passed_none _ _ _, rewritten_none _ _ _)

pub loop-slot-preserved : goal.loop-slot-preserved
loop-slot-preserved c =
    let passed = c.loop-slot.invariant.0 in
    let r = c.loop-slot.invariant.1 in
    let long = front_long c.args.map.now c.args.bound c.requires.room in
    elim c.if-is_live.branch [
      | then-is_live w ↦
          let alive = sym c.is_live.ensures ∙ w.if-is_live.true in
          rw (w.word-items-is, w.next-is) (passed_live passed (omega arith) alive, rewritten_next _ r (omega arith) (mapped_live passed alive))
      | else-is_live w ↦
          let dead = sym c.is_live.ensures ∙ w.if-is_live.false in
          rw (w.word-items-is, w.next-is) (passed_dead passed (omega arith) dead, rewritten_next _ r (omega arith) (mapped_dead passed dead))
    ]

pub returns : goal.returns
returns c =
    let passed = c.loop-slot.invariant.0 in
    let long = front_long c.args.map.now c.args.bound c.requires.room in
    let past : c.args.bound ≤ c.loop-slot.slot = omega arith in
    mapped_all passed
    (rewritten_all c.loop-slot.slot
    (part_rewritten c.args.map.now 0 c.args.bound (omega (arith, c.requires.room)) (rewritten_all _ c.loop-slot.invariant.1 (omega (arith, passed.within)) (omega arith)))
    past passed.within) past c.requires.room
