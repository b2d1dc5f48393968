-- `image_write::write_survivors` meets its contract: slots and lists follow each other, at the least widths, and what waits in the pen is written.
use Rattle.plain.specs.Library.{sym, subst, ◌∙◌, arith}
use lib.Seq.{length-take-le}
use Rattle.plain.specs.Laws.Below.{Below}
use Rattle.plain.proofs.Laws.Below.{below_of}
use Rattle.image_write.proofs.Surviving.{Begun, slots_fit, lists_fit, end_fits, wrote_image}
use Rattle.image_write.proofs.write_survivors.Goals.{After-new-out}
use Rattle.image_write.proofs.write_survivors.Goals as goal

begun : (c : After-new-out) → Begun c.args.bytes.now c.new-out.result
begun c = record { lent = c.new-out.ensures.here; pen = c.new-out.ensures.pen }

pub write_slots-requires : goal.write_slots-requires
write_slots-requires c = slots_fit c.requires (begun (goal.at.write_slots-requires c).After-new-out)

pub slice_bounds-write_lists-end : goal.slice_bounds-write_lists-end
slice_bounds-write_lists-end c = sym (length-take-le _ c.args.work.now c.requires.work_there)

pub write_lists-requires : goal.write_lists-requires
write_lists-requires c =
    lists_fit c.requires (begun (goal.at.write_lists-requires c).After-new-out) c.write_slots.ensures

pub finish-requires : goal.finish-requires
finish-requires c =
    end_fits c.requires (begun (goal.at.finish-requires c).After-new-out) c.write_slots.ensures c.write_lists.ensures

pub returns : goal.returns
returns c =
    let moved = c.bytes-1.given.1.1 (sym (c.write_lists.ensures.same ∙ c.write_slots.ensures.same ∙ c.new-out.ensures.same)) in
    moved
    ∙ wrote_image c.requires (begun (goal.at.returns c).After-new-out) c.write_slots.ensures c.write_lists.ensures
    c.finish.ensures (below_of _ (λ i l. omega (arith, c.slice_known-1.given i))) (subst (Below 256) moved (below_of _ (λ i l. omega (arith, c.type_inv.bytes i))))
