-- `image_write::write_image` meets its contract: a law for each way out.
use Rattle.plain.specs.Library.{ap, rules}
use Rattle.plain.specs.Refusals.{rule_of}
use Rattle.plain.proofs.Laws.Exits.{refused_exit}
use Rattle.image_write.proofs.Surviving.{counts_few}
use Rattle.image_write.proofs.WriteCases.{work_short, bytes_short, image_fits, write_done}
use Rattle.image_write.proofs.write_image.Goals as goal

pub returns-in_err-need : goal.returns-in_err-need
returns-in_err-need c =
    let lacks = c.in_err-need.ensures in
    rw (refused_exit _ c.from_residual-in_err-need.ensures.1, lacks.1) (work_short c.check_store.ensures (ap rule_of c.in_ok-check_store.was) lacks.0)

pub image_bytes-needed-requires : goal.image_bytes-needed-requires
image_bytes-needed-requires c = counts_few (c.check_store.ensures.checked (ap rule_of c.in_ok-check_store.was))

pub returns-in_err-need-2 : goal.returns-in_err-need-2
returns-in_err-need-2 c =
    let lacks = c.in_err-need-2.ensures in
    rw (refused_exit _ c.from_residual-in_err-need-2.ensures.1, lacks.1)
    (bytes_short c.check_store.ensures (ap rule_of c.in_ok-check_store.was) c.in_ok-need.ensures c.image_bytes-needed.ensures lacks.0)

pub write_both-requires : goal.write_both-requires
write_both-requires c =
    record { checked = c.check_store.ensures.checked (ap rule_of c.in_ok-check_store.was); room = c.in_ok-need.ensures }

pub write_survivors-requires : goal.write_survivors-requires
write_survivors-requires c =
    image_fits _ (c.check_store.ensures.checked (ap rule_of c.in_ok-check_store.was)) c.in_ok-need.ensures c.image_bytes-needed.ensures c.in_ok-need-2.ensures
    c.write_both.ensures (search rules)

pub returns : goal.returns
returns c =
    write_done c.check_store.ensures (ap rule_of c.in_ok-check_store.was) c.in_ok-need.ensures c.image_bytes-needed.ensures c.in_ok-need-2.ensures
    c.write_both.ensures (search rules) c.write_survivors.ensures
