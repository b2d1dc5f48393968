-- `bits::read_bytewise` meets its contract: the field is cut out of the window of its bytes.
use Rattle.std.specs.Prelude.{◌+◌, ◌-◌, ◌/◌, ◌%◌, ◌≤◌, ◌<◌, ◌≡◌, length, take, drop}
use Rattle.plain.specs.Library.{◌∙◌, sym, arith}
use lib.ListN.{length-take, length-drop}
use Rattle.plain.proofs.Laws.Bits.{field_at_zero}
use Rattle.bits.proofs.Fields.{window_item, window_more, window_room, window_end}
use Rattle.bits.proofs.read_bytewise.Goals.{At-loop-byte}
use Rattle.bits.proofs.read_bytewise.Goals as goal

-- the bytes of the window
count : (c : At-loop-byte) → let a = c.args in
    length (take (c.div_ceil.result - a.position / 8) (drop (a.position / 8) a.bytes.now)) ≡ c.div_ceil.result - a.position / 8
count c = simp (length-take, length-drop) (omega arith)

pub loop-byte-init : goal.loop-byte-init
loop-byte-init c = sym (field_at_zero _ _)

pub raise-requires : goal.raise-requires
raise-requires c =
    let n = count (goal.at.raise-requires c).At-loop-byte in
    let j = c.loop-byte.byte-index in
    let few : j ≤ 4 = omega (arith, n, c.requires.narrow) in
    let room = window_room c.args.bytes.now (c.args.position / 8) j few c.loop-byte.invariant in omega arith

pub loop-byte-preserved : goal.loop-byte-preserved
loop-byte-preserved c =
    let s = c.args.bytes.now in
    let i = c.args.position / 8 in
    let n = count (goal.at.loop-byte-preserved c).At-loop-byte in
    let j = c.loop-byte.byte-index in
    let below : j < c.div_ceil.result - i = omega (arith, n) in
    rw c.raise.ensures
    (window_more s i j (omega arith) (c.type_inv.bytes (i + j)).fits c.loop-byte.invariant (c.from.ensures ∙ window_item s i (c.div_ceil.result - i) j below))

pub returns : goal.returns
returns c =
    let a = c.args in
    let n = count (goal.at.returns c).At-loop-byte in
    rw c.cut.ensures
    (window_end a.bytes.now a.position a.width c.loop-byte.byte-index ((8 - (a.position + a.width) % 8) % 8) (omega (arith, n)) (omega (arith, n)) c.loop-byte.invariant)
