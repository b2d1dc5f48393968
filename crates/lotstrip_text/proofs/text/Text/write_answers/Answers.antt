-- `lotstrip_text::text::Text::write_answers` meets its contract: the lines of the operations passed are written.
use Rattle.std.specs.Prelude.{ℕ, List, [], get_or}
use Rattle.plain.specs.Library.{ap, ◌∙◌, arith}
use Rattle.lotstrip_text.proofs.Pieces.{writing_start, writing_room, writing_more, writing_end}
use Rattle.lotstrip_text.proofs.Lines.{lines_next, pair_is, lines_none}
use Rattle.lotstrip_text.proofs.text.Text.write_answers.Goals as goal

pub loop-position-init : goal.loop-position-init
loop-position-init c = writing_start _ _ c.requires

pub write_line-requires : goal.write_line-requires
write_line-requires c =
    let pair =
    ap (λ (pairs : List (List ℕ)). get_or pairs c.loop-position.position []) c.as_chunks.ensures.front
    ∙ pair_is c.args.answers.now _ c.loop-position.position (omega (arith, c.as_chunks.ensures.front_len)) (omega arith) in
    rw pair (writing_room c.loop-position.invariant (lines_next c.args.answers.now c.loop-position.position (omega (arith, c.as_chunks.ensures.front_len))))

pub loop-position-preserved : goal.loop-position-preserved
loop-position-preserved c =
    let pair =
    ap (λ (pairs : List (List ℕ)). get_or pairs c.loop-position.position []) c.as_chunks.ensures.front
    ∙ pair_is c.args.answers.now _ c.loop-position.position (omega (arith, c.as_chunks.ensures.front_len)) (omega arith) in
    writing_more c.loop-position.invariant (lines_next c.args.answers.now c.loop-position.position (omega (arith, c.as_chunks.ensures.front_len)))
    (rw pair at c.write_line.ensures)

pub returns : goal.returns
returns c = writing_end c.loop-position.invariant (lines_none c.args.answers.now c.loop-position.position (omega arith))
