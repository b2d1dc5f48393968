-- `lotstrip_text::text::Text::write_answers` meets its contract: the lines of the operations passed are written.
use Rattle.std.specs.Prelude.{◌*◌, drop}
use Rattle.plain.specs.Lotstrip.{answer_lines}
use Rattle.lotstrip_text.proofs.Pieces.{Writing}
use Rattle.lotstrip_text.proofs.text.Text.write_answers.Given as goal

abbrev pub invariant-loop-position : goal.invariant-loop-position
invariant-loop-position l = Writing l.initial.self (answer_lines 0 l.answers) (answer_lines l.position (drop (2 * l.position) l.answers)) l.self
