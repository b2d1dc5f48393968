-- `strip::run` meets its contract. The loop's invariant: the first `i` operations are done and answered, in the same slices.
use Rattle.std.proofs.Common.{rules}
use Rattle.std.specs.Prelude.{ℕ, List, [], get_or}
use Rattle.plain.specs.Library.{ap, ◌∙◌, arith}
use Rattle.strip.proofs.Silent.{untold}
use Rattle.strip.proofs.Running.{decoded_words, chunk_decoded, running_start, running_turn}
use Rattle.strip.proofs.run.Goals as goal

pub loop-i-init : goal.loop-i-init
loop-i-init c = record { same = search rules; running = rw c.as_chunks.ensures.front_len (running_start c.requires) }

pub write_answer-requires-clause-untold : goal.write_answer-requires-clause-untold
write_answer-requires-clause-untold c = untold _ c.step-came.ensures.steps

pub loop-i-preserved : goal.loop-i-preserved
loop-i-preserved c = record {
  same = search rules;
  running = running_turn c.loop-i.invariant.running c.loop-i-test.true
      (c.decode.ensures ∙ ap (λ (fives : List (List ℕ)). decoded_words (get_or fives c.loop-i.i [])) c.as_chunks.ensures.front
      ∙ chunk_decoded c.args.words.now _ c.loop-i.i (omega (arith, c.as_chunks.ensures.front_len)) (omega arith))
      c.step-came.ensures.steps c.write_answer.ensures;
}
