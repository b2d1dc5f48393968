-- `lotstrip_text::input::read_words` meets its contract: after each turn one word more stands in its place.
use Rattle.std.specs.Prelude.{ℕ, List, [], get_or}
use Rattle.plain.specs.Library.{ap, ◌∙◌, arith}
use Rattle.lotstrip_text.proofs.Words.{word_made, chunk_made, words_start, word_room, words_more, words_all}
use Rattle.lotstrip_text.proofs.input.read_words.Goals as goal

pub loop-i-init : goal.loop-i-init
loop-i-init c = words_start _ _

pub bounds-words-i : goal.bounds-words-i
bounds-words-i c = word_room c.loop-i.invariant (omega arith) c.requires

pub loop-i-preserved : goal.loop-i-preserved
loop-i-preserved c =
    let made = ap (λ (fours : List (List ℕ)). word_made (get_or fours c.loop-i.i [])) c.as_chunks.ensures.front in
    rw (c.from_be_bytes.ensures ∙ made ∙ chunk_made c.args.bytes.now _ c.loop-i.i (omega (arith, c.as_chunks.ensures.front_len)) (omega arith))
    (words_more c.loop-i.invariant (omega (arith, c.as_chunks.ensures.front_len)) c.requires)

pub returns : goal.returns
returns c = words_all c.loop-i.invariant (omega arith)
