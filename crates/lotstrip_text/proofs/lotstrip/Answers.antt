-- `lotstrip_text::lotstrip` meets its contract: what was told is in the slice that was lent.
use Rattle.std.specs.Prelude.{ℕ, List}
use Rattle.plain.specs.Library.{sym, subst₂, ◌∙◌}
use Rattle.lotstrip_text.specs.Printing.{LotstripOf}
use Rattle.lotstrip_text.proofs.Printing.{told}
use Rattle.lotstrip_text.proofs.lotstrip.Goals as goal

pub returns : goal.returns
returns c =
    let moved = c.text-1.given.1.1 (sym (c.tell.ensures.same ∙ c.new-out.ensures.same)) in
    subst₂ (λ (s t : List ℕ). LotstripOf c.args.input.now s c.tell.new.out.end t) c.new-out.ensures.here (sym moved) (told c.new-out.ensures.empty c.tell.ensures)
