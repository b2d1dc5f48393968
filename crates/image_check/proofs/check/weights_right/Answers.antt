-- `image_check::check::weights_right` meets its contract: all weights pass where each does.
use Rattle.std.specs.Prelude.{refl, leb}
use Rattle.std.proofs.Common.{rules, tests}
use Rattle.std.proofs.lemmas.Iterator.{YieldsList-from_range}
use Rattle.std.proofs.lemmas.Iterator.Search.{all_from_yields_List}
use Rattle.plain.specs.Library.{◌∙◌, arith}
use Rattle.image_check.specs.Columns.{value}
use Rattle.image_check.proofs.Passing.{all_from}
use Rattle.image_check.proofs.check.weights_right.Goals as goal

pub returns : goal.returns
returns c =
    let lows = c.args.lows in
    let highs = c.args.highs in
    all_from_yields_List (λ e. leb (value lows e) (value highs e)) _ _ _ c.all.ensures.ran (YieldsList-from_range 0 lows.edges lows.edges refl (omega arith))
    (λ x b q k. search (rules, tests))
    ∙ all_from (λ e. leb (value lows e) (value highs e)) 0 lows.edges
