-- `validate::flat::lists_flat` meets its contract: what the passes find are laws.
use Rattle.plain.specs.Library.{sym, ◌∙◌}
use Rattle.marks.specs.Laws.Fresh.{clear_map}
use Rattle.validate.proofs.Listing.{flat_readable, runs_hold, walks_hold}
use Rattle.validate.proofs.flat.lists_flat.Goals as goal

pub lists_once-requires : goal.lists_once-requires
lists_once-requires c = (c.requires, flat_readable c.requires c.no_runs-runless.ensures, clear_map 512)

pub returns-then-ends_live : goal.returns-then-ends_live
returns-then-ends_live c =
    let pre = c.requires in
    let once = c.lists_once.ensures c.if-not-lists_once.false in
    let ends = c.ends_live.ensures c.if-ends_live.true in
    λ h. let found = sym c.live_marked.ensures ∙ h in
    (runs_hold pre once ends found, walks_hold pre once ends found)
