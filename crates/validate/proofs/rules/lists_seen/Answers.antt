-- `validate::rules::lists_seen` meets its contract.
use Rattle.plain.specs.Library.{sym, ◌∙◌}
use Rattle.shape.specs.Stores.{words}
use Rattle.validate.proofs.Deciding.{structured, lists_readable, walks_rule}
use Rattle.validate.proofs.rules.lists_seen.Goals as goal

pub lists_flat-requires : goal.lists_flat-requires
lists_flat-requires c = rw (c.incidence.ensures.axis, c.incidence.ensures.layout, c.incidence.ensures.live_nodes, c.incidence.ensures.live_edges) (lists_readable (words c.args.store.now) c.args.direction c.requires)

pub returns : goal.returns
returns c =
    let w = words c.args.store.now in
    λ h. let seen = rw (c.incidence.ensures.axis, c.incidence.ensures.layout, c.incidence.ensures.live_nodes, c.incidence.ensures.live_edges) at (c.lists_flat.ensures h) in
    (seen.0, λ six. sym (walks_rule w c.args.direction (structured c.requires six)) ∙ seen.1)
