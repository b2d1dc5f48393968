-- `validate::rules::walks_right` meets its contract.
use Rattle.std.specs.Prelude.{◌≡◌}
use Rattle.plain.specs.Library.{sym, ◌∙◌}
use Rattle.plain.specs.declared.TraversalDirection.TheVariants.{Outgoing, Incoming}
use Rattle.shape.specs.Shape.{shape_of, plain_of}
use Rattle.shape.specs.Stores.{words}
use Rattle.shape.specs.Rules.{walks_right, rule_7}
use Rattle.validate.proofs.Deciding.{walks_readable, walks_rule}
use Rattle.validate.proofs.rules.walks_right.Goals.{Joined-out, then-out, else-out}
use Rattle.validate.proofs.rules.walks_right.Goals as goal

-- one direction: its walks are known to be right, or followed
outgoing : (c : Joined-out) → c.if-out.value ≡ walks_right (plain_of (shape_of (words c.args.store.now))) Outgoing
outgoing c =
    elim c.if-out.branch [
      | then-out w ↦ w.value-is ∙ w.if-out.true ∙ sym (c.requires.out_seen w.if-out.true)
      | else-out w ↦ w.value-is ∙ (rw (w.incidence.ensures.axis, w.incidence.ensures.layout, w.incidence.ensures.live_nodes, w.incidence.ensures.live_edges) at w.walks_right.ensures) ∙ walks_rule _ Outgoing c.requires.structured
    ]

pub walks_right-requires : goal.walks_right-requires
walks_right-requires c = rw (c.incidence.ensures.axis, c.incidence.ensures.layout, c.incidence.ensures.live_nodes, c.incidence.ensures.live_edges) (walks_readable _ Outgoing c.requires.structured)

pub walks_right-requires-else-back : goal.walks_right-requires-else-back
walks_right-requires-else-back c = rw (c.incidence-else-back.ensures.axis, c.incidence-else-back.ensures.layout, c.incidence-else-back.ensures.live_nodes, c.incidence-else-back.ensures.live_edges) (walks_readable _ Incoming c.requires.structured)

pub returns-then-back : goal.returns-then-back
unfolding rule_7
returns-then-back c = rw (sym (outgoing (goal.at.returns-then-back c).Joined-out) ∙ c.if-walks_right.true) (c.if-back.true ∙ sym (c.requires.back_seen c.if-back.true))

pub returns-else-back : goal.returns-else-back
unfolding rule_7
returns-else-back c =
    rw (sym (outgoing (goal.at.returns-else-back c).Joined-out) ∙ c.if-walks_right.true) ((rw (c.incidence-else-back.ensures.axis, c.incidence-else-back.ensures.layout, c.incidence-else-back.ensures.live_nodes, c.incidence-else-back.ensures.live_edges) at c.walks_right-else-back.ensures) ∙ walks_rule _ Incoming c.requires.structured)

pub returns-else-walks_right : goal.returns-else-walks_right
unfolding rule_7
returns-else-walks_right c = c.if-walks_right.false ∙ rw (sym (outgoing (goal.at.returns-else-walks_right c).Joined-out) ∙ c.if-walks_right.false)
