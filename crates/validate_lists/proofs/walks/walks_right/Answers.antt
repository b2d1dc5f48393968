-- `validate_lists::walks::walks_right` meets its contract. The loop's invariant: the walks of the nodes from x on decide, the entries of those before are marked. The measure
-- is the number of nodes left.
use Rattle.std.specs.Prelude.{refl, replicate}
use Rattle.plain.specs.Library.{◌∙◌, arith}
use Rattle.marks.specs.Laws.Fresh.{clear_map}
use Rattle.validate_lists.proofs.Walking.{walking_start, walking_on, walking_fails, walking_done}
use Rattle.validate_lists.proofs.walks.walks_right.Goals as goal

pub loop-x-init : goal.loop-x-init
loop-x-init c = walking_start _ _ _ _ _ _ (replicate 512 0) (clear_map 512) refl

pub walk_right-requires : goal.walk_right-requires
walk_right-requires c =
    record { walkable = c.requires.walkable _ c.loop-x-test.true; marks_long = omega (arith, c.loop-x.invariant.long) }

pub returns-then-not-walk_right : goal.returns-then-not-walk_right
returns-then-not-walk_right c =
    walking_fails _ _ _ _ _ _ c.loop-x.invariant c.is_live-live.ensures c.walk_right.ensures c.loop-x-test.true c.if-not-walk_right.true

pub loop-x-preserved : goal.loop-x-preserved
loop-x-preserved c =
    walking_on _ _ _ _ _ _ c.loop-x.invariant c.is_live-live.ensures c.walk_right.ensures c.loop-x-test.true c.if-not-walk_right.false
    c.walk_right.auto.seen

pub returns : goal.returns
returns c =
    c.live_marked.ensures ∙ walking_done _ _ _ _ _ _ c.loop-x.invariant c.loop-x-test.false c.requires.ends_below
