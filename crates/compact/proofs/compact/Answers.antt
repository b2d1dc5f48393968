-- `compact::compact` meets its contract: the refusals, then the store.
use Rattle.std.specs.Prelude.{Result}
use Rattle.plain.specs.Library.{subst, sym}
use Rattle.plain.specs.declared.refusals.Rule.{Rule}
use Rattle.plain.specs.Refusals.{rule_number, rule_of}
use Rattle.plain.proofs.Laws.Exits.{refused_exit}
use Rattle.shape.specs.Shape.{Words}
use Rattle.shape.specs.Stores.{words, words_mut}
use Rattle.validate.specs.Judging.{Judged}
use Rattle.compact.proofs.Entry.{compact_judged, compact_short, compact_settleable, compact_settled}
use Rattle.compact.proofs.compact.Goals.{In_ok-check_store}
use Rattle.compact.proofs.compact.Goals as goal

-- the words are a store
sound : (c : In_ok-check_store) → Judged (words_mut c.args.store.now) 0
sound c =
    subst (λ (w : Words). Judged w 0) c.as_store.ensures
    (subst (λ (came : Result Unit Rule). Judged (words c.as_store.result) (rule_of came)) c.in_ok-check_store.was c.check_store.ensures)

pub returns-in_err-check_store-clause-compacted : goal.returns-in_err-check_store-clause-compacted
returns-in_err-check_store-clause-compacted c =
    let judged = subst (λ (w : Words). Judged w (rule_number c.in_err-check_store.field-0.0)) c.as_store.ensures c.in_err-check_store.ensures in
    rw (refused_exit c.from_residual.result c.from_residual.ensures.1) (compact_judged _ _ _ _ c.in_err-check_store.field-0.0 judged)

pub returns-in_err-check_lent-clause-compacted : goal.returns-in_err-check_lent-clause-compacted
returns-in_err-check_lent-clause-compacted c =
    rw (refused_exit c.from_residual-in_err-check_lent.result c.from_residual-in_err-check_lent.ensures.1)
    (compact_short (sound (goal.at.returns-in_err-check_lent-clause-compacted c).In_ok-check_store) c.in_err-check_lent.field-0.0 c.in_err-check_lent.ensures)

pub settle-requires : goal.settle-requires
settle-requires c =
    compact_settleable (sound (goal.at.settle-requires c).In_ok-check_store) c.in_ok-check_lent.ensures

-- the lent maps hold what was written to them
pub returns-clause-compacted : goal.returns-clause-compacted
returns-clause-compacted c =
    let same = c.settle.ensures.same_maps in
    rw (c.node_map-2-1.given.1.1 (sym same.nodes), c.edge_map-2-1.given.1.1 (sym same.edges))
    (compact_settled (sound (goal.at.returns-clause-compacted c).In_ok-check_store) c.in_ok-check_lent.ensures c.settle.ensures.settled)
