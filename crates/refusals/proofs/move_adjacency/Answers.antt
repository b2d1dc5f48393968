-- `refusals::move_adjacency` meets its contract: the tests in document 01's order, then the store's move.
use Rattle.std.specs.Prelude.{◌≢◌, []}
use Rattle.plain.specs.Plain.{list_of}
use Rattle.plain.proofs.Laws.Exits.{refused_exit}
use Rattle.shape.specs.Shape.{lists}
use Rattle.shape.specs.Stores.{words_mut}
use Rattle.refusals.proofs.Told.{told_node, known_node, unknown_node}
use Rattle.refusals.proofs.Relocations.{unlisted, listed, onto_itself, old_absent, nothing_moved, new_fault, old_live, edges_moved}
use Rattle.refusals.proofs.move_adjacency.Goals.{Else-degree-eq0}
use Rattle.refusals.proofs.move_adjacency.Goals as goal

-- some edges are listed
some : (c : Else-degree-eq0) → list_of c.args.direction (lists (words_mut c.args.store.now)) c.args.old ≢ []
some c = listed c.as_store-read.ensures c.args.direction c.args.old c.degree.ensures c.if-degree-eq0.false

pub returns-then-old-new-clause-steps : goal.returns-then-old-new-clause-steps
returns-then-old-new-clause-steps c = onto_itself c.requires c.args.direction c.args.old c.args.new c.if-old-new.true

pub returns-in_err-known_node-clause-steps : goal.returns-in_err-known_node-clause-steps
returns-in_err-known_node-clause-steps c =
    rw (refused_exit _ c.from_residual.ensures.1, c.in_err-known_node.ensures.1)
    (old_absent c.requires c.args.direction c.args.old c.args.new c.if-old-new.false (unknown_node c.as_store-read.ensures c.in_err-known_node.ensures.0))

pub returns-then-degree-eq0-clause-steps : goal.returns-then-degree-eq0-clause-steps
returns-then-degree-eq0-clause-steps c =
    nothing_moved c.requires c.args.direction c.args.old c.args.new c.if-old-new.false (known_node c.as_store-read.ensures c.in_ok-known_node.ensures)
    (unlisted c.as_store-read.ensures c.args.direction c.args.old c.degree.ensures c.if-degree-eq0.true)

pub returns-in_err-live_node-clause-steps : goal.returns-in_err-live_node-clause-steps
returns-in_err-live_node-clause-steps c =
    rw (refused_exit _ c.from_residual-in_err-live_node.ensures.1)
    (new_fault c.requires c.args.direction c.args.old c.args.new c.if-old-new.false (known_node c.as_store-read.ensures c.in_ok-known_node.ensures)
    (some (goal.at.returns-in_err-live_node-clause-steps c).Else-degree-eq0) c.as_store-read.ensures c.in_err-live_node.ensures)

pub move_adjacency-requires : goal.move_adjacency-requires
move_adjacency-requires c =
    let there = some (goal.at.move_adjacency-requires c).Else-degree-eq0 in
    record {
      checked = c.requires;
      apart = c.if-old-new.false;
      old_live = old_live c.requires c.args.direction c.args.old c.args.new c.if-old-new.false (known_node c.as_store-read.ensures c.in_ok-known_node.ensures) there;
      some = there;
      new_live = told_node c.as_store-read.ensures c.args.new c.in_ok-live_node.ensures;
    }

pub returns-clause-steps : goal.returns-clause-steps
returns-clause-steps c =
    edges_moved c.requires c.args.direction c.args.old c.args.new c.if-old-new.false (known_node c.as_store-read.ensures c.in_ok-known_node.ensures)
    (some (goal.at.returns-clause-steps c).Else-degree-eq0) (told_node c.as_store-read.ensures c.args.new c.in_ok-live_node.ensures)
    c.move_adjacency.ensures.moved
