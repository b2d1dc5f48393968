-- `join::join` meets its contract: the check of both books, what they are refused by, then the third memory.
use Rattle.std.specs.Prelude.{◌≡◌, Result}
use Rattle.plain.specs.Library.{ap, subst, ◌∙◌}
use Rattle.plain.specs.declared.Answer.{Answer}
use Rattle.plain.specs.declared.Counts.{Counts}
use Rattle.plain.specs.declared.refusals.Rule.{Rule}
use Rattle.plain.specs.Joining.{join_answer}
use Rattle.plain.specs.Memory.{Lengths}
use Rattle.plain.specs.Refusals.{rule_of}
use Rattle.plain.proofs.Laws.Exits.{refused_exit}
use Rattle.memory.specs.Lengths.{measured}
use Rattle.shape.specs.Shape.{Words, lengths_of, store}
use Rattle.shape.specs.Stores.{words}
use Rattle.validate.specs.Judging.{Judged}
use Rattle.join_columns.specs.Answers.{rooms_of, sizes_of}
use Rattle.join.specs.Calls.{LentMaps, maps_of, cleared}
use Rattle.join.proofs.Entry.{first_broken, second_broken, join_refused, settleable, joined}
use Rattle.join.proofs.join.Goals.{Start, After-default-memory, After-lengths-lengths, In_ok-check_store, In_ok-check_store-2}
use Rattle.join.proofs.join.Goals as goal

-- the books, the memory and the slices for the maps at entry
abbrev first : Start → Words
first s = words s.args.first.now

abbrev second : Start → Words
second s = words s.args.second.now

abbrev third : Start → Words
third s = cleared s.args.memory.now

abbrev maps : Start → LentMaps
maps s = maps_of s.args.first_maps.now s.args.second_maps.now

-- the memory with its counts set to 0
reset : (c : After-default-memory)
    → (let m = c.args.memory.now in store c.default-memory.result m.nodes.now m.lows.now m.highs.now m.live_nodes.now m.live_edges.now m.outgoing.now m.incoming.now)
    ≡ cleared c.args.memory.now
reset c =
    let m = c.args.memory.now in
    let none = c.default-memory.ensures in
    ap (λ (counts : Counts). store counts m.nodes.now m.lows.now m.highs.now m.live_nodes.now m.live_edges.now m.outgoing.now m.incoming.now)
    (λ i. record {
      nodes = record { bound = none.0.0 i; base = none.0.1.0 i; live = none.0.1.1 i };
      edges = record { bound = none.1.0 i; base = none.1.1.0 i; live = none.1.1.1 i };
    })

-- the first book is a store, and the second
first_sound : (c : In_ok-check_store) → Judged (words c.args.first.now) 0
first_sound c = subst (λ (came : Result Unit Rule). Judged (words c.args.first.now) (rule_of came)) c.in_ok-check_store.was c.check_store.ensures

second_sound : (c : In_ok-check_store-2) → Judged (words c.args.second.now) 0
second_sound c = subst (λ (came : Result Unit Rule). Judged (words c.args.second.now) (rule_of came)) c.in_ok-check_store-2.was c.check_store-2.ensures

-- what is told by the lengths that are measured
told : (c : After-lengths-lengths)
    → ◌≡◌ {A = Answer}
    (join_answer (measured c.lengths-lengths.result) (sizes_of c.args.first.now.counts) (sizes_of c.args.second.now.counts) (rooms_of c.args.first_maps.now c.args.second_maps.now))
    (join_answer (lengths_of (cleared c.args.memory.now)) (sizes_of c.args.first.now.counts) (sizes_of c.args.second.now.counts) (rooms_of c.args.first_maps.now c.args.second_maps.now))
told c =
    ap (λ (l : Lengths). join_answer l (sizes_of c.args.first.now.counts) (sizes_of c.args.second.now.counts) (rooms_of c.args.first_maps.now c.args.second_maps.now))
    (c.lengths-lengths.ensures ∙ ap lengths_of c.as_store.ensures)

pub returns-in_err-check_store-clause-joined : goal.returns-in_err-check_store-clause-joined
returns-in_err-check_store-clause-joined c =
    let at = goal.at.returns-in_err-check_store-clause-joined c in
    let s = at.Start in
    rw (refused_exit c.from_residual.result c.from_residual.ensures.1)
    (first_broken (first s) (second s) (third s) (maps s) c.in_err-check_store.field-0.0 c.in_err-check_store.ensures (reset at.After-default-memory))

pub returns-in_err-check_store-2-clause-joined : goal.returns-in_err-check_store-2-clause-joined
returns-in_err-check_store-2-clause-joined c =
    let at = goal.at.returns-in_err-check_store-2-clause-joined c in
    let s = at.Start in
    rw (refused_exit c.from_residual-in_err-check_store-2.result c.from_residual-in_err-check_store-2.ensures.1)
    (second_broken (first s) (second s) (third s) (maps s) (first_sound at.In_ok-check_store) c.in_err-check_store-2.field-0.0 c.in_err-check_store-2.ensures
    (reset at.After-default-memory))

pub returns-in_err-check_join-clause-joined : goal.returns-in_err-check_join-clause-joined
returns-in_err-check_join-clause-joined c =
    let at = goal.at.returns-in_err-check_join-clause-joined c in
    let s = at.Start in
    rw (refused_exit c.from_residual-in_err-check_join.result c.from_residual-in_err-check_join.ensures.1)
    (join_refused (first s) (second s) (third s) (maps s) (first_sound at.In_ok-check_store) (second_sound at.In_ok-check_store-2) c.in_err-check_join.field-0.0
    (c.in_err-check_join.ensures ∙ told at.After-lengths-lengths) (reset at.After-default-memory))

pub settle-requires : goal.settle-requires
settle-requires c =
    let at = goal.at.settle-requires c in
    let s = at.Start in
    settleable (first s) (second s) (third s) (maps s) (first_sound at.In_ok-check_store) (second_sound at.In_ok-check_store-2)
    (c.in_ok-check_join.ensures ∙ told at.After-lengths-lengths)

pub returns-clause-joined : goal.returns-clause-joined
returns-clause-joined c =
    let at = goal.at.returns-clause-joined c in
    let s = at.Start in
    joined (first s) (second s) (third s) (maps s) (first_sound at.In_ok-check_store) (second_sound at.In_ok-check_store-2)
    (c.in_ok-check_join.ensures ∙ told at.After-lengths-lengths) c.settle.ensures.settled
