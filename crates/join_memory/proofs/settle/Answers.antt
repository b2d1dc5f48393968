-- `join_memory::settle` meets its contract: the maps, both directions, the payloads, the live words, call by call.
use Rattle.std.specs.Prelude.{length}
use Rattle.plain.specs.Library.{ap₂, subst₂, sym}
use Rattle.plain.specs.declared.TraversalDirection.TheVariants.{Outgoing, Incoming}
use Rattle.plain.specs.declared.Slots.{Slots}
use Rattle.plain.specs.declared.Counts.{Counts}
use Rattle.shape.specs.Kept.{each_length}
use Rattle.shape.specs.Shape.{axis_words}
use Rattle.join_columns.specs.Sides.{AxisJoinable, AxisJoined, Side}
use Rattle.join_memory.specs.Settling.{cleared}
use Rattle.join_memory.specs.Laws.Settling.{second_maps_fit, axis_joinable}
use Rattle.join_memory.proofs.settle.Goals as goal

pub write_maps-requires-2 : goal.write_maps-requires-2
write_maps-requires-2 c = second_maps_fit c.requires

pub join_axis-requires : goal.join_axis-requires
join_axis-requires c =
    rw c.layout-layout.ensures
    (subst₂ (λ (s t : Side). AxisJoinable (axis_words Outgoing (cleared c.args.memory.now)) (length c.args.memory.now.lows.now) (length c.args.memory.now.nodes.now) s t)
    (sym (c.of-first_book.ensures Outgoing)) (sym (c.of-second_book.ensures Outgoing))
    (axis_joinable c.requires c.write_maps.ensures.written c.write_maps-2.ensures.written Outgoing))

pub join_axis-requires-2 : goal.join_axis-requires-2
join_axis-requires-2 c =
    rw c.layout-layout.ensures
    (subst₂ (λ (s t : Side). AxisJoinable (axis_words Incoming (cleared c.args.memory.now)) (length c.args.memory.now.lows.now) (length c.args.memory.now.nodes.now) s t)
    (sym (c.of-first_book.ensures Incoming)) (sym (c.of-second_book.ensures Incoming))
    (axis_joinable c.requires c.write_maps.ensures.written c.write_maps-2.ensures.written Incoming))

pub returns-clause-settled : goal.returns-clause-settled
returns-clause-settled c =
    record {
      lengths = each_length c.join_slots.auto.out c.join_slots-2.auto.out c.join_slots-3.auto.out c.reset_all_live.auto.words
          c.reset_all_live-2.auto.words c.join_axis.auto.axis c.join_axis-2.auto.axis;
      counts = ap₂ {C = Counts} (λ (n e : Slots). record { nodes = n; edges = e }) c.all_based.ensures c.all_based-2.ensures;
      first_maps = c.write_maps.ensures.written;
      second_maps = c.write_maps-2.ensures.written;
      outgoing = subst₂ (λ (s t : Side). AxisJoined c.args.memory.now.outgoing.now (length c.args.memory.now.lows.now) (length c.args.memory.now.nodes.now) s t c.join_axis.new.axis)
          (c.of-first_book.ensures Outgoing) (c.of-second_book.ensures Outgoing) (rw c.layout-layout.ensures at c.join_axis.ensures);
      incoming = subst₂ (λ (s t : Side). AxisJoined c.args.memory.now.incoming.now (length c.args.memory.now.lows.now) (length c.args.memory.now.nodes.now) s t c.join_axis-2.new.axis)
          (c.of-first_book.ensures Incoming) (c.of-second_book.ensures Incoming) (rw c.layout-layout.ensures at c.join_axis-2.ensures);
      nodes = c.join_slots.ensures;
      lows = c.join_slots-2.ensures;
      highs = c.join_slots-3.ensures;
      live_nodes = c.reset_all_live.ensures;
      live_edges = c.reset_all_live-2.ensures;
    }
