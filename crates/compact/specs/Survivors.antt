-- The shape of a store whose survivors are all in the base, which is what compaction and image reading leave.
use Rattle.std.specs.Prelude.{map, length}
use Rattle.plain.specs.Compaction.{Survivors, kept_edge, kept_node, source_of, target_of}
use Rattle.shape.specs.Shape.{Shape}
use Rattle.shape.specs.Laws.NewBase.{in_base}

-- the shape of survivors: "the bounds being its two counts", every slot live, no ring, no run
unfoldable pub shape_of_survivors : Survivors → Shape
shape_of_survivors s = record {
  nodes = map kept_node s.nodes;
  edges = map kept_edge s.edges;
  base_nodes = length s.nodes;
  base_edges = length s.edges;
  outgoing = record { ends = map source_of s.edges; nodes = map in_base s.outs };
  incoming = record { ends = map target_of s.edges; nodes = map in_base s.ins };
}
