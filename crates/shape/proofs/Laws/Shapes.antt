-- Two shapes with the same parts are one.
use Rattle.std.specs.Prelude.{◌≡◌}
use Rattle.shape.specs.Shape.{Shape}

-- two shapes with the same parts
pub shape_ext : {s t : Shape} → s.nodes ≡ t.nodes → s.edges ≡ t.edges → s.base_nodes ≡ t.base_nodes → s.base_edges ≡ t.base_edges
    → s.outgoing ≡ t.outgoing → s.incoming ≡ t.incoming → s ≡ t
shape_ext a b c d e f = λ i. record { nodes = a i; edges = b i; base_nodes = c i; base_edges = d i; outgoing = e i; incoming = f i }
