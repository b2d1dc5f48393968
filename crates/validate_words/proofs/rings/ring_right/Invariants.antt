-- `validate_words::rings::ring_right` meets its contract. The loop's invariant: the entries from e on decide.
use Rattle.std.specs.Prelude.{◌-◌, ◌*◌, ◌≡◌}
use Rattle.shape.specs.Columns.{cell}
use Rattle.validate_words.specs.Rings.{own_test}
use Rattle.validate_words.proofs.Ringing.{closes}
use Rattle.validate_words.proofs.rings.ring_right.Given as goal

abbrev pub invariant-loop : goal.invariant-loop
invariant-loop l =
    closes (cell l.axis (2 * l.layout.edge_capacity)) l.last (own_test l.base l.bound l.axis l.node) (l.bound - l.base) (cell l.axis (2 * l.layout.edge_capacity) l.last)
    ≡ closes (cell l.axis (2 * l.layout.edge_capacity)) l.last (own_test l.base l.bound l.axis l.node) (l.bound - l.counter) l.e
