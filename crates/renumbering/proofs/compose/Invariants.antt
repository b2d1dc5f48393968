-- `renumbering::compose` meets its contract. The loop's invariant: the composed map is written up to `i`, and the rest is as it was.
use Rattle.std.specs.Prelude.{◌≡◌, ◌++◌, length, take, drop}
use Rattle.plain.specs.Renumbering.{composed}
use Rattle.renumbering.proofs.compose.Given as goal

abbrev pub invariant-loop-i : goal.invariant-loop-i
invariant-loop-i l = record {
  written : l.res ≡ take l.i (composed l.first l.second) ++ drop l.i l.initial.res;
  as_long : length l.res ≡ length l.initial.res;
}
