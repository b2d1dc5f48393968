-- `lotstrip::read_input` meets its contract: the bytes that are there are a part of what was lent. The measure is how much room is left.
use Rattle.std.proofs.Common.{◌-◌, ◌≤◌, ◌≡◌, length}
use Rattle.lotstrip.proofs.read_input.Given as goal

abbrev pub invariant-loop-done : goal.invariant-loop-done
invariant-loop-done g l = (length l.bytes ≡ length l.initial.bytes) × (l.done ≤ length l.initial.bytes)

abbrev pub decreases-loop-done : goal.decreases-loop-done
decreases-loop-done g l = length l.initial.bytes - l.done
