-- `step::step` meets its contract: each arm is the function that it calls, and an unknown code is refused.
use Rattle.refusals.specs.Laws.Stepping.{unknown}
use Rattle.step.proofs.step.Goals as goal

pub returns-in-Unknown-clause-steps : goal.returns-in-Unknown-clause-steps
returns-in-Unknown-clause-steps c = rw c.in-Unknown.is (unknown c.requires)
