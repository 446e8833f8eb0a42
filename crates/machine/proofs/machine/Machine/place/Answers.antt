use Rattle.machine.specs.Resting.{NotReady, NotResting}
use Rattle.machine.proofs.machine.Machine.place.Goals as goal

pub returns-in_default-clause-none : goal.returns-in_default-clause-none
returns-in_default-clause-none c is = NotResting (c.rest_at.ensures.none c.in_default.is)

pub returns-in-None-clause-none : goal.returns-in-None-clause-none
returns-in-None-clause-none c is = NotReady c.in-Some.it c.in-Some.ensures.some c.in-None.is
