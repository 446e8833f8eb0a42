use Rattle.std.proofs.Common.{refl, subst}
use Rattle.machine.specs.Resting.{StaysThere}
use Rattle.rpmb_host.specs.Calls.{Holds}
use Rattle.rpmb_host.specs.States.{Stays}
use Rattle.rpmb_host.proofs.rpmb_move.Goals as goal

pub returns-else-moves-clause-stays : goal.returns-else-moves-clause-stays
returns-else-moves-clause-stays c is =
    subst (λ o. Holds o (Stays c.args.guest c.args.place)) c.take-machine.ensures.machine
    (subst (λ m. StaysThere m c.args.guest c.args.place) c.deref_mut.ensures.value
    (c.if-moves.ensures.stays refl))
