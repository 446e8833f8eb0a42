use Rattle.std.proofs.Common.{inr, refl, subst}
use Rattle.machine.specs.Resting.{HasNoPlace}
use Rattle.rpmb_host.specs.Calls.{Holds}
use Rattle.rpmb_host.specs.States.{StandsAt}
use Rattle.rpmb_host.proofs.rpmb_place.Goals as goal

pub returns-in-None-clause-place : goal.returns-in-None-clause-place
returns-in-None-clause-place c =
    subst (λ o. Holds o (StandsAt c.args.guest 4294967295)) c.take-machine.ensures.machine
    (inr (
      refl,
      subst (λ m. HasNoPlace m c.args.guest) c.deref.ensures
          (c.in-None.ensures.none refl),
    ))
