use Rattle.std.proofs.Common.{◌≡◌, IfSome, false, ap, subst, sym}
use Rattle.std.specs.Prelude.{nat_eq, ◌/◌, ◌%◌}
use Rattle.machine.proofs.Common.{AskingState}
use Rattle.machine.proofs.Going.{live_by}
use Rattle.machine.proofs.status.is_live.Goals as goal

pub returns-in-Some : goal.returns-in-Some
returns-in-Some c =
    subst (λ o. IfSome o (λ (a : AskingState). a.device.registers.status.driver_ok
    ≡ nat_eq (c.read.result / 4 % 2) 1)) c.in-Some.ensures
    (live_by c.in-Some.device.now.device _
    (ap (λ v. nat_eq (v / 4 % 2) 1) (sym c.read.ensures)))

pub returns-in-None : goal.returns-in-None
returns-in-None c =
    subst (λ o. IfSome o (λ (a : AskingState). a.device.registers.status.driver_ok ≡ false))
    c.in-None.ensures tt
