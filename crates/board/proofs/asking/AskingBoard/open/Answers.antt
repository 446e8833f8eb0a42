use Rattle.std.proofs.Common.{map, subst, sym}
use Rattle.board.proofs.Common.{IsSound, Still}
use Rattle.board.specs.State.{with_devices}
use Rattle.recovery.proofs.Ways.{untouched_here}
use Rattle.board.proofs.AskingSteps.{asked_sound, device_in}
use Rattle.board.proofs.asking.AskingBoard.open.Goals as goal

pub returns-in_default-clause-any_moment : goal.returns-in_default-clause-any_moment
returns-in_default-clause-any_moment g c =
    Still c.args.disk (untouched_here (g.D.Disk.state c.args.disk))

pub invariant_of-result : goal.invariant_of-result
invariant_of-result g c =
    let rest = c.in_ok-rest.rest in
    subst (λ ds. IsSound g.D.Disk.state (with_devices (map device_in ds) rest))
    (sym c.in-Ok.ensures)
    (asked_sound g.D.Disk.state g.D.Disk.makes c.args.life c.args.config.now c.args.devices.now rest
    c.requires c.in_ok-rest.ensures.begins)
