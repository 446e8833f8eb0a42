use Rattle.std.proofs.Common.{ap, sym}
use Rattle.commands.proofs.Common.{is_ok}
use Rattle.commands.proofs.Opened.{moves_to}
use Rattle.commands.proofs.running.finish.Goals as goal

pub returns-in_default-Ok : goal.returns-in_default-Ok
returns-in_default-Ok g c = moves_to g.D.Disk.state g.D.Disk.makes c.args.host c.finish.result.1 _
    c.finish.result.0 c.finish.ensures (sym (ap is_ok c.in_default-Ok.is-1)) (λ f is. absurd (cc))

pub returns-in_default-Err : goal.returns-in_default-Err
returns-in_default-Err g c = moves_to g.D.Disk.state g.D.Disk.makes c.args.host c.finish.result.1 _
    c.finish.result.0 c.finish.ensures (sym (ap is_ok c.in_default-Err.is-1)) (λ f is. cc)
