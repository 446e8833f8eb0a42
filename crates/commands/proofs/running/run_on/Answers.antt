use Rattle.commands.proofs.Walking.{run_finished, run_stopped, run_unwritten}
use Rattle.commands.proofs.running.run_on.Goals as goal

pub returns-then-is_err : goal.returns-then-is_err
returns-then-is_err g c =
    run_unwritten g.D.Disk.state g.D.Disk.makes c.args.setup.now c.args.disk c.in-Ok.host
    c.args.lines.items (g.W.Write.contents c.args.out.now) c.in-Ok.ensures.opened
    c.requires.within
    c.run_lines-ran.new.host c.run_lines-ran.result (g.W.Write.contents c.run_lines-ran.new.out)
    (g.W.Write.contents c.flush.new.self) c.into_disk.result c.in-Ok.ensures.calm
    c.run_lines-ran.ensures.moves c.run_lines-ran.ensures.moments
    c.into_disk.ensures.disk

pub returns-in-Ok-ran : goal.returns-in-Ok-ran
returns-in-Ok-ran g c =
    run_finished g.D.Disk.state g.D.Disk.makes c.args.setup.now c.args.disk c.in-Ok.host
    c.args.lines.items (g.W.Write.contents c.args.out.now) c.in-Ok.ensures.opened
    c.requires.within
    c.run_lines-ran.new.host c.finish.result.0 (g.W.Write.contents c.run_lines-ran.new.out)
    (g.W.Write.contents c.flush.new.self) c.finish.result.1 c.in-Ok.ensures.calm
    c.run_lines-ran.ensures.moves c.in-Ok-ran.ensures.moments
    c.flush.ensures.bytes c.finish.ensures

pub returns-in-Err-ran : goal.returns-in-Err-ran
returns-in-Err-ran g c =
    run_stopped g.D.Disk.state g.D.Disk.makes c.args.setup.now c.args.disk c.in-Ok.host
    c.args.lines.items (g.W.Write.contents c.args.out.now) c.in-Ok.ensures.opened
    c.requires.within
    c.run_lines-ran.new.host c.in-Err-ran.fault (g.W.Write.contents c.run_lines-ran.new.out)
    (g.W.Write.contents c.flush.new.self) c.into_disk-in-Err-ran.result c.in-Ok.ensures.calm
    c.run_lines-ran.ensures.moves c.in-Err-ran.ensures.moments
    c.flush.ensures.bytes c.into_disk-in-Err-ran.ensures.disk
