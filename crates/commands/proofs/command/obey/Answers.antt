use Rattle.std.proofs.Common.{Some, subst, sym}
use Rattle.command_line.specs.declared.command.Command.{Command}
use Rattle.commands.specs.Commands.{Does}
use Rattle.commands.proofs.command.obey.Goals as goal

pub returns-in-Format : goal.returns-in-Format
returns-in-Format g c =
    let r = c.format-done in
    subst (λ (k : Command). Does g.D.Disk.state g.D.Disk.makes k c.args.setup.now
    c.args.script.now c.args.disk (g.W.Write.contents c.args.out.now) r.result (Some r.new.disk)
    (g.W.Write.contents r.new.out)) (sym c.in-Format.is)
    (rw (sym c.board-board.ensures) (record {
      formatted = r.ensures.formatted;
      printed = r.ensures.printed;
      ends = r.ensures.ends;
      silent = r.ensures.silent;
      order = r.ensures.order;
    }))

pub returns-in-Show : goal.returns-in-Show
returns-in-Show g c =
    let r = c.show-done in
    subst (λ (k : Command). Does g.D.Disk.state g.D.Disk.makes k c.args.setup.now
    c.args.script.now c.args.disk (g.W.Write.contents c.args.out.now) r.result.0 (Some r.result.1)
    (g.W.Write.contents r.new.out)) (sym c.in-Show.is)
    (rw (sym c.board-board.ensures) (record {
      shown = r.ensures.shown;
      image = r.ensures.image;
      ends = r.ensures.ends;
      silent =
          r.ensures.silent;
      any_moment = r.ensures.any_moment;
      calls = r.ensures.calls;
    }))

pub returns-in-Upgrade : goal.returns-in-Upgrade
returns-in-Upgrade g c =
    let r = c.upgrade-done in
    subst (λ (k : Command). Does g.D.Disk.state g.D.Disk.makes k c.args.setup.now
    c.args.script.now c.args.disk (g.W.Write.contents c.args.out.now) r.result (Some r.new.disk)
    (g.W.Write.contents r.new.out)) (sym c.in-Upgrade.is)
    (rw (sym c.board-board.ensures) (record {
      stands = r.ensures.stands;
      calls = r.ensures.calls;
      unwritten = r.ensures.unwritten;
      named = r.ensures.named;
      printed = r.ensures.printed;
      ends = r.ensures.ends;
      silent =
          r.ensures.silent;
    }))

pub returns-in-Run : goal.returns-in-Run
returns-in-Run g c =
    let r = c.run-done in
    subst (λ (k : Command). Does g.D.Disk.state g.D.Disk.makes k c.args.setup.now
    c.args.script.now c.args.disk (g.W.Write.contents c.args.out.now) r.result.0 (Some r.result.1)
    (g.W.Write.contents r.new.out)) (sym c.in-Run.is)
    (record {
      ran = r.ensures.ran;
      bad = r.ensures.bad;
      ends = r.ensures.ends;
      moments =
          r.ensures.moments;
      stopped = r.ensures.stopped;
    })

pub returns-in-Serve : goal.returns-in-Serve
returns-in-Serve g c =
    let r = c.serve in
    subst (λ (k : Command). Does g.D.Disk.state g.D.Disk.makes k c.args.setup.now
    c.args.script.now c.args.disk (g.W.Write.contents c.args.out.now) r.result.0 r.result.1
    (g.W.Write.contents r.new.out)) (sym c.in-Serve.is)
    (record {
      printed = r.ensures.printed;
      back = r.ensures.back;
      ends = r.ensures.ends;
      prints =
          r.ensures.prints;
      leaves = r.ensures.leaves;
      keeps = r.ensures.keeps;
      bad = r.ensures.bad;
    })
