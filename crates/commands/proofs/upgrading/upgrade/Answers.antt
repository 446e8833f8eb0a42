use Rattle.std.proofs.Common.{Ok, Err, ap, subst, sym}
use Rattle.commands.proofs.Common.{Ends, upgrading}
use Rattle.commands.proofs.Ended.{done_told, upgrade_ends}
use Rattle.commands.proofs.upgrading.upgrade.Goals as goal

pub returns-in-Err-clause-ends : goal.returns-in-Err-clause-ends
returns-in-Err-clause-ends g c =
    let s = g.D.Disk.state in
    let old = c.args.disk.now in
    let new = c.upgrade.new.disk in
    subst (Ends upgrading c.args.board.now (s old) (s new)) (sym c.of_image.ensures)
    (upgrade_ends g.D.Disk.makes c.args.board.now old new (s old) (s new) c.in-Err.fault
    c.in-Err.ensures.calls c.in-Err.ensures.failures.cause c.in-Err.ensures.answers)

pub returns-in-Ok-clause-calls : goal.returns-in-Ok-clause-calls
returns-in-Ok-clause-calls g c = record {
  answer = Ok c.in-Ok.done;
  calls = c.in-Ok.ensures.calls;
  right = c.in-Ok.ensures.answers;
  told = done_told c.in-Ok.done c.write_done.result _ _ c.write_done.ensures.printed
      c.write_done.ensures.only;
}

pub returns-in-Err-clause-calls : goal.returns-in-Err-clause-calls
returns-in-Err-clause-calls g c = record {
  answer = Err c.in-Err.fault;
  calls = c.in-Err.ensures.calls;
  right = c.in-Err.ensures.answers;
  told = ap (λ f. Err f) c.of_image.ensures;
}
