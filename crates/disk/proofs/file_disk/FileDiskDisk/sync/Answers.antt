use Rattle.std.proofs.Common.{ap, sym, ◌∙◌, arith, refl}
use Rattle.disk.proofs.FileCalls.{made_of, done_is_ok}
use Rattle.disk.proofs.file_disk.FileDiskDisk.sync.Goals as goal
use Rattle.disk.specs.Disk.{Sync}
use Rattle.disk.specs.FileDisk.{SyncAll}

pub returns-clause-call : goal.returns-clause-call
returns-clause-call g c =
    let few = c.if-self.false in
    made_of g.F.PositionedFile.shows g.F.PositionedFile.made g.met.F.PositionedFile.effect _ _
    (SyncAll _) _ _ (sym c.self.view_is) c.sync_all.ensures
    (ap Sync (done_is_ok c.sync_all.result ∙ sym c.is_ok-complete.ensures.value
    ∙ sym c.settle.ensures.ok)) refl
    (record {
      few = omega (arith, few);
      unfailed = λ ok.
          c.settle.ensures.unfailed (sym c.settle.ensures.ok ∙ ok);
      failed = λ bad.
          c.settle.ensures.failed (sym c.settle.ensures.ok ∙ bad);
    })
