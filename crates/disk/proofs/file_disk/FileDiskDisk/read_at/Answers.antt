use Rattle.std.proofs.Common.{ap, sym, ◌∙◌, arith, refl}
use Rattle.disk.proofs.FileCalls.{made_of}
use Rattle.disk.proofs.file_disk.FileDiskDisk.read_at.Goals as goal
use Rattle.disk.specs.Disk.{Read}
use Rattle.disk.specs.FileDisk.{ReadAt, count_of, is_all}

pub returns-clause-call : goal.returns-clause-call
returns-clause-call g c =
    let few = c.if-self.false in
    made_of g.F.PositionedFile.shows g.F.PositionedFile.made g.met.F.PositionedFile.effect _ _
    (ReadAt _ _ _) _ _ (sym c.self.view_is) c.read_at.ensures
    (ap Read (ap (is_all (count_of c.read_at.result)) c.read_at.auto.out
    ∙ sym c.is_whole-complete.ensures.value ∙ sym c.settle.ensures.ok)) refl
    (record {
      few = omega (arith, few);
      unfailed = λ ok.
          c.settle.ensures.unfailed (sym c.settle.ensures.ok ∙ ok);
      failed = λ bad.
          c.settle.ensures.failed (sym c.settle.ensures.ok ∙ bad);
    })
