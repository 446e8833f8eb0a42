use Rattle.std.proofs.Common.{ap, sym, ◌∙◌, arith, refl}
use Rattle.disk.proofs.FileCalls.{made_of}
use Rattle.disk.proofs.file_disk.FileDiskDisk.write_at.Goals as goal
use Rattle.disk.specs.Disk.{Write}
use Rattle.disk.specs.FileDisk.{WriteAt}

pub returns-clause-call : goal.returns-clause-call
returns-clause-call g c =
    let few = c.if-self.false in
    made_of g.F.PositionedFile.shows g.F.PositionedFile.made g.met.F.PositionedFile.effect _ _
    (WriteAt _ _ _) _ _ (sym c.self.view_is) c.write_at.ensures
    (ap (Write c.args.at c.args.bytes.now) (sym c.is_whole-complete.ensures.value
    ∙ sym c.settle.ensures.ok)) refl
    (record {
      few = omega (arith, few);
      unfailed = λ ok.
          c.settle.ensures.unfailed (sym c.settle.ensures.ok ∙ ok);
      failed = λ bad.
          c.settle.ensures.failed (sym c.settle.ensures.ok ∙ bad);
    })
