use Rattle.commands.proofs.Common.{on_ok_weaker}
use Rattle.commands.proofs.file_run.run_in_file.Goals as goal

pub returns : goal.returns
returns g c =
    on_ok_weaker c.run.result.0 (λ ran known lines says none.
    (let r = ran lines says none in
    record {
      partitions = r.partitions;
      count = r.of_image.count;
      held = r.of_image.held known;
      left = r.left known;
      header = r.header known;
    })) c.run.ensures.ran
