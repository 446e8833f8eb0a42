use Rattle.std.proofs.Common.{refl, sym}
use Rattle.rpmb_commands.specs.ReadingData.{many_short}
use Rattle.rpmb_commands.proofs.DataLemmas.{too_few}
use Rattle.rpmb_commands.proofs.read_data.cut_at.Goals as goal

pub returns-in-None-clause-err : goal.returns-in-None-clause-err
returns-in-None-clause-err c = many_short c.in_ok-length.length (sym c.in_ok-length.ensures)
    (too_few c.in_ok-length.length c.args.blocks.now c.in-None.ensures) refl
