use Rattle.std.proofs.Common.{rules}
use Rattle.rpmb_client.proofs.Printing.{no_writes_yet, one_write_more}
use Rattle.rpmb_client.proofs.lines.write_all.Goals as goal

pub loop-k-init : goal.loop-k-init
loop-k-init g c = no_writes_yet _ _ _ _ _ _ _ _

pub loop-k-preserved : goal.loop-k-preserved
loop-k-preserved g c =
    one_write_more _ _ _ _ _ _ _ _ _ _ _ _ c.loop-k.invariant (search rules)
    c.in_ok-write_one.ensures.written
