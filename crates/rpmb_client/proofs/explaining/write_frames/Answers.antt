use Rattle.std.proofs.Common.{rules}
use Rattle.rpmb_client.proofs.Printing.{no_frames_yet, one_frame_more}
use Rattle.rpmb_client.proofs.explaining.write_frames.Goals as goal

pub loop-i-init : goal.loop-i-init
loop-i-init g c = no_frames_yet _ _ _ _ _ _

pub loop-i-preserved : goal.loop-i-preserved
loop-i-preserved g c = one_frame_more _ _ _ _ _ _ _ _ _ c.loop-i.invariant (search rules)
