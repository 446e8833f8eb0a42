use Rattle.std.specs.Io.KnownBytes.{Appends}
use Rattle.rpmb_client.specs.Explained.{frames_told}
use Rattle.rpmb_client.proofs.explaining.write_frames.Given as goal

abbrev pub invariant-loop-i : goal.invariant-loop-i
invariant-loop-i g l = Appends (g.W.Write.contents l.fn.out) (g.W.Write.contents l.out)
    (frames_told l.as_json l.guest l.i l.frames l.key l.nonce)
