use Rattle.std.proofs.Common.{◌≡◌, take}
use Rattle.rpmb_core.specs.Reply.{joined}
use Rattle.rpmb_client.proofs.making.join.Given as goal

abbrev pub invariant-loop-frame : goal.invariant-loop-frame
invariant-loop-frame l = l.bytes.items ≡ joined (take l.frame-index l.frames)
