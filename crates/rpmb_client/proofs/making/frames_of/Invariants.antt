use Rattle.std.proofs.Common.{◌≡◌, take}
use Rattle.rpmb_client.specs.Made.{frames_like}
use Rattle.rpmb_client.proofs.making.frames_of.Given as goal

abbrev pub invariant-loop-block : goal.invariant-loop-block
invariant-loop-block l = l.frames.items ≡ frames_like l.header (take l.block-index l.blocks)
