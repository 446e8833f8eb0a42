use Rattle.std.proofs.Common.{◌≡◌, take}
use Rattle.std.specs.List.{flat_map}
use Rattle.rpmb_frame.specs.Frame.{block_data_of}
use Rattle.rpmb_client.proofs.answer.blocks_of.Given as goal

abbrev pub invariant-loop-frame : goal.invariant-loop-frame
invariant-loop-frame l = l.bytes.items ≡ flat_map block_data_of (take l.frame-index l.frames)
