use Rattle.std.proofs.Common.{◌≡◌, take}
use Rattle.world.proofs.Keeping.{partitions_in}
use Rattle.world.proofs.stage.copies.Given as goal

abbrev pub invariant-loop-guest : goal.invariant-loop-guest
invariant-loop-guest l = l.partitions.items ≡ take l.guest (partitions_in l.board)
