use Rattle.std.proofs.Common.{◌≡◌, ◌++◌, replicate}
use Rattle.rpmb_client.proofs.blocks.pad.Given as goal

abbrev pub invariant-loop : goal.invariant-loop
invariant-loop l = l.all.items ≡ l.fn.bytes.items ++ replicate l.counter 0
