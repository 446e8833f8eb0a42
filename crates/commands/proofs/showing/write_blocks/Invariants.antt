use Rattle.commands.proofs.Common.{Appends, blocks_below}
use Rattle.commands.proofs.showing.write_blocks.Given as goal

abbrev pub invariant-loop-address : goal.invariant-loop-address
invariant-loop-address g l = Appends (g.W.Write.contents l.fn.out) (g.W.Write.contents l.out)
    (blocks_below l.as_json l.address l.guest l.partition)
