use Rattle.commands.proofs.Listed.{Listed}
use Rattle.commands.proofs.showing.write_guests.Given as goal

abbrev pub invariant-loop-guest : goal.invariant-loop-guest
invariant-loop-guest g l = Listed (g.W.Write.contents l.fn.out) (g.W.Write.contents l.out)
    l.as_json l.partitions l.guest
