use Rattle.commands.proofs.Telling.{Took}
use Rattle.commands.proofs.fault_lines.write_front.Given as goal

abbrev pub invariant-loop : goal.invariant-loop
invariant-loop g l = Took (g.E.Write.contents l.fn.err) (g.E.Write.contents l.err) l.fn.text l.taken
