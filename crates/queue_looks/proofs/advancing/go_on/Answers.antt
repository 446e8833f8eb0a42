use Rattle.std.proofs.Common.{arith, rules}
use Rattle.queue_looks.proofs.Common.{moves_twice}
use Rattle.queue_looks.proofs.advancing.go_on.Goals as goal

pub returns-clause-moves : goal.returns-clause-moves
returns-clause-moves g c = search (arith, rules, moves_twice)
