use Rattle.std.proofs.Common.{arith}
use Rattle.queue_looks.proofs.advancing.advance.Goals as goal

pub returns-in-Ok-clause-advances : goal.returns-in-Ok-clause-advances
returns-in-Ok-clause-advances g c = grind arith

pub returns-in-Err-clause-advances : goal.returns-in-Err-clause-advances
returns-in-Err-clause-advances g c = grind arith
