use Rattle.std.proofs.Common.{arith, rules}
use Rattle.queue_looks.proofs.Common.{sound_moved}
use Rattle.queue_looks.proofs.Work.{collects}
use Rattle.queue_looks.proofs.settling.collect.Goals as goal

pub returns-clause-found : goal.returns-clause-found
returns-clause-found g c start reply waits = search (arith, rules, collects, sound_moved)
