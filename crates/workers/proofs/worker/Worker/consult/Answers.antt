use Rattle.workers.proofs.Flowing.{flows_none}
use Rattle.workers.proofs.worker.Worker.consult.Goals as goal

pub returns-then-not-needs_book-clause-jobs : goal.returns-then-not-needs_book-clause-jobs
returns-then-not-needs_book-clause-jobs g c = flows_none _

pub returns-then-not-needs_book-clause-replies : goal.returns-then-not-needs_book-clause-replies
returns-then-not-needs_book-clause-replies g c = flows_none _
