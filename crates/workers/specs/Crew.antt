-- The workers of a run.
use Rattle.std.specs.Prelude.{ℕ, List, map}
use Rattle.workers.specs.declared.worker.Worker.{Worker}

-- whose they are
abbrev pub guests_of : {L : Type 0} → List (Worker L) → List ℕ
guests_of workers = map (λ w. w.backlog.tally.guest) workers
