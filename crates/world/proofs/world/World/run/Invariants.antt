use Rattle.world.proofs.Common.{world_of}
use Rattle.world.proofs.Staging.{GoesOnFrom}
use Rattle.world.proofs.world.World.run.Given as goal

abbrev pub invariant-loop-event : goal.invariant-loop-event
invariant-loop-event l = GoesOnFrom (world_of l.fn.self) l.events l.event-index l.first
    l.self-inside.stage
