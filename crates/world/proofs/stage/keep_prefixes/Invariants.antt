use Rattle.world.proofs.Common.{bases_of}
use Rattle.world.proofs.Keeping.{IsCutTo}
use Rattle.world.proofs.stage.keep_prefixes.Given as goal

abbrev pub invariant-loop-guest : goal.invariant-loop-guest
invariant-loop-guest l = IsCutTo l.guest (bases_of l.bases) l.board l.initial.logs l.logs
