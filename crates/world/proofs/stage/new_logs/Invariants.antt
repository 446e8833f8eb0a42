use Rattle.world.proofs.Common.{AreFresh}
use Rattle.world.proofs.stage.new_logs.Given as goal

abbrev pub invariant-loop-guest : goal.invariant-loop-guest
invariant-loop-guest l = AreFresh l.guest l.logs.items
