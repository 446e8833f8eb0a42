use Rattle.std.proofs.Common.{◌≡◌}
use Rattle.std.specs.Prelude.{replicate}
use Rattle.machine.specs.Turn.{fresh_turn}
use Rattle.machine.proofs.opening.fresh_turns.Given as goal

abbrev pub invariant-loop-place : goal.invariant-loop-place
invariant-loop-place l = l.turns.items ≡ replicate l.place fresh_turn
