use Rattle.std.proofs.Common.{◌≡◌, ◌++◌, drop}
use Rattle.machine.specs.Turn.{filled_parts}
use Rattle.machine.proofs.leaving.note_filled.Given as goal

abbrev pub invariant-loop-range : goal.invariant-loop-range
invariant-loop-range l = (l.turn.parts ++ filled_parts (drop l.range-index l.ranges) l.left
    ≡ l.fn.turn.parts ++ filled_parts l.ranges l.fn.count)
    × (l.turn ≡ record l.fn.turn { parts = l.turn.parts })
