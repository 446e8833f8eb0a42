use Rattle.std.proofs.Common.{◌≡◌, ◌++◌}
use Rattle.board.specs.Asking.{first_asked}
use Rattle.std.specs.Prelude.{drop}
use Rattle.board.proofs.opening.asking_devices.Given as goal

-- the devices so far, and those of the rest of the guests, are those of all
abbrev pub invariant-loop-i : goal.invariant-loop-i
invariant-loop-i l = l.devices.items ++ first_asked l.i (drop l.i l.guests) ≡ first_asked 0 l.guests
