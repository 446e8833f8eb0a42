use Rattle.guest_driver.proofs.BoardSetups.{FitUpTo}
use Rattle.guest_driver.proofs.board_setup.are_drivers.Given as goal

abbrev pub invariant-loop-i : goal.invariant-loop-i
invariant-loop-i l = FitUpTo l.guests l.drivers l.i
