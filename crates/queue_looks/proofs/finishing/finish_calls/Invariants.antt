use Rattle.queue_looks.proofs.Common.{left_of, Rests, Moves}
use Rattle.queue_looks.proofs.finishing.finish_calls.Given as goal

-- what the answers depend on stays
abbrev pub invariant-loop : goal.invariant-loop
invariant-loop g l = Rests l.fn.board l.board × Moves g.D.Disk.state g.D.Disk.makes l.fn.board
    l.board

abbrev pub decreases-loop : goal.decreases-loop
decreases-loop g l = left_of l.board.store.guests
