use Rattle.queue_looks.proofs.Common.{Held, Moves, Waits, work_of, WaitsForSome}
use Rattle.queue_looks.proofs.settling.settle_reply.Given as goal

-- the guest still waits for the reply that it waited for
abbrev pub invariant-loop-board : goal.invariant-loop-board
invariant-loop-board g l =
    WaitsForSome g.D.Disk.state l.fn.guest l.board
    × ((reply : Held) → Waits g.D.Disk.state l.fn.guest l.fn.board reply l.fn.board
    → Waits g.D.Disk.state l.fn.guest l.fn.board reply l.board)
    × Moves g.D.Disk.state g.D.Disk.makes l.fn.board l.board

abbrev pub decreases-loop-board : goal.decreases-loop-board
decreases-loop-board g l = work_of l.fn.guest l.board
