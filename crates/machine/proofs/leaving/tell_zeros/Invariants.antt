use Rattle.std.proofs.Common.{◌≡◌, ℕ, Bool, List, length}
use Rattle.machine.proofs.Common.{Range, Runs, standing}
use Rattle.machine.specs.Serving.{QueuesStay}
use Rattle.machine.proofs.leaving.tell_zeros.Given as goal

abbrev pub invariant-loop-i : goal.invariant-loop-i
invariant-loop-i l = ((most : ℕ) (ps : List Range) (v w : Bool)
    → Runs l.fn.guest most (standing ps v w) l.fn.board (standing ps v w) l.board)
    × (l.board.rest ≡ l.fn.board.rest) × QueuesStay l.fn.board l.board
    × (length l.board.devices ≡ length l.fn.board.devices)
