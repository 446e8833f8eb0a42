use Rattle.std.proofs.Common.{◌≡◌, length}
use Rattle.machine.proofs.Common.{Runs, stand_of}
use Rattle.machine.specs.Serving.{DoesMany}
use Rattle.machine.proofs.serving.serve.Given as goal

abbrev pub invariant-loop-move : goal.invariant-loop-move
invariant-loop-move l =
    Runs l.fn.guest l.fn.most (stand_of l.fn.turn) l.fn.board (stand_of l.turn) l.board
    × (length l.board.devices ≡ length l.fn.board.devices) × (l.turn.asked ≡ l.fn.turn.asked)
    × DoesMany l.fn.guest l.fn.most l._move (stand_of l.fn.turn) l.fn.board
    (stand_of l.turn) l.board
