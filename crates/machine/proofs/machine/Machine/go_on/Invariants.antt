use Rattle.std.proofs.Common.{◌≡◌}
use Rattle.machine.proofs.Common.{Moves, OutboxMakes, board_of, outbox_state}
use Rattle.machine.proofs.Working.{WorksTo}
use Rattle.machine.specs.Serving.{FailsNone}
use Rattle.machine.proofs.machine.Machine.go_on.Given as goal

abbrev pub invariant-loop-guest : goal.invariant-loop-guest
invariant-loop-guest l =
    Moves outbox_state OutboxMakes (board_of l.fn.self.board) (board_of l.self-inside.board)
    × (l.self-inside.board.devices ≡ l.fn.self.board.devices)
    × (l.self-inside.board.rest.jobs ≡ l.fn.self.board.rest.jobs)
    × FailsNone l.fn.self.board.rest l.self-inside.board.rest
    × (l.self-inside.setups.items ≡ l.fn.self.setups)
    × (l.self-inside.turns.items ≡ l.fn.self.turns)
    × WorksTo l.guest l.fn.self.board l.self-inside.board
