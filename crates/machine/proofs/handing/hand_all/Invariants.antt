use Rattle.std.proofs.Common.{◌⊎◌, ℕ}
use Rattle.machine.proofs.Common.{◌≡◌, Runs, Stand, board_of}
use Rattle.machine.specs.Serving.{DoesSome, KeepsWaiting}
use Rattle.machine.proofs.handing.hand_all.Given as goal

abbrev pub invariant-loop-step : goal.invariant-loop-step
invariant-loop-step l = ((most : ℕ) (s : Stand) → Runs l.fn.guest most s l.fn.board s l.board)
    × KeepsWaiting l.fn.guest l.fn.board.rest l.board.rest × (l.board.devices ≡ l.fn.board.devices)
    × (((most : ℕ) (s : Stand) → DoesSome l.fn.guest most s l.fn.board s l.board)
    ⊎ (board_of l.board ≡ board_of l.fn.board))
