-- What is told of the disk's writes and syncs, and what a serve makes of a machine.
use Rattle.std.proofs.Common.{◌≡◌, refl, ap, subst, ◌∙◌, ℕ, Some}
use Rattle.machine.proofs.Common.{slice_get, slice_set, Boards, MachineState}
use Rattle.machine.proofs.Common.{Moves, OutboxMakes, Runs, board_of, outbox_state}
use Rattle.machine.proofs.Common.{get_set_other, IsServed, moves_none}
use Rattle.machine.proofs.Common.{moves_twice}
use Rattle.disk.specs.declared.outbox_disk.Told.{Told}
use Rattle.machine.specs.Ending.{Begins}
use Rattle.machine.specs.Machine.{Completes, telling_board}
use Rattle.machine.specs.Serving.{Hears}
use Rattle.machine.specs.Turn.{Stand, TurnState, stand_of}
use Rattle.machine.proofs.Others.{begins_stay, others_stay, stays_twice}
use Rattle.machine.proofs.Runs.{begins_moves, runs_moves}
use Rattle.machine.proofs.Whole.{begins_whole, runs_whole, whole_twice}

pub completes : (told : Told) (m : MachineState) (b' new : Boards)
    → b' ≡ telling_board told m.board → Hears b' new → new.devices ≡ b'.devices
    → Completes told m (record m { board = new })
completes told m b' new is hears devices = record {
  hears = subst (λ b. Hears b new) is hears;
  moves = subst (λ b. Moves outbox_state OutboxMakes (board_of b) (board_of new)) is
      (moves_twice outbox_state OutboxMakes (board_of b') (board_of hears.heard) (board_of new)
      hears.hears.steps.moves
      (moves_twice outbox_state OutboxMakes (board_of hears.heard) (board_of hears.made)
      (board_of new) hears.makes_it.steps.moves hears.hears_it.steps.moves));
  devices = devices ∙ ap (λ b. b.devices) is;
  turns = refl;
  setups = refl;
}

pub serves : (guest most : ℕ) (m : MachineState) (turn turn' : TurnState) (left t : Stand)
    (heard new : Boards) → slice_get m.turns guest ≡ Some turn
    → Begins guest (stand_of turn) m.board left heard → Runs guest most left heard t new
    → IsServed guest m (record m { board = new; turns = slice_set m.turns guest turn' })
serves guest most m turn turn' left t heard new its begins runs = record {
  moves = moves_twice outbox_state OutboxMakes (board_of m.board) (board_of heard) (board_of new)
      (begins_moves guest (stand_of turn) left m.board heard begins)
      (runs_moves guest most left t heard new runs);
  whole = whole_twice m.board.rest heard.rest new.rest
      (begins_whole guest (stand_of turn) left m.board heard begins)
      (runs_whole guest most left t heard new runs);
  others = stays_twice outbox_state OutboxMakes guest (board_of m.board) (board_of heard)
      (board_of new) (begins_stay guest (stand_of turn) left m.board heard begins)
      (others_stay guest most left t heard new runs);
  turns = λ k other. get_set_other m.turns guest k turn' other;
  setups = refl;
}

pub serves_none : (guest : ℕ) (m : MachineState) → IsServed guest m m
serves_none guest m = record {
  moves = moves_none outbox_state OutboxMakes (board_of m.board);
  whole = λ failed few. (failed, refl, refl);
  others = record {
    devices = λ k other. refl;
    jobs = λ k other. refl;
    dones = λ k other. refl;
    intents = λ k other. refl;
  };
  turns = λ k other. refl;
  setups = refl;
}

-- a step more of the disk's work
pub goes_more : (guest most : ℕ) (a b c : Boards)
    → Moves outbox_state OutboxMakes (board_of a) (board_of b)
    → (s : Stand) → Runs guest most s b s c
    → Moves outbox_state OutboxMakes (board_of a) (board_of c)
goes_more guest most a b c moves s runs =
    moves_twice outbox_state OutboxMakes (board_of a) (board_of b) (board_of c) moves
    (runs_moves guest most s s b c runs)
