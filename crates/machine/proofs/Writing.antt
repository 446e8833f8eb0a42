-- What a guest's write makes of a machine, and what it asks of the monitor.
use Rattle.std.proofs.Common.{◌≡◌, refl, ap, sym, ◌∙◌, ℕ, true, false, Option, Some, None}
use Rattle.std.specs.Prelude.{if◌then◌else◌}
use Rattle.machine.proofs.Common.{slice_get, slice_set, is_some, AskingState, MachineState}
use Rattle.board.proofs.Doing.{set_same}
use Rattle.mmio_transport.specs.Device.{is_ready, kick_of}
use Rattle.mmio_transport.specs.Queue.{QueueState, written_by as part_by}
use Rattle.machine.specs.Machine.{kick_by, kick_in, with_device, written_by, written_in}
use Rattle.machine.specs.Settings.{device_after, value_taken}
use Rattle.machine.specs.Turn.{TurnState, fresh_turn}
use Rattle.machine.specs.declared.settings.Setup.{Setup}

pub ready_of : (o : Option QueueState) → is_some (part_by o) ≡ is_ready o
ready_of None = refl
ready_of (Some q) = refl

module _ (m : MachineState) (g offset width value : ℕ) (w : Setup) (d d' : AskingState)
    (turn : TurnState) where
  kept : slice_get m.turns g ≡ Some turn → is_ready d'.device.queue ≡ true
      → record m { board = record m.board { devices = slice_set m.board.devices g d' } }
      ≡ with_device m g d' turn
  kept its ready =
      let board = record m.board { devices = slice_set m.board.devices g d' } in
      ap (λ ts. (let x : MachineState = record m { board = board; turns = ts } in x))
      (sym (ap (λ b. slice_set m.turns g (if b then turn else fresh_turn)) ready
      ∙ set_same m.turns g turn its))

  fresh : is_ready d'.device.queue ≡ false
      → record m {
        board = record m.board { devices = slice_set m.board.devices g d' };
        turns = slice_set m.turns g fresh_turn;
      }
      ≡ with_device m g d' turn
  fresh not_ready = ap (λ b. (let x : MachineState = record m {
    board = record m.board { devices = slice_set m.board.devices g d' };
    turns = slice_set m.turns g (if b then turn else fresh_turn);
  } in x)) (sym not_ready)

  -- the guest is there, and so is its turn
  there : slice_get m.setups g ≡ Some w → slice_get m.board.devices g ≡ Some d
      → slice_get m.turns g ≡ Some turn
      → with_device m g (device_after w d offset width value) turn
      ≡ written_in m g offset width value
  there setup device its =
      ap (λ o. written_by o (Some d) (Some turn) m g offset width value) (sym setup)
      ∙ ap (λ o. written_by (slice_get m.setups g) o (Some turn) m g offset width value)
      (sym device)
      ∙ ap (λ o. written_by (slice_get m.setups g) (slice_get m.board.devices g) o m g offset width
      value) (sym its)

  pub kick_written : slice_get m.setups g ≡ Some w → slice_get m.board.devices g ≡ Some d
      → slice_get m.turns g ≡ Some turn
      → kick_of offset width (value_taken w d.device offset width value)
      ≡ kick_in m g offset width value
  kick_written setup device its =
      ap (λ o. kick_by o (Some d) (Some turn) offset width value) (sym setup)
      ∙ ap (λ o. kick_by (slice_get m.setups g) o (Some turn) offset width value) (sym device)
      ∙ ap (λ o. kick_by (slice_get m.setups g) (slice_get m.board.devices g) o offset width value)
      (sym its)

  pub written_fresh : slice_get m.setups g ≡ Some w → slice_get m.board.devices g ≡ Some d
      → slice_get m.turns g ≡ Some turn → d' ≡ device_after w d offset width value
      → is_ready d'.device.queue ≡ false
      → record m {
        board = record m.board { devices = slice_set m.board.devices g d' };
        turns = slice_set m.turns g fresh_turn;
      }
      ≡ written_in m g offset width value
  written_fresh setup device its after not_ready =
      fresh not_ready ∙ ap (λ x. with_device m g x turn) after ∙ there setup device its

  pub written_ready : slice_get m.setups g ≡ Some w → slice_get m.board.devices g ≡ Some d
      → slice_get m.turns g ≡ Some turn → d' ≡ device_after w d offset width value
      → is_ready d'.device.queue ≡ true
      → record m { board = record m.board { devices = slice_set m.board.devices g d' } }
      ≡ written_in m g offset width value
  written_ready setup device its after ready =
      kept its ready ∙ ap (λ x. with_device m g x turn) after ∙ there setup device its
