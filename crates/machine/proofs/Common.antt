-- The names that most proofs cite, passed on from one place. Declares nothing.
pub use Rattle.std.proofs.lemmas.Option.{slice_get_read}
pub use Rattle.std.specs.Prelude.{◌&&◌, slice_get, is_some, slice_set, take, ◌≡◌, option_copied}
pub use Rattle.std.specs.Prelude.{map, length}
pub use Rattle.chains.specs.declared.range.Range.{Range}
pub use Rattle.disk.specs.Disk.{DiskCall, DiskState}
pub use Rattle.disk.specs.Outbox.{is_none}
pub use Rattle.disk.specs.OutboxDisk.{OutboxMakes, OutboxState, outbox_state}
pub use Rattle.intent_slots.specs.Payload.{Intent}
pub use Rattle.flusher.proofs.Guests.{get_set_same, get_set_other}
pub use Rattle.flusher.specs.Store.{is_free}
pub use Rattle.mmio_transport.specs.Asking.{AskingState}
pub use Rattle.mmio_transport.specs.Device.{DeviceState}
pub use Rattle.mmio_transport.specs.Job.{Job, Done}
pub use Rattle.rpmb_book.specs.Job.{Tally}
pub use Rattle.board.proofs.Moving.{lent_moves, moves_none, moves_twice}
pub use Rattle.board.specs.Asking.{AskingBoardState, HandsReply, StepsAsked, board_of}
pub use Rattle.board.specs.Board.{IsSound}
pub use Rattle.board.specs.Moving.{Moves}
pub use Rattle.board.specs.State.{BoardState, in_place, Fault, Marks, Report, put, HasNoJob}
pub use Rattle.board.specs.State.{with_devices}
pub use Rattle.board.specs.Steps.{Answer, Does, AdvancesUnder, CollectsInto, GivesWhere, SettlesBy}
pub use Rattle.board.specs.Steps.{SubmitsFrom, TakesInto, PublishesFrom, PopsInto}
pub use Rattle.board.specs.declared.step.Step.{Step}
unfoldable pub use Rattle.machine.specs.Machine.{is_awaited}
pub use Rattle.machine.specs.Machine.{IsServed, MachineState}
pub use Rattle.machine.specs.Serving.{Boards, Calls, Hands, HandsOne, IsShare, Knows, Learns}
pub use Rattle.machine.specs.Serving.{LearnsOf, Makes, OthersStay, Pops, PopsOne, Runs, Still, Then}
pub use Rattle.machine.specs.Serving.{GivesUp, Notified, Voids, owing, standing}
pub use Rattle.machine.specs.Turn.{Stand, stand_of}
pub use Rattle.machine.specs.declared.fault.MachineFault.{MachineFault}
