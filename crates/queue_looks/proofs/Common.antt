-- The names that most proofs cite, passed on from one place. Declares nothing.
pub use Rattle.std.proofs.lemmas.Bool.Decides.{nat_tests}
pub use Rattle.std.proofs.lemmas.List.{length-map, take_all, set-get_or, length-drop}
pub use Rattle.std.proofs.lemmas.Option.{slice_get_within, get_or_from_slice_get, slice_get-map}
pub use Rattle.std.specs.Prelude.{slice_get, option_map, ◌==◌, nat_lt, slice_set, if◌then◌else◌}
pub use Rattle.std.specs.Prelude.{nat_le}
pub use Rattle.rpmb_frame.specs.Partition.{sequence}
pub use Rattle.rpmb_frame.specs.Request.{Request}
pub use Rattle.disk.specs.Disk.{DiskCall, DiskState}
pub use Rattle.flusher.proofs.Guests.{get_set_same, get_set_other}
pub use Rattle.flusher.specs.CallsLeft.{called, left_of}
unfoldable pub use Rattle.flusher.specs.Marks.{marks_of}
pub use Rattle.flusher.specs.Pair.{mark_of, given_at, has_room, with_intent}
pub use Rattle.flusher.specs.Progress.{Progress, Synced, Idle, Wrote}
pub use Rattle.flusher.specs.Round.{AllEmpty, Round, planned, MovedBy, settles}
pub use Rattle.flusher.specs.declared.guest.Guest.{Guest}
pub use Rattle.flusher.specs.declared.progress.StoreFault.{StoreFault}
pub use Rattle.mmio_transport.specs.Device.{DeviceState}
pub use Rattle.mmio_transport.specs.Job.{Job, done_of, room_of}
pub use Rattle.mmio_transport.specs.Popping.{GivesJob}
pub use Rattle.mmio_transport.specs.declared.fault.DeviceFault.{DeviceFault}
pub use Rattle.mmio_transport.specs.declared.fault.DeviceFault.TheVariants.{NeedsReset}
pub use Rattle.mmio_transport.specs.declared.fault.DeviceFault.TheVariants.{NoMemory as Starved}
pub use Rattle.mmio_transport.specs.declared.fault.DeviceFault.TheVariants.{Refused as Spoiled}
pub use Rattle.rpmb_core.proofs.Following.{sequence_of_all}
pub use Rattle.rpmb_book.specs.Asked.{answered_in}
pub use Rattle.rpmb_book.specs.Book.{guest_of, refusal, BookView, state, waiting_of, with_turn}
pub use Rattle.rpmb_book.specs.Book.{is_full, submit_of, after_settle, may_settle, first_of}
pub use Rattle.rpmb_book.specs.Book.{is_share, next_intent, share_moved}
pub use Rattle.rpmb_book.specs.Guest.{GuestState, Held, GuestCore, core_after, held_when, submitted}
pub use Rattle.rpmb_book.specs.Guest.{broken_off, failed_held, kept_or_failed, settled_at, stored}
pub use Rattle.rpmb_book.specs.Guest.{first_intent, took, collected}
pub use Rattle.rpmb_book.specs.Job.{Tally}
pub use Rattle.rpmb_book.specs.Turn.{Settle, after_turn, update, Break, Turn, move_some}
pub use Rattle.rpmb_book.specs.Turn.{settled_all, Take, Collect}
pub use Rattle.rpmb_book.specs.declared.refused.Refused.{Refused}
pub use Rattle.board.proofs.Linked.{there_is, as_many, at_each, other_guest, own, turned, of_guest}
pub use Rattle.board.proofs.Moving.{sound_moved, moves_twice, lent_moves, moves_none}
pub use Rattle.board.proofs.Stays.{marks_at, may_settle_them, is_share_of, may_give_it}
pub use Rattle.board.specs.Board.{IsSound, marks_in}
pub use Rattle.board.specs.Moving.{Moves, Steps}
pub use Rattle.board.specs.State.{BoardState, guests, in_place, Marks}
pub use Rattle.board.specs.Steps.{report_of, PopsInto, PublishesFrom, PublishesReply, SubmitsFrom}
pub use Rattle.board.specs.Steps.{did_answer, Advances, AdvancesUnder, SettlesBy, advance_answer}
pub use Rattle.board.specs.Steps.{answer_by, pop_answer, GivesWhere, TakesInto, CollectsInto}
pub use Rattle.board.specs.Steps.{publish_answer}
pub use Rattle.board.specs.declared.step.Seen.TheVariants.{Did}
pub use Rattle.flusher.proofs.Countdown.{round_lowers, given_adds}
unfoldable pub use Rattle.flusher.specs.Store.{given, is_free}
pub use Rattle.flusher.specs.Store.{StoreState, given_of, is_free_of}
pub use Rattle.queue_looks.specs.Advancing.{GoesBy, GoesOn, Hears, IsListened, book_heard, went_by}
pub use Rattle.queue_looks.specs.Calm.{IsCalm, is_broken, IsCalmGuest}
pub use Rattle.queue_looks.specs.Fault.{told_of, fault_of}
pub use Rattle.queue_looks.specs.Finishing.{Rests, LeavesAll}
pub use Rattle.queue_looks.specs.Looks.{with_device, LooksOn, Share, OnShare, share_of, AnswerAll}
pub use Rattle.queue_looks.specs.Looks.{EndLooks, ShowsShare, IsOnlyPopped, Looks, FindsJob}
pub use Rattle.queue_looks.specs.Looks.{found_by}
unfoldable pub use Rattle.queue_looks.specs.Runner.{
  after_when,
  refusal_of,
  reply_when,
  cores_after,
  cores_when,
}
pub use Rattle.queue_looks.specs.Runner.{RunnerView, runner_of, held_since, runner_since, since}
pub use Rattle.queue_looks.specs.Waiting.{Leaves, Waits, IsLate, AreMarked, WritesOn, Collected}
pub use Rattle.queue_looks.specs.Waiting.{WaitsForSome}
pub use Rattle.queue_looks.specs.Work.{work_of, between_calls, calls_of, todo_of, waiting_calls}
pub use Rattle.queue_looks.specs.declared.fault.HostFault.{HostFault}
pub use Rattle.queue_looks.specs.declared.fault.HostFault.TheVariants.{NoMemory}
pub use Rattle.queue_looks.specs.declared.looking.Look.{Look}
pub use Rattle.queue_looks.specs.declared.looking.Look.TheVariants.{Answered, Nothing, Stopped}
