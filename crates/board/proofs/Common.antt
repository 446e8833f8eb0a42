-- The names that most proofs cite, passed on from one place. Declares nothing.
pub use Rattle.std.proofs.lemmas.Bool.Decides.{nat_tests}
pub use Rattle.std.proofs.lemmas.List.{length-map, append-nil, append_assoc}
pub use Rattle.std.proofs.lemmas.Option.{slice_get-get_or, slice_get_cases, slice_get_within}
pub use Rattle.std.proofs.lemmas.Option.{get_or_from_slice_get, slice_get-map}
pub use Rattle.std.specs.Prelude.{is_some, slice_get, slice_set, slice_index_or, if◌then◌else◌}
pub use Rattle.std.specs.Prelude.{option_map, ◌==◌, slice_index, replicate, Result, Ok, Err, IfOk}
pub use Rattle.std.specs.Prelude.{◌&&◌}
pub use Rattle.rpmb_frame.specs.Limits.{limits_of}
pub use Rattle.rpmb_frame.specs.Partition.{Partition, sequence}
pub use Rattle.rpmb_frame.specs.Request.{Request}
pub use Rattle.rpmb_frame.specs.declared.config.GuestConfig.{GuestConfig}
pub use Rattle.disk.proofs.Ways.{within_weaker}
pub use Rattle.disk.specs.Content.{Content, content_of}
pub use Rattle.disk.specs.CutDisk.{CutState, cut_state}
pub use Rattle.disk.specs.Disk.{DiskCall, DiskState, HasRisen, Within, Effect, Still, Then}
pub use Rattle.disk.specs.OutboxDisk.{outbox_state}
unfoldable pub use Rattle.intent_slots.specs.Layout.{capacities_of, region_at}
pub use Rattle.intent_slots.specs.Payload.{Intent, GroupFits}
pub use Rattle.intent_slots.specs.Recovered.{Part, part_of}
pub use Rattle.flusher.proofs.Guests.{get_set_same, get_set_other}
pub use Rattle.flusher.proofs.Pending.{pending_stays}
unfoldable pub use Rattle.flusher.specs.Marks.{marks_of}
pub use Rattle.flusher.specs.Pair.{has_room, mark_of, with_intent, guest_after_sync}
pub use Rattle.flusher.specs.Pair.{guest_after_write, pending_intents}
pub use Rattle.flusher.specs.Progress.{with_marks, Progress}
pub use Rattle.flusher.specs.Round.{FrontStays, Moves, Round, parts_after, planned, under_way}
pub use Rattle.flusher.specs.Round.{settles, MovedBy}
pub use Rattle.flusher.specs.Slot.{intent_of}
pub use Rattle.flusher.specs.SlotInvariant.{EachStop, IsHeld, guest_settled}
unfoldable pub use Rattle.flusher.specs.Store.{is_free, given}
pub use Rattle.flusher.specs.Store.{StoreState}
pub use Rattle.flusher.specs.declared.guest.Guest.{Guest}
pub use Rattle.flusher.specs.declared.progress.StoreFault.{StoreFault}
pub use Rattle.flusher.specs.declared.progress.StoreFault.TheVariants.{DiskFault}
unfoldable pub use Rattle.mmio_transport.specs.Device.{first_state}
pub use Rattle.mmio_transport.specs.Device.{DeviceState}
pub use Rattle.mmio_transport.specs.Job.{Job, Done}
pub use Rattle.rpmb_core.proofs.Following.{capacity_stays, accepted_joined, sequence_of_all}
pub use Rattle.rpmb_core.proofs.Sequence.{after_refused}
pub use Rattle.rpmb_core.specs.Requests.{AllAccepted, partition_after_all}
pub use Rattle.recovery.specs.Opening.{Untouched, parts_of, SyncsFirst}
pub use Rattle.recovery.specs.declared.fault.OpenFault.{OpenFault}
pub use Rattle.rpmb_book.proofs.ByGuest.{by_guest}
pub use Rattle.rpmb_book.proofs.Grouping.{intent_is}
pub use Rattle.rpmb_book.proofs.IsolationLemmas.{by_test}
pub use Rattle.rpmb_book.proofs.Replay.{replay-push}
pub use Rattle.rpmb_book.proofs.Rolling.{submit_rolls}
pub use Rattle.rpmb_book.proofs.Room.{length-parts}
pub use Rattle.rpmb_book.specs.Book.{BookView, due_of, due_at, guest_of, is_share, next_intent}
pub use Rattle.rpmb_book.specs.Book.{refusal_at, state, submit_of, is_full, with_turn, may_settle}
pub use Rattle.rpmb_book.specs.ByGuest.{guest_after}
pub use Rattle.rpmb_book.specs.Fold.{after_submit}
pub use Rattle.rpmb_book.specs.Guest.{GuestState, collected, first_intent, intent_sequence}
pub use Rattle.rpmb_book.specs.Guest.{submitted, took, broken_off, request_of, accepts, first_due}
pub use Rattle.rpmb_book.specs.Job.{Tally}
pub use Rattle.rpmb_book.specs.Marks.{marks_for, settled_to}
pub use Rattle.rpmb_book.specs.Replay.{fresh_guests}
pub use Rattle.rpmb_book.specs.Sound.{AreOfBoard, IsOfBoard}
pub use Rattle.rpmb_book.specs.Turn.{Turn, Take, Settle, Collect, Break, move_some}
pub use Rattle.board.specs.Board.{IsLinkedBoard, LeavesPrefixes, marks_in, accepted_by, joined_when}
pub use Rattle.board.specs.Board.{accepted_after, answered, IsSound, StaysLinked}
pub use Rattle.board.specs.Link.{IsLinked, IsPrefix, AreInTurn, HasKeyOf, entries_all, entries_of}
pub use Rattle.board.specs.Opening.{Begins, GoesOn, bases_of, first_devices, kept_by, kept_of}
pub use Rattle.board.specs.Opening.{new_board, CallsRefused, Finds}
pub use Rattle.board.specs.State.{BoardState, Report, in_place, report_seen, guests, Marks, put}
pub use Rattle.board.specs.State.{Fault}
pub use Rattle.board.specs.Steps.{AdvancesUnder, Answer, SubmitsFrom, advance_answer, report_of}
pub use Rattle.board.specs.Steps.{Advances, Does, Drives, PopsInto, PublishesFrom, Idles, job_of}
pub use Rattle.board.specs.Steps.{CollectsInto, GivesWhere, SettlesBy, TakesInto, answer_by}
pub use Rattle.board.specs.Steps.{did_answer}
pub use Rattle.board.specs.declared.step.Act.{Act}
pub use Rattle.board.specs.declared.step.Seen.TheVariants.{Did}
pub use Rattle.board.specs.declared.step.Step.{Step}
