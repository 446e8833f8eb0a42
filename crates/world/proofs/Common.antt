-- The names that most proofs cite, passed on from one place. Declares nothing.
pub use Rattle.std.proofs.lemmas.Bool.{cases_eq}
pub use Rattle.std.proofs.lemmas.Bool.Decides.{nat_tests}
pub use Rattle.std.proofs.lemmas.List.{length-map, append-nil, append_assoc}
pub use Rattle.std.proofs.lemmas.Option.{slice_get-get_or, slice_get_cases, slice_get_within}
pub use Rattle.std.proofs.lemmas.Option.{get_or_from_slice_get}
pub use Rattle.std.specs.Prelude.{is_some, slice_get, slice_set, slice_index_or, if◌then◌else◌}
pub use Rattle.std.specs.Prelude.{nat_lt, option_map, ◌==◌, replicate, ◌&&◌, option_copied}
pub use Rattle.rpmb_frame.specs.Limits.{limits_of}
pub use Rattle.rpmb_frame.specs.Partition.{Partition, sequence}
pub use Rattle.rpmb_frame.specs.Request.{Request}
pub use Rattle.rpmb_frame.specs.declared.config.GuestConfig.{GuestConfig}
pub use Rattle.disk.specs.Content.{Content, content_of}
pub use Rattle.disk.specs.CutDisk.{CutMakes, CutState, cut_state}
pub use Rattle.disk.specs.Disk.{DiskCall, DiskState, HasRisen, Within, Effect, MayLeave, Still}
pub use Rattle.disk.specs.Disk.{Then}
pub use Rattle.disk.specs.declared.filler.Filler.{Filler}
unfoldable pub use Rattle.intent_slots.specs.Layout.{capacities_of}
pub use Rattle.intent_slots.specs.Payload.{Intent}
pub use Rattle.intent_slots.specs.Recovered.{Part}
pub use Rattle.flusher.proofs.Guests.{get_set_same, get_set_other}
unfoldable pub use Rattle.flusher.specs.Marks.{marks_of}
pub use Rattle.flusher.specs.Pair.{mark_of}
pub use Rattle.flusher.specs.Progress.{with_marks}
pub use Rattle.flusher.specs.Round.{FrontStays}
unfoldable pub use Rattle.flusher.specs.Store.{is_free}
pub use Rattle.flusher.specs.Store.{next_call}
pub use Rattle.flusher.specs.declared.progress.Call.{Call}
pub use Rattle.flusher.specs.declared.progress.StoreFault.TheVariants.{DiskFault}
unfoldable pub use Rattle.mmio_transport.specs.Device.{first_state}
pub use Rattle.mmio_transport.specs.Device.{DeviceState, last_count}
pub use Rattle.mmio_transport.specs.Job.{Job, Done}
pub use Rattle.mmio_transport.specs.Popping.{GivesJob, GivesFrom, is_stopped, live_queue}
pub use Rattle.mmio_transport.specs.Publishing.{Publishes, WritesIn}
pub use Rattle.mmio_transport.specs.Queue.{QueueState}
pub use Rattle.mmio_transport.specs.declared.done.Published.{Published}
pub use Rattle.mmio_transport.specs.declared.done.Published.TheVariants.{Wrote, Dropped}
pub use Rattle.mmio_transport.specs.declared.fault.DeviceFault.{DeviceFault}
pub use Rattle.rpmb_core.proofs.Following.{sequence_of_all}
pub use Rattle.rpmb_core.proofs.Sequence.{after_refused}
pub use Rattle.rpmb_core.specs.Requests.{partition_after_all}
pub use Rattle.recovery.specs.Opening.{AnswersFault, IsImage, Untouched, parts_of, SyncsFirst}
pub use Rattle.recovery.specs.Upgrade.{LeavesAsBefore}
pub use Rattle.recovery.specs.declared.fault.OpenFault.{OpenFault}
pub use Rattle.rpmb_book.proofs.ByGuest.{by_guest}
pub use Rattle.rpmb_book.proofs.Replay.{replay-push}
pub use Rattle.rpmb_book.proofs.Rolling.{submit_rolls}
pub use Rattle.rpmb_book.specs.Book.{due_of, due_at, guest_of, next_intent, refusal_at, state}
pub use Rattle.rpmb_book.specs.Book.{submit_of, is_full, with_turn, may_settle}
pub use Rattle.rpmb_book.specs.ByGuest.{guest_after}
pub use Rattle.rpmb_book.specs.Fold.{after_submit}
pub use Rattle.rpmb_book.specs.Guest.{GuestState, collected, submitted, took, request_of, first_due}
pub use Rattle.rpmb_book.specs.Job.{Tally}
pub use Rattle.rpmb_book.specs.Marks.{marks_for, settled_to}
pub use Rattle.rpmb_book.specs.Replay.{fresh_guests}
pub use Rattle.rpmb_book.specs.Sound.{AreOfBoard}
pub use Rattle.rpmb_book.specs.Turn.{Turn, Take, Settle, Collect, Break, move_some}
pub use Rattle.board.specs.Board.{IsLinkedBoard, LeavesPrefixes, marks_in, accepted_by, joined_when}
pub use Rattle.board.specs.Board.{accepted_after, answered}
pub use Rattle.world.specs.InOrder.{AreInOrder, IsTied, IsTiedTo, is_of, numbers_of, pops_of}
pub use Rattle.world.specs.Kept.{IsConsistent, IsConsistentAt, IsNew, IsOpen}
pub use Rattle.board.specs.Link.{IsPrefix}
pub use Rattle.world.specs.Logs.{AreCut, AreFresh, GuestLog, cut_log, kept_count, Asked}
pub use Rattle.world.specs.Noting.{IsGuest, IsNoted}
pub use Rattle.board.specs.Opening.{Begins, GoesOn, bases_of, first_devices, kept_by, kept_of}
pub use Rattle.board.specs.Opening.{new_board, CallsRefused, Finds}
pub use Rattle.world.specs.Records.{HasRoom, HaveRoom, accepted_in, count_of, popped_in, popped_of}
pub use Rattle.world.specs.Records.{published_in, published_of, asked_by, IsFitWith, home_of}
pub use Rattle.world.specs.Records.{seen_of, world_of}
pub use Rattle.board.specs.State.{BoardState, Report, in_place, guests, Marks, put, Fault}
pub use Rattle.board.specs.Steps.{AdvancesUnder, Answer, SubmitsFrom, advance_answer, report_of}
pub use Rattle.board.specs.Steps.{Advances, Does, Drives, PopsInto, PublishesFrom, Idles, job_of}
pub use Rattle.board.specs.Steps.{pop_answer, CollectsInto, GivesWhere, SettlesBy, TakesInto}
pub use Rattle.board.specs.Telling.{choosing_call}
unfoldable pub use Rattle.world.specs.World.{raised}
pub use Rattle.world.specs.World.{CutBy, CutWithin, CutsTo, EndsUpgrade, UpgradesTo, Happens}
pub use Rattle.world.specs.World.{LacksRoom, OpensOrNot, Runs, StepsAt, WorldState, choosing}
pub use Rattle.world.specs.World.{disk_of, opened_world, refusal_of, StepsIn, popped_after}
pub use Rattle.world.specs.World.{publication_of, published_after, with_publication, partition_in}
pub use Rattle.world.specs.declared.event.Event.{Event}
pub use Rattle.world.specs.declared.event.Refusal.{Refusal}
pub use Rattle.world.specs.declared.home.Home.{Home}
pub use Rattle.world.specs.declared.home.Home.TheVariants.{Up, Down}
pub use Rattle.world.specs.declared.log.Pop.{Pop}
pub use Rattle.world.specs.declared.log.Publication.{Publication}
pub use Rattle.world.specs.declared.stage.Stage.{Stage}
pub use Rattle.board.specs.declared.step.Act.{Act}
pub use Rattle.board.specs.declared.step.Seen.TheVariants.{Did}
pub use Rattle.board.specs.declared.step.Step.{Step}
