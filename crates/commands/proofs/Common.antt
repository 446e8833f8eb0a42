-- The names that most proofs cite, passed on from one place. Declares nothing.
pub use Rattle.std.proofs.KnownBytes.{Appends-nil, Appends-trans, Keeps-refl, Appends-kept}
pub use Rattle.std.proofs.lemmas.Bool.{cases_eq}
pub use Rattle.std.proofs.lemmas.List.{append-nil, length-append, append_assoc, length-map}
pub use Rattle.std.proofs.lemmas.List.{get_or_read}
pub use Rattle.std.proofs.lemmas.Option.{slice_get-get_or, slice_get_read, slice_get_within}
pub use Rattle.std.proofs.lemmas.Option.{get_or_from_slice_get, slice_get_cases}
pub use Rattle.std.proofs.lemmas.Result.{on_ok_weaker, IfErr-weaker}
pub use Rattle.std.specs.Io.KnownBytes.{Keeps, Appends}
pub use Rattle.std.specs.Prelude.{slice_get, true, IfErr, slice_index_or, All, slice_set, OnOk}
pub use Rattle.std.specs.Prelude.{is_ok, not}
pub use Rattle.rpmb_frame.specs.Config.{IsBoard, IsGuest}
pub use Rattle.rpmb_frame.specs.Partition.{Partition, sequence, IsWhole}
pub use Rattle.rpmb_frame.specs.Request.{Request}
pub use Rattle.rpmb_frame.specs.declared.config.GuestConfig.{GuestConfig}
pub use Rattle.disk.proofs.Ways.{within_end}
pub use Rattle.disk.specs.Disk.{DiskState, HasRisen, DiskCall, Within, Still}
unfoldable pub use Rattle.intent_slots.specs.Layout.{capacities_of}
pub use Rattle.intent_slots.specs.Layout.{region_at}
pub use Rattle.intent_slots.specs.Recovered.{part_of}
pub use Rattle.flusher.specs.Pair.{mark_of}
pub use Rattle.flusher.specs.declared.guest.Guest.{Guest}
pub use Rattle.mmio_transport.specs.Device.{last_count}
pub use Rattle.rpmb_core.proofs.Following.{sequence_of_all}
pub use Rattle.rpmb_core.specs.Requests.{partition_after_all}
pub use Rattle.recovery.specs.Opening.{AnswersFault, Untouched}
pub use Rattle.recovery.specs.declared.fault.OpenFault.{OpenFault}
pub use Rattle.rpmb_book.specs.Guest.{GuestCore, GuestState}
pub use Rattle.board.proofs.Moving.{moves_none, moves_twice}
pub use Rattle.board.specs.Board.{StaysLinked}
pub use Rattle.board.specs.Moving.{GoOn, Moves}
pub use Rattle.board.specs.Opening.{bases_of, Begins}
pub use Rattle.board.specs.State.{BoardState, guests}
pub use Rattle.host.specs.Call.{ChainCall}
pub use Rattle.queue_looks.specs.Calm.{is_broken}
pub use Rattle.host.specs.Guest.{GuestView}
pub use Rattle.host.specs.Host.{HostState, HostView, ResetsAt, StoresAt, seen, ChainsAt}
pub use Rattle.host.specs.Ready.{job_of}
unfoldable pub use Rattle.queue_looks.specs.Runner.{cores_when, reply_when}
pub use Rattle.queue_looks.specs.Runner.{runner_of, RunnerView}
pub use Rattle.queue_looks.specs.declared.fault.HostFault.{HostFault}
pub use Rattle.host.specs.declared.front.Answer.{Answer}
pub use Rattle.host.specs.declared.front.Answer.TheVariants.{Used, Stuck}
pub use Rattle.workers.specs.Ends.{HaveAll}
pub use Rattle.workers.specs.Orders.{chain_orders, chains_in}
pub use Rattle.workers.specs.declared.order.Order.{Order}
pub use Rattle.script.specs.Line.{Said, chain, nothing, reset, store, served_line_of, IsWithin}
pub use Rattle.script.specs.Line.{IsServed}
pub use Rattle.script.specs.Script.{lines_of}
pub use Rattle.script.specs.declared.line.Line.{Line}
pub use Rattle.commands.specs.Calling.{LineDone, LineFails, NextFails, ChainFault, LineRuns}
pub use Rattle.commands.specs.Ending.{IsOfReading, IsOfTelling, LineEnds, OpeningEnds, Ends}
pub use Rattle.commands.specs.Ending.{serving, IsReadAlone, Synced, showing, upgrading, NextEnds}
pub use Rattle.commands.specs.Ending.{RunPrints, running, IsOfWriting, Takes, KeepsUnless}
pub use Rattle.commands.specs.Failing.{IsFailedIn, text_when, told_when}
pub use Rattle.commands.specs.Fault.{fault_of, fault_of_image}
pub use Rattle.commands.specs.Image.{AreOf, IsOpened}
unfoldable pub use Rattle.commands.specs.Listing.{blocks_below}
pub use Rattle.commands.specs.Listing.{block_shown, listing}
pub use Rattle.commands.specs.Moments.{MayEnd, Moment, StopsAt, broken_at, AnyMoment, Begun, IsTold}
pub use Rattle.commands.specs.Moments.{Trail, Went, MovesTo, Starts, Walked, moment_of}
pub use Rattle.commands.specs.Running.{IsAt, AreWithin, IsSized}
unfoldable pub use Rattle.commands.specs.Serving.{answer_lines, guests_lines}
pub use Rattle.commands.specs.Serving.{PrintsEach, RanOf, answer_line, asked_by, asked_of, asks}
pub use Rattle.commands.specs.Serving.{chains_of, is_chain}
unfoldable pub use Rattle.commands.specs.Transcript.{told_after, transcript}
pub use Rattle.commands.specs.Transcript.{StoresNothing, first_told, Told, used_line, printed_by}
pub use Rattle.commands.specs.Transcript.{told_by}
pub use Rattle.commands.specs.declared.fault.Fault.{Fault}
