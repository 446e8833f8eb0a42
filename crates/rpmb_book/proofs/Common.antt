-- The names that most proofs cite, passed on from one place. Declares nothing.
pub use Rattle.std.proofs.lemmas.Bool.Decides.{nat_tests}
pub use Rattle.std.proofs.lemmas.Grind.{common_steps}
pub use Rattle.std.proofs.lemmas.List.{length-map, drop-drop, append-nil, drop_all, take_all}
pub use Rattle.std.proofs.lemmas.List.Edits.{map_over_more}
pub use Rattle.std.proofs.lemmas.List.Sums.{sum_by-cons}
pub use Rattle.std.proofs.lemmas.Option.{slice_get_cases, slice_get_within}
pub use Rattle.std.specs.List.{AllByRecursion}
pub use Rattle.std.specs.Prelude.{◌==◌, slice_get, IsSome, map, max, if◌then◌else◌, option_map}
pub use Rattle.std.specs.Prelude.{◌&&◌, not, is_none, is_some, nat_lt, count_by, nat_le, unwrap_or}
pub use Rattle.std.specs.Prelude.{replicate, option_to_list, All}
pub use base.Logic.{SProp, ent}
pub use contract.Monad.{Fun}
unfoldable pub use contract.Running.{tables_of}
pub use denote.Builtin.{RefOf}
pub use denote.Exit.{yes}
pub use denote.RattleType.{owns}
pub use denote.Signature.{plain, types_at}
pub use denote.Steps.{nothing}
pub use denote.Triple.Clauses.{Clauses, Ended, closing}
pub use denote.Triple.Entry.{alive}
pub use denote.Triple.Spec.{Meets, triple_of}
pub use denote.Triple.Table.{entered}
pub use denote.Triple.Walked.{says, Stays, stay_dropped, walk_of, ends_at, walk_Meets, Goes-dropped}
pub use mir.Syntax.{Fn}
pub use mir.Val.{Val, vptr}
pub use prog.Memory.{Memory}
pub use prog.Routine.{Routine}
pub use prog.Wp.{Calls, Loops, WpFn, Tables}
pub use seplogic.Ra.Ura.{Ura}
pub use sound.WpLaws.{WpFn-mono}
pub use types.ByLocal.{alloc_all, pass_all, free_all, look_at, sets}
pub use types.Kit.{‵, ◌$◌, fjoin, raw, ◌⊛◌, prop, ◌∵◌, !, qed, move, keep, drop, split, fsplit}
pub use types.Kit.{feq_l, regoal, suffices}
pub use types.Logic.{Logic}
pub use types.Part.{agg}
pub use types.Run.{enter, returns, no_more}
pub use Rattle.rpmb_frame.specs.Config.{IsGuest}
pub use Rattle.rpmb_frame.specs.Limits.{Limits}
pub use Rattle.rpmb_frame.specs.Partition.{sequence, Partition}
unfoldable pub use Rattle.rpmb_frame.specs.Request.{request}
pub use Rattle.rpmb_frame.specs.Request.{frames_of}
pub use Rattle.rpmb_frame.specs.declared.config.GuestConfig.{GuestConfig}
pub use Rattle.intent_slots.specs.Payload.{Entry, EntryFits, EntriesFit, Intent, IsWrite}
pub use Rattle.intent_slots.specs.Recovered.{part_of}
pub use Rattle.mmio_transport.specs.Job.{Job, Done, done_of, room_of}
pub use Rattle.rpmb_core.proofs.Sequence.{after_refused, keyed_after, sequence_accepted}
unfoldable pub use Rattle.rpmb_core.specs.Reply.{closed}
pub use Rattle.rpmb_core.specs.Reply.{failed}
unfoldable pub use Rattle.rpmb_core.specs.Verdict.{verdict}
pub use Rattle.rpmb_book.specs.Allowed.{IsAllowed}
pub use Rattle.rpmb_book.specs.Asked.{answered_jobs, IsAfter, answered_in}
unfoldable pub use Rattle.rpmb_book.specs.Book.{is_full}
pub use Rattle.rpmb_book.specs.Book.{BookView, counted_in, refusal, submits_in, with_turn, guest_of}
pub use Rattle.rpmb_book.specs.Book.{submit_of, next_intent, due_of, found_by, are_taken, is_taken}
pub use Rattle.rpmb_book.specs.Bounded.{IsBounded, IsBoundedGuest}
pub use Rattle.rpmb_book.specs.ByGuest.{broken_when}
pub use Rattle.rpmb_book.specs.Due.{total, submits_of, due}
unfoldable pub use Rattle.rpmb_book.specs.Fold.{folded, roomy}
pub use Rattle.rpmb_book.specs.Fold.{after_submit, folded_from}
pub use Rattle.rpmb_book.specs.Guest.{GuestState, submitted, took, collected, broken_off}
pub use Rattle.rpmb_book.specs.Guest.{settled_at, Held, held_when, kept_or_failed, first_due}
pub use Rattle.rpmb_book.specs.Guest.{accepts, request_of, entry_of, joined_by, first_intent}
pub use Rattle.rpmb_book.specs.Guest.{key_of, core_when, GuestCore, answer_when}
pub use Rattle.rpmb_book.specs.History.{Filed, below, filed_from, filed_seen, of_guest, still_filed}
pub use Rattle.rpmb_book.specs.History.{Rise}
pub use Rattle.rpmb_book.specs.Isolation.{jobs_of}
pub use Rattle.rpmb_book.specs.Job.{Tally, Submission}
pub use Rattle.rpmb_book.specs.Kept.{IsKept, IsOpening}
pub use Rattle.rpmb_book.specs.Left.{first_left, first_submit, is_collected, left_at, may_go}
pub use Rattle.rpmb_book.specs.Life.{GoesOn, Lives, turn_if}
pub use Rattle.rpmb_book.specs.Marks.{marks_for, settled_to, is_within, moves}
unfoldable pub use Rattle.rpmb_book.specs.Opening.{tallies_from}
pub use Rattle.rpmb_book.specs.Receipt.{submission_seen}
pub use Rattle.rpmb_book.specs.Replay.{IsLegal, replay, fresh_guests}
pub use Rattle.rpmb_book.specs.Sound.{IsSound, HasWholeFrames, IsSoundGuest, IsCoreOfBoard, IsAsked}
pub use Rattle.rpmb_book.specs.Sound.{IsStorable, AreOfBoard, IsReady}
pub use Rattle.rpmb_book.specs.Turn.{Turn, State, Submit, Take, Settle, Collect, Break, after_break}
pub use Rattle.rpmb_book.specs.Turn.{after_turn, update, settled_all, IsRight, are_within}
pub use Rattle.rpmb_book.specs.Turn.{move_some, is_submit}
pub use Rattle.rpmb_book.specs.declared.receipt.Receipt.{Receipt}
