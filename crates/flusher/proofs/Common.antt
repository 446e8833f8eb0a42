-- The names that most proofs cite, passed on from one place. Declares nothing.
pub use Rattle.std.proofs.lemmas.Bool.{cases_eq}
pub use Rattle.std.proofs.lemmas.Bool.Decides.{nat_tests}
pub use Rattle.std.proofs.lemmas.Grind.{common_steps}
pub use Rattle.std.proofs.lemmas.List.Quantifiers.{position-Some}
pub use Rattle.std.proofs.lemmas.Option.{slice_get_within, get_or_from_slice_get, slice_get-get_or}
pub use Rattle.std.specs.List.{list_any}
pub use Rattle.std.specs.Prelude.{slice_get, nat_lt, if◌then◌else◌, slice_set, ◌||◌, position}
pub use Rattle.disk.specs.Content.{Content, IsOutside}
pub use Rattle.disk.specs.Disk.{DiskCall, DiskState, Effect, Write, Sync, MayLeave, Writes, Syncs}
pub use Rattle.disk.specs.Disk.{during, Within, Still, Then}
pub use Rattle.intent_slots.proofs.Bytes.{SameOn}
pub use Rattle.intent_slots.proofs.Same.{payload_short}
pub use Rattle.intent_slots.specs.Layout.{Region, blocks_at, end_of, SlotRegion, slot_region}
pub use Rattle.intent_slots.specs.Layout.{other_side, IsSlotRegion}
pub use Rattle.intent_slots.specs.Payload.{Entry, Group, Intent, GroupFits, last_of}
unfoldable pub use Rattle.intent_slots.specs.Recovered.{blocks_of}
pub use Rattle.intent_slots.specs.Recovered.{redo, Part, HoldsHome, HasPayload, redone, after}
pub use Rattle.intent_slots.specs.Recovered.{StandsFor, ByHome, ByPayload}
pub use Rattle.intent_slots.specs.declared.layout.Side.{Side}
pub use Rattle.intent_slots.specs.declared.layout.Side.TheVariants.{A}
unfoldable pub use Rattle.flusher.specs.Marks.{marks_of}
pub use Rattle.flusher.specs.Pair.{turn_of, moved_in, with_slots, given_at, with_intent}
pub use Rattle.flusher.specs.Pair.{guest_has_write, guest_awaits, guest_after_write}
pub use Rattle.flusher.specs.Pair.{guest_after_sync, region_of, guest_write, has_room, side_behind}
pub use Rattle.flusher.specs.Pair.{mark_of, entries_in, is_let_beside, behind_writes, or_else}
pub use Rattle.flusher.specs.Pair.{marked, moved_up, write_in, side_of}
pub use Rattle.flusher.specs.Phase.{has_write, open_after, PayloadWrite, GateWrite, next_write}
pub use Rattle.flusher.specs.Phase.{is_opening, is_settled, NextWrite, NoWrite, BlocksWrite}
pub use Rattle.flusher.specs.Phase.{HomeWrite, open_write, skipped}
pub use Rattle.flusher.specs.Progress.{Progress, Synced, Wrote, Idle, with_marks}
unfoldable pub use Rattle.flusher.specs.Round.{under_way}
pub use Rattle.flusher.specs.Round.{plan_at, planned, AllEmpty, Ends, Round, written_at}
pub use Rattle.flusher.specs.Round.{under_way_by}
pub use Rattle.flusher.specs.Slot.{is_empty, slot_writes, after_write, intent_of, pending_of}
pub use Rattle.flusher.specs.Slot.{in_phase, after_sync, opening_in, slot_write, spelled}
pub use Rattle.flusher.specs.SlotInvariant.{settled_by, IsKept, guest_row, guest_seen}
pub use Rattle.flusher.specs.SlotInvariant.{guest_settled, IsHeld, IsOfVersion, Behind, Besides}
pub use Rattle.flusher.specs.SlotInvariant.{IsShut, PhaseRow, Row, PhaseSeen, Seen, BeforeOrAfter}
pub use Rattle.flusher.specs.SlotInvariant.{BehindRow, BehindSeen, LeadsBy, PhaseBesides, settled}
pub use Rattle.flusher.specs.SlotInvariant.{settled_with, LeadsTo, Follows, IsMarked, PairRow}
pub use Rattle.flusher.specs.SlotInvariant.{sequence_of_part}
unfoldable pub use Rattle.flusher.specs.Store.{next_sequence}
pub use Rattle.flusher.specs.Store.{given_of, AllFit, GuestFits, next_of, IntentFits}
pub use Rattle.flusher.specs.declared.guest.Guest.{Guest}
pub use Rattle.flusher.specs.declared.guest.Turn.{Turn}
pub use Rattle.flusher.specs.declared.guest.Turn.TheVariants.{First, Second, Neither}
pub use Rattle.flusher.specs.declared.phase.Phase.{Phase}
pub use Rattle.flusher.specs.declared.phase.Phase.TheVariants.{Open, Given, Written, Ready, Opening}
pub use Rattle.flusher.specs.declared.phase.Phase.TheVariants.{Applying, Applied, Closing}
pub use Rattle.flusher.specs.declared.plan.Plan.{Plan}
pub use Rattle.flusher.specs.declared.plan.Plan.TheVariants.{WriteOf, SyncAll, Nothing}
pub use Rattle.flusher.specs.declared.progress.StoreFault.{StoreFault}
pub use Rattle.flusher.specs.declared.slot.Slot.{Slot}
