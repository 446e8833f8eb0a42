-- The names that most proofs cite, passed on from one place. Declares nothing.
pub use Rattle.std.proofs.lemmas.Bool.{cases_lt, cases_eq}
pub use Rattle.std.proofs.lemmas.Bool.Decides.{nat_tests}
pub use Rattle.std.proofs.lemmas.List.{get_or_past}
pub use Rattle.std.proofs.lemmas.Result.{err_from_is_err_and}
pub use Rattle.std.proofs.lemmas.Option.{slice_get_within}
pub use Rattle.std.specs.Prelude.{◌||◌, Result, Ok, Err, is_ok, slice_index, ◌==◌, OnOk, slice_get}
pub use Rattle.std.specs.Prelude.{ℕ}
pub use Rattle.rpmb_frame.specs.Partition.{Partition, sequence_of}
pub use Rattle.disk.proofs.Ways.{within_call, within_more, within_end, within_both}
unfoldable pub use Rattle.disk.specs.Content.{bytes_at}
pub use Rattle.disk.specs.Content.{Content, zeros, content_of, over}
pub use Rattle.disk.specs.Disk.{DiskState, MayLeave, DiskCall, Write, Sync, Effect, during, Read}
pub use Rattle.disk.specs.Disk.{HasRisen, Within, Still, Writes}
pub use Rattle.intent_slots.proofs.Over.{outside, get_bytes, over_outside}
pub use Rattle.intent_slots.proofs.Same.{payload_short, same_list, same_number}
pub use Rattle.intent_slots.proofs.Starts.{lies_inside, overlaps_never}
pub use Rattle.intent_slots.specs.Fields.{Agree}
unfoldable pub use Rattle.intent_slots.specs.Header.{header_bytes, magic}
pub use Rattle.intent_slots.specs.Header.{HasCapacities}
unfoldable pub use Rattle.intent_slots.specs.Layout.{region_at, image_length}
pub use Rattle.intent_slots.specs.Layout.{Region, slot_region, end_of, other_side}
pub use Rattle.intent_slots.specs.Payload.{last_of, GroupFits}
unfoldable pub use Rattle.intent_slots.specs.Recovered.{is_paired}
pub use Rattle.intent_slots.specs.Recovered.{Part, Stands, StandsIn, IsShutAt, ByHome, ByPayload}
pub use Rattle.intent_slots.specs.Recovered.{ByNeither, ByOne, ByBoth, redo, blocks_of, HoldsHome}
pub use Rattle.intent_slots.specs.Recovered.{HasPayload}
pub use Rattle.intent_slots.specs.declared.header.HeaderFault.{HeaderFault}
pub use Rattle.intent_slots.specs.declared.layout.Side.TheVariants.{A, B}
pub use Rattle.flusher.proofs.Blocks.{same_content, blocks_below, blocks_beyond}
pub use Rattle.flusher.specs.Store.{OnlyReads, NoRead, OneRead}
pub use Rattle.flusher.specs.declared.guest.Guest.{Guest}
unfoldable pub use Rattle.recovery.specs.Format.{formatted}
pub use Rattle.recovery.specs.Format.{Holds, WritesZeros, NoZeros}
pub use Rattle.recovery.specs.Front.{NoMagic, OtherLength, TellsVersionFault, SyncsAndReads}
pub use Rattle.recovery.specs.Opening.{IsImage, IsBegun, HasPart, Untouched, EachBegun, AllBegun}
pub use Rattle.recovery.specs.Opening.{HasFront, AnswersFault, parts_of, SyncsFirst, SyncFailed}
pub use Rattle.recovery.specs.Opening.{SyncWent}
pub use Rattle.recovery.specs.Reading.{IsFound, GatesAre, GatesFit, FindsFault, Gives, AllFound}
pub use Rattle.recovery.specs.Reading.{Passes, Finds}
pub use Rattle.recovery.specs.Space.{EachFits}
pub use Rattle.recovery.specs.Upgrade.{LeavesAsBefore, second_gate, ShutsGates, NoGate, OneGate}
pub use Rattle.recovery.specs.Upgrade.{AllShut, OneFailed, NotShut, NotKept, NotNamed, Named}
pub use Rattle.recovery.specs.Upgrade.{StandsAs, StandsThroughout}
pub use Rattle.recovery.specs.declared.fault.OpenFault.{OpenFault}
