-- The names that most proofs cite, passed on from one place. Declares nothing.
pub use Rattle.byteorder.specs.Endian.{big_bytes, big_from}
pub use Rattle.byteorder.specs.Numbers.{length-bytes_high_first, big_number-reads_back}
pub use Rattle.std.proofs.lemmas.Bool.{cases_lt}
pub use Rattle.std.proofs.lemmas.Bool.Decides.{nat_tests}
pub use Rattle.std.proofs.lemmas.List.{get_or-take}
pub use Rattle.std.specs.List.{All}
pub use Rattle.std.specs.Prelude.{replicate, if◌then◌else◌, slice_get, vec_capacity}
pub use borrow.Rule.Slice.PartMut.{put_mid}
pub use lib.Dec.{eqb}
pub use lib.Pointwise.{pointwise}
pub use Rattle.rpmb_frame.specs.Config.{IsBoard}
unfoldable pub use Rattle.disk.specs.Content.{bytes_at, over}
pub use Rattle.disk.specs.Content.{Content, zeros, content_of}
unfoldable pub use Rattle.intent_slots.specs.Fields.{number_at}
pub use Rattle.intent_slots.specs.Fields.{Agree}
unfoldable pub use Rattle.intent_slots.specs.Home.{home_bytes}
pub use Rattle.intent_slots.specs.Home.{IsHome, Keyed, home_content, Unkeyed}
unfoldable pub use Rattle.intent_slots.specs.Layout.{capacities_of, start_of}
pub use Rattle.intent_slots.specs.Layout.{Region, end_of}
unfoldable pub use Rattle.intent_slots.specs.Payload.{entry_over, payload_bytes}
pub use Rattle.intent_slots.specs.Payload.{Entry, Group, EntryFits, Programs, Stores, EntriesFit}
pub use Rattle.intent_slots.specs.Payload.{GroupFits, IsEntry, AreEntries, IsPayload, kind_of}
pub use Rattle.intent_slots.specs.Payload.{entries_over, payload_content, payload_length}
pub use Rattle.intent_slots.specs.Payload.{entries_length, IsEntryIn, last_of, Intent}
pub use Rattle.intent_slots.specs.Recovered.{Part, redone, redo}
pub use Rattle.intent_slots.specs.declared.layout.Side.TheVariants.{A, B}
