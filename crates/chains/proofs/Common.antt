-- The names that most proofs cite, passed on from one place. Declares nothing.
pub use Rattle.std.proofs.lemmas.Bool.{cases_lt, lt-ltb, le-ltb, ltb-false, eqb-true}
pub use Rattle.std.proofs.lemmas.List.{length-take-le, append-nil, map-append}
pub use Rattle.std.proofs.lemmas.List.Elements.{filter-append}
pub use Rattle.std.proofs.lemmas.Result.{err_from_is_err_and}
pub use Rattle.std.specs.List.{flat_map, filter, AllByRecursion, remove, sum_by}
pub use Rattle.guest_memory.specs.Memory.{IsInside}
pub use Rattle.chains.specs.Building.{Adds, Gains, IsCounted}
pub use Rattle.chains.specs.Chain.{Buffers, has_writable}
pub use Rattle.chains.specs.Descriptor.{table_of, index_of, descriptor_at}
pub use Rattle.chains.specs.Law.{StandsAt, Follow, IsList, RefersTo, written_after, AreBuffers}
pub use Rattle.chains.specs.Law.{Fails, OneTooMany, NoSuchPlace, NotAllowed, TableOutside}
pub use Rattle.chains.specs.Law.{BufferOutside, ReadAfterWrite, IsReadable, IsWritable}
pub use Rattle.chains.specs.Law.{AreWellFormed, IsBuffer}
pub use Rattle.chains.specs.Range.{bytes_of, AreInside}
pub use Rattle.chains.specs.Reads.{ReadCount}
pub use Rattle.chains.specs.Ring.{is_chain, Ascend, IsFree}
unfoldable pub use Rattle.chains.specs.Walk.{walk}
pub use Rattle.chains.specs.Walk.{Member, fault_of, ◌or_else◌, is_writable, reads_of, Here}
pub use Rattle.chains.specs.Walk.{members_in, chain_at, with_table, first_fault, is_bad_table}
pub use Rattle.chains.specs.Walk.{most_table_bytes, is_readable, readable, writable, range_of}
pub use Rattle.chains.specs.Walk.{last_id, Found}
pub use Rattle.chains.specs.declared.descriptor.Descriptors.{Descriptors}
pub use Rattle.chains.specs.declared.descriptor.Descriptor.{Descriptor}
pub use Rattle.chains.specs.declared.fault.ChainFault.{ChainFault}
pub use Rattle.chains.specs.declared.fault.ChainFault.TheVariants.{TooLong, BadRange, Order}
pub use Rattle.chains.specs.declared.fault.ChainFault.TheVariants.{BadTable}
pub use Rattle.chains.specs.declared.fault.RingFault.{RingFault}
pub use Rattle.chains.specs.declared.fault.RingFault.TheVariants.{NoMemory, Missing, Refused}
pub use Rattle.chains.specs.declared.popped.Outstanding.{Outstanding}
pub use Rattle.chains.specs.declared.range.Range.{Range}
