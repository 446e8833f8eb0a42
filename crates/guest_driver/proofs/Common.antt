-- The names that most proofs cite, passed on from one place. Declares nothing.
pub use Rattle.byteorder.specs.Endian.{little_bytes, little_number}
pub use Rattle.byteorder.specs.Numbers.{little_number-reads_back}
pub use Rattle.std.proofs.Math.Nat.{mod-add-mod}
pub use Rattle.std.proofs.lemmas.Bool.{ne_eqb, cases_lt, cases_eq, eq-eqb, eqb-true}
pub use Rattle.std.proofs.lemmas.Grind.{common_steps}
pub use Rattle.std.proofs.lemmas.List.{length-replicate, get_or-replicate, append_assoc}
pub use Rattle.std.proofs.lemmas.List.{get_or-set_same, get_or-set_other, length-set}
pub use Rattle.std.proofs.lemmas.List.{take-replicate, take_all, append-nil}
pub use Rattle.std.proofs.lemmas.Nat.{mod_below}
pub use Rattle.std.specs.Int.{is_power_of_two}
pub use Rattle.std.specs.List.{flat_map, position_or_len}
pub use Rattle.guest_memory.specs.Memory.{bytes_at, with_bytes}
pub use Rattle.guest_driver.specs.Config.{IsQueueSize}
pub use Rattle.mmio_transport.specs.declared.ring_kind.RingKind.{RingKind}
pub use Rattle.mmio_transport.specs.declared.ring_kind.RingKind.TheVariants.{Split, Packed}
pub use Rattle.chains.specs.Descriptor.{has}
pub use Rattle.chains.specs.Law.{IsList}
pub use Rattle.chains.specs.Range.{bytes_of, most_gathered, scattered}
pub use Rattle.chains.specs.Ring.{RingState, first_state, after_pop, after_publish, is_chain}
pub use Rattle.chains.specs.Walk.{Found, buffer_of, walk}
pub use Rattle.chains.specs.declared.descriptor.Descriptors.{Descriptors}
pub use Rattle.chains.specs.declared.descriptor.Descriptor.{Descriptor}
pub use Rattle.chains.specs.declared.fault.ChainFault.{ChainFault}
pub use Rattle.chains.specs.declared.popped.Outstanding.{Outstanding}
pub use Rattle.packed_ring.specs.Layout.{index, wrap}
pub use Rattle.mmio_transport.proofs.Next.{none_grows}
unfoldable pub use Rattle.mmio_transport.specs.Device.{first_queue, after_write}
pub use Rattle.mmio_transport.specs.Device.{DeviceState}
pub use Rattle.mmio_transport.specs.Queue.{next, event}
unfoldable pub use Rattle.mmio_transport.specs.Registers.{fresh, after_register}
pub use Rattle.mmio_transport.specs.declared.registers.Registers.{Registers}
pub use Rattle.mmio_transport.specs.declared.status.Status.{Status}
pub use Rattle.guest_driver.specs.Driver.{DriverState, owner, has_two, two_by, fits_by, offer_of}
pub use Rattle.guest_driver.specs.Driver.{no_flight, TakesBy, takes_two, flight_of, after_offer}
pub use Rattle.guest_driver.specs.Driver.{Adds, ordered_by, ChoosesNext, ChoosesBy, next_by}
pub use Rattle.guest_driver.specs.Kinds.{IsSetUp, IsFresh, offer_by, places_by, places_of, found_of}
pub use Rattle.guest_driver.specs.Kinds.{mark_after, IsStill, used_id, used_len, needed}
pub use Rattle.guest_driver.specs.Law.{Same, AreRemembered, offers_of, Untouched, IsOffered}
pub use Rattle.guest_driver.specs.Law.{AreOutstanding, IsRemembered, HasNumber, SameBytes}
pub use Rattle.guest_driver.specs.Law.{SameReplies, count, is_own, in_flight}
unfoldable pub use Rattle.guest_driver.specs.Layout.{readable_at}
pub use Rattle.guest_driver.specs.Layout.{tables, driver_area, device_area, buffers, avail_idx_at}
pub use Rattle.guest_driver.specs.Layout.{avail_entry_at, used_idx_at, used_element_at}
unfoldable pub use Rattle.guest_driver.specs.Negotiation.{with_fresh_areas}
pub use Rattle.guest_driver.specs.Negotiation.{after_writes}
unfoldable pub use Rattle.guest_driver.specs.Offered.{with_links_of}
pub use Rattle.guest_driver.specs.Offered.{Offer, IsOffer, Offers, with_offer, IsApart}
pub use Rattle.guest_driver.specs.OnDevice.{IsServed, HasNumberIn}
pub use Rattle.guest_driver.specs.PackedHeld.{free_places, Holds, Marked}
unfoldable pub use Rattle.guest_driver.specs.PackedLayout.{writable_at, table_at}
pub use Rattle.guest_driver.specs.PackedOffered.{places_in, links_of, HoldsEach, HoldsOffer}
pub use Rattle.guest_driver.specs.PackedOffered.{HaveOthers, parts}
pub use Rattle.guest_driver.specs.PackedRoom.{places_taken}
pub use Rattle.guest_driver.specs.PackedUsed.{mark_of, HoldsReplies, flags_at, with_reply}
pub use Rattle.guest_driver.specs.PackedUsed.{avail_bit, used_bit, replied, HoldsReply}
pub use Rattle.guest_driver.specs.Parts.{Link, packed_bytes, marks_of, in_split_ring}
pub use Rattle.guest_driver.specs.Parts.{in_split_table, in_packed_ring, in_packed_table, reads}
pub use Rattle.guest_driver.specs.Parts.{writes, parts_of, with_links, Encoding, has_more}
pub use Rattle.guest_driver.specs.Parts.{HoldsLinks, HoldsTable, with_table}
pub use Rattle.guest_driver.specs.Reap.{after_reap}
pub use Rattle.guest_driver.specs.TableOrder.{IsStretch}
pub use Rattle.guest_driver.specs.Used.{Reply, Used, IsReply, IsNone}
pub use Rattle.guest_driver.specs.WalkLaw.{packed_area, split_area, IsPlaced}
pub use Rattle.guest_driver.specs.declared.fault.DriverFault.TheVariants.{NoRoom, OutOfRange}
pub use Rattle.guest_driver.specs.declared.fault.DriverFault.TheVariants.{NoMemory, BadUsed}
pub use Rattle.guest_driver.specs.declared.flight.Flight.{Flight}
pub use Rattle.guest_driver.specs.declared.config.DriverConfig.{DriverConfig}
