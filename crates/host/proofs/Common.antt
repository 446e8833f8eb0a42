-- The names that most proofs cite, passed on from one place. Declares nothing.
pub use Rattle.std.proofs.lemmas.Bool.{cases_eq, ne_eqb, and_parts, leb-true}
pub use Rattle.std.proofs.lemmas.Bool.Decides.{nat_tests}
pub use Rattle.std.proofs.lemmas.List.{length-map, get_or-set_same, get_or-set_other}
pub use Rattle.std.proofs.lemmas.List.{length-replicate, same_lists, get_or-replicate, length-set}
pub use Rattle.std.proofs.lemmas.List.{set-get_or}
pub use Rattle.std.proofs.lemmas.Option.{slice_get_within, get_or_from_slice_get, slice_get-get_or}
pub use Rattle.std.proofs.lemmas.Option.{slice_get-map}
pub use Rattle.std.specs.Prelude.{slice_get, option_map, is_ok, not}
pub use Rattle.rpmb_frame.specs.Partition.{Partition}
pub use Rattle.rpmb_frame.specs.Request.{Request}
pub use Rattle.rpmb_frame.specs.declared.config.GuestConfig.{GuestConfig}
pub use Rattle.mmio_transport.specs.declared.ring_kind.RingKind.{RingKind}
pub use Rattle.disk.specs.Disk.{DiskCall, DiskState}
pub use Rattle.flusher.proofs.Guests.{get_set_same, set_cases}
unfoldable pub use Rattle.mmio_transport.specs.Device.{
  first_state,
  after_write,
  after_ready,
  first_queue,
  may_be_ready,
}
pub use Rattle.mmio_transport.specs.Device.{DeviceState, last_count, counted}
pub use Rattle.mmio_transport.specs.Job.{Job, done_of, Done, room_in}
unfoldable pub use Rattle.mmio_transport.specs.Popping.{is_stopped}
pub use Rattle.mmio_transport.specs.Popping.{GivesJob, GivesFrom, live_queue}
pub use Rattle.mmio_transport.specs.declared.done.Published.{Published}
pub use Rattle.mmio_transport.specs.declared.fault.DeviceFault.{DeviceFault}
pub use Rattle.mmio_transport.specs.declared.fault.DeviceFault.TheVariants.{NeedsReset}
pub use Rattle.mmio_transport.specs.declared.fault.DeviceFault.TheVariants.{NoMemory as Starved}
pub use Rattle.mmio_transport.specs.declared.fault.DeviceFault.TheVariants.{Refused as Spoiled}
pub use Rattle.guest_driver.specs.Access.{ButForMemory}
pub use Rattle.guest_driver.specs.Config.{AreDrivers, IsDriver, SetupState}
pub use Rattle.guest_driver.specs.declared.config.DriverConfig.{DriverConfig}
pub use Rattle.guest_driver.specs.Driver.{DriverState, offer_of, Offering, Adds, first_driver}
pub use Rattle.guest_driver.specs.Driver.{TakesBy, after_offer, in_table_order, takes_two, owner}
unfoldable pub use Rattle.guest_driver.specs.Negotiation.{negotiated, with_areas}
pub use Rattle.guest_driver.specs.Negotiation.{after_writes}
pub use Rattle.guest_driver.specs.Offered.{Offer}
pub use Rattle.guest_driver.specs.OnDevice.{IsServed, IsBackFrom, IsFound, HasNumberIn}
pub use Rattle.guest_driver.specs.OnDevice.{IsSameSession, IsJobOf, IsPopped, IsAtItsEnd}
pub use Rattle.guest_driver.specs.OnDevice.{IsPublished, IsReplyTo, PublishedBy}
pub use Rattle.guest_driver.specs.Reap.{Reaps, after_reap}
pub use Rattle.guest_driver.specs.declared.fault.DriverFault.{DriverFault}
pub use Rattle.guest_driver.specs.declared.config.DriverConfig.{DriverConfig}
pub use Rattle.guest_driver.specs.declared.reaping.Reaped.{Reaped}
pub use Rattle.rpmb_book.specs.Guest.{GuestState, GuestCore, core_after}
pub use Rattle.board.proofs.Linked.{there_is, drives_linked}
pub use Rattle.board.proofs.Moving.{lent_moves, moves_none, still_moves}
pub use Rattle.board.specs.Board.{StaysLinked}
pub use Rattle.board.specs.Moving.{Moves}
pub use Rattle.board.specs.State.{BoardState, guests}
pub use Rattle.guest_driver.specs.Kinds.{needed, places_of, found_of}
pub use Rattle.host.specs.Call.{ChainCall, ResetCall, StoreCall}
pub use Rattle.queue_looks.specs.Calm.{IsCalm, is_broken, IsCalmGuest}
pub use Rattle.host.specs.Chain.{ChainDoes, EndsChain, told_by, FollowsOffer, Chains, ChainsFrom}
pub use Rattle.host.specs.Chain.{LooksAndReaps, ReapsOnce}
pub use Rattle.queue_looks.specs.Fault.{told_of}
pub use Rattle.host.specs.Finishing.{Finishes}
unfoldable pub use Rattle.host.specs.Guest.{first_guest, after_reset}
pub use Rattle.host.specs.Guest.{GuestView, stuck_by, view_of, views_of, first_front}
pub use Rattle.host.specs.Guest.{StoresInto, with_stored, StoresIn, device_after_reset}
pub use Rattle.host.specs.Guest.{front_after_reset}
pub use Rattle.queue_looks.specs.Looks.{with_device, LooksOn, Share, OnShare, share_of, AnswerAll}
pub use Rattle.queue_looks.specs.Looks.{EndLooks, IsOnlyPopped, Looks, FindsJob, IsAnswered}
pub use Rattle.queue_looks.specs.Looks.{Touches, Stops}
pub use Rattle.host.specs.Host.{HostAnswers, HostState, seen, AreReady, HostView, IsReset, ChainsAt}
pub use Rattle.host.specs.Host.{HostChains, HostResetsGuest, HostStores, ResetsAt, StoresAt}
pub use Rattle.host.specs.Host.{with_guest}
pub use Rattle.host.specs.Opening.{started, IsFirstHost, IsJustOpened}
unfoldable pub use Rattle.host.specs.Ready.{job_of}
pub use Rattle.host.specs.Ready.{Answers, IsReady, AnswersTo, ComesBack, FailsBy, IsUnfetched}
pub use Rattle.host.specs.Reasons.{ChainReason, HasAreas, IsJobOfGuest, IsSameFront, LeftFor}
pub use Rattle.host.specs.Reasons.{HostExplains, IsClear, IsStuckFor, AreClear, AreGuestsOf}
pub use Rattle.host.specs.Reasons.{IsSameGuest, EndsAs, WasTaken, Explains, ReasonAt, HostKeeps}
pub use Rattle.host.specs.Reasons.{IsAtRest, IsGuestOf, IsLevel, WasOffered, AreasIn, IsEmptied}
pub use Rattle.host.specs.Reasons.{IsGoing, IsDrained, lies}
unfoldable pub use Rattle.queue_looks.specs.Runner.{
  after_when,
  refusal_of,
  reply_when,
  cores_after,
  cores_when,
}
pub use Rattle.queue_looks.specs.Runner.{RunnerView, runner_of, since}
pub use Rattle.queue_looks.specs.declared.fault.HostFault.{HostFault}
pub use Rattle.queue_looks.specs.declared.fault.HostFault.TheVariants.{Foreign, NoMemory}
pub use Rattle.host.specs.declared.front.Answer.{Answer}
pub use Rattle.host.specs.declared.front.Answer.TheVariants.{Used}
pub use Rattle.host.specs.declared.front.Front.{Front}
pub use Rattle.host.specs.declared.front.Stuck.{Stuck}
pub use Rattle.queue_looks.specs.declared.looking.Look.{Look}
pub use Rattle.queue_looks.specs.declared.looking.Look.TheVariants.{Answered, Nothing, Stopped}
