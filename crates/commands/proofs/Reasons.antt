-- Which faults a line may come to.
use Rattle.std.proofs.Common.{◌≡◌, ◌==◌, ◌+◌, ◌-◌, ◌*◌, ◌%◌, ◌<◌, ◌≤◌, ℕ, inl, inr, Bool, true}
use Rattle.std.proofs.Common.{false, List, Option, Some, None, Result, Ok, Err, ap, ◌∙◌, arith}
use Rattle.std.proofs.Common.{length, refl, subst, sym}
use Rattle.commands.proofs.Common.{slice_get}
use Rattle.commands.proofs.Common.{GuestConfig, IsWithin, chain, nothing, store, reset, GuestView}
use Rattle.commands.proofs.Common.{is_broken, ChainsAt, HostState, HostView, ResetsAt, StoresAt}
use Rattle.commands.proofs.Common.{seen, RunnerView, HostFault, Answer, Said, ChainFault, LineDone}
use Rattle.commands.proofs.Common.{LineFails, IsOfWriting, LineEnds, fault_of, Fault}
use Rattle.std.proofs.Math.Nat.{add-mul-mod_self_right, mod-eq_of_lt}
use Rattle.std.specs.Prelude.{nat_lt}
use Rattle.std.proofs.lemmas.Bool.Decides.{nat_tests}
use Rattle.mmio_transport.specs.declared.ring_kind.RingKind.{RingKind}
use Rattle.mmio_transport.specs.declared.ring_kind.RingKind.TheVariants.{Split, Packed}
use Rattle.guest_driver.specs.Config.{IsDriver, SetupState}
use Rattle.guest_driver.specs.Driver.{DriverState, HasTooFew, IsFull, full_by, offer_of, owner}
use Rattle.guest_driver.specs.Kinds.{needed}
use Rattle.guest_driver.specs.Offered.{Offer}
use Rattle.guest_driver.specs.PackedHeld.{free_places}
use Rattle.guest_driver.specs.PackedOffered.{none_or_one, places_of}
use Rattle.host.specs.Guest.{StoresInto}
use Rattle.host.specs.Host.{HostChains, HostResetsGuest, HostStores, StuckBy}
use Rattle.host.specs.Reasons.{ChainReason, IsAtRest, IsLevel, HostExplains, HostKeeps, IsGuestOf}
use Rattle.host.specs.Reasons.{ReasonAt}
use Rattle.queue_looks.specs.declared.fault.HostFault.TheVariants as host
use Rattle.host.specs.declared.front.Stuck.{Stuck}
use Rattle.commands.specs.Reasons.{IsHostOf, IsInside, IsOutside, StoresInside}
use Rattle.commands.specs.declared.fault.Fault.TheVariants as fault
use Rattle.commands.proofs.Lines.{there_is}

-- two descriptors that are free are enough
enough_free : (owners : List (Option ℕ)) (two : Bool) → 2 ≤ length owners
    → ((d : ℕ) → owner owners d ≡ None) → HasTooFew owners two → ⊥
enough_free owners false many free few = few 0 (omega arith) (omega (arith, many)) (free 0)
enough_free owners true many free few = few 0 (omega (arith, many)) (free 0) 1 (omega arith)
    (omega (arith, many)) (free 1)

-- a chain takes two places of a packed ring at most
one_at_most : (empty : Bool) → none_or_one empty ≤ 1
one_at_most true = omega arith
one_at_most false = omega arith

two_at_most : (indirect : Bool) (c : Offer) → places_of indirect c ≤ 2
two_at_most true c = omega arith
two_at_most false c = let read = one_at_most (length c.bytes == 0) in let write =
    one_at_most (c.writable == 0) in omega (arith, read, write)

-- where the marks are one, all places are free
all_free : (size mark : ℕ) → 0 < size → free_places size mark mark ≡ size
all_free size mark some =
    let round : mark + 2 * size - mark ≡ 0 + 1 * (2 * size) = omega arith in
    let none : (mark + 2 * size - mark) % (2 * size) ≡ 0 =
    ap (λ x. x % (2 * size)) round ∙ add-mul-mod_self_right 0 1 (2 * size)
    ∙ mod-eq_of_lt (omega (arith, some)) in
    omega (arith, none)

-- a driver of which nothing is in flight has room for a chain
enough : (driver : DriverState) (readable : List ℕ) (writable : ℕ) → 2 ≤ driver.config.queue
    → length driver.owners ≡ driver.config.queue → IsAtRest driver
    → IsFull driver readable writable → ⊥
enough driver readable writable many sized rest full = by driver.config.ring rest.level full
  where
    by : (kind : RingKind) → IsLevel kind driver.offered driver.used
        → full_by kind driver.config.indirect driver readable writable → ⊥
    by Split level few = enough_free driver.owners _ (omega (arith, many, sized)) rest.free few
    by Packed level (inl few) =
        let most = two_at_most driver.config.indirect (offer_of readable writable 0 0) in
        let all : free_places driver.config.queue driver.offered driver.used ≡ driver.config.queue =
        ap (λ x. free_places driver.config.queue x driver.used) level
        ∙ all_free driver.config.queue driver.used (omega (arith, many)) in
        omega (arith, most, all, few, many)
    by Packed level (inr few) = enough_free driver.owners false (omega (arith, many, sized))
        rest.free few

-- a driver has room for its areas
roomy : (memory bytes : ℕ) (driver : DriverState) → IsDriver memory driver.config
    → bytes ≡ memory → bytes < needed driver.config.ring driver.config.queue → ⊥
roomy memory bytes driver fits whole small = (let holds = fits.holds_layout in
    omega (arith, holds, whole, small))

-- a chain of one of the board's guests, which wasn't stuck
chain_reason : (setup : SetupState) (f : HostFault) (g g' : GuestView) (r r' : RunnerView)
    (guest : ℕ) (readable : List ℕ) (writable : ℕ)
    → IsDriver g.device.config.memory g.driver.config → IsGuestOf setup guest g
    → IsAtRest g.driver → ChainReason g r readable writable (Err f) g' r'
    → LineEnds setup.board r'.answered (fault_of f) (chain guest readable writable)
chain_reason setup host.OutOfRange g g' r r' guest readable writable fits own rest reason =
    absurd (roomy g.device.config.memory (length g.device.memory) g.driver fits own.memory reason.0)
chain_reason setup host.NoMemory g g' r r' guest readable writable fits own rest reason = tt
chain_reason setup host.Busy g g' r r' guest readable writable fits own rest reason = absurd reason
chain_reason setup host.HistoryFull g g' r r' guest readable writable fits own rest reason =
    (tt, reason)
chain_reason setup host.NoRoom g g' r r' guest readable writable fits own rest reason =
    absurd (enough g.driver readable writable fits.queue.0 own.owners rest reason.0)
chain_reason setup host.Foreign g g' r r' guest readable writable fits own rest reason =
    absurd reason

pub chain_stops : (was now : Bool) (setup : SetupState) (h h' : HostView) (guest : ℕ)
    (readable : List ℕ) (writable : ℕ) (f : HostFault)
    → HostExplains h guest readable writable (Err f) h'
    → HostChains was now h guest readable writable (Err f) h' → IsHostOf setup h
    → IsWithin (length setup.board) (chain guest readable writable)
    → LineEnds setup.board h'.runner.answered (fault_of f) (chain guest readable writable)
chain_stops was now setup h h' guest readable writable f explains chains is within =
    let inside = within.0 in
    let count = is.own.count in
    let g = there_is h.guests guest (omega (arith, inside, count)) in
    let e = explains setup is.fit is.own in
    let own = is.own.each guest g.0 g.1 in
    let c = subst (λ o. ChainsAt was now o h guest readable writable (Err f) h') g.1 chains in
    by g.0 (slice_get h'.guests guest) g.0.stuck refl own (is.clear guest g.0 g.1)
    (subst (λ o. ReasonAt o (slice_get h'.guests guest) h.runner readable writable (Err f)
    h'.runner) g.1 e.reason)
    c.after c.stuck
  where
    by : (g : GuestView) (after : Option GuestView) (why : Option Stuck) → g.stuck ≡ why
        → IsGuestOf setup guest g → (g.stuck ≡ None → IsAtRest g.driver)
        → ReasonAt (Some g) after h.runner readable writable (Err f) h'.runner → (x : GuestView)
        → StuckBy was now g.stuck g (Err f) x h h'
        → LineEnds setup.board h'.runner.answered (fault_of f) (chain guest readable writable)
    by g after (Some why) same own clear reason x stuck =
        (let told = (subst (λ s. StuckBy was now s g (Err f) x h h') same stuck).0 in absurd (cc))
    by g None None same own clear reason x stuck = absurd reason
    by g (Some g') None same own clear reason x stuck =
        chain_reason setup f g g' h.runner h'.runner guest readable writable
        (is.fit.each guest g.device.config g.driver.config own.config own.driver) own
        (clear same) (reason.0 same)

-- a store of one of the board's guests
store_reason : (setup : SetupState) (n : ℕ) (f : HostFault) (g g' : GuestView) (guest at : ℕ)
    (bytes : List ℕ) → IsGuestOf setup guest g → StoresInto g at bytes (Err f) g'
    → LineEnds setup.board n (fault_of f) (store guest at bytes)
store_reason setup n f g g' guest at bytes own stores =
    subst (λ e. LineEnds setup.board n (fault_of e) (store guest at bytes)) (sym stores.0)
    (subst (λ o. IsOutside o at (length bytes)) (sym own.config)
    (subst (λ n. n < at + length bytes) own.memory
    (past (length g.device.memory) (at + length bytes) stores.1)))
  where
    past : (whole end : ℕ) → ¬ (end ≤ whole) → whole < end
    past whole end within = by (nat_lt whole end) refl
      where
        by : (less : Bool) → nat_lt whole end ≡ less → whole < end
        by true is = grind (arith, nat_tests, is)
        by false is = absurd (within (grind (arith, nat_tests, is)))

pub store_stops : (setup : SetupState) (h h' : HostView) (guest at : ℕ) (bytes : List ℕ)
    (f : HostFault) → HostStores h guest at bytes (Err f) h' → IsHostOf setup h
    → IsWithin (length setup.board) (store guest at bytes)
    → LineEnds setup.board h'.runner.answered (fault_of f) (store guest at bytes)
store_stops setup h h' guest at bytes f stores is within =
    let inside = within.0 in
    let count = is.own.count in
    let g = there_is h.guests guest (omega (arith, inside, count)) in
    let s = subst (λ o. StoresAt o h guest at bytes (Err f) h') g.1 stores in
    store_reason setup h'.runner.answered f g.0 s.0 guest at bytes
    (is.own.each guest g.0 g.1) s.1

-- one that went well lies in that memory
pub store_inside : (setup : SetupState) (h h' : HostView) (guest at : ℕ) (bytes : List ℕ)
    → HostStores h guest at bytes (Ok tt) h' → IsHostOf setup h
    → IsWithin (length setup.board) (store guest at bytes)
    → StoresInside setup.board (store guest at bytes)
store_inside setup h h' guest at bytes stores is within =
    let inside = within.0 in
    let count = is.own.count in
    let g = there_is h.guests guest (omega (arith, inside, count)) in
    let s = subst (λ o. StoresAt o h guest at bytes (Ok tt) h') g.1 stores in
    let own = is.own.each guest g.0 g.1 in
    subst (λ o. IsInside o at (length bytes)) (sym own.config)
    (subst (λ n. at + length bytes ≤ n) own.memory s.1.0)

pub reset_stops : (setup : SetupState) (h h' : HostView) (guest : ℕ) (f : HostFault)
    → HostResetsGuest h guest (Err f) h' → IsHostOf setup h
    → IsWithin (length setup.board) (reset guest)
    → LineEnds setup.board h'.runner.answered (fault_of f) (reset guest)
reset_stops setup h h' guest f resets is within =
    let count = is.own.count in
    let g = there_is h.guests guest (omega (arith, within, count)) in
    let r = subst (λ o. ResetsAt o h guest (Err f) h') g.1 resets in
    absurd (cc)

-- the guests stay the board's
pub chain_hosts : (setup : SetupState) (h h' : HostView) (guest : ℕ) (readable : List ℕ)
    (writable : ℕ) (answer : Answer) → HostExplains h guest readable writable (Ok answer) h'
    → IsHostOf setup h → IsHostOf setup h'
chain_hosts setup h h' guest readable writable answer explains is =
    let e = explains setup is.fit is.own in
    record {
      fit = is.fit;
      own = e.own;
      clear = e.clear answer refl is.clear;
    }

pub kept_hosts : (setup : SetupState) (h h' : HostView) → HostKeeps h h' → IsHostOf setup h
    → IsHostOf setup h'
kept_hosts setup h h' keeps is =
    (let k = keeps setup is.own in record {
      fit = is.fit;
      own = k.0;
      clear = k.1 is.clear;
    })

-- the writing of a chain's line
writing_ends : (board : List GuestConfig) (n : ℕ) (f : Fault) (guest : ℕ) (readable : List ℕ)
    (writable : ℕ) → IsOfWriting f → LineEnds board n f (chain guest readable writable)
writing_ends board n fault.FileFault guest readable writable of = tt
writing_ends board n fault.NoMemory guest readable writable of = tt
writing_ends board n fault.HistoryFull guest readable writable of = absurd of
writing_ends board n fault.OutOfRange guest readable writable of = absurd of
writing_ends board n fault.DiskFault guest readable writable of = absurd of
writing_ends board n (fault.BadScript k) guest readable writable of = absurd of
writing_ends board n fault.NotFormatted guest readable writable of = absurd of
writing_ends board n fault.OtherConfig guest readable writable of = absurd of
writing_ends board n fault.Busy guest readable writable of = absurd of
writing_ends board n fault.NoRoom guest readable writable of = absurd of
writing_ends board n fault.Foreign guest readable writable of = absurd of
writing_ends board n fault.BadBoard guest readable writable of = absurd of

-- 2. Of a line's call

-- the guests stay the board's
pub line_hosts : {D : Type 0} (setup : SetupState) (line : Said) (h h' : HostState D)
    (start now : Option (List ℕ)) → LineDone line h start now h' → IsHostOf setup (seen h)
    → IsHostOf setup (seen h')
line_hosts setup nothing h h' start now did is = subst (λ x. IsHostOf setup (seen x)) (sym did.0) is
line_hosts setup (chain guest readable writable) h h' start now did is =
    chain_hosts setup (seen h) (seen h') guest readable writable did.answer did.call.reason is
line_hosts setup (store guest at bytes) h h' start now did is =
    kept_hosts setup (seen h) (seen h') did.0.guests is
line_hosts setup (reset guest) h h' start now did is =
    kept_hosts setup (seen h) (seen h') did.0.guests is

-- a store of a line that is done lies in its guest's memory
pub line_inside : {D : Type 0} (setup : SetupState) (line : Said) (h h' : HostState D)
    (start now : Option (List ℕ)) → LineDone line h start now h' → IsHostOf setup (seen h)
    → IsWithin (length setup.board) line → StoresInside setup.board line
line_inside setup nothing h h' start now did is within = tt
line_inside setup (chain guest readable writable) h h' start now did is within = tt
line_inside setup (store guest at bytes) h h' start now did is within =
    store_inside setup (seen h) (seen h') guest at bytes did.0.own is within
line_inside setup (reset guest) h h' start now did is within = tt

-- the fault of a line that ended the run
chain_ended : {D : Type 0} (setup : SetupState) (h h' : HostState D) (guest : ℕ)
    (readable : List ℕ) (writable : ℕ) (told : Result Answer HostFault) (f : Fault)
    → ChainFault told f
    → HostExplains (seen h) guest readable writable told (seen h')
    → HostChains (is_broken h.board) (is_broken h'.board) (seen h) guest readable writable told
    (seen h')
    → IsHostOf setup (seen h) → IsWithin (length setup.board) (chain guest readable writable)
    → LineEnds setup.board (seen h').runner.answered f (chain guest readable writable)
chain_ended setup h h' guest readable writable (Ok answer) f cause explains chains is within =
    writing_ends setup.board (seen h').runner.answered f guest readable writable cause
chain_ended setup h h' guest readable writable (Err e) f cause explains chains is within =
    subst (λ x. LineEnds setup.board (seen h').runner.answered x (chain guest readable writable))
    (sym cause)
    (chain_stops (is_broken h.board) (is_broken h'.board) setup (seen h) (seen h') guest readable
    writable e explains chains is within)

pub line_ends : {D : Type 0} (setup : SetupState) (line : Said) (h h' : HostState D)
    (f : Fault) → LineFails line h f h' → IsHostOf setup (seen h)
    → IsWithin (length setup.board) line
    → LineEnds setup.board (seen h').runner.answered f line
line_ends setup nothing h h' f fails is within = absurd fails
line_ends setup (chain guest readable writable) h h' f fails is within =
    chain_ended setup h h' guest readable writable fails.told f fails.cause fails.call.reason
    fails.call.own is within
line_ends setup (store guest at bytes) h h' f fails is within =
    subst (λ x. LineEnds setup.board (seen h').runner.answered x (store guest at bytes))
    (sym fails.2)
    (store_stops setup (seen h) (seen h') guest at bytes fails.0 fails.1.own is within)
line_ends setup (reset guest) h h' f fails is within =
    subst (λ x. LineEnds setup.board (seen h').runner.answered x (reset guest)) (sym fails.2)
    (reset_stops setup (seen h) (seen h') guest fails.0 fails.1.own is within)
