-- While a place of a packed ring is free, so is an id.
use Rattle.std.proofs.Common.{◌≡◌, ◌≢◌, ℕ, ◌+◌, ◌<◌, ◌≤◌, false, List, length, replicate, get_or}
use Rattle.std.proofs.Common.{slice_set, Option, Some, None, Ok, Err, sym, ap, subst, ◌∙◌, arith}
use Rattle.guest_driver.proofs.Common.{length-set, length-replicate, get_or-replicate}
use Rattle.guest_driver.proofs.Common.{get_or-set_same, get_or-set_other, RingKind, Packed, Flight}
use Rattle.guest_driver.proofs.Common.{NoRoom, OutOfRange, NoMemory, BadUsed, Offer, places_by}
use Rattle.guest_driver.proofs.Common.{places_of, mark_after, free_places, mark_of, DriverState}
use Rattle.guest_driver.proofs.Common.{no_flight, owner, offer_of, flight_of, after_offer, Adds}
use Rattle.guest_driver.proofs.Common.{TakesBy, ordered_by, two_by, has_two, fits_by, after_reap}
use Rattle.guest_driver.proofs.Common.{places_taken}
use Rattle.std.proofs.lemmas.List.{get_or_past}
use Rattle.guest_driver.specs.Driver.{Takes, AreTaken}
use Rattle.guest_driver.specs.PackedRoom.{IsCounted, ADriverBeginsCounted, AnOfferIsCounted}
use Rattle.guest_driver.specs.PackedRoom.{AReapIsCounted, APackedRingIsFullByItsPlaces}
use Rattle.guest_driver.proofs.ByKind.{some_places}
use Rattle.guest_driver.proofs.PackedKind.{free_is, room_more}
use Rattle.guest_driver.proofs.PackedMarks.{mark_next}
use Rattle.guest_driver.proofs.Stretches.{owner_low}
use Rattle.guest_driver.proofs.PackedCounting.{taken-replicate, taken-more, taken-less, taken-all}
use Rattle.guest_driver.proofs.PackedCounting.{set_twice}

-- what holds of each chain in flight holds where one more is
entry_more : (Q : ℕ → Flight → Type 0) (owners : List (Option ℕ)) (flights : List Flight) (head : ℕ)
    (flight : Flight) → head < length flights
    → ((id : ℕ) → owner owners id ≢ None → Q id (get_or flights id no_flight)) → Q head flight
    → (id : ℕ) → owner (slice_set owners head (Some head)) id ≢ None
    → Q id (get_or (slice_set flights head flight) id no_flight)
entry_more Q owners flights head flight low each new id is =
    grind (arith, get_or-set_other, get_or-set_same)

-- a chain that is in flight yet was so before another came back
owned_before : (owners : List (Option ℕ)) (i id : ℕ) → i < length owners
    → owner (slice_set owners i None) id ≢ None → owner owners id ≢ None
owned_before owners i id low is none = grind (arith, get_or-set_other, get_or-set_same)

owner-replicate : (size id : ℕ) → owner (replicate size None) id ≡ None
owner-replicate size id = grind (arith, get_or-replicate, get_or_past, length-replicate)

pub begins_counted : ADriverBeginsCounted
begins_counted config kind =
    grind (arith, length-replicate, owner-replicate, taken-replicate)

-- an id that is written as first and last descriptor
one_id : (owners : List (Option ℕ)) (i last : ℕ) (o : Option ℕ) → last ≡ i
    → slice_set (slice_set owners i o) last o ≡ slice_set owners i o
one_id owners i last o is = ap (λ l. slice_set (slice_set owners i o) l o) is ∙ set_twice owners i o

add_counted : (driver : DriverState) (c : Offer) → IsCounted driver
    → 0 < length c.bytes + c.writable → Takes driver.owners false c.head c.last
    → places_by Packed driver.config.indirect c ≤ free_places driver.config.queue driver.offered
    driver.used
    → IsCounted (after_offer driver c)
add_counted driver c counted some takes fits =
    let kind = counted.kind in
    let size = driver.config.queue in
    let low : c.head < length driver.owners = takes.0.below in
    let flight : Flight = flight_of driver.config driver.offered c in
    let owners : List (Option ℕ) = slice_set driver.owners c.head (Some c.head) in
    let flights : List Flight = slice_set driver.flights c.head flight in
    let one : slice_set owners c.last (Some c.head) ≡ owners =
    one_id driver.owners c.head c.last (Some c.head) takes.1 in
    let taken : ℕ = places_taken driver.owners driver.flights in
    let n : ℕ = places_of driver.config c in
    let is_n : n ≡ places_by Packed driver.config.indirect c =
    ap (λ (k : RingKind). places_by k driver.config.indirect c) kind in
    let more : places_taken owners flights ≡ taken + n =
    taken-more driver.owners driver.flights c.head c.head flight (omega arith) low takes.0.free
    in
    let m : ℕ = places_by Packed driver.config.indirect c in
    let at_marks : m ≤ free_places size (mark_of size (counted.reaped + taken))
    (mark_of size counted.reaped) = grind arith in
    let wide : 0 < size = omega arith in
    let room : taken + m ≤ size = room_more size counted.reaped taken m wide counted.room at_marks
    in
    let goes : mark_after driver.config.ring size driver.offered n
    ≡ mark_of size (counted.reaped + places_taken owners flights) = grind (arith, mark_next) in
    let kept : IsCounted (record (after_offer driver c) { owners = owners }) = record {
      kind = kind;
      owned = length-set driver.owners c.head (Some c.head) ∙ counted.owned;
      flown = length-set driver.flights c.head flight ∙ counted.flown;
      alone = entry_more (λ id f. f.last ≡ id) driver.owners driver.flights c.head flight
          (omega arith) counted.alone takes.1;
      each = entry_more (λ id f. 0 < f.places) driver.owners driver.flights c.head flight
          (omega arith) counted.each (some_places driver.config.ring driver.config.indirect c some);
      reaped = counted.reaped;
      used = counted.used;
      offered = goes;
      room = omega arith;
    } in
    subst (λ (o : List (Option ℕ)). IsCounted (record (after_offer driver c) { owners = o }))
    (sym one) kept

adds_counted : (memory : List ℕ) (driver : DriverState) (readable : List ℕ) (writable head : ℕ)
    (memory' : List ℕ) (driver' : DriverState)
    → 0 < length readable + writable → IsCounted driver
    → Adds memory driver readable writable head memory' driver' → IsCounted driver'
adds_counted memory driver readable writable head memory' driver' some counted adds =
    let c : Offer = offer_of readable writable head adds.last in
    let config = driver.config in
    let takes = subst (λ (k : RingKind). TakesBy (ordered_by k config.in_order) driver.owners
    driver.next (two_by k config.indirect (has_two readable writable)) head adds.last)
    counted.kind adds.takes in
    let fits = subst (λ (k : RingKind). fits_by k config.indirect driver c) counted.kind adds.fits
    in
    subst IsCounted (sym adds.after) (add_counted driver c counted some takes fits)

pub offer_counted : AnOfferIsCounted
offer_counted memory driver readable writable (Ok head) memory' driver' some counted offering =
    adds_counted memory driver readable writable head memory' driver' some counted offering
offer_counted memory driver readable writable (Err NoRoom) memory' driver' some counted offering =
    subst IsCounted (sym offering.same) counted
offer_counted memory driver readable writable (Err OutOfRange) memory' driver' some counted offering
    = subst IsCounted (sym offering.same) counted
offer_counted memory driver readable writable (Err NoMemory) memory' driver' some counted offering =
    absurd offering
offer_counted memory driver readable writable (Err BadUsed) memory' driver' some counted offering =
    absurd offering

back_counted : (driver : DriverState) (id : ℕ) → IsCounted driver → owner driver.owners id ≡ Some id
    → IsCounted (after_reap driver id)
back_counted driver id counted head =
    grind (arith, length-set, mark_next, one_id, owned_before, owner_low, taken-less)

pub reap_counted : AReapIsCounted
reap_counted memory driver (Ok None) driver' counted reaps = subst IsCounted (sym reaps.1) counted
reap_counted memory driver (Ok (Some reaped)) driver' counted reaps =
    subst IsCounted (sym reaps.after) (back_counted driver reaped.id counted reaps.flight.head)
reap_counted memory driver (Err NoRoom) driver' counted reaps = absurd reaps
reap_counted memory driver (Err OutOfRange) driver' counted reaps =
    subst IsCounted (sym reaps.1) counted
reap_counted memory driver (Err NoMemory) driver' counted reaps =
    subst IsCounted (sym reaps.1) counted
reap_counted memory driver (Err BadUsed) driver' counted reaps =
    subst IsCounted (sym reaps.2) counted

-- where no id is free, no place is
none_free : (driver : DriverState) → IsCounted driver → AreTaken driver.owners 0
    → free_places driver.config.queue driver.offered driver.used ≡ 0
none_free driver counted taken = grind (arith, free_is, taken-all)

pub full_by_places : APackedRingIsFullByItsPlaces
full_by_places driver readable writable some counted = grind (arith, none_free)
