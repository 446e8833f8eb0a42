-- A listing that is written line by line.
use Rattle.std.proofs.Common.{◌≡◌, ⊎_elim, ℕ, zero, suc, ◌+◌, ◌<◌, ◌≤◌, List, [], ◌∷◌, Option, Some}
use Rattle.std.proofs.Common.{Result, Ok, Err, OnOk, length, map, refl, subst, sym, arith, get_or}
use Rattle.std.proofs.Common.{true}
use Rattle.commands.proofs.Common.{Appends-nil, Appends-trans, cases_eq, get_or_read, length-map}
use Rattle.commands.proofs.Common.{get_or_from_slice_get, slice_get-get_or, slice_get_cases}
use Rattle.commands.proofs.Common.{slice_get_read, slice_get_within, Appends, All, slice_get}
use Rattle.commands.proofs.Common.{DiskState, IsBoard, IsGuest, GuestConfig, Partition, IsWhole}
use Rattle.commands.proofs.Common.{capacities_of, part_of, Guest, Fault, block_shown, blocks_below}
use Rattle.commands.proofs.Common.{listing}
use Rattle.std.specs.Prelude.{Bool, slice_index}
use Rattle.rpmb_frame.specs.Partition.{block_of}
use Rattle.intent_slots.specs.Recovered.{Stands}
use Rattle.recovery.specs.Opening.{AllBegun, AllStand}
use Rattle.commands.specs.Listing.{Lists, guest_listing, listing_at, listing_below}

pub no_blocks : (start : Option (List ℕ)) (as_json : Bool) (guest : ℕ) (p : Partition)
    → Appends start start (blocks_below as_json 0 guest p)
unfolding blocks_below
no_blocks start as_json guest p = Appends-nil start

pub one_block : (start now next : Option (List ℕ)) (as_json : Bool) (address guest : ℕ)
    (p : Partition) → Appends start now (blocks_below as_json address guest p)
    → Appends now next (block_shown as_json guest address (block_of p address))
    → Appends start next (blocks_below as_json (address + 1) guest p)
unfolding blocks_below
one_block start now next as_json address guest p before line =
    let same : suc address ≡ address + 1 = omega arith in
    subst (λ n. Appends start next (blocks_below as_json n guest p)) same
    (Appends-trans start now next (blocks_below as_json address guest p)
    (block_shown as_json guest address (block_of p address)) before line)

-- the guests below a number are listed, and their partitions are whole
pub record Listed (start now : Option (List ℕ)) (as_json : Bool) (partitions : List Partition)
    (guest : ℕ) : Type 0 where
  pub printed : Appends start now (listing_below as_json guest partitions)
  pub whole : (k : ℕ) (d : Partition) → k < guest → IsWhole (get_or partitions k d)

pub no_guests : (start : Option (List ℕ)) (as_json : Bool) (partitions : List Partition)
    → Listed start start as_json partitions 0
unfolding listing_below
no_guests start as_json partitions = record {
  printed = Appends-nil start;
  whole = λ k d below.
      absurd (omega (arith, below));
}

pub one_guest : (start now next : Option (List ℕ)) (as_json : Bool) (partitions : List Partition)
    (guest : ℕ) (p : Partition) → Listed start now as_json partitions guest
    → guest < length partitions → p ≡ get_or partitions guest p
    → Appends now next (guest_listing as_json guest p) → IsWhole p
    → Listed start next as_json partitions (guest + 1)
unfolding listing_below
one_guest start now next as_json partitions guest p before inside at lines is_whole = record {
  printed =
      let same : suc guest ≡ guest + 1 = omega arith in
      let here = subst (λ o. Appends now next (listing_at as_json guest o))
      (sym (slice_get_read partitions (length partitions) guest p refl inside at)) lines in
      subst (λ n. Appends start next (listing_below as_json n partitions)) same
      (Appends-trans start now next (listing_below as_json guest partitions)
      (listing_at as_json guest (slice_get partitions guest)) before.printed here);
  whole = λ k d below. ⊎_elim
      (λ e. subst (λ n. IsWhole (get_or partitions n d)) (sym e)
      (subst IsWhole (get_or_read partitions guest p inside at d) is_whole))
      (λ other. before.whole k d (omega (arith, below, other)))
      (cases_eq k guest);
}

-- what a listing of partitions that were opened shows
pub lists : (as_json : Bool) (capacities : List ℕ) (s : DiskState) (guests : List Guest)
    (partitions : List Partition) (start now : Option (List ℕ)) (r : Result (Unit {0}) Fault)
    → AllBegun capacities guests partitions
    → (s.faithful ≡ true → AllStand s.seen guests partitions)
    → OnOk r (Appends start now (listing as_json partitions)) → OnOk r (All IsWhole partitions)
    → OnOk r (Lists as_json capacities s start now)
lists as_json capacities s guests partitions start now (Ok done) begun stand printed is_whole =
    record {
      partitions = partitions;
      count = begun.all_partitions;
      have = λ g p at.
          let x = guest_of g p at in (
            (begun.each g x.0 p x.1 at).capacity,
            subst IsWhole (get_or_from_slice_get partitions g p p at)
                (is_whole g p (slice_get_within partitions g p at)),
          );
      held = λ known g p at.
          let x = guest_of g p at in
          subst (λ region. Stands region s.seen (part_of p)) (begun.each g x.0 p x.1 at).region
          (stand known g x.0 p x.1 at);
      printed = printed;
    }
  where
    guest_of : (g : ℕ) (p : Partition) → slice_get partitions g ≡ Some p → (x : Guest)
        × (slice_get guests g ≡ Some x)
    guest_of g p at = ⊎_elim
        (λ found. (found.0, found.2))
        (λ past. absurd (let short = slice_get_within partitions g p at in let a =
        begun.all_guests in let b = begun.all_partitions in let c = past.0 in
        omega (arith, short, a, b, c)))
        (slice_get_cases guests g).1
lists as_json capacities s guests partitions start now (Err f) begun stand printed is_whole = tt

-- a board's capacities are at most 128, and so are its partitions'
caps_small : (board : List GuestConfig) → All IsGuest board → (k : ℕ) → k < length board
    → slice_index (map (λ g. g.capacity) board) k ≤ 128
caps_small [] are k below = absurd (omega (arith, below))
caps_small (g ∷ gs) are zero below = (are 0 g (omega arith)).capacity.1
caps_small (g ∷ gs) are (suc k) below = caps_small gs (λ i d at. are (suc i) d (omega (arith, at)))
    k (omega (arith, below))

pub all_small : (board : List GuestConfig) (guests : List Guest) (partitions : List Partition)
    → IsBoard board → AllBegun (capacities_of board) guests partitions
    → All (λ p. p.capacity ≤ 128) partitions
unfolding capacities_of
all_small board guests partitions is begun k d below =
    let at = slice_get-get_or partitions k d below in
    let caps = begun.all_partitions in
    let same = length-map board (λ g. g.capacity) in
    let small = caps_small board is.each k (omega (arith, below, caps, same)) in
    ⊎_elim
    (λ found. let each = begun.each k found.0 (get_or partitions k d) found.2 at in
    let a = each.capacity in omega (arith, small, a))
    (λ past. absurd (let a = begun.all_guests in let c = past.0 in
    omega (arith, below, a, caps, c)))
    (slice_get_cases guests k).1

pub few : (board : List GuestConfig) (guests : List Guest) (partitions : List Partition)
    → IsBoard board → AllBegun (capacities_of board) guests partitions
    → length partitions ≤ 64
unfolding capacities_of
few board guests partitions is begun =
    let caps = begun.all_partitions in
    let same = length-map board (λ g. g.capacity) in
    let most = is.count.1 in
    omega (arith, caps, same, most)
