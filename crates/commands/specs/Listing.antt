-- What `format` and `show` print.
use Rattle.std.specs.Prelude.{◌≡◌, ℕ, zero, suc, List, [], ◌∷◌, ◌++◌, Option, Some, None, codes}
use Rattle.std.specs.Prelude.{if◌then◌else◌, Bool, is_some, length, replicate, slice_get}
use Rattle.std.specs.Prelude.{slice_index}
use Rattle.std.specs.Prelude.{true}
use Rattle.std.specs.Fmt.{decimal}
use Rattle.std.specs.Io.KnownBytes.{Appends}
use Rattle.std.specs.Str.{bytes_eq}
use Rattle.hex.specs.Hex.{encode_lower}
use Rattle.disk.specs.Content.{Content}
use Rattle.disk.specs.Disk.{DiskState}
use Rattle.rpmb_frame.specs.Partition.{Partition, IsWhole, block_count, block_of}
use Rattle.intent_slots.specs.Layout.{region_at}
use Rattle.intent_slots.specs.Recovered.{Stands, part_of}

-- 1. `format`

-- the line of a fresh image of this length in bytes
unfoldable pub formatted_line : ℕ → List ℕ
formatted_line len = codes "formatted " ++ decimal len ++ 10 ∷ []

-- 2. `show`

-- the line of a guest
unfoldable pub guest_line : ℕ → ℕ → Bool → ℕ → List ℕ
guest_line guest capacity key counter =
    codes "guest " ++ decimal guest ++ codes " capacity " ++ decimal capacity
    ++ codes " key " ++ (if key then codes "yes" else codes "no")
    ++ codes " counter " ++ decimal counter ++ 10 ∷ []

-- and its object in JSON (RFC 8259)
unfoldable pub guest_object : ℕ → ℕ → Bool → ℕ → List ℕ
guest_object guest capacity key counter =
    codes "{\"guest\":" ++ (decimal guest ++ (codes ",\"capacity\":" ++ (decimal capacity
    ++ (codes ",\"key\":" ++ ((if key then codes "true" else codes "false")
    ++ (codes ",\"counter\":" ++ (decimal counter ++ (codes "}" ++ 10 ∷ []))))))))

-- the one that is asked for
abbrev pub guest_shown : Bool → ℕ → Partition → List ℕ
guest_shown as_json guest p =
    if as_json then guest_object guest p.capacity (is_some p.key) p.counter
    else guest_line guest p.capacity (is_some p.key) p.counter

-- a block has two digits a byte; what stands before them in its line or object, and behind them
unfoldable pub block_front : Bool → ℕ → ℕ → List ℕ
block_front as_json guest address =
    if as_json
    then codes "{\"guest\":" ++ (decimal guest ++ (codes ",\"address\":" ++ (decimal address
    ++ codes ",\"data\":\"")))
    else codes "block " ++ decimal guest ++ codes " " ++ decimal address ++ codes " "

abbrev pub block_end : Bool → List ℕ
block_end as_json = if as_json then codes "\"}" else []

abbrev pub some_block : Bool → ℕ → ℕ → List ℕ → List ℕ
some_block as_json guest address block =
    block_front as_json guest address
    ++ (encode_lower block ++ (block_end as_json ++ 10 ∷ []))

-- a block of zeros isn't shown
abbrev pub block_shown : Bool → ℕ → ℕ → List ℕ → List ℕ
block_shown as_json guest address block =
    if bytes_eq block (replicate 256 0) then [] else some_block as_json guest address block

-- a partition's blocks below an address, in ascending order
unfoldable pub blocks_below : Bool → ℕ → ℕ → Partition → List ℕ
blocks_below as_json zero guest p = []
blocks_below as_json (suc address) guest p =
    blocks_below as_json address guest p ++ block_shown as_json guest address (block_of p address)

-- a guest, and then its blocks
abbrev pub guest_listing : Bool → ℕ → Partition → List ℕ
guest_listing as_json guest p =
    guest_shown as_json guest p ++ blocks_below as_json (block_count p) guest p

abbrev pub listing_at : Bool → ℕ → Option Partition → List ℕ
listing_at as_json guest None = []
listing_at as_json guest (Some p) = guest_listing as_json guest p

-- the guests below a number, one after another
unfoldable pub listing_below : Bool → ℕ → List Partition → List ℕ
listing_below as_json zero partitions = []
listing_below as_json (suc guest) partitions =
    listing_below as_json guest partitions
    ++ listing_at as_json guest (slice_get partitions guest)

-- all guests
abbrev pub listing : Bool → List Partition → List ℕ
listing as_json partitions = listing_below as_json (length partitions) partitions

-- each guest's partition has its capacity, and all of its blocks
abbrev pub HaveCapacities : List ℕ → List Partition → Type 0
HaveCapacities capacities partitions = (g : ℕ) (p : Partition) → slice_get partitions g ≡ Some p
    → (p.capacity ≡ slice_index capacities g) × IsWhole p

-- each guest's partition is what the content stands for
abbrev pub AreHeld : List ℕ → Content → List Partition → Type 0
AreHeld capacities c partitions = (g : ℕ) (p : Partition) → slice_get partitions g ≡ Some p
    → Stands (region_at capacities g) c (part_of p)

-- What was printed lists the partitions that an image of these capacities holds.
pub record Lists (as_json : Bool) (capacities : List ℕ) (s : DiskState)
    (start now : Option (List ℕ)) : Type 0 where
  pub partitions : List Partition
  pub count : length partitions ≡ length capacities
  pub have : HaveCapacities capacities partitions
  -- what a disk gives is known only where it is faithful
  pub held : s.faithful ≡ true → AreHeld capacities s.seen partitions
  pub printed : Appends start now (listing as_json partitions)
