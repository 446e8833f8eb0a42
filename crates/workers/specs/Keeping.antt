-- What the flusher's calls leave of the partitions at each moment: whole intents, one after
-- another.
use Rattle.std.specs.Prelude.{◌≡◌, ◌⊎◌, ℕ, ◌≤◌, ◌<◌, true, List, [], ◌∷◌, ◌++◌, length, take}
use Rattle.std.specs.Prelude.{drop, Option, Some, None, Ok, slice_get}
use Rattle.disk.specs.Content.{Content}
use Rattle.disk.specs.Disk.{DiskCall, DiskState, HasRisen, MayLeave, Within}
use Rattle.intent_slots.specs.Payload.{GroupFits, Intent}
use Rattle.intent_slots.specs.Recovered.{Part, Stands, after}
use Rattle.flusher.specs.declared.guest.Guest.{Guest}
use Rattle.flusher.specs.Pair.{mark_of, pending_intents, region_of}
use Rattle.flusher.specs.Round.{FrontStays}
use Rattle.flusher.specs.SlotInvariant.{IsHeld, sequence_of_part}
use Rattle.flusher.specs.Store.{AllFit, Gives, MayGive, StoreState}
use Rattle.rpmb_book.specs.Book.{BookView, guest_of, take_answer}
use Rattle.rpmb_book.specs.Guest.{GuestState}
use Rattle.board.specs.State.{KeeperState, in_place}
use Rattle.workers.specs.declared.flushing.Flusher.{Flusher}

-- a store, and each guest's key after all that it was given
pub record KeyedStore (D : Type 0) : Type 0 where
  pub store : StoreState D
  pub keys : List (Option (List ℕ))

abbrev pub keyed : {D : Type 0} → Flusher D → KeyedStore D
keyed f = record { store = f.keeper.store; keys = f.keys.items }

-- 1. Intents one after another

-- a partition once intents are done, one after another
abbrev pub after_all : Part → List Intent → Part
after_all p [] = p
after_all p (i ∷ is) = after_all (after p i.group) is

-- the partition's key, where it has one
abbrev pub IsUnder : Option (List ℕ) → List ℕ → Type 0
IsUnder None key = Unit {0}
IsUnder (Some its) key = its ≡ key

-- An intent comes next in this partition of guest g, which has so many bytes of blocks: it is that
-- guest's, its first request follows the partition's last one, its key is the partition's, and
-- what it writes lies in it.
pub record ComesNext (g size : ℕ) (p : Part) (i : Intent) : Type 0 where
  pub own : i.guest ≡ g
  pub follows : i.group.first ≡ sequence_of_part p
  pub key : IsUnder p.key i.group.key
  pub fits : GroupFits size i.group

-- each comes next after those before it
abbrev pub AreNext : (g size : ℕ) → Part → List Intent → Type 0
AreNext g size p [] = Unit {0}
AreNext g size p (i ∷ is) = ComesNext g size p i × AreNext g size (after p i.group) is

-- and a guest's key is known after all of them
pub record IsInTurn (g : ℕ) (p : Part) (x : Guest) (intents : List Intent)
    (known : Option (Option (List ℕ))) : Type 0 where
  pub each : AreNext g (region_of x).size p intents
  pub key : known ≡ Some (after_all p intents).key

-- a guest's key as it is known lets an intent be under this one
abbrev pub LetsKey : Option (Option (List ℕ)) → List ℕ → Type 0
LetsKey None key = ⊥
LetsKey (Some its) key = IsUnder its key

-- the keys that so many guests of the book have
abbrev pub HasKeys : ℕ → BookView → List (Option (List ℕ)) → Type 0
HasKeys many book keys = (g : ℕ) (x : GuestState) → g < many → guest_of book g ≡ Some x
    → slice_get keys g ≡ Some x.core.partition.key

-- 2. What a guest is to keep

-- the partition after so many of the intents, each done whole, with at least this sequence
pub record IsAfterSome (p : Part) (intents : List Intent) (least : ℕ) (q : Part) : Type 0 where
  pub count : ℕ
  pub within : count ≤ length intents
  pub is : q ≡ after_all p (take count intents)
  pub enough : least ≤ sequence_of_part q

-- what a guest is to keep: what is in its slots, and what it is given then
abbrev pub to_keep : Guest → List Intent → List Intent
to_keep x given = pending_intents x ++ given

-- Whatever a stop leaves stands, for each guest, for its partition after some of what it is to
-- keep, and for none below its mark.
abbrev pub LeavesWhole : List Guest → (ℕ → Part) → (ℕ → List Intent) → DiskState → Type 0
LeavesWhole guests parts given s = (g : ℕ) (x : Guest) → slice_get guests g ≡ Some x
    → (c : Content) → MayLeave s c
    → (q : Part) × Stands (region_of x) c q
    × IsAfterSome (parts g) (to_keep x (given g)) (mark_of x) q

-- Of one guest: so much of what it is to keep is settled, and its slots hold the rest.
pub record IsAhead (p : Part) (x : Guest) (given : List Intent) (settled : Part)
    (y : Guest) : Type 0 where
  pub count : ℕ
  pub within : count ≤ length (to_keep x given)
  pub is : settled ≡ after_all p (take count (to_keep x given))
  pub left : pending_intents y ≡ drop count (to_keep x given)
  pub region : region_of y ≡ region_of x
  pub marks : mark_of x ≤ mark_of y

-- By its calls a store that held these partitions came to hold others: those after some of what it
-- was given, each of which came next, and at each moment between a stop leaves such ones.
pub record Reaches {D : Type 0} (shows : D → DiskState) (makes : D → DiskCall → D → Type 0)
    (parts : ℕ → Part) (old new : KeyedStore D) : Type 0 where
  pub given : ℕ → List Intent
  pub settled : ℕ → Part
  pub held : IsHeld settled new.store.guests new.store.broken (shows new.store.disk)
  pub ahead : (g : ℕ) (x y : Guest) → slice_get old.store.guests g ≡ Some x
      → slice_get new.store.guests g ≡ Some y
      → IsAhead (parts g) x (given g) (settled g) y
  pub in_turn : (g : ℕ) (x : Guest) → slice_get old.store.guests g ≡ Some x
      → IsInTurn g (parts g) x (pending_intents x) (slice_get old.keys g)
      → IsInTurn g (parts g) x (to_keep x (given g)) (slice_get new.keys g)
  pub moments : Within shows makes (LeavesWhole old.store.guests parts given)
      old.store.disk new.store.disk

-- The store's own calls led from one to the other, and intents that were given between: the image's
-- length stays, and its header; it breaks only where a call of the disk failed.
pub record Keeps {D : Type 0} (shows : D → DiskState) (makes : D → DiskCall → D → Type 0)
    (old new : KeyedStore D) : Type 0 where
  pub many : length new.store.guests ≡ length old.store.guests
  pub len : (shows new.store.disk).len ≡ (shows old.store.disk).len
  pub faithful : (shows new.store.disk).faithful ≡ (shows old.store.disk).faithful
  pub later : (shows old.store.disk).failures ≤ (shows new.store.disk).failures
  pub cause : new.store.broken ≡ true → (old.store.broken ≡ true)
      ⊎ HasRisen (shows old.store.disk).failures (shows new.store.disk).failures
  pub front : (shows old.store.disk).faithful ≡ true
      → Within shows makes (FrontStays (shows old.store.disk)) old.store.disk new.store.disk
  pub reaches : (parts : ℕ → Part)
      → IsHeld parts old.store.guests old.store.broken (shows old.store.disk)
      → Reaches shows makes parts old new

-- a store that begins with these keys
abbrev pub KeepsFrom : {D : Type 0} → (D → DiskState) → (D → DiskCall → D → Type 0)
    → List (Option (List ℕ)) → StoreState D → StoreState D → Type 0
KeepsFrom shows makes keys old new = (now : List (Option (List ℕ)))
    × Keeps shows makes (record { store = old; keys = keys }) (record { store = new; keys = now })

-- Threads kept the partitions of so many guests, whose keys the book knew.
abbrev pub KeepsGuests : {D : Type 0} → (D → DiskState) → (D → DiskCall → D → Type 0) → ℕ
    → BookView → StoreState D → StoreState D → Type 0
KeepsGuests shows makes many book old new = (keys : List (Option (List ℕ)))
    × HasKeys many book keys × KeepsFrom shows makes keys old new

-- What the store was given is just what the book gave for it to be kept.
pub record GivesTaken (book : BookView) (shares : List ℕ) (guest : ℕ)
    (old new : List Guest) : Type 0 where
  pub intent : Intent
  pub taken : take_answer book shares guest ≡ Ok (Some intent)
  pub gives : Gives intent old new

-- The intent in a guest's place was given to that guest's slot, where it came next.
pub record GivesNext {D : Type 0} (guest : ℕ) (old new : KeeperState D) : Type 0 where
  pub intent : Intent
  pub lay : in_place (slice_get old.intents guest) ≡ Some intent
  pub own : intent.guest ≡ guest
  pub may : MayGive old.store.guests intent
  pub len : ℕ
  pub fits : AllFit len old.store.guests
  pub gives : Gives intent old.store.guests new.store.guests
  pub shares : new.shares ≡ old.shares

-- whatever store it began with
abbrev pub KeepsOn : {D : Type 0} → (D → DiskState) → (D → DiskCall → D → Type 0)
    → Flusher D → Flusher D → Type 0
KeepsOn shows makes old new =
    (first : KeyedStore _) → Keeps shows makes first (keyed old) → Keeps shows makes first
    (keyed new)

-- a flag that said whether the store had broken says so still
abbrev pub IsHeard : {D : Type 0} → Flusher D → Flusher D → Type 0
IsHeard old new = old.keeper.store.broken ≡ old.broken → new.keeper.store.broken ≡ new.broken

-- what a flusher leaves: the store keeps what it kept, and the flag says whether it broke
abbrev pub LeftBy : {D : Type 0} → (D → DiskState) → (D → DiskCall → D → Type 0)
    → Flusher D → Flusher D → Type 0
LeftBy shows makes old new = KeepsOn shows makes old new × IsHeard old new
