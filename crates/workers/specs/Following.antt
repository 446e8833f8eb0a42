-- What the flusher has taken of the book, and what it has given to the store.
use Rattle.std.specs.Prelude.{◌≡◌, ℕ, ◌+◌, Bool, List, [], ◌∷◌, Some, slice_get}
use Rattle.intent_slots.specs.Payload.{Intent, last_of}
use Rattle.flusher.specs.declared.guest.Guest.{Guest}
use Rattle.flusher.specs.declared.progress.Call.TheVariants as call
use Rattle.flusher.specs.Pair.{mark_of, pending_intents}
use Rattle.flusher.specs.Store.{next_call}
use Rattle.board.specs.State.{KeeperState}

-- the sequence of the last request of intents, one after another; without one, this sequence
abbrev pub last_in : ℕ → List Intent → ℕ
last_in sequence [] = sequence
last_in sequence (i ∷ is) = last_in (last_of i.group + 1) is

-- the sequence of the last request that the store was given of a guest, or found settled
abbrev pub last_given : Guest → ℕ
last_given x = last_in (mark_of x) (pending_intents x)

-- each guest's share is the sequence of the last request that the store was given of it
abbrev pub Follow : List ℕ → List Guest → Type 0
Follow shares guests =
    (g : ℕ) (x : Guest) → slice_get guests g ≡ Some x → slice_get shares g ≡ Some (last_given x)

-- no call of the disk is left, also where one has failed
abbrev pub IsAtRest : Bool → List Guest → Type 0
IsAtRest broken guests = next_call broken guests ≡ call.None

-- the same of what a keeper took and gave
abbrev pub Follows : {D : Type 0} → KeeperState D → Type 0
Follows k = Follow k.shares k.store.guests
