-- How much is still to be done of a guest's chains that were taken (own): a number that each thing
-- which a serve does lowers, and that a chain which is taken raises by less than 15.
use Rattle.std.specs.Prelude.{ℕ, ◌+◌, ◌*◌, ◌≤◌, Bool, true, false, Option, Some, None, List}
use Rattle.std.specs.Prelude.{length, slice_get}
use Rattle.intent_slots.specs.Payload.{Intent}
use Rattle.flusher.specs.CallsLeft.{left_of}
use Rattle.flusher.specs.declared.guest.Guest.{Guest}
use Rattle.rpmb_book.specs.Book.{guest_of}
use Rattle.rpmb_book.specs.Guest.{GuestState}
use Rattle.rpmb_book.specs.Job.{Tally}
use Rattle.board.specs.State.{BoardState, count_in, in_place}
use Rattle.machine.specs.Serving.{Boards, DoesMany}
use Rattle.machine.specs.Turn.{Stand}

-- of the book: each request that waits for the store is taken, given, and made by nine calls at
-- most; each reply is collected and handed to its device
abbrev pub book_remaining : Option GuestState → ℕ
book_remaining None = 0
book_remaining (Some x) = 11 * length x.waiting + 2 * length x.held

-- of an intent that was taken: it is given, and made by as many calls as it has requests, and eight
abbrev pub intent_remaining : Option Intent → ℕ
intent_remaining None = 0
intent_remaining (Some i) = length i.group.entries + 9

-- of the store: the calls that it has before it, and that one of them fails; none once it broke
abbrev pub store_remaining : Bool → List Guest → ℕ
store_remaining true guests = 0
store_remaining false guests = left_of guests + 2

-- how many jobs of a guest the book answered
abbrev pub answered_of : Option Tally → ℕ
answered_of None = 0
answered_of (Some tally) = tally.count

-- how many chains of the guest were taken in this life of the board
unfoldable pub taken_of : {D : Type 0} → ℕ → BoardState D → ℕ
taken_of guest b =
    answered_of (slice_get b.tallies guest) + count_in (in_place (slice_get b.jobs guest))

-- what is still to be done: for a chain that has no answer yet as much as for a write that waits,
-- and its reply
unfoldable pub remaining : {D : Type 0} → ℕ → BoardState D → ℕ
remaining guest b =
    14 * count_in (in_place (slice_get b.jobs guest)) + book_remaining (guest_of b.book guest)
    + intent_remaining (in_place (slice_get b.intents guest))
    + count_in (in_place (slice_get b.dones guest))
    + store_remaining b.store.broken b.store.guests + count_in b.report

-- So many things were done at most from one board to the other: as many as remained, and 15 for
-- each chain that was taken meanwhile.
abbrev pub Spends : {D : Type 0} → (guest n : ℕ) → BoardState D → BoardState D → Type 0
Spends guest n old new =
    n + remaining guest new + 15 * taken_of guest old
    ≤ remaining guest old + 15 * taken_of guest new

-- However the steps of a guest go, they do no more.
abbrev pub ComesToAnEnd : Type 0
ComesToAnEnd = (guest most n : ℕ) (s t : Stand) (a b : Boards)
    → DoesMany guest most n s a t b → Spends guest n a.rest b.rest
