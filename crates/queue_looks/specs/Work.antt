-- What is left to do until a guest's reply may leave.
use Rattle.std.specs.Prelude.{ℕ, suc, ◌+◌, ◌*◌, if◌then◌else◌, List, Option, Some, None, length}
use Rattle.std.specs.Prelude.{slice_get}
use Rattle.intent_slots.specs.Payload.{Entry, Intent}
use Rattle.flusher.specs.CallsLeft.{left_of}
use Rattle.rpmb_book.specs.Book.{waiting_of}
use Rattle.board.specs.State.{BoardState, guests, in_place}
use Rattle.queue_looks.specs.Calm.{is_broken}

-- how many calls of the disk an intent adds when it is given
abbrev pub calls_of : Intent → ℕ
calls_of i = length i.group.entries + 8

abbrev pub between_calls : Option Intent → ℕ
between_calls None = 0
between_calls (Some i) = calls_of i

-- how many the requests that wait add at most: as many as where each is given alone
abbrev pub waiting_calls : List Entry → ℕ
waiting_calls es = 9 * length es

-- the calls that the store has before it, with those of the guest's requests that it lacks
abbrev pub todo_of : {D : Type 0} → ℕ → BoardState D → ℕ
todo_of g b =
    left_of b.store.guests + (between_calls (in_place (slice_get b.intents g)) + waiting_calls
    (waiting_of (slice_get (guests b) g)))

-- and one more for the last look; none once the store broke, since then the reply leaves at once
abbrev pub work_of : {D : Type 0} → ℕ → BoardState D → ℕ
work_of g b = if is_broken b then 0 else suc (todo_of g b)
