-- Writes that wait for somebody to make them.
use Rattle.std.specs.Prelude.{◌≡◌, ◌≤◌, ℕ, ◌+◌, ◌-◌, Bool, true, false, ◌&&◌, nat_le, nat_lt}
use Rattle.std.specs.Prelude.{List, [], ◌∷◌, ◌++◌, length, take, drop, Option, Some, None}
use Rattle.disk.specs.declared.outbox.Head.{Head}
use Rattle.disk.specs.declared.outbox.Waiting.{Waiting}

-- a write: an offset, and the bytes from there on
abbrev pub WriteAt : Type 0
WriteAt = ℕ × List ℕ

pub record OutboxView : Type 0 where
  -- the writes that nobody took yet, the oldest first
  pub writes : List WriteAt
  -- how many bytes more there is room for
  pub room : ℕ

-- how many bytes there is room for, and how many writes may wait
abbrev pub all_room : ℕ
all_room = 65536

abbrev pub most_writes : ℕ
most_writes = 256

-- no write waits
abbrev pub empty_outbox : OutboxView
empty_outbox = record { writes = []; room = all_room }

-- a write of so many bytes may wait, too
unfoldable pub has_room : ℕ → OutboxView → Bool
has_room n o = nat_le n o.room && nat_lt (length o.writes) most_writes

-- a write waits behind all others
unfoldable pub put_in : ℕ → List ℕ → OutboxView → OutboxView
put_in at bytes o = record { writes = o.writes ++ (at, bytes) ∷ []; room = o.room - length bytes }

abbrev pub first_of : List WriteAt → Option WriteAt
first_of [] = None
first_of (w ∷ ws) = Some w

abbrev pub is_none : List WriteAt → Bool
is_none [] = true
is_none (w ∷ ws) = false

abbrev pub without_first : ℕ → List WriteAt → OutboxView
without_first room [] = record { writes = []; room = room }
without_first room (w ∷ []) = empty_outbox
without_first room (w ∷ v ∷ rest) = record { writes = v ∷ rest; room = room }

-- without the oldest write; once none is left, there is all the room again
unfoldable pub taken_from : OutboxView → OutboxView
taken_from o = without_first o.room o.writes

abbrev pub write_seen : Waiting → WriteAt
write_seen w = (w.at, w.bytes.now)

-- How it keeps them: heads, and the bytes of all writes one after another.

unfoldable pub writes_of : List Head → List ℕ → List WriteAt
writes_of [] bytes = []
writes_of (h ∷ hs) bytes = (h.at, take h.len bytes) ∷ writes_of hs (drop h.len bytes)

-- how many bytes they have
unfoldable pub bytes_in : List Head → ℕ
bytes_in [] = 0
bytes_in (h ∷ hs) = h.len + bytes_in hs

abbrev pub view_of : List Head → List ℕ → ℕ → OutboxView
view_of heads kept from =
    record { writes = writes_of heads (drop from kept); room = all_room - length kept }

-- the bytes before `from` were taken
pub record IsOutbox (heads : List Head) (kept : List ℕ) (from places capacity : ℕ) : Type 0 where
  pub counted : from + bytes_in heads ≡ length kept
  pub few : length heads ≤ most_writes
  pub short : length kept ≤ all_room
  pub places_enough : most_writes ≤ places
  pub bytes_enough : all_room ≤ capacity
