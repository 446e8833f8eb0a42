-- What the owner of an outbox keeps: the file that it read, with each write that went into the
-- outbox since, in their order, and each sync that succeeded.
use Rattle.std.specs.Prelude.{ℕ, true, false, List, [], ◌∷◌, length, ◌||◌}
use Rattle.disk.specs.Content.{content_of, in_range, over}
use Rattle.disk.specs.FileDisk.{FileShows}

-- a file of these bytes, which was synced
abbrev pub as_opened : List ℕ → FileShows
as_opened image = record { seen = content_of image; unsynced = λ k. false; faithful = true }

-- a write more: until a sync, a stop may leave any byte in its range
abbrev pub with_write : ℕ → List ℕ → FileShows → FileShows
with_write at bytes f =
    record f {
      seen = over at bytes f.seen;
      unsynced = λ k. in_range at (length bytes) k || f.unsynced k;
    }

-- a sync that succeeded
abbrev pub with_sync : FileShows → FileShows
with_sync f = record f { unsynced = λ k. false }

-- A note of what came to it: without a number a sync; with one, the offset, a write of these bytes;
-- with two, it is as it was read.
abbrev pub Note : Type 0
Note = List ℕ × List ℕ

abbrev pub synced : Note
synced = ([], [])

abbrev pub wrote : ℕ → List ℕ → Note
wrote at bytes = (at ∷ [], bytes)

abbrev pub opened : List ℕ → Note
opened image = (0 ∷ 0 ∷ [], image)

abbrev pub noted : List ℕ → List ℕ → FileShows → FileShows
noted [] bytes f = with_sync f
noted (at ∷ []) bytes f = with_write at bytes f
noted (at ∷ (more ∷ rest)) bytes f = as_opened bytes

-- the file after these, the newest first
unfoldable pub file_after : List Note → FileShows
file_after [] = as_opened []
file_after (n ∷ earlier) = noted n.0 n.1 (file_after earlier)
