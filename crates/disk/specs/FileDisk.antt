-- The disk over a file. It gives and keeps what the file does, which is known of a file that is
-- faithful; its length and its count of failures are its own.
use Rattle.std.specs.Prelude.{◌≡◌, ◌↔◌, ◌+◌, ◌^◌, ◌<◌, ◌≤◌, ℕ, Bool, true, false, List, length}
use Rattle.std.specs.Prelude.{Option, Some, None, Result, Ok, Err, IsTrue, ◌==◌}
use Rattle.disk.specs.Content.{Content, bytes_at, zeros}
use Rattle.disk.specs.Disk.{Counts, DiskState, DiskCall, Read, Write, Sync, Effect, is_success}

-- one call of a file, as it was made and as it ended
pub data FileCall : Type 0 where
  -- what was read into is this afterwards, and so many bytes of it were read, or the call failed
  ReadAt : (at : ℕ) (out : List ℕ) (count : Option ℕ) → FileCall
  -- so many of these bytes were written, or the call failed
  WriteAt : (at : ℕ) (bytes : List ℕ) (count : Option ℕ) → FileCall
  SyncAll : (done : Bool) → FileCall

-- how many bytes a call moved, where it didn't fail
abbrev pub count_of : {E : Type 0} → Result ℕ E → Option ℕ
count_of (Ok n) = Some n
count_of (Err e) = None

abbrev pub is_done : {V E : Type 0} → Result V E → Bool
is_done (Ok v) = true
is_done (Err e) = false

-- 1. What a file gives and keeps

-- what a file is known to give and to keep
pub record FileShows : Type 0 where
  -- what reads give
  pub seen : Content
  -- the places written since the last sync that succeeded: a stop may leave any byte there
  pub unsynced : ℕ → Bool
  -- It gives and keeps what is said here. Of a file of the system that is a premise.
  pub faithful : Bool

-- a file of which no contract says anything; the zeros are nobody's promise
abbrev pub unknown_file : FileShows
unknown_file = record { seen = zeros; unsynced = λ k. true; faithful = false }

-- whether a call moved all of so many bytes
abbrev pub is_all : Option ℕ → ℕ → Bool
is_all None count = false
is_all (Some moved) count = moved == count

-- the call of a disk that a call of the file comes to: it succeeds where all was done
abbrev pub disk_call : FileCall → DiskCall
disk_call (ReadAt at out count) = Read (is_all count (length out))
disk_call (WriteAt at bytes count) = Write at bytes (is_all count (length bytes))
disk_call (SyncAll done) = Sync done

-- the disk that a file is, of this length, once so many calls have failed
abbrev pub shown_as : FileShows → (len failures : ℕ) → DiskState
shown_as f len failures =
    record {
      len = len;
      seen = f.seen;
      unsynced = f.unsynced;
      failures = failures;
      faithful = f.faithful;
    }

-- a read of all bytes gave those that were there
abbrev pub GivesSeen : FileCall → Content → Type 0
GivesSeen (ReadAt at out count) seen = count ≡ Some (length out)
    → out ≡ bytes_at seen at (length out)
GivesSeen (WriteAt at bytes count) seen = Unit {0}
GivesSeen (SyncAll done) seen = Unit {0}

-- What a call does to a file: whether it is faithful stays, and where it is, the call does what a
-- disk's call does, whatever the length and however failures are counted.
pub record FileEffect (old : FileShows) (call : FileCall) (new : FileShows) : Type 0 where
  pub faithful : new.faithful ≡ old.faithful
  pub gives : old.faithful ≡ true → GivesSeen call old.seen
  pub effect : (len before now : ℕ)
      → Counts (is_success (disk_call call)) (shown_as old len before) (shown_as new len now)
      → Effect (shown_as old len before) (disk_call call) (shown_as new len now)

-- of a file of which nothing is known no call says anything
pub unknown_effect : (call : FileCall) → FileEffect unknown_file call unknown_file
unknown_effect (ReadAt at out count) = record {
  faithful = λ i. false;
  gives = λ known. absurd (cc);
  effect = λ len before now counts. record {
    counts = counts;
    seen = λ known. absurd (cc);
    unsynced = λ known. absurd (cc);
  };
}
unknown_effect (WriteAt at bytes count) = record {
  faithful = λ i. false;
  gives = λ known. tt;
  effect = λ len before now counts. record {
    counts = counts;
    written = λ known. absurd (cc);
    outside = λ known. absurd (cc);
    unsynced = λ known. absurd (cc);
  };
}
unknown_effect (SyncAll done) = record {
  faithful = λ i. false;
  gives = λ known. tt;
  effect = λ len before now counts. record {
    counts = counts;
    seen = λ known. absurd (cc);
    unsynced = λ known. absurd (cc);
    durable = λ known. absurd (cc);
  };
}

-- 2. The disk over it

pub record FileState (F : Type 0) : Type 0 where
  pub file : F
  -- the length in bytes
  pub len : ℕ
  -- how many calls have failed
  pub failures : ℕ

-- what the disk gives and keeps, by what its file does
abbrev pub file_state : {F : Type 0} → (F → FileShows) → FileState F → DiskState
file_state shows f = shown_as (shows f.file) f.len f.failures

-- a call leads from this disk to that one: each failure raises the count by one, up to 2^64 - 1
pub record FileMakes {F : Type 0} (shows : F → FileShows) (old : FileState F) (call : DiskCall)
    (new : FileState F) : Type 0 where
  pub effect : Effect (file_state shows old) call (file_state shows new)
  pub len : new.len ≡ old.len
  pub unfailed : is_success call ≡ true → new.failures ≡ old.failures
  pub failed : is_success call ≡ false → old.failures + 1 < 2 ^ 64 → new.failures ≡ old.failures + 1

-- The file was read once, there and into all of this, and the read succeeded exactly where it was
-- whole.
pub record ReadsOnce {F : Type 0} (made : F → FileCall → F → Type 0) (at : ℕ) (out : List ℕ)
    (old : F) (ok : Bool) (new : F) : Type 0 where
  pub count : Option ℕ
  pub call : made old (ReadAt at out count) new
  pub whole : IsTrue ok ↔ (count ≡ Some (length out))

-- The file was written once, there and all of these bytes, and the write succeeded exactly where it
-- was whole.
pub record WritesOnce {F : Type 0} (made : F → FileCall → F → Type 0) (at : ℕ) (bytes : List ℕ)
    (old : F) (ok : Bool) (new : F) : Type 0 where
  pub count : Option ℕ
  pub call : made old (WriteAt at bytes count) new
  pub whole : IsTrue ok ↔ (count ≡ Some (length bytes))

-- where no further failure can be counted, the file isn't touched
abbrev pub IsEnded : {F : Type 0} → FileState F → Bool → FileState F → Type 0
IsEnded old ok new = 2 ^ 64 ≤ old.failures + 1 → (new ≡ old) × (ok ≡ false)

-- where a further failure can be counted, what a call did to the file
abbrev pub Touches : {F : Type 0} → FileState F → Type 0 → Type 0
Touches old did = old.failures + 1 < 2 ^ 64 → did
