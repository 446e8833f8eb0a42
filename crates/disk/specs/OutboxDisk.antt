-- The disk whose writes somebody else makes: each one that it takes waits in its outbox, and a sync
-- answers what its owner was told. What a stop leaves of it is what it leaves of a file to which
-- each write that was put in is made before the sync that is told, and that such a sync keeps. No
-- contract can say what becomes of bytes that leave: that the owner's file is such a one is the
-- owner's part.
use Rattle.std.specs.Prelude.{◌≡◌, ℕ, ◌<◌, ◌+◌, ◌-◌, ◌^◌, Bool, true, false, not, ◌&&◌}
use Rattle.std.specs.Prelude.{nat_lt, nat_le}
use Rattle.std.specs.Prelude.{if◌then◌else◌, List, [], ◌∷◌, length}
use Rattle.disk.specs.Content.{content_of}
use Rattle.disk.specs.Disk.{DiskState, DiskCall, Read, Write, Sync, Effect}
use Rattle.disk.specs.FileDisk.{FileShows, shown_as}
use Rattle.disk.specs.Kept.{Note, file_after, opened, synced, wrote}
use Rattle.disk.specs.Outbox.{OutboxView, empty_outbox, has_room, is_none, put_in, taken_from}
use Rattle.disk.specs.declared.outbox_disk.Told.{Told}
use Rattle.disk.specs.declared.outbox_disk.Told.TheVariants.{Taken, Synced, Failed, Opened}

pub record OutboxState : Type 0 where
  -- the length in bytes
  pub len : ℕ
  -- what reads give, until the first write or until the opening is told to be over
  pub image : List ℕ
  -- what came to the owner's file, the newest first: its bytes, each write so far, and each sync
  pub kept : List Note
  pub outbox : OutboxView
  -- what was told of the next sync, and of the next call of any kind
  pub synced : Bool
  pub failed : Bool
  -- how many calls have failed
  pub failures : ℕ

-- a disk over the bytes of a file that its owner had synced before it read them
abbrev pub first_disk : List ℕ → OutboxState
first_disk image = record {
  len = length image;
  image = image;
  kept = opened image ∷ [];
  outbox = empty_outbox;
  synced = true;
  failed = false;
  failures = 0;
}

-- what a stop leaves of it is what it leaves of the owner's file
abbrev pub outbox_state : OutboxState → DiskState
outbox_state d = shown_as (file_after d.kept) d.len d.failures

-- what reads give are the file's bytes
pub record IsReadable (image : List ℕ) (kept : FileShows) : Type 0 where
  pub faithful : kept.faithful ≡ true
  pub same : (k : ℕ) → k < length image → content_of image k ≡ kept.seen k

-- 1. When a call succeeds

-- a call that could succeed does, where none was told to fail and a further failure can be counted
unfoldable pub ends : (may failed : Bool) → ℕ → Bool
ends may failed failures = may && not failed && nat_lt failures (2 ^ 64 - 1)

-- the image is still there
unfoldable pub read_succeeds : (at n : ℕ) → OutboxState → Bool
read_succeeds at n d = ends (nat_le (at + n) (length d.image)) d.failed d.failures

unfoldable pub write_succeeds : ℕ → OutboxState → Bool
write_succeeds n d = ends (has_room n d.outbox) d.failed d.failures

-- a sync was told of, and every write was taken
unfoldable pub sync_succeeds : OutboxState → Bool
sync_succeeds d = ends (d.synced && is_none d.outbox.writes) d.failed d.failures

-- 2. What it leaves

-- the count after a call that ended so
unfoldable pub failures_after : Bool → ℕ → ℕ
failures_after ok failures =
    if not ok && nat_lt failures (2 ^ 64 - 1) then failures + 1 else failures

-- a failure that was told is of one call
unfoldable pub counted : Bool → OutboxState → OutboxState
counted ok d = record d { failed = false; failures = failures_after ok d.failures }

-- A write that succeeds waits behind all others; a sync that was told of before isn't of it, and
-- nothing is read any more.
unfoldable pub after_write : ℕ → List ℕ → Bool → OutboxState → OutboxState
after_write at bytes true d =
    record (counted true d) {
      image = [];
      kept = wrote at bytes ∷ d.kept;
      outbox = put_in at bytes d.outbox;
      synced = false;
    }
after_write at bytes false d = counted false d

-- what was told of a sync is of one sync
unfoldable pub after_sync : Bool → OutboxState → OutboxState
after_sync true d = record (counted true d) { kept = synced ∷ d.kept; synced = false }
after_sync false d = record (counted false d) { synced = false }

abbrev pub outbox_after : DiskCall → OutboxState → OutboxState
outbox_after (Read ok) d = counted ok d
outbox_after (Write at bytes ok) d = after_write at bytes ok d
outbox_after (Sync ok) d = after_sync ok d

-- A write and a sync succeed just where they can: no call fails by itself. (What a read is to read
-- a call doesn't say.)
abbrev pub EndsAsDue : DiskCall → OutboxState → Type 0
EndsAsDue (Read ok) d = Unit {0}
EndsAsDue (Write at bytes ok) d = ok ≡ write_succeeds (length bytes) d
EndsAsDue (Sync ok) d = ok ≡ sync_succeeds d

-- a call leads from this disk to that one
pub record OutboxMakes (old : OutboxState) (call : DiskCall) (new : OutboxState) : Type 0 where
  pub effect : Effect (outbox_state old) call (outbox_state new)
  pub value : new ≡ outbox_after call old
  pub due : EndsAsDue call old

-- 3. What its owner tells it

unfoldable pub after_told : Told → OutboxState → OutboxState
after_told Taken d = record d { outbox = taken_from d.outbox }
after_told Synced d = record d { synced = true }
after_told Failed d = record d { failed = true }
after_told Opened d = record d { image = [] }
