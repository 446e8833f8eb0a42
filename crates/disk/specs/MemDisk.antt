-- The disk in memory that never fails: each write is on it at once.
use Rattle.std.specs.Prelude.{◌≡◌, true, false, List, ℕ, length}
use Rattle.disk.specs.Content.{content_of, overwritten}
use Rattle.disk.specs.Disk.{DiskState, DiskCall, Read, Write, Sync, Effect, is_success}

-- what such a disk with these bytes shows
abbrev pub mem_state : List ℕ → DiskState
mem_state bytes = record {
  len = length bytes;
  seen = content_of bytes;
  unsynced = λ k. false;
  failures = 0;
  faithful = true;
}

-- the bytes after a call
abbrev pub mem_after : DiskCall → List ℕ → List ℕ
mem_after (Read ok) content = content
mem_after (Write at bytes ok) content = overwritten at bytes content
mem_after (Sync ok) content = content

-- a call leads from these bytes to those
pub record MemMakes (old : List ℕ) (call : DiskCall) (new : List ℕ) : Type 0 where
  pub effect : Effect (mem_state old) call (mem_state new)
  pub value : new ≡ mem_after call old
  pub success : is_success call ≡ true
