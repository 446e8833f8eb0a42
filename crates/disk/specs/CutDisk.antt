-- The disk in memory that can fail and be cut: exactly what each call does to it, and what a stop
-- leaves.
use Rattle.std.specs.Prelude.{◌≡◌, ℕ, zero, suc, ◌+◌, ◌-◌, ◌%◌, ◌^◌, Bool, true, false, not, ◌==◌}
use Rattle.std.specs.Prelude.{◌&&◌, nat_lt, if◌then◌else◌, List, length, get_or, slice_index}
use Rattle.std.specs.Prelude.{replicate}
use Rattle.disk.specs.Content.{Content, content_of, overwritten}
use Rattle.disk.specs.Disk.{DiskState, DiskCall, Read, Write, Sync, Effect, is_success}
use Rattle.disk.specs.declared.filler.Filler.{Filler}
use Rattle.disk.specs.declared.filler.Filler.TheVariants.{Old, New, Fill}

pub record CutState : Type 0 where
  -- what reads give
  pub seen : List ℕ
  -- what the last sync that succeeded left
  pub synced : List ℕ
  -- of each place, whether it was written since
  pub unsynced : List Bool
  -- the call from here on that is to fail, counted from 1; 0 is none
  pub chosen : ℕ
  -- how many calls have failed
  pub failures : ℕ

-- what such a disk shows
abbrev pub cut_state : CutState → DiskState
cut_state d = record {
  len = length d.seen;
  seen = content_of d.seen;
  unsynced = λ k. get_or d.unsynced k false;
  failures = d.failures;
  faithful = true;
}

-- such a disk with this content, all of it synced
abbrev pub fresh : List ℕ → CutState
fresh content = record {
  seen = content;
  synced = content;
  unsynced = replicate (length content) false;
  chosen = 0;
  failures = 0;
}

-- 1. Calls

-- whether the next call succeeds: it is not the chosen one, and its failure could be counted in 64
-- bits
unfoldable pub goes_on : (chosen failures : ℕ) → Bool
goes_on chosen failures = nat_lt failures (2 ^ 64 - 1) && not (chosen == 1)

-- the choice after the next call, which is counted unless failures no longer are
unfoldable pub next_chosen : (chosen failures : ℕ) → ℕ
next_chosen chosen failures = if nat_lt failures (2 ^ 64 - 1) then chosen - 1 else chosen

-- the failures after the next call
unfoldable pub next_failures : (chosen failures : ℕ) → ℕ
next_failures chosen failures =
    if nat_lt failures (2 ^ 64 - 1) && (chosen == 1) then failures + 1 else failures

-- whether the disk's next call succeeds
unfoldable pub succeeds : CutState → Bool
succeeds d = goes_on d.chosen d.failures

-- the disk after its next call, but for what this call itself does
unfoldable pub counted : CutState → CutState
counted d = record d {
  chosen = next_chosen d.chosen d.failures;
  failures = next_failures d.chosen d.failures;
}

-- the disk after a write: the range counts as unsynced also where the write fails
unfoldable pub after_write : ℕ → List ℕ → CutState → CutState
after_write at bytes d = record (counted d) {
  seen = if succeeds d then overwritten at bytes d.seen else d.seen;
  unsynced = overwritten at (replicate (length bytes) true) d.unsynced;
}

-- the disk after a sync
unfoldable pub after_sync : CutState → CutState
after_sync d = record (counted d) {
  synced = if succeeds d then d.seen else d.synced;
  unsynced = if succeeds d then replicate (length d.unsynced) false else d.unsynced;
}

-- the disk after a call
abbrev pub cut_after : DiskCall → CutState → CutState
cut_after (Read ok) d = counted d
cut_after (Write at bytes ok) d = after_write at bytes d
cut_after (Sync ok) d = after_sync d

-- a call leads from this disk to that one
pub record CutMakes (old : CutState) (call : DiskCall) (new : CutState) : Type 0 where
  pub effect : Effect (cut_state old) call (cut_state new)
  pub value : new ≡ cut_after call old
  pub success : is_success call ≡ succeeds old

-- 2. Stops

-- how many of the places below this one are unsynced
unfoldable pub unsynced_below : List Bool → ℕ → ℕ
unsynced_below flags zero = 0
unsynced_below flags (suc k) = unsynced_below flags k + (if get_or flags k false then 1 else 0)

-- the byte for the k-th unsynced place, counted from 0: the bytes over and over, or zeros where
-- there are none
unfoldable pub filling : List ℕ → ℕ → ℕ
filling bytes k = if length bytes == 0 then 0 else slice_index bytes (k % length bytes)

-- the content with the bytes put into the unsynced places, in ascending order
unfoldable pub filled : List ℕ → List Bool → List ℕ → Content
filled bytes flags seen k =
    if get_or flags k false then filling bytes (unsynced_below flags k) else slice_index seen k

-- what a stop with this filler leaves at each place, by what reads give, what the last sync left
-- and what is unsynced
unfoldable pub left_by : Filler → (seen synced : List ℕ) → List Bool → Content
left_by Old seen synced flags = content_of synced
left_by New seen synced flags = content_of seen
left_by (Fill bytes) seen synced flags = filled bytes.items flags seen

-- A stop with this filler leads from this disk to that one: what it leaves is what reads give from
-- then on, all of it synced. The choice of the call that is to fail stays.
pub record Stops (filler : Filler) (old new : CutState) : Type 0 where
  pub len : length new.seen ≡ length old.seen
  pub left : (k : ℕ) → slice_index new.seen k ≡ left_by filler old.seen old.synced old.unsynced k
  pub synced : new.synced ≡ new.seen
  pub unsynced : new.unsynced ≡ replicate (length old.unsynced) false
  pub chosen : new.chosen ≡ old.chosen
  pub failures : new.failures ≡ old.failures

-- 3. What holds of every such disk

pub record IsCutDisk (d : CutState) : Type 0 where
  pub same_len : length d.synced ≡ length d.seen
  pub flag_each : length d.unsynced ≡ length d.seen
  pub agree : (k : ℕ) → get_or d.unsynced k false ≡ false
      → slice_index d.synced k ≡ slice_index d.seen k
