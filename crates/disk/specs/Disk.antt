-- A disk: what it shows, what one call does to it, and what a stop may leave.
use Rattle.std.specs.Prelude.{◌≡◌, ◌⊎◌, ℕ, ◌+◌, ◌^◌, ◌<◌, ◌≤◌, Bool, true, false, List, length}
use Rattle.std.specs.Prelude.{slice_index, ◌||◌}
use Rattle.disk.specs.Content.{Content, IsOutside, in_range}

-- what a disk shows
pub record DiskState : Type 0 where
  -- the number of its places, a byte each
  pub len : ℕ
  -- what reads give
  pub seen : Content
  -- the places written since the last sync that succeeded
  pub unsynced : ℕ → Bool
  -- how many calls have failed
  pub failures : ℕ
  -- What the medium gives and keeps is known to be as said here. It is always so of a disk in
  -- memory; of a file it is a premise that no contract can prove.
  pub faithful : Bool

-- a stop at this moment may leave this content
abbrev pub MayLeave : DiskState → Content → Type 0
MayLeave s c = (k : ℕ) → s.unsynced k ≡ false → c k ≡ s.seen k

-- one call, as it was made and as it ended
pub data DiskCall : Type 0 where
  Read : (ok : Bool) → DiskCall
  Write : (at : ℕ) (bytes : List ℕ) (ok : Bool) → DiskCall
  Sync : (ok : Bool) → DiskCall

-- whether it ended well
abbrev pub is_success : DiskCall → Bool
is_success (Read ok) = ok
is_success (Write at bytes ok) = ok
is_success (Sync ok) = ok

-- a count of 64 bits rose, or stands at its end
abbrev pub HasRisen : ℕ → ℕ → Type 0
HasRisen before now = (before < now) ⊎ (2 ^ 64 ≤ before + 1)

-- What every call does, however it ends: the length stays, and a failure is counted.
pub record Counts (ok : Bool) (old new : DiskState) : Type 0 where
  pub len : new.len ≡ old.len
  pub faithful : new.faithful ≡ old.faithful
  pub later : old.failures ≤ new.failures
  pub unfailed : ok ≡ true → new.failures ≡ old.failures
  pub cause : ok ≡ false → HasRisen old.failures new.failures
  -- where no further failure can be counted, every call fails
  pub ended : 2 ^ 64 ≤ old.failures + 1 → ok ≡ false

-- A read that ended so. Nothing that reads give changes, and no place becomes unsynced.
pub record Reads (ok : Bool) (old new : DiskState) : Type 0 where
  pub counts : Counts ok old new
  pub seen : old.faithful ≡ true → (k : ℕ) → new.seen k ≡ old.seen k
  pub unsynced : old.faithful ≡ true → (k : ℕ) → old.unsynced k ≡ false → new.unsynced k ≡ false

-- A write that ended so. Of its own range, a write that failed says nothing.
pub record Writes (at : ℕ) (bytes : List ℕ) (ok : Bool) (old new : DiskState) : Type 0 where
  pub counts : Counts ok old new
  pub written : old.faithful ≡ true → ok ≡ true → (k : ℕ) → k < length bytes
      → new.seen (at + k) ≡ slice_index bytes k
  pub outside : old.faithful ≡ true → (k : ℕ) → IsOutside at (length bytes) k
      → new.seen k ≡ old.seen k
  pub unsynced : old.faithful ≡ true → (k : ℕ) → IsOutside at (length bytes) k
      → old.unsynced k ≡ false → new.unsynced k ≡ false

-- A sync that ended so: where it succeeded, a stop leaves what reads give.
pub record Syncs (ok : Bool) (old new : DiskState) : Type 0 where
  pub counts : Counts ok old new
  pub seen : old.faithful ≡ true → (k : ℕ) → new.seen k ≡ old.seen k
  pub unsynced : old.faithful ≡ true → (k : ℕ) → old.unsynced k ≡ false → new.unsynced k ≡ false
  pub durable : old.faithful ≡ true → ok ≡ true → (k : ℕ) → new.unsynced k ≡ false

-- what a call may do
abbrev pub Effect : DiskState → DiskCall → DiskState → Type 0
Effect old (Read ok) new = Reads ok old new
Effect old (Write at bytes ok) new = Writes at bytes ok old new
Effect old (Sync ok) new = Syncs ok old new

-- While a call is under way: a write may have reached any place of its range.
abbrev pub during : DiskState → DiskCall → DiskState
during s (Read ok) = s
during s (Write at bytes ok) =
    record s { unsynced = λ k. in_range at (length bytes) k || s.unsynced k }
during s (Sync ok) = s

-- By calls the disk went from one value to the other, and at each moment of the way, also within a
-- call, P held.
pub data Within {D : Type 0} (state : D → DiskState) (makes : D → DiskCall → D → Type 0)
    (P : DiskState → Type 0) : D → D → Type 0 where
  Still : (d : D) → P (state d) → Within state makes P d d
  Then : (a b c : D) (call : DiskCall) → Within state makes P a b → makes b call c
      → P (during (state b) call) → P (state c) → Within state makes P a c
