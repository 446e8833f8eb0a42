-- What follows of disks, in the words of their user.
use Rattle.std.specs.Prelude.{◌≡◌, ◌<◌, ◌+◌, ◌==◌, ◌^◌, ℕ, true, not, List, [], ◌∷◌, length}
use Rattle.std.specs.Prelude.{slice_index}
use Rattle.disk.specs.Content.{Content}
use Rattle.disk.specs.Disk.{DiskState, DiskCall, Write, Sync, Effect, MayLeave, during}
use Rattle.disk.specs.CutDisk.{CutState, cut_state, cut_after, succeeds, filled}

-- a write and then a sync, both successful: every stop leaves these bytes
abbrev pub SyncedWritesStay : Type 0
SyncedWritesStay = (at : ℕ) (bytes : List ℕ) (first second third : DiskState)
    → first.faithful ≡ true
    → Effect first (Write at bytes true) second → Effect second (Sync true) third
    → (left : Content) → MayLeave third left
    → (k : ℕ) → k < length bytes → left (at + k) ≡ slice_index bytes k

-- every stop leaves these bytes from a place on
abbrev pub KeepsBytes : ℕ → List ℕ → DiskState → Type 0
KeepsBytes at bytes s = (left : Content) → MayLeave s left → (k : ℕ) → k < length bytes
    → left (at + k) ≡ slice_index bytes k

-- what a stop after a call may leave, a stop within the call may leave
abbrev pub StopsWithinCover : Type 0
StopsWithinCover = (old new : DiskState) (call : DiskCall) → old.faithful ≡ true
    → Effect old call new → (left : Content) → MayLeave new left → MayLeave (during old call) left

-- what a stop before a call may leave, a stop within the call may leave
abbrev pub StopsBeforeAreCovered : Type 0
StopsBeforeAreCovered = (old : DiskState) (call : DiskCall) (left : Content)
    → MayLeave old left → MayLeave (during old call) left

-- the disk after calls, one after another
unfoldable pub cut_after_calls : List DiskCall → CutState → CutState
cut_after_calls [] d = d
cut_after_calls (call ∷ calls) d = cut_after_calls calls (cut_after call d)

-- after `fail(k)` the k-th call fails, that one alone, as long as failures can be counted
abbrev pub ChosenCallFailsAlone : Type 0
ChosenCallFailsAlone = (d : CutState) (k : ℕ) (calls : List DiskCall) → d.failures + 2 < 2 ^ 64
    → succeeds (cut_after_calls calls (record d { chosen = k })) ≡ not (length calls + 1 == k)

-- A filler of these bytes leaves this content, and each of them is a byte of it.
pub record LeftByBytes (d : CutState) (left : Content) (bytes : List ℕ) : Type 0 where
  pub same : (k : ℕ) → filled bytes d.unsynced d.seen k ≡ left k
  pub taken : (i : ℕ) → i < length bytes → (k : ℕ) × (slice_index bytes i ≡ left k)

-- every content that a stop may leave is left by a filler
abbrev pub FillersReachAll : Type 0
FillersReachAll = (d : CutState) (left : Content) → MayLeave (cut_state d) left
    → (bytes : List ℕ) × LeftByBytes d left bytes
