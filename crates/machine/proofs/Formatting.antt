-- A fresh image in memory keeps its length.
use Rattle.std.proofs.Common.{◌≡◌, ◌∙◌, refl, ℕ, List, length}
use Rattle.disk.specs.Disk.{DiskState, DiskCall, Read, Write, Sync, Within, Still, Then}
use Rattle.disk.specs.MemDisk.{MemMakes, mem_state}
use Rattle.recovery.specs.Format.{ClearsFirst, Cleared, MoreZeros, NoZeros, NotSynced, NotWritten}
use Rattle.recovery.specs.Format.{SyncsZeros, WritesZeros}

call_keeps : (a b : List ℕ) (call : DiskCall) → MemMakes a call b → length b ≡ length a
call_keeps a b (Read ok) makes = makes.effect.counts.len
call_keeps a b (Write at bytes ok) makes = makes.effect.counts.len
call_keeps a b (Sync ok) makes = makes.effect.counts.len

zeros_keep : (a b : List ℕ) → WritesZeros MemMakes a b → length b ≡ length a
zeros_keep a b (NoZeros d) = refl
zeros_keep a c (MoreZeros x b y at n ok before makes) = makes.effect.counts.len
    ∙ zeros_keep a b before

synced_keeps : (ok : _) (a b : List ℕ) → SyncsZeros MemMakes ok a b → length b ≡ length a
synced_keeps ok a b synced = synced.sync.effect.counts.len
    ∙ zeros_keep a synced.written synced.zeros_alone

within_keeps : (P : DiskState → Type 0) (a b : List ℕ) → Within mem_state MemMakes P a b
    → length b ≡ length a
within_keeps P a b (Still d holds) = refl
within_keeps P a c (Then x b y call before makes amid after) = call_keeps b c call makes
    ∙ within_keeps P a b before

pub format_keeps : (capacities : List ℕ) (a b : List ℕ)
    → ClearsFirst mem_state MemMakes capacities a b → length b ≡ length a
format_keeps capacities a b (NotWritten zeros) = zeros_keep a b zeros
format_keeps capacities a b (NotSynced synced) = synced_keeps _ a b synced
format_keeps capacities a b (Cleared cleared synced moments) = within_keeps _ cleared b moments
    ∙ synced_keeps _ a cleared synced
