-- What stops may leave before, within and after calls.
use Rattle.std.proofs.Common.{◌≡◌, Bool, false, ◌||◌, ℕ, ◌+◌, length, refl, ◌∙◌, arith}
use Rattle.disk.specs.Content.{IsOutside, in_range}
use Rattle.disk.specs.Disk.{Read, Write, Sync}
use Rattle.disk.specs.Laws.{SyncedWritesStay, StopsWithinCover, StopsBeforeAreCovered}

pub synced_writes_stay : SyncedWritesStay
synced_writes_stay at bytes first second third faithful write sync left may k below =
    let faithful_then = write.counts.faithful ∙ faithful in
    may (at + k) (sync.durable faithful_then refl (at + k)) ∙ sync.seen faithful_then (at + k)
    ∙ write.written faithful refl k below

outside_range : (at n k : ℕ) (b : Bool) → (in_range at n k || b) ≡ false → IsOutside at n k
outside_range at n k b clear = grind arith

still_clear : (at n k : ℕ) (b : Bool) → (in_range at n k || b) ≡ false → b ≡ false
still_clear at n k b clear = grind arith

pub stops_within_cover : StopsWithinCover
stops_within_cover old new (Read ok) faithful e left may k clear =
    may k (e.unsynced faithful k clear) ∙ e.seen faithful k
stops_within_cover old new (Write at bytes ok) faithful e left may k clear =
    let outside = outside_range at (length bytes) k (old.unsynced k) clear in
    may k (e.unsynced faithful k outside (still_clear at (length bytes) k (old.unsynced k) clear))
    ∙ e.outside faithful k outside
stops_within_cover old new (Sync ok) faithful e left may k clear =
    may k (e.unsynced faithful k clear) ∙ e.seen faithful k

pub stops_before_are_covered : StopsBeforeAreCovered
stops_before_are_covered old (Read ok) left may k clear = may k clear
stops_before_are_covered old (Write at bytes ok) left may k clear =
    may k (still_clear at (length bytes) k (old.unsynced k) clear)
stops_before_are_covered old (Sync ok) left may k clear = may k clear
