-- What an advance of a store comes to, with the marks of the guests after it (own).
use Rattle.std.specs.Prelude.{ℕ, List, Result, Ok, Err}
use Rattle.flusher.specs.declared.guest.Guest.{Guest}
use Rattle.flusher.specs.declared.progress.Made.{Made}
use Rattle.flusher.specs.declared.progress.Made.TheVariants as made
use Rattle.flusher.specs.declared.progress.StoreFault.{StoreFault}
use Rattle.flusher.specs.Marks.{marks_of}

-- a write, a sync that left these marks, or no call
pub data Progress : Type 0 where
  Wrote : Progress
  Synced : List ℕ → Progress
  Idle : Progress

abbrev pub progress_of : List Guest → Made → Progress
progress_of guests made.Wrote = Wrote
progress_of guests made.Synced = Synced (marks_of guests)
progress_of guests made.Idle = Idle

-- what an advance answered, with the marks of the guests after it
abbrev pub with_marks : List Guest → Result Made StoreFault → Result Progress StoreFault
with_marks guests (Ok made) = Ok (progress_of guests made)
with_marks guests (Err fault) = Err fault
