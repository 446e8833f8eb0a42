-- A run of all threads: what it takes, and what it leaves.
use Rattle.std.specs.Prelude.{◌≡◌, ℕ, All, List, length, map, sum_by, vec_len}
use Rattle.board.specs.declared.board.Parts.{Parts}
use Rattle.disk.specs.declared.disk.Disk.{Ghosts}
use Rattle.guest_driver.specs.declared.config.DriverConfig.{DriverConfig}
use Rattle.rpmb_book.specs.Book.{counted_in, state}
use Rattle.workers.specs.Following.{Follow}
use Rattle.workers.specs.Crew.{guests_of}
use Rattle.workers.specs.Ends.{HaveAll, Left}
use Rattle.workers.specs.declared.crew.Crew.{Crew}
use Rattle.workers.specs.declared.order.Order.{Order}
use Rattle.workers.specs.declared.ended.Ended.{Ended}

-- the parts of a board of which nothing was asked yet
pub record AreNew {D : Type 0} (parts : Parts D) : Type 0 where
  pub book : counted_in parts.book ≡ 0
  pub tallies : All (λ t. t.count ≡ 0) parts.tallies.items
  pub follows : Follow parts.shares parts.store.guests

-- The threads that came to their end are a worker for each guest of these numbers, one after
-- another, and a driver for each script, of the configuration in its place.
pub record AreJoined {L D : Type 0} {disk : Ghosts D} (numbers : List ℕ)
    (configs : List DriverConfig) (scripts : List (List Order)) (crew : Crew L D disk)
    : Type 0 where
  pub workers : vec_len crew.workers ≡ length numbers
  pub guests : guests_of crew.workers.items ≡ numbers
  pub drivers : vec_len crew.drivers ≡ length scripts
  pub left : Left crew.drivers.items configs scripts

-- What a run leaves of the guests of these numbers and their scripts: an entry for each; the book's
-- Submit turns are as many as the tallies' sum; each driver, of the configuration in its place, ran
-- its script, and so has an answer to each chain; and the book knows whether a call of the disk
-- failed.
pub record Leaves {D : Type 0} {disk : Ghosts D} (numbers : List ℕ) (configs : List DriverConfig)
    (scripts : List (List Order)) (ended : Ended D disk) : Type 0 where
  pub served : vec_len ended.served ≡ length scripts
  pub guests : map (λ s. s.tally.guest) ended.served.items ≡ numbers
  pub drivers : vec_len ended.drivers ≡ length scripts
  pub submits : counted_in ended.book ≡ sum_by (λ s. s.tally.count) ended.served.items
  pub answers : HaveAll ended.drivers.items configs scripts
  pub broken : ended.broken ≡ (state ended.book).broken
