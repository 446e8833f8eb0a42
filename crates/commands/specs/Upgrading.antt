-- What `upgrade` prints, and which calls of the disk it makes.
use Rattle.std.specs.Prelude.{◌≡◌, ℕ, List, [], ◌∷◌, ◌++◌, codes, true, Option, Result, Ok, Err}
use Rattle.std.specs.Io.KnownBytes.{Appends}
use Rattle.disk.specs.Disk.{DiskState, DiskCall}
use Rattle.recovery.specs.Upgrade.{AnswersUpgrade, UpgradeCalls}
use Rattle.recovery.specs.declared.fault.OpenFault.{OpenFault}
use Rattle.recovery.specs.declared.upgrading.Upgraded.{Upgraded}
use Rattle.recovery.specs.declared.upgrading.Upgraded.TheVariants as upgraded
use Rattle.commands.specs.Fault.{fault_of_image}
use Rattle.commands.specs.declared.fault.Fault.{Fault}
use Rattle.commands.specs.declared.fault.Fault.TheVariants as fault

-- the line of an upgrade
unfoldable pub upgraded_line : Upgraded → List ℕ
upgraded_line upgraded.Already = codes "already 2" ++ 10 ∷ []
upgraded_line upgraded.Wrote = codes "upgraded" ++ 10 ∷ []

-- The line of what was done was printed. It was done to an image of this board: nothing where its
-- version was 2.
pub record PrintsUpgrade (capacities : List ℕ) (old : DiskState)
    (start now : Option (List ℕ)) : Type 0 where
  pub done : Upgraded
  pub answers : old.faithful ≡ true → AnswersUpgrade capacities old.len old.seen (Ok done)
  pub printed : Appends start now (upgraded_line done)

-- How the command ends where the upgrade of the image gave this answer: with the line of what was
-- done, or with the fault of a standard output that took no more; or with the answer's own fault.
abbrev pub TellsUpgrade : Result Upgraded OpenFault → Result (Unit {0}) Fault
    → (start now : Option (List ℕ)) → Type 0
TellsUpgrade (Ok done) (Ok told) start now = Appends start now (upgraded_line done)
TellsUpgrade (Ok done) (Err f) start now = f ≡ fault.FileFault
TellsUpgrade (Err f) ended start now = ended ≡ Err (fault_of_image f)

-- The calls that were made of the disk are those of an answer that is right for what reads gave,
-- and that the command's end tells.
pub record CallsAsTold {D : Type 0} (shows : D → DiskState) (makes : D → DiskCall → D → Type 0)
    (capacities : List ℕ) (old : D) (start : Option (List ℕ)) (ended : Result (Unit {0}) Fault)
    (new : D) (now : Option (List ℕ)) : Type 0 where
  pub answer : Result Upgraded OpenFault
  pub calls : UpgradeCalls makes capacities old new answer
  pub right : (shows old).faithful ≡ true
      → AnswersUpgrade capacities (shows old).len (shows old).seen answer
  pub told : TellsUpgrade answer ended start now
