-- Which faults end `show` and `upgrade`, and which calls they make.
use Rattle.std.proofs.Common.{◌≡◌, ℕ, List, Option, Result, Ok, Err, refl}
use Rattle.commands.proofs.Common.{true, GuestConfig, DiskCall, DiskState, HasRisen, capacities_of}
use Rattle.commands.proofs.Common.{OpenFault, AnswersFault, fault_of_image, Ends, IsReadAlone}
use Rattle.commands.proofs.Common.{Synced, showing, upgrading}
use Rattle.recovery.specs.declared.fault.OpenFault.TheVariants as image
use Rattle.recovery.specs.Opening.{CallsFault}
use Rattle.recovery.specs.Upgrade.{CallsNotDone}
use Rattle.recovery.specs.Front.{TellsVersionFault}
use Rattle.commands.specs.Ending.{Uncalled}
use Rattle.commands.specs.Upgrading.{TellsUpgrade, upgraded_line}
use Rattle.commands.specs.declared.fault.Fault.{Fault}
use Rattle.commands.specs.declared.fault.Fault.TheVariants as fault
use Rattle.recovery.specs.declared.upgrading.Upgraded.{Upgraded}
use Rattle.commands.proofs.Common.{OnOk, Appends}

-- a fault of an opening ends a listing
pub show_ends : (board : List GuestConfig) (old new : DiskState) (f : OpenFault)
    → (f ≡ image.NoMemory → new ≡ old) → (f ≡ image.DiskFault → HasRisen old.failures new.failures)
    → (old.faithful ≡ true → AnswersFault (capacities_of board) old.len old.seen f)
    → Ends showing board old new (fault_of_image f)
show_ends board old new image.NoMemory memory cause answers = memory refl
show_ends board old new image.DiskFault memory cause answers = cause refl
show_ends board old new image.NotFormatted memory cause answers = answers
show_ends board old new image.OtherConfig memory cause answers = answers

-- and so a fault of an upgrade
pub upgrade_ends : {D : Type 0} (makes : D → DiskCall → D → Type 0) (board : List GuestConfig)
    (a b : D) (old new : DiskState) (f : OpenFault) → CallsNotDone makes (capacities_of board) a b f
    → (f ≡ image.DiskFault → HasRisen old.failures new.failures)
    → (old.faithful ≡ true → TellsVersionFault (capacities_of board) old.len old.seen f)
    → Ends upgrading board old new (fault_of_image f)
upgrade_ends makes board a b old new image.NoMemory calls cause answers = absurd calls
upgrade_ends makes board a b old new image.DiskFault calls cause answers = cause refl
upgrade_ends makes board a b old new image.NotFormatted calls cause answers = answers
upgrade_ends makes board a b old new image.OtherConfig calls cause answers = answers

-- the line of an upgrade that ended well, or why it wasn't printed
pub done_told : (done : Upgraded) (ended : Result (Unit {0}) Fault) (start now : Option (List ℕ))
    → OnOk ended (Appends start now (upgraded_line done))
    → ((f : Fault) → ended ≡ Err f → f ≡ fault.FileFault) → TellsUpgrade (Ok done) ended start now
done_told done (Ok told) start now printed only = printed
done_told done (Err f) start now printed only = only f refl

pub read_alone : {D : Type 0} (makes : D → DiskCall → D → Type 0) (old new : D) (f : OpenFault)
    → CallsFault makes old new f → IsReadAlone makes old new
read_alone makes old new image.NoMemory calls = Uncalled calls
read_alone makes old new image.DiskFault calls = Synced calls
read_alone makes old new image.NotFormatted calls = Synced calls
read_alone makes old new image.OtherConfig calls = Synced calls
