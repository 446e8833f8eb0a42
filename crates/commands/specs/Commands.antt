-- What each command has done, by how it ended. A field says what the clause of the same name says
-- of the command's own function.
use Rattle.std.specs.Prelude.{◌≡◌, ℕ, Bool, List, Option, None, Some, Result, Ok, Err, IfErr, IsErr}
use Rattle.std.specs.Prelude.{IsSome, OnOk, true}
use Rattle.std.specs.Io.KnownBytes.{Appends, Keeps}
use Rattle.command_line.specs.declared.command.Command.{Command}
use Rattle.command_line.specs.declared.command.Command.TheVariants as command
use Rattle.rpmb_frame.specs.declared.config.GuestConfig.{GuestConfig}
use Rattle.guest_driver.specs.Config.{SetupState}
use Rattle.guest_driver.specs.declared.config.DriverConfig.{DriverConfig}
use Rattle.disk.specs.Disk.{DiskCall, DiskState, Within}
use Rattle.intent_slots.specs.Layout.{capacities_of, image_length}
use Rattle.recovery.specs.Format.{ClearsFirst, IsFormatted}
use Rattle.recovery.specs.Opening.{IsImage, SyncsFirst, Untouched}
use Rattle.recovery.specs.Upgrade.{IsNamed, IsUpgradable, StandsThroughout}
use Rattle.script.specs.Line.{Said}
use Rattle.commands.specs.Ending.{Ends, IsReadAlone, KeepsUnless, RunPrints, Takes, formatting}
use Rattle.commands.specs.Ending.{running, serving}
use Rattle.commands.specs.Ending.{showing, upgrading}
use Rattle.commands.specs.Fault.{fault_line}
use Rattle.commands.specs.Image.{Ran}
use Rattle.commands.specs.Listing.{Lists, formatted_line}
use Rattle.commands.specs.Moments.{AnyMoment}
use Rattle.commands.specs.ServedImage.{ServeKeeps}
use Rattle.commands.specs.Serving.{IsUnservedAt, ServeLeaves, ServePrints, ServesAll}
use Rattle.commands.specs.Transcript.{IsBadAt, Says, StoresNothing}
use Rattle.commands.specs.Upgrading.{CallsAsTold, PrintsUpgrade}
use Rattle.commands.specs.declared.fault.Fault.{Fault}

pub record FormatDoes {D : Type 0} (shows : D → DiskState) (makes : D → DiskCall → D → Type 0)
    (board : List GuestConfig) (old : D) (start : Option (List ℕ)) (ended : Result (Unit {0}) Fault)
    (new : D) (now : Option (List ℕ)) : Type 0 where
  pub formatted : OnOk ended
      ((shows old).faithful ≡ true → IsFormatted 1 (capacities_of board) (shows new))
  pub printed : OnOk ended (Appends start now (formatted_line (image_length (capacities_of board))))
  pub ends : IfErr ended (Ends formatting board (shows old) (shows new))
  pub silent : IfErr ended (λ f. KeepsUnless f start now)
  pub order : ClearsFirst shows makes (capacities_of board) old new

pub record ShowDoes {D : Type 0} (shows : D → DiskState) (makes : D → DiskCall → D → Type 0)
    (as_json : Bool) (board : List GuestConfig) (old : D) (start : Option (List ℕ))
    (ended : Result (Unit {0}) Fault) (new : D) (now : Option (List ℕ)) : Type 0 where
  pub shown : OnOk ended (Lists as_json (capacities_of board) (shows old) start now)
  pub image : OnOk ended ((shows old).faithful ≡ true
      → IsImage (capacities_of board) (shows old).len (shows old).seen)
  pub ends : IfErr ended (Ends showing board (shows old) (shows new))
  pub silent : IfErr ended (λ f. KeepsUnless f start now)
  pub any_moment : Within shows makes (Untouched (shows old)) old new
  pub calls : IsReadAlone makes old new

pub record UpgradeDoes {D : Type 0} (shows : D → DiskState) (makes : D → DiskCall → D → Type 0)
    (board : List GuestConfig) (old : D) (start : Option (List ℕ)) (ended : Result (Unit {0}) Fault)
    (new : D) (now : Option (List ℕ)) : Type 0 where
  pub stands : StandsThroughout shows makes (capacities_of board) old new
  pub calls : CallsAsTold shows makes (capacities_of board) old start ended new now
  pub unwritten : (shows old).faithful ≡ true
      → ¬ IsUpgradable (capacities_of board) (shows old).len (shows old).seen
      → SyncsFirst makes old new
  pub named : OnOk ended ((shows old).faithful ≡ true → IsNamed (shows new))
  pub printed : OnOk ended (PrintsUpgrade (capacities_of board) (shows old) start now)
  pub ends : IfErr ended (Ends upgrading board (shows old) (shows new))
  pub silent : IfErr ended (λ f. KeepsUnless f start now)

pub record RunDoes {D : Type 0} (shows : D → DiskState) (makes : D → DiskCall → D → Type 0)
    (setup : SetupState) (script : List ℕ) (old : D) (start : Option (List ℕ))
    (ended : Result (Unit {0}) Fault) (new : D) (now : Option (List ℕ)) : Type 0 where
  pub ran : OnOk ended ((lines : List Said) → Says setup.board script lines → StoresNothing lines
      → Ran setup.board (shows old) (shows new) lines start now)
  pub bad : (n : ℕ) → IsBadAt setup.board script n → IsErr ended × Keeps start now × (new ≡ old)
  pub ends : IfErr ended (Ends (running script) setup.board (shows old) (shows new))
  pub moments : (lines : List Said) → Says setup.board script lines
      → AnyMoment shows makes setup lines old start ended new now
  pub stopped : IfErr ended (λ f. RunPrints setup.board script (shows old) (shows new) f start now)

-- the disk may be lost
pub record ServeDoes {D : Type 0} (shows : D → DiskState) (makes : D → DiskCall → D → Type 0)
    (board : List GuestConfig) (configs : List DriverConfig) (script : List ℕ) (old : D)
    (start : Option (List ℕ)) (ended : Result (Unit {0}) Fault) (given : Option D)
    (now : Option (List ℕ)) : Type 0 where
  pub printed : OnOk ended (ServesAll board configs script start now)
  pub back : OnOk ended (IsSome given)
  pub ends : IfErr ended (λ f. (new : DiskState) → Ends (serving script) board (shows old) new f)
  pub prints : IfErr ended (λ f. ServePrints board configs script f start now)
  pub leaves : IfErr ended (λ f. ServeLeaves shows makes old f given)
  pub keeps : ServeKeeps shows makes board old ended given
  pub bad : (n : ℕ) → IsUnservedAt board script n → IsErr ended × Keeps start now
      × (given ≡ Some old)

abbrev pub IsFormat : Command → Type 0
IsFormat (command.Format b only_new version) = Unit {0}
IsFormat c = ⊥

-- the disk is given back, and this holds of it
abbrev pub GivesBack : {D : Type 0} → (D → Type 0) → Option D → Type 0
GivesBack P None = ⊥
GivesBack P (Some d) = P d

-- What a command has done, on this board, with the text of this script.
abbrev pub Does : {D : Type 0} → (D → DiskState) → (D → DiskCall → D → Type 0) → Command
    → SetupState → List ℕ
    → D → Option (List ℕ) → Result (Unit {0}) Fault → Option D → Option (List ℕ) → Type 0
Does shows makes (command.Format b only_new version) setup script old start ended back now =
    GivesBack (λ new. FormatDoes shows makes setup.board old start ended new now) back
Does shows makes (command.Show b as_json) setup script old start ended back now =
    GivesBack (λ new. ShowDoes shows makes as_json setup.board old start ended new now) back
Does shows makes (command.Upgrade b) setup script old start ended back now =
    GivesBack (λ new. UpgradeDoes shows makes setup.board old start ended new now) back
Does shows makes (command.Run b s) setup script old start ended back now =
    GivesBack (λ new. RunDoes shows makes setup script old start ended new now) back
Does shows makes (command.Serve b s) setup script old start ended back now =
    ServeDoes shows makes setup.board setup.drivers script old start ended back now

-- What standard error has taken of an end: nothing, or the line of the fault, as far as that went
-- out.
abbrev pub TellsEnd : Result (Unit {0}) Fault → Option (List ℕ) → Option (List ℕ) → Type 0
TellsEnd (Ok done) start now = Keeps start now
TellsEnd (Err f) start now = Takes start now (fault_line f)

-- the status that the program ends with then
abbrev pub status_after : Result (Unit {0}) Fault → ℕ
status_after (Ok done) = 0
status_after (Err f) = 1

-- A command was performed, and its end told.
pub record Performs {D : Type 0} (shows : D → DiskState) (makes : D → DiskCall → D → Type 0)
    (c : Command) (setup : SetupState) (script : List ℕ) (old : D) (start : Option (List ℕ))
    (ended : Result (Unit {0}) Fault) (back : Option D)
    (now err_start err_now : Option (List ℕ)) : Type 0 where
  pub does : Does shows makes c setup script old start ended back now
  pub told : TellsEnd ended err_start err_now
