-- The drivers of a board's guests, one after another.
use Rattle.std.proofs.Common.{◌≡◌, ◌<◌, ◌+◌, ℕ, List, Some, get_or, arith}
use Rattle.std.proofs.lemmas.Bool.{cases_eq}
use Rattle.std.proofs.lemmas.Option.{get_or_from_slice_get}
use Rattle.std.specs.Prelude.{slice_get}
use Rattle.rpmb_frame.specs.declared.config.GuestConfig.{GuestConfig}
use Rattle.guest_driver.specs.Config.{IsDriver}
use Rattle.guest_driver.specs.declared.config.DriverConfig.{DriverConfig}

-- the drivers of the first so many guests fit
abbrev pub FitUpTo : List GuestConfig → List DriverConfig → ℕ → Type 0
FitUpTo guests drivers i = (n : ℕ) (g : GuestConfig) (d : DriverConfig) → n < i
    → slice_get guests n ≡ Some g → slice_get drivers n ≡ Some d → IsDriver g.memory d

-- and that of one more
pub one_more_fits : (guests : List GuestConfig) (drivers : List DriverConfig) (i : ℕ)
    (o : GuestConfig) (p : DriverConfig) → FitUpTo guests drivers i
    → IsDriver (get_or guests i o).memory (get_or drivers i p) → FitUpTo guests drivers (i + 1)
one_more_fits guests drivers i o p so_far fits n g d below at there =
    grind (
      arith,
      (cases_eq n i),
      (so_far n g d),
      (get_or_from_slice_get guests n g o at),
      (get_or_from_slice_get drivers n d p there),
    )
