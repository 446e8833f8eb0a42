-- What the check of a write's MAC came to, made of bytes and a key before the partition is looked
-- at.
use Rattle.std.specs.Prelude.{◌≡◌, ◌<◌, ℕ, Bool, List, length, take}
use Rattle.rpmb_frame.specs.Limits.{Limits}
use Rattle.rpmb_frame.specs.Request.{Request, Command, DataWrite, command_of}
use Rattle.rpmb_core.specs.Verdict.{has_mac}
use Rattle.rpmb_core.specs.declared.mac_check.MacCheck.{MacCheck}

-- true of the first frames of these, as many as were checked
unfoldable pub Says : List (List ℕ) → MacCheck → Type 0
Says frames check = 0 < check.count → check.is_right ≡ has_mac check.key (take check.count frames)

-- true of all frames of a write, where as many were checked
unfoldable pub SaysOfWrite : List (List ℕ) → MacCheck → Type 0
SaysOfWrite frames check =
    0 < check.count → check.count ≡ length frames → check.is_right ≡ has_mac check.key frames

-- a check says nothing of a command that isn't a write
abbrev pub SaysOfCommand : Command → MacCheck → Type 0
SaysOfCommand (DataWrite frames combined) check = SaysOfWrite frames check
SaysOfCommand _ check = Unit {0}

-- what a check says of a request is true
unfoldable pub SaysOf : Request → MacCheck → Type 0
SaysOf r check = SaysOfCommand r.command check

-- where bytes ask for a write, the check is of all its frames, under this key
unfoldable pub Covers : List ℕ → List ℕ → MacCheck → Type 0
Covers bytes key check =
    (writable : ℕ) (limits : Limits) (frames : List (List ℕ)) (combined : Bool)
    → command_of bytes writable limits ≡ DataWrite frames combined
    → (check.count ≡ length frames) × (check.key ≡ key)
