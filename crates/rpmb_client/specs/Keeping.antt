-- What a writer holds where a client can't go on.
use Rattle.std.specs.Prelude.{ℕ, ◌≢◌, ◌<◌, Bool, List, Option}
use Rattle.std.specs.Io.KnownBytes.{Appends, Keeps}
use Rattle.rpmb_client.specs.Lines.{write_lines}
use Rattle.rpmb_client.specs.declared.fault.ClientFault.{ClientFault}
use Rattle.rpmb_client.specs.declared.fault.ClientFault.TheVariants as fault

-- nothing was written, unless the writer took no more
abbrev pub KeepsUnless : ClientFault → Option (List ℕ) → Option (List ℕ) → Type 0
KeepsUnless f start now = f ≢ fault.FileFault → Keeps start now

-- the lines of the first writes were written, of fewer than so many, and no more
pub record WritesFirst (count guest : ℕ) (key : List ℕ) (counter address most : ℕ)
    (blocks : List (List ℕ)) (asks : Bool) (start now : Option (List ℕ)) : Type 0 where
  pub first : ℕ
  pub fewer : first < count
  pub written : Appends start now (write_lines first guest key counter address most blocks asks)

-- the same, unless the writer took no more
abbrev pub WritesFirstUnless : ClientFault → (count guest : ℕ) → (key : List ℕ)
    → (counter address most : ℕ) → (blocks : List (List ℕ)) → (asks : Bool) → Option (List ℕ)
    → Option (List ℕ) → Type 0
WritesFirstUnless f count guest key counter address most blocks asks start now =
    f ≢ fault.FileFault
    → WritesFirst count guest key counter address most blocks asks start now
