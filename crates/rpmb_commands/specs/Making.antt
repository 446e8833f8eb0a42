-- The line of one request that a making command prints, by its words.
use Rattle.std.specs.Prelude.{ℕ, ◌≡◌, List, Option, Some, Result, Ok, Err, IfErr, IsOk, OnOk}
use Rattle.std.specs.Io.KnownBytes.{Appends}
use Rattle.rpmb_client.specs.Lines.{line_of_request}
use Rattle.rpmb_client.specs.declared.lines.Request.{Request}
use Rattle.rpmb_client.specs.declared.lines.Request.TheVariants as request
use Rattle.rpmb_commands.specs.KeySaid.{IsWhyNoKeySaid, SaysKey}
use Rattle.rpmb_commands.specs.Refusing.{IsOfWriting, KeepsUnless}
use Rattle.rpmb_commands.specs.Said.{IsWhyNonce, guest_said, key_word, nonce_of, range_said}
use Rattle.rpmb_commands.specs.declared.asked.Making.{Making}
use Rattle.rpmb_commands.specs.declared.asked.Making.TheVariants as making
use Rattle.rpmb_commands.specs.declared.refusal.Refusal.{Refusal}
use Rattle.rpmb_commands.specs.declared.words.Words.{Words}

-- the request that a command makes has the values that its words say
abbrev pub Requests : (List ℕ → List ℕ → Type 0) → Making → Words → Request → Type 0
Requests gives making.ProgramKey words (request.ProgramKey key) = SaysKey gives (key_word words) key
Requests gives making.ReadCounter words (request.ReadCounter nonce) = nonce_of words ≡ Some nonce
Requests gives making.Read words (request.Read address count nonce) =
    (range_said words ≡ Ok (address, count)) × (nonce_of words ≡ Some nonce)
Requests gives making.Outcome words request.Outcome = Unit {0}
Requests gives making words other = ⊥

-- why the words of a read say none: the first of these that is so
pub data IsWhyNoRead (words : Words) (r : Refusal) : Type 0 where
  read_range : range_said words ≡ Err r → IsWhyNoRead words r
  read_nonce : IsOk (range_said words) → IsWhyNonce words r → IsWhyNoRead words r

abbrev pub IsWhyNoRequest : (List ℕ → List ℕ → Type 0) → Making → Words → Refusal → Type 0
IsWhyNoRequest gives making.ProgramKey words r = IsWhyNoKeySaid gives (key_word words) r
IsWhyNoRequest gives making.ReadCounter words r = IsWhyNonce words r
IsWhyNoRequest gives making.Read words r = IsWhyNoRead words r
IsWhyNoRequest gives making.Outcome words r = ⊥

pub record MakesLine (gives : List ℕ → List ℕ → Type 0) (making : Making) (words : Words)
    (start now : Option (List ℕ)) : Type 0 where
  pub guest : ℕ
  pub request : Request
  pub guest_is : guest_said words ≡ Ok guest
  pub request_is : Requests gives making words request
  pub printed : Appends start now (line_of_request guest request)

-- why it isn't printed: the first of these that is so
pub data WhyNoLine (gives : List ℕ → List ℕ → Type 0) (making : Making) (words : Words)
    (r : Refusal) : Type 0 where
  line_guest : guest_said words ≡ Err r → WhyNoLine gives making words r
  line_request : IsOk (guest_said words) → IsWhyNoRequest gives making words r
      → WhyNoLine gives making words r
  line_unwritten : IsOk (guest_said words) → (request : Request)
      → Requests gives making words request → IsOfWriting r → WhyNoLine gives making words r

pub record MakeDoes (gives : List ℕ → List ℕ → Type 0) (making : Making) (words : Words)
    (start : Option (List ℕ)) (ended : Result (Unit {0}) Refusal) (now : Option (List ℕ))
    : Type 0 where
  pub printed : OnOk ended (MakesLine gives making words start now)
  pub refused : IfErr ended (WhyNoLine gives making words)
  pub silent : IfErr ended (λ r. KeepsUnless r start now)
