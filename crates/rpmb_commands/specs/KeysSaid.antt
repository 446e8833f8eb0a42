-- The keys of several guests that the words of `--key` say.
use Rattle.std.specs.Prelude.{ℕ, ◌≡◌, ◌≢◌, ◌⊎◌, ◌<◌, ◌++◌, ◌∷◌, [], List, Option, Some, None}
use Rattle.std.specs.Prelude.{length}
use Rattle.std.specs.Prelude.{slice_index}
use Rattle.std.specs.Borrow.{Bor}
use Rattle.rpmb_client.specs.Keys.{key_at, pairs_of}
use Rattle.rpmb_client.specs.Values.{number_said}
use Rattle.rpmb_client.specs.declared.keys.Keys.{Keys}
use Rattle.rpmb_commands.specs.KeySaid.{SaysKeyIn}

-- a guest's number beside each key of its own, and the key of all others
pub record KeysSaid : Type 0 where
  pub own : List (ℕ × List ℕ)
  pub others : Option (List ℕ)

abbrev pub keys_seen : Keys → KeysSaid
keys_seen keys = record { own = pairs_of keys.own.items; others = keys.others }

abbrev pub no_keys : KeysSaid
no_keys = record { own = []; others = None }

-- no `=` stands in a word
abbrev pub LacksEquals : List ℕ → Type 0
LacksEquals word = (i : ℕ) → i < length word → slice_index word i ≢ 61

-- a word that names no guest: one with an @ before it, or without a `=`
abbrev pub IsForOthers : List ℕ → Type 0
IsForOthers word = ((name : List ℕ) × (word ≡ 64 ∷ name)) ⊎ LacksEquals word

-- the guest's part of any other word, and the key's
pub record IsParted (word guest key : List ℕ) : Type 0 where
  pub at : (name : List ℕ) → word ≢ 64 ∷ name
  pub parts : word ≡ guest ++ 61 ∷ key
  pub first : LacksEquals guest

-- G=KEY, where the guest has no key yet
pub record AddsOwn (gives : List ℕ → List ℕ → Type 0) (guest key : List ℕ) (old new : KeysSaid)
    : Type 0 where
  pub number : ℕ
  pub bytes : List ℕ
  pub number_is : number_said guest 0 63 ≡ Some number
  pub fresh : key_at old.own number ≡ None
  pub key_is : SaysKeyIn gives key bytes
  pub new_is : new ≡ record old { own = old.own ++ (number, bytes) ∷ [] }

-- KEY, where there is no such key yet
pub record AddsOthers (gives : List ℕ → List ℕ → Type 0) (word : List ℕ) (old new : KeysSaid)
    : Type 0 where
  pub bytes : List ℕ
  pub fresh : old.others ≡ None
  pub key_is : SaysKeyIn gives word bytes
  pub new_is : new ≡ record old { others = Some bytes }

pub data AddsKey (gives : List ℕ → List ℕ → Type 0) (word : List ℕ) (old new : KeysSaid)
    : Type 0 where
  own_key : (guest key : List ℕ) → IsParted word guest key → AddsOwn gives guest key old new
      → AddsKey gives word old new
  others_key : IsForOthers word → AddsOthers gives word old new → AddsKey gives word old new

-- one word after another
abbrev pub AddsKeys : (List ℕ → List ℕ → Type 0) → List (Bor (List ℕ)) → KeysSaid → KeysSaid
    → Type 0
AddsKeys gives [] old new = new ≡ old
AddsKeys gives (word ∷ words) old new =
    (next : KeysSaid) × AddsKey gives word.now old next × AddsKeys gives words next new
