-- The key that a word says: its own digits, or what a file has.
use Rattle.std.specs.Prelude.{ℕ, ◌≡◌, ◌≢◌, ◌++◌, List, Option, Some, None, codes}
use Rattle.std.specs.Borrow.{Bor}
use Rattle.rpmb_client.specs.Options.{IsWhyNoDigits, IsWhyNoKey, IsWhyNoRawKey}
use Rattle.rpmb_client.specs.Values.{array_said, key_said}
use Rattle.rpmb_client.specs.declared.refusal.OptionRefusal.{OptionRefusal}
use Rattle.rpmb_client.specs.declared.refusal.OptionRefusal.TheVariants as option
use Rattle.rpmb_commands.specs.Refusing.{refusal_of}
use Rattle.rpmb_commands.specs.declared.reading.KeyWord.{KeyWord}
use Rattle.rpmb_commands.specs.declared.reading.KeyWord.TheVariants as word
use Rattle.rpmb_commands.specs.declared.refusal.FileRefusal.TheVariants as file
use Rattle.rpmb_commands.specs.declared.refusal.Refusal.{Refusal}
use Rattle.rpmb_commands.specs.declared.refusal.Refusal.TheVariants as refusal
use Rattle.rpmb_commands.specs.declared.source.SourceError.{SourceError}

-- 1. How a word says a key

-- a file's name, behind the @, which `raw:` may begin
abbrev pub IsNamed : List ℕ → KeyWord → Type 0
IsNamed said (word.Digits digits) = ⊥
IsNamed said (word.File name) =
    (name.now ≡ said) × ((rest : List ℕ) → said ≢ codes "raw:" ++ rest)
IsNamed said (word.RawFile name) = said ≡ codes "raw:" ++ name.now

-- digits, or a file's name behind an @
abbrev pub IsKeyWord : List ℕ → KeyWord → Type 0
IsKeyWord said (word.Digits digits) =
    (digits.now ≡ said) × ((rest : List ℕ) → said ≢ codes "@" ++ rest)
IsKeyWord said how = (name : List ℕ) × (said ≡ codes "@" ++ name) × IsNamed name how

-- 2. The key, where `gives` is what a file of a name may give

-- in digits in a file
pub record IsKeyInFile (gives : List ℕ → List ℕ → Type 0) (name key : List ℕ) : Type 0 where
  pub content : List ℕ
  pub given : gives name content
  pub said : key_said content ≡ Some key

abbrev pub IsKey : (List ℕ → List ℕ → Type 0) → KeyWord → List ℕ → Type 0
IsKey gives (word.Digits digits) key = array_said 32 digits.now ≡ Some key
IsKey gives (word.File name) key = IsKeyInFile gives name.now key
IsKey gives (word.RawFile name) key = gives name.now key

-- the key that an option says
pub record SaysKeyIn (gives : List ℕ → List ℕ → Type 0) (said key : List ℕ) : Type 0 where
  pub how : KeyWord
  pub is_how : IsKeyWord said how
  pub is_key : IsKey gives how key

abbrev pub SaysKey : (List ℕ → List ℕ → Type 0) → Option (Bor (List ℕ)) → List ℕ → Type 0
SaysKey gives None key = ⊥
SaysKey gives (Some said) key = SaysKeyIn gives said.now key

-- 3. Why there is none

-- why a file gives nothing, of which at most so many bytes are wanted
pub data IsWhyNoContent (name : Bor (List ℕ)) (most : ℕ) (r : Refusal) : Type 0 where
  content_file : (why : SourceError) → r ≡ refusal.File (file.Unread why) name
      → IsWhyNoContent name most r
  content_length : r ≡ refusal.File (file.TooLong most) name → IsWhyNoContent name most r
  content_memory : r ≡ refusal.NoMemory → IsWhyNoContent name most r

-- an option's refusal, for such a reason
pub record IsRefusedFor (Why : OptionRefusal → Type 0) (r : Refusal) : Type 0 where
  pub told : OptionRefusal
  pub refused : r ≡ refusal_of told
  pub why : Why told

-- the digits are wrong, and are told so, or as the name of a file
pub data IsWhyNoKeyDigits (digits : Bor (List ℕ)) (r : Refusal) : Type 0 where
  digits_wrong : IsRefusedFor (IsWhyNoDigits digits.now) r → IsWhyNoKeyDigits digits r
  digits_file : (told : OptionRefusal) → IsWhyNoDigits digits.now told
      → r ≡ refusal.File file.BareName digits → IsWhyNoKeyDigits digits r

-- the file isn't read, or has no key
pub data IsWhyNoKeyFile (gives : List ℕ → List ℕ → Type 0) (name : Bor (List ℕ)) (r : Refusal)
    : Type 0 where
  file_unread : IsWhyNoContent name 128 r → IsWhyNoKeyFile gives name r
  file_no_key : (content : List ℕ) → gives name.now content
      → IsRefusedFor (IsWhyNoKey name content) r → IsWhyNoKeyFile gives name r

pub data IsWhyNoRawKeyFile (gives : List ℕ → List ℕ → Type 0) (name : Bor (List ℕ)) (r : Refusal)
    : Type 0 where
  raw_unread : IsWhyNoContent name 128 r → IsWhyNoRawKeyFile gives name r
  raw_no_key : (content : List ℕ) → gives name.now content
      → IsRefusedFor (IsWhyNoRawKey name content) r → IsWhyNoRawKeyFile gives name r

abbrev pub IsWhyNot : (List ℕ → List ℕ → Type 0) → KeyWord → Refusal → Type 0
IsWhyNot gives (word.Digits digits) r = IsWhyNoKeyDigits digits r
IsWhyNot gives (word.File name) r = IsWhyNoKeyFile gives name r
IsWhyNot gives (word.RawFile name) r = IsWhyNoRawKeyFile gives name r

pub record IsWhyNoKeyIn (gives : List ℕ → List ℕ → Type 0) (said : List ℕ) (r : Refusal)
    : Type 0 where
  pub how : KeyWord
  pub is_how : IsKeyWord said how
  pub why : IsWhyNot gives how r

abbrev pub IsWhyNoKeySaid : (List ℕ → List ℕ → Type 0) → Option (Bor (List ℕ)) → Refusal → Type 0
IsWhyNoKeySaid gives None r = r ≡ refusal.Option option.Incomplete
IsWhyNoKeySaid gives (Some said) r = IsWhyNoKeyIn gives said.now r
