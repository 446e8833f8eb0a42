-- The values that options say, or why they are refused.
use Rattle.std.specs.Prelude.{ℕ, ◌≡◌, ◌≢◌, ◌⊎◌, length, List, Option, Some, None, option_and_then}
use Rattle.std.specs.Prelude.{Result, Ok, Err}
use Rattle.std.specs.Borrow.{Bor}
use Rattle.hex.specs.Hex.{decode_of}
use Rattle.hex.specs.declared.error.FromHexError.{FromHexError}
use Rattle.rpmb_client.specs.Values as values
use Rattle.rpmb_client.specs.declared.values.ValueFault.{ValueFault}
use Rattle.rpmb_client.specs.declared.values.ValueFault.TheVariants as fault
use Rattle.rpmb_client.specs.declared.values.KeyFault.{KeyFault}
use Rattle.rpmb_client.specs.declared.values.KeyFault.TheVariants as key_fault
use Rattle.rpmb_client.specs.declared.refusal.Number.{Number}
use Rattle.rpmb_client.specs.declared.refusal.OptionRefusal.{OptionRefusal}
use Rattle.rpmb_client.specs.declared.refusal.OptionRefusal.TheVariants as refusal

-- the value, or the refusal
abbrev pub or_refused : OptionRefusal → Option ℕ → Result ℕ OptionRefusal
or_refused refusal None = Err refusal
or_refused refusal (Some n) = Ok n

-- a number from `least` to `most`, or the refusal with the word, or that there is none
abbrev pub number_said : Option (Bor (List ℕ)) → ℕ → ℕ → Number → Result ℕ OptionRefusal
number_said None least most what = Err refusal.Incomplete
number_said (Some word) least most what =
    or_refused (refusal.Number what word) (values.number_said word.now least most)

-- just 16 bytes in hex digits
abbrev pub nonce_said : Option (List ℕ) → Option (List ℕ)
nonce_said word = option_and_then (values.array_said 16) word

-- how digits that say no key are refused
abbrev pub refusal_of_digits : ValueFault → OptionRefusal
refusal_of_digits fault.NoMemory = refusal.NoMemory
refusal_of_digits (fault.BadHex why) = refusal.BadHex why
refusal_of_digits (fault.BadLength count) = refusal.BadKey count

abbrev pub refusal_of_file : Bor (List ℕ) → KeyFault → OptionRefusal
refusal_of_file file (key_fault.BadDigits fault.NoMemory) = refusal.NoMemory
refusal_of_file file why = refusal.KeyFile file why

abbrev pub refusal_of_nonce : ValueFault → OptionRefusal
refusal_of_nonce fault.NoMemory = refusal.NoMemory
refusal_of_nonce (fault.BadHex why) = refusal.BadHex why
refusal_of_nonce (fault.BadLength count) = refusal.BadNonce count

-- why a word's bytes, a nonce, a key in digits and the key in a file are refused
abbrev pub IsWhyNoBytes : List ℕ → OptionRefusal → Type 0
IsWhyNoBytes word told = (told ≡ refusal.NoMemory)
    ⊎ ((why : FromHexError) × (told ≡ refusal.BadHex why) × (decode_of word ≡ Err why))

abbrev pub IsWhyNoNonce : Option (List ℕ) → OptionRefusal → Type 0
IsWhyNoNonce None told = told ≡ refusal.Incomplete
IsWhyNoNonce (Some word) told =
    (why : ValueFault) × (told ≡ refusal_of_nonce why) × values.IsWhyNot 16 word why

abbrev pub IsWhyNoDigits : List ℕ → OptionRefusal → Type 0
IsWhyNoDigits word told =
    (why : ValueFault) × (told ≡ refusal_of_digits why) × values.IsWhyNot 32 word why

abbrev pub IsWhyNoKey : Bor (List ℕ) → List ℕ → OptionRefusal → Type 0
IsWhyNoKey file content told =
    (why : KeyFault) × (told ≡ refusal_of_file file why) × values.IsWhyNoKey content why

-- why a file's content isn't a key itself
abbrev pub IsWhyNoRawKey : Bor (List ℕ) → List ℕ → OptionRefusal → Type 0
IsWhyNoRawKey file content told =
    (told ≡ refusal.BadRawKey file (length content)) × (length content ≢ 32)
