-- The values that the words of a client's options say.
use Rattle.std.specs.Prelude.{ℕ, ◌≡◌, ◌≢◌, ◌-◌, ◌==◌, ◌&&◌, ⊤, nat_le, not, if◌then◌else◌, List, []}
use Rattle.std.specs.Prelude.{◌∷◌, Bool, false, take, true}
use Rattle.std.specs.Prelude.{length, slice_index, slice_range, Option, Some, None, option_and_then}
use Rattle.std.specs.Prelude.{Ok, Err}
use Rattle.std.specs.List.{list_any}
use Rattle.std.specs.Result.{result_ok}
use Rattle.std.specs.Str.{bytes_eq}
use Rattle.hex.specs.Hex.{decode_of}
use Rattle.rpmb_frame.specs.Table.{first_row}
use Rattle.script.specs.Words.{number_of}
use Rattle.rpmb_client.specs.declared.values.ValueFault.{ValueFault}
use Rattle.rpmb_client.specs.declared.values.ValueFault.TheVariants as fault
use Rattle.rpmb_client.specs.declared.values.KeyFault.{KeyFault}
use Rattle.rpmb_client.specs.declared.values.KeyFault.TheVariants as key_fault

-- a number from `least` to `most`
abbrev pub within : ℕ → ℕ → Option ℕ → Option ℕ
within least most number =
    option_and_then (λ n. if nat_le least n && nat_le n most then Some n else None) number

-- decimal digits, also with zeros in front
abbrev pub number_said : List ℕ → ℕ → ℕ → Option ℕ
number_said word least most = within least most (number_of word)

-- two hex digits for each byte
abbrev pub bytes_said : List ℕ → Option (List ℕ)
bytes_said word = result_ok (decode_of word)

-- just n bytes
abbrev pub sized_said : ℕ → List ℕ → Option (List ℕ)
sized_said n bytes = if length bytes == n then Some bytes else None

-- just n bytes in hex digits
abbrev pub array_said : ℕ → List ℕ → Option (List ℕ)
array_said n word = option_and_then (sized_said n) (bytes_said word)

-- why digits say no bytes, or not just n
abbrev pub IsWhyNot : ℕ → List ℕ → ValueFault → Type 0
IsWhyNot n digits fault.NoMemory = ⊤
IsWhyNot n digits (fault.BadHex why) = decode_of digits ≡ Err why
IsWhyNot n digits (fault.BadLength count) =
    (bytes : List ℕ) × (decode_of digits ≡ Ok bytes) × (length bytes ≡ count) × (count ≢ n)

-- how many bytes the end of a file's line takes: a line feed, or a carriage return and one, or none
unfoldable pub end_length : List ℕ → ℕ
end_length content = first_row (
    (length content == 0, 0)
    ∷ (not (slice_index content (length content - 1) == 10), 0)
    ∷ (length content == 1, 1)
    ∷ (not (slice_index content (length content - 2) == 13), 1)
    ∷ []) 2

-- the digits in a file, without the end of their line
abbrev pub digits_of : List ℕ → List ℕ
digits_of content = slice_range content 0 (length content - end_length content)

-- the key in a file: 64 hex digits, behind which a line may end, and no file of 32 bytes
abbrev pub key_said : List ℕ → Option (List ℕ)
key_said content = if length content == 32 then None else array_said 32 (digits_of content)

-- a byte order mark before a text, and a line feed in it
abbrev pub has_mark : List ℕ → Bool
has_mark content = bytes_eq (take 3 content) (239 ∷ 187 ∷ 191 ∷ [])

abbrev pub has_line_feed : List ℕ → Bool
has_line_feed digits = list_any (λ b. b == 10) digits

-- why the content of a file says no key: the first that is so
abbrev pub IsWhyNoKey : List ℕ → KeyFault → Type 0
IsWhyNoKey content key_fault.RawKey = length content ≡ 32
IsWhyNoKey content key_fault.ByteOrderMark =
    (length content ≢ 32) × (has_mark content ≡ true)
IsWhyNoKey content key_fault.SecondLine =
    (length content ≢ 32) × (has_mark content ≡ false)
    × (has_line_feed (digits_of content) ≡ true)
IsWhyNoKey content (key_fault.BadDigits why) =
    (length content ≢ 32) × (has_mark content ≡ false)
    × (has_line_feed (digits_of content) ≡ false) × IsWhyNot 32 (digits_of content) why
