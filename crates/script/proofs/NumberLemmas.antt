-- What `parse` reads of a text with no sign, as a number of a script.
use Rattle.std.proofs.Common.{◌≡◌, ◌≢◌, ◌<◌, ◌^◌, ℕ, Bool, true, false, List, length, Some, None}
use Rattle.std.proofs.Common.{Result, Ok, Err, refl, ap, arith, slice_index, ◌&&◌, nat_lt}
use Rattle.std.proofs.Common.{if◌then◌else◌}
use Rattle.std.specs.Result.{OkIff, result_ok}
use Rattle.std.specs.Str.{all_ascii_digits}
use Rattle.std.specs.Str.Parse.{ParsesUnsigned, digits_value}
use Rattle.std.proofs.lemmas.Grind.{common_steps}
use Rattle.std.proofs.lemmas.Str.Parse.{IsNumeralModel, numerals_by_value, parse_plain}
use Rattle.std.proofs.lemmas.Str.Parse.{tells_all_ascii_digits}
use Rattle.script.specs.Words.{number_of}

own : IsNumeralModel (λ ds. all_ascii_digits ds ≡ true) (digits_value 10)
own = numerals_by_value (λ ds. all_ascii_digits ds ≡ true) tells_all_ascii_digits

abbrev test : List ℕ → Bool
test text = (nat_lt 0 (length text) && all_ascii_digits text)
    && nat_lt (digits_value 10 text) (2 ^ 64)

cases : {E : Type 0} (text : List ℕ) (r : Result ℕ E)
    → OkIff r ((all_ascii_digits text ≡ true) × (0 < length text) × (digits_value 10 text < 2 ^ 64))
    (digits_value 10 text)
    → (b : Bool) → test text ≡ b → result_ok r ≡ (if b then Some (digits_value 10 text) else None)
cases text (Ok x) h true e = ap Some h.1
cases text (Ok x) h false e = grind (arith, common_steps)
cases text (Err x) h true e = grind (arith, common_steps)
cases text (Err x) h false e = refl

-- what `parse` gives of a text with no plus in front is the number of the text
pub number_is : {E : Type 0} (text : List ℕ) (r : Result ℕ E) → ParsesUnsigned 64 10 text r
    → slice_index text 0 ≢ 43
    → result_ok r ≡ number_of text
number_is text r h plain = cases text r (parse_plain own 64 text r h plain) (test text) refl
