-- A line that was made reads as its chain.
use Rattle.std.proofs.Common.{◌≡◌, ◌≢◌, ◌∙◌, ◌<◌, ◌+◌, ◌^◌, ℕ, zero, suc, All, Bool, true, false}
use Rattle.std.proofs.Common.{nat_lt, List, [], ◌∷◌, ◌++◌, Some, Ok, codes, length, get_or, refl}
use Rattle.std.proofs.Common.{ap, subst, arith, eqb, ◌%◌, append_assoc, length-append}
use Rattle.std.specs.Prelude.{nat_le}
use Rattle.std.specs.Fmt.{decimal}
use Rattle.std.specs.List.{slice_split}
use Rattle.std.specs.Str.{all_ascii_digits, bytes_eq}
use Rattle.std.specs.Str.Parse.{digits_value}
use Rattle.std.proofs.lemmas.Bool.Decides.{nat_tests}
use Rattle.std.proofs.lemmas.Fmt.{decimal_by_steps, digits_decimal, digits_value-decimal}
use Rattle.std.proofs.lemmas.Grind.{common_steps}
use Rattle.std.proofs.lemmas.List.Splits.{slice_split_at, slice_split_none}
use Rattle.std.proofs.lemmas.Str.Parse.{IsNumeralModel, numerals_by_value, tells_all_ascii_digits}
use Rattle.hex.specs.Hex.{IsBytes, decode_of, encode_lower, is_hex_digit}
use Rattle.hex.proofs.HexLemmas.{decode_of-encode_lower, decode_of-ok}
use Rattle.script.specs.Line.{chain, chain_line, is_skipped, line_of}
use Rattle.script.specs.Words.{bytes_of, number_of, shown, words_of}
use Rattle.rpmb_client.specs.Chain.{chain_text}
use Rattle.rpmb_client.specs.Laws.{LinesAreRead}

own : IsNumeralModel (λ ds. all_ascii_digits ds ≡ true) (digits_value 10)
own = numerals_by_value (λ ds. all_ascii_digits ds ≡ true) tells_all_ascii_digits

-- no space
abbrev Spaceless : List ℕ → Type 0
Spaceless word = All (λ b. eqb b 32 ≡ false) word

digits_spaceless : (ds : List ℕ) → all_ascii_digits ds ≡ true → Spaceless ds
digits_spaceless [] h k d below = absurd (omega (arith, below))
digits_spaceless (c ∷ cs) h zero d below = grind (arith, common_steps, nat_tests)
digits_spaceless (c ∷ cs) h (suc k) d below = digits_spaceless cs (grind (arith, common_steps)) k d
    (omega (arith, below))

has_digits : (n : ℕ) → n < 2 ^ 64 → all_ascii_digits (decimal n) ≡ true
has_digits n small = digits_decimal own n small

some_digit : (n : ℕ) → n < 2 ^ 64 → 0 < length (decimal n)
some_digit n small = decimal_by_steps (λ m ds. 0 < length ds) (λ m below. omega arith)
    (λ m ds ten more. omega (arith, length-append ds ((48 + m % 10) ∷ []))) n small

number_is : (n : ℕ) → n < 2 ^ 64 → number_of (decimal n) ≡ Some n
number_is n small =
    let value : digits_value 10 (decimal n) ≡ n = digits_value-decimal own n small in
    let some : nat_lt 0 (length (decimal n)) ≡ true =
    grind (arith, nat_tests, some_digit n small) in
    let fits : nat_lt n (2 ^ 64) ≡ true = grind (arith, nat_tests) in
    rw (has_digits n small, some, value, fits) refl

by_test : {P : Type 0} (b : Bool) → (b ≡ true → P) → (b ≡ false → P) → P
by_test true f g = f refl
by_test false f g = g refl

digit_is : (c : ℕ) → is_hex_digit c ≡ true → eqb c 32 ≡ false
digit_is c digit =
    by_test (eqb c 32)
    (λ is. let space : c ≡ 32 = grind (arith, nat_tests) in
    let bad : is_hex_digit 32 ≡ true = subst (λ x. is_hex_digit x ≡ true) space digit in
    absurd (cc bad))
    (λ other. other)

hex_spaceless : (bytes : List ℕ) → IsBytes bytes → Spaceless (encode_lower bytes)
hex_spaceless bytes are =
    let digits = (decode_of-ok (encode_lower bytes) bytes (decode_of-encode_lower bytes are)).1 in
    λ k d below. digit_is (get_or (encode_lower bytes) k d) (digits k d below)

dash : (k d : ℕ) → k < 1 → eqb (get_or (codes "-") k d) 32 ≡ false
dash zero d below = refl
dash (suc k) d below = absurd (omega (arith, below))

shown_spaceless : (bytes : List ℕ) → IsBytes bytes → Spaceless (shown bytes)
shown_spaceless [] are = dash
shown_spaceless (b ∷ bs) are = hex_spaceless (b ∷ bs) are

not_dash : (word : List ℕ) → length word ≢ 1 → bytes_eq word (codes "-") ≡ false
not_dash [] other = refl
not_dash (c ∷ []) other = absurd (other refl)
not_dash (c ∷ d ∷ more) other = by_test (eqb c 45) (λ is. rw is refl) (λ is. rw is refl)

by_parts : (word bytes : List ℕ) → bytes_eq word (codes "-") ≡ false → eqb (length word) 0 ≡ false
    → decode_of word ≡ Ok bytes → bytes_of word ≡ Some bytes
by_parts word bytes dash empty back = rw (dash, empty, back) refl

shown_is : (bytes : List ℕ) → IsBytes bytes → bytes_of (shown bytes) ≡ Some bytes
shown_is [] are = refl
shown_is (b ∷ bs) are =
    let back : decode_of (encode_lower (b ∷ bs)) ≡ Ok (b ∷ bs) =
    decode_of-encode_lower (b ∷ bs) are in
    let long = (decode_of-ok (encode_lower (b ∷ bs)) (b ∷ bs) back).2 in
    let other : bytes_eq (encode_lower (b ∷ bs)) (codes "-") ≡ false =
    not_dash (encode_lower (b ∷ bs)) (λ one. absurd (omega (arith, long, one))) in
    let some : eqb (length (encode_lower (b ∷ bs))) 0 ≡ false = grind (arith, nat_tests, long) in
    by_parts (encode_lower (b ∷ bs)) (b ∷ bs) other some back

chain_word : (k d : ℕ) → k < 5 → eqb (get_or (codes "chain") k d) 32 ≡ false
chain_word zero d below = refl
chain_word (suc zero) d below = refl
chain_word (suc (suc zero)) d below = refl
chain_word (suc (suc (suc zero))) d below = refl
chain_word (suc (suc (suc (suc zero)))) d below = refl
chain_word (suc (suc (suc (suc (suc k))))) d below = absurd (omega (arith, below))

-- the parts of a line, each behind its space
parted : (g h w : List ℕ) → codes "chain " ++ g ++ codes " " ++ h ++ codes " " ++ w ≡ codes "chain"
    ++ 32 ∷ (g ++ 32 ∷ (h ++ 32 ∷ w))
parted g h w =
    let a = codes "chain " in
    append_assoc (a ++ g ++ codes " " ++ h) (codes " ") w
    ∙ append_assoc (a ++ g ++ codes " ") h (32 ∷ w)
    ∙ append_assoc (a ++ g) (codes " ") (h ++ 32 ∷ w)
    ∙ append_assoc a g (32 ∷ (h ++ 32 ∷ w))

not_skipped : (rest : List ℕ) → is_skipped (99 ∷ rest) ≡ false
not_skipped rest =
    let some : eqb (length (99 ∷ rest)) 0 ≡ false = grind (arith, nat_tests) in
    rw some refl

read_parts : (guests guest writable : ℕ) (readable g h w : List ℕ) → number_of g ≡ Some guest
    → number_of w ≡ Some writable → bytes_of h ≡ Some readable
    → nat_lt guest guests ≡ true → nat_le (length readable) 8704 ≡ true
    → nat_le writable 8192 ≡ true → nat_lt 0 (length readable + writable) ≡ true
    → chain_line guests g h w ≡ Some (chain guest readable writable)
read_parts guests guest writable readable g h w is_g is_w is_h within short narrow some =
    rw (is_g, is_w, is_h, within, short, narrow, some) refl

words_are : (guest writable : ℕ) (readable : List ℕ) → guest < 2 ^ 64 → writable < 2 ^ 64
    → IsBytes readable
    → words_of (chain_text guest readable writable) ≡ codes "chain" ∷ decimal guest ∷ shown readable
    ∷ decimal writable ∷ []
unfolding chain_text
words_are guest writable readable g w are =
    let parts = slice_split (λ b. eqb b 32) in
    let whole : chain_text guest readable writable ≡ codes "chain" ++ 32
    ∷ (decimal guest ++ 32 ∷ (shown readable ++ 32 ∷ decimal writable)) =
    parted (decimal guest) (shown readable) (decimal writable) in
    ap parts whole
    ∙ slice_split_at (λ b. eqb b 32) (codes "chain") 32 (decimal guest ++ 32
    ∷ (shown readable ++ 32 ∷ decimal writable)) chain_word refl
    ∙ ap (λ rest. codes "chain" ∷ rest)
    (slice_split_at (λ b. eqb b 32) (decimal guest) 32 (shown readable ++ 32 ∷ decimal writable)
    (digits_spaceless _ (has_digits guest g)) refl
    ∙ ap (λ rest. decimal guest ∷ rest)
    (slice_split_at (λ b. eqb b 32) (shown readable) 32 (decimal writable)
    (shown_spaceless readable are) refl
    ∙ ap (λ rest. shown readable ∷ rest) (slice_split_none (λ b. eqb b 32) (decimal writable)
    (digits_spaceless _ (has_digits writable w)))))

pub lines_are_read : LinesAreRead
unfolding line_of chain_text
lines_are_read guests guest writable readable few is are short narrow some =
    let g : guest < 2 ^ 64 = omega (arith, few, is) in
    let w : writable < 2 ^ 64 = omega (arith, narrow) in
    let within : nat_lt guest guests ≡ true = grind (arith, nat_tests) in
    let fits : nat_le (length readable) 8704 ≡ true = grind (arith, nat_tests) in
    let room : nat_le writable 8192 ≡ true = grind (arith, nat_tests) in
    let any : nat_lt 0 (length readable + writable) ≡ true = grind (arith, nat_tests) in
    let skipped : is_skipped (chain_text guest readable writable) ≡ false =
    ap is_skipped (parted (decimal guest) (shown readable) (decimal writable))
    ∙ not_skipped (codes "hain" ++ 32
    ∷ (decimal guest ++ 32 ∷ (shown readable ++ 32 ∷ decimal writable))) in
    rw (skipped, words_are guest writable readable g w are)
    (read_parts guests guest writable readable (decimal guest) (shown readable) (decimal writable)
    (number_is guest g) (number_is writable w) (shown_is readable are) within fits room any)
