-- Lines that say nothing, refusals, and the first bad line of a script.
use Rattle.std.proofs.Common.{◌≡◌, ◌≢◌, ◌∙◌, ◌<◌, ◌+◌, ℕ, zero, suc, Bor, List, Option, [], ◌∷◌}
use Rattle.std.proofs.Common.{length, map, take, get_or, Some, None, refl, ap, arith, sym}
use Rattle.std.proofs.lemmas.List.{length-map}
use Rattle.script.specs.Line.{Said, line_of_words, said}
use Rattle.script.specs.Refusal.{IfBad}
use Rattle.script.specs.Script.{first_none}
use Rattle.script.specs.declared.fault.LineError.{LineError}
use Rattle.script.specs.declared.fault.LineError.TheVariants as refusal
use Rattle.script.specs.declared.line.Line.{Line}
use Rattle.script.specs.Refusal.{IfBadLine}
use Rattle.script.specs.declared.fault.ScriptError.{ScriptError}
use Rattle.script.specs.declared.fault.ScriptError.TheVariants as script

-- a line that says something has two words or four
pub line_of_words-none : (g : ℕ) (words : List (Bor (List ℕ))) → length words ≢ 2 → length words ≢ 4
    → line_of_words g (map (λ w. w.now) words) ≡ None
line_of_words-none g [] two four = refl
line_of_words-none g (a ∷ []) two four = refl
line_of_words-none g (a ∷ b ∷ []) two four = absurd (two refl)
line_of_words-none g (a ∷ b ∷ c ∷ []) two four = refl
line_of_words-none g (a ∷ b ∷ c ∷ d ∷ []) two four = absurd (four refl)
line_of_words-none g (a ∷ b ∷ c ∷ d ∷ e ∷ more) two four = refl

-- the lines before it were read
first_none_at : (reads : List ℕ → Option Said) (lines : List (List ℕ)) (k : ℕ) (d : List ℕ)
    (read : List Line)
    → map (λ x. Some (said x)) read ≡ map reads (take k lines) → k < length lines
    → reads (get_or lines k d) ≡ None → first_none reads lines ≡ Some (k + 1)
unfolding first_none
first_none_at reads [] k d read done lt bad = absurd (omega (arith, lt))
first_none_at reads (l ∷ ls) zero d read done lt bad = rw bad refl
first_none_at reads (l ∷ ls) (suc k) d [] done lt bad = cc
first_none_at reads (l ∷ ls) (suc k) d (x ∷ xs) done lt bad =
    let here : Some (said x) ≡ reads l = cc in
    let rest : map (λ x. Some (said x)) xs ≡ map reads (take k ls) = cc in
    let later = first_none_at reads ls k d xs rest (omega (arith, lt)) bad in
    rw (← here) (rw later (ap Some (omega arith)))

-- the same, where an iterator has given the lines before it and then the line
pub first_none_next : (reads : List ℕ → Option Said) (lines : List (List ℕ))
    (given : List (Bor (List ℕ))) (line : List ℕ) (read : List Line)
    → map (λ x. Some (said x)) read ≡ map reads (map (λ t. t.now) given)
    → map (λ t. t.now) given ≡ take (length given) lines → length given < length lines
    → line ≡ get_or lines (length given) line → reads line ≡ None → first_none reads lines
    ≡ Some (length read + 1)
first_none_next reads lines given line read done before lt is bad =
    let as_many : length read ≡ length given =
    sym (length-map read (λ x. Some (said x))) ∙ ap length done
    ∙ length-map (map (λ t. t.now) given) reads
    ∙ length-map given (λ t. t.now) in
    first_none_at reads lines (length given) line read (done ∙ ap (map reads) before) lt
    (ap reads (sym is) ∙ bad)
    ∙ ap (λ n. Some (n + 1)) (sym as_many)

-- where each line was read, none is bad
pub all_read : (reads : List ℕ → Option Said) (lines : List (List ℕ)) (read : List Line)
    → map (λ x. Some (said x)) read ≡ map reads lines → first_none reads lines ≡ None
unfolding first_none
all_read reads [] read done = refl
all_read reads (l ∷ ls) [] done = cc
all_read reads (l ∷ ls) (x ∷ xs) done =
    let here : Some (said x) ≡ reads l = cc in
    let rest : map (λ x. Some (said x)) xs ≡ map reads ls = cc in
    let later = all_read reads ls xs rest in
    rw (← here) (rw later refl)

-- what holds, holds where the line is refused for what it says
pub if_bad : (holds : Type 0) (why : LineError) → holds → IfBad holds why
if_bad holds (refusal.BadScript flaw) is = is
if_bad holds refusal.NoMemory is = tt

-- what follows of a number follows of that of a refused line
pub if_bad_line : {P Q : ℕ → Type 0} → ((n : ℕ) → P n → Q n) → (refused : ScriptError)
    → IfBadLine P refused → IfBadLine Q refused
if_bad_line follows (script.BadScript number flaw) holds = follows number holds
if_bad_line follows script.NoMemory holds = holds
