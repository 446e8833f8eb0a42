-- What lines print, one after another.
use Rattle.std.proofs.Common.{◌≡◌, ℕ, suc, List, [], ◌∷◌, ◌++◌, Option, Some, None, length, map}
use Rattle.std.proofs.Common.{refl, ap, ap₂, sym, ◌∙◌, arith}
use Rattle.commands.proofs.Common.{append_assoc, append-nil, IsWithin, Said, Line, All, Told}
use Rattle.commands.proofs.Common.{printed_by, told_after, told_by, transcript, AreWithin, IsSized}
use Rattle.script.specs.Line.{said}
use Rattle.script.specs.Script.{first_none}

-- a line more at the end
pub told_after-append : (t : Told) (lines : List Said) (line : Said)
    → told_after t (lines ++ line ∷ []) ≡ told_by (told_after t lines) line
unfolding told_after
told_after-append t [] line = refl
told_after-append t (first ∷ lines) line = told_after-append (told_by t first) lines line

pub transcript-append : (t : Told) (lines : List Said) (line : Said)
    → transcript t (lines ++ line ∷ []) ≡ transcript t lines ++ printed_by (told_after t lines) line
unfolding transcript told_after
transcript-append t [] line = append-nil (printed_by t line)
transcript-append t (first ∷ lines) line =
    ap (λ bytes. printed_by t first ++ bytes) (transcript-append (told_by t first) lines line)
    ∙ sym (append_assoc (printed_by t first) (transcript (told_by t first) lines)
    (printed_by (told_after (told_by t first) lines) line))

pub rest_sized : (line : Line) (rest : List Line) → All (λ l. IsSized (said l)) (line ∷ rest)
    → All (λ l. IsSized (said l)) rest
rest_sized line rest are = λ k d below. are (suc k) d (omega (arith, below))

pub head_within : (guests : ℕ) (line : Line) (rest : List Line) → AreWithin guests (line ∷ rest)
    → IsWithin guests (said line)
head_within guests line rest are = are 0 line (omega arith)

pub rest_within : (guests : ℕ) (line : Line) (rest : List Line) → AreWithin guests (line ∷ rest)
    → AreWithin guests rest
rest_within guests line rest are = λ k d below. are (suc k) d (omega (arith, below))

pub none_left : (lines : List Line) (n : ℕ) → n ≡ 0 → n ≡ length lines → lines ≡ []
none_left [] n zero_is long = refl
none_left (line ∷ lines) n zero_is long = absurd (omega (arith, zero_is, long))

-- the lines that a text says are the only ones
pub same_lines : (xs ys : List Said) → map Some xs ≡ map Some ys → xs ≡ ys
same_lines [] [] same = refl
same_lines [] (y ∷ ys) same = absurd (cc)
same_lines (x ∷ xs) [] same = absurd (cc)
same_lines (x ∷ xs) (y ∷ ys) same = let head : x ≡ y = cc in let tail : map Some xs ≡ map Some ys =
    cc in ap₂ (λ a b. a ∷ b) head (same_lines xs ys tail)

-- a script that was read says what its lines say
somes_said : (read : List Line) → map Some (map said read) ≡ map (λ line. Some (said line)) read
somes_said [] = refl
somes_said (line ∷ lines) = ap (λ r. Some (said line) ∷ r) (somes_said lines)

pub says_same : (lines : List Said) (read : List Line) (found : List (Option Said))
    → map Some lines ≡ found → map (λ line. Some (said line)) read ≡ found → lines ≡ map said read
says_same lines read found is was =
    same_lines lines (map said read) (is ∙ sym was ∙ sym (somes_said read))

-- and has no bad line
pub said_good : (reads : List ℕ → Option Said) (lines : List Said) (texts : List (List ℕ))
    → map Some lines ≡ map reads texts → first_none reads texts ≡ None
unfolding first_none
said_good reads lines [] is = refl
said_good reads [] (text ∷ texts) is = absurd (cc)
said_good reads (line ∷ lines) (text ∷ texts) is =
    let here : reads text ≡ Some line = cc in
    let tail : map Some lines ≡ map reads texts = cc in
    rw (here, said_good reads lines texts tail) refl

pub none_bad : (reads : List ℕ → Option Said) (read : List Line) (texts : List (List ℕ))
    → map (λ line. Some (said line)) read ≡ map reads texts → first_none reads texts ≡ None
none_bad reads read texts was = said_good reads (map said read) texts (somes_said read ∙ was)

none_is_not : (n : ℕ) → None ≡ Some n → ⊥
none_is_not n e = absurd (cc)

pub not_bad : (n : ℕ) (o : Option ℕ) → o ≡ None → o ≡ Some n → ⊥
not_bad n o none some = none_is_not n (sym none ∙ some)
