-- The lines of a text, told one after another.
use Rattle.std.proofs.Common.{◌≡◌, ◌≢◌, ◌∙◌, ℕ, Bool, true, false, List, [], ◌∷◌, ◌++◌, Option}
use Rattle.std.proofs.Common.{Some, None, IfSome, nat_eq, nat_lt, refl, ap, sym, subst, true-eqb}
use Rattle.std.proofs.Common.{Bor, map}
use Rattle.std.proofs.KnownBytes.{Appends-nil, Appends-trans}
use Rattle.std.proofs.lemmas.List.{append-nil, map_push}
use Rattle.std.proofs.lemmas.List.Concat.{flat_map-append}
use Rattle.std.proofs.lemmas.List.Folds.{list_any-append}
use Rattle.std.specs.Io.BufRead.{drop_through, take_through}
use Rattle.std.specs.Io.KnownBytes.{Appends}
use Rattle.std.specs.List.{flat_map, list_any}
use Rattle.std.specs.Prelude.{◌||◌}
use Rattle.rpmb_commands.specs.Explaining.{IsCut, IsNext, Judging, Said, SaysAll, has_refused}
use Rattle.rpmb_commands.specs.Explaining.{has_wrong, is_answer, line_told, without_feed}

by_test : {P : Type 0} (b : Bool) → (b ≡ true → P) → (b ≡ false → P) → P
by_test true f g = f refl
by_test false f g = g refl

pub without_feed-of_feed : (xs : List ℕ) → without_feed (xs ++ 10 ∷ []) ≡ xs
without_feed-of_feed [] = refl
without_feed-of_feed (x ∷ []) = refl
without_feed-of_feed (x ∷ y ∷ ys) = ap (λ r. x ∷ r) (without_feed-of_feed (y ∷ ys))

alone : (x : ℕ) → ((front : List ℕ) → x ∷ [] ≢ front ++ 10 ∷ []) → without_feed (x ∷ []) ≡ x ∷ []
alone x lacks = by_test (nat_eq x 10) (λ is.
    absurd (lacks [] (ap (λ n. n ∷ []) (true-eqb x 10 (sym is))))) (λ is. rw is refl)

pub without_feed-of_none : (bs : List ℕ) → ((front : List ℕ) → bs ≢ front ++ 10 ∷ [])
    → without_feed bs ≡ bs
without_feed-of_none [] lacks = refl
without_feed-of_none (x ∷ []) lacks = alone x lacks
without_feed-of_none (x ∷ y ∷ ys) lacks =
    ap (λ r. x ∷ r) (without_feed-of_none (y ∷ ys) (λ front is.
    lacks (x ∷ front) (ap (λ r. x ∷ r) is)))

-- one line more
pub IsCut-push : (text rest : List ℕ) (lines : List (List ℕ)) → IsCut text lines rest → rest ≢ []
    → IsCut text (lines ++ without_feed (take_through 10 rest) ∷ []) (drop_through 10 rest)
IsCut-push text rest [] cut some =
    let P : List ℕ → Type 0 = λ t. IsCut t (without_feed (take_through 10 rest) ∷ [])
    (drop_through 10 rest) in
    subst P (sym cut) (some, refl, refl)
IsCut-push text rest (line ∷ lines) cut some =
    (cut.0, cut.1, IsCut-push (drop_through 10 text) rest lines cut.2 some)

pub flat_map-push : (f : List ℕ → List ℕ) (lines : List (List ℕ)) (line : List ℕ)
    → flat_map f (lines ++ line ∷ []) ≡ flat_map f lines ++ f line
flat_map-push f lines line = flat_map-append f lines (line ∷ [])
    ∙ ap (λ r. flat_map f lines ++ r) (append-nil (f line))

or_false : (b : Bool) → (b || false) ≡ b
or_false true = refl
or_false false = refl

or_swapped : (a b : Bool) → (a || b) ≡ (b || a)
or_swapped true true = refl
or_swapped true false = refl
or_swapped false true = refl
or_swapped false false = refl

pub list_any-push : (p : List ℕ → Bool) (lines : List (List ℕ)) (line : List ℕ)
    → list_any p (lines ++ line ∷ []) ≡ (list_any p lines || p line)
list_any-push p lines line = list_any-append p lines (line ∷ [])
    ∙ ap (λ b. list_any p lines || b) (or_false (p line))

-- whether one of the texts that were given so far passes a test, with the next one
pub any_so_far : (p : List ℕ → Bool) (given : List (Bor (List ℕ))) (next : Bor (List ℕ))
    (before : Bool) → before ≡ list_any p (map (λ t. t.now) given)
    → (now : Bool) → (before || p next.now) ≡ now
    → now ≡ list_any p (map (λ t. t.now) (given ++ next ∷ []))
any_so_far p given next before so_far now is =
    sym is ∙ ap (λ b. b || p next.now) so_far
    ∙ sym (list_any-push p (map (λ t. t.now) given) next.now)
    ∙ sym (ap (list_any p) (map_push (λ t. t.now) given next))

-- what was told of a text so far, of which this is left
abbrev pub SoFar : Judging → (given left start now : Option (List ℕ)) → (wrong refused : ℕ) → Bool
    → Type 0
SoFar by given left start now wrong refused has_answer =
    IfSome given (λ text. (rest : List ℕ) × (left ≡ Some rest)
    × Said by text rest start now wrong refused has_answer)

pub said_none : (by : Judging) (given start : Option (List ℕ)) (wrong refused : ℕ)
    (has_answer : Bool) → wrong ≡ 0 → refused ≡ 0 → has_answer ≡ false
    → SoFar by given given start start wrong refused has_answer
said_none by None start wrong refused has_answer w r l = tt
said_none by (Some text) start wrong refused has_answer w r l = (
  text,
  refl,
  record {
    lines = [];
    cut = refl;
    printed = Appends-nil start;
    wrong_is = rw w refl;
    refused_is = rw r refl;
    answer_is = l;
  },
)

pub said_more : (by : Judging) (given left after start now next : Option (List ℕ))
    (wrong refused wrong' refused' : ℕ) (has_answer has_answer' : Bool) (line : List ℕ)
    → SoFar by given left start now wrong refused has_answer
    → IfSome left (λ text. IsNext text true line after)
    → Appends now next (line_told by (without_feed line))
    → nat_lt 0 wrong' ≡ (nat_lt 0 wrong || has_wrong by (without_feed line))
    → nat_lt 0 refused' ≡ (nat_lt 0 refused || has_refused (without_feed line))
    → has_answer' ≡ (is_answer (without_feed line) || has_answer)
    → SoFar by given after start next wrong' refused' has_answer'
said_more by None left after start now next wrong refused wrong' refused' has_answer has_answer'
    line so
    more told w r l = tt
said_more by (Some text) left after start now next wrong refused wrong' refused' has_answer
    has_answer'
    line so more told w r l =
    let rest = so.0 in
    let said = so.2 in
    let n = subst (λ l. IfSome l (λ t. IsNext t true line after)) so.1 more in
    let piece = without_feed (take_through 10 rest) in
    let told' = subst (λ l. Appends now next (line_told by (without_feed l))) n.1 told in
    let w' = subst (λ l. nat_lt 0 wrong' ≡ (nat_lt 0 wrong || has_wrong by (without_feed l))) n.1 w
    in
    let r' = subst (λ l. nat_lt 0 refused' ≡ (nat_lt 0 refused || has_refused (without_feed l))) n.1
    r in
    let l' = subst (λ l. has_answer' ≡ (is_answer (without_feed l) || has_answer)) n.1 l in (
      drop_through 10 rest,
      n.2,
      record {
        lines = said.lines ++ piece ∷ [];
        cut = IsCut-push text rest said.lines said.cut n.0;
        printed = subst (Appends start next) (sym (flat_map-push (line_told by) said.lines piece))
            (Appends-trans start now next _ _ said.printed told');
        wrong_is = w' ∙ ap (λ b. b || has_wrong by piece) said.wrong_is
            ∙ sym (list_any-push (has_wrong by) said.lines piece);
        refused_is = r' ∙ ap (λ b. b || has_refused piece) said.refused_is
            ∙ sym (list_any-push has_refused said.lines piece);
        answer_is = l' ∙ or_swapped (is_answer piece) has_answer
            ∙ ap (λ b. b || is_answer piece) said.answer_is
            ∙ sym (list_any-push is_answer said.lines piece);
      },
    )

pub said_all : (by : Judging) (given left after start now : Option (List ℕ)) (wrong refused : ℕ)
    (has_answer : Bool) (line : List ℕ) → SoFar by given left start now wrong refused has_answer
    → IfSome left (λ text. IsNext text false line after)
    → SaysAll by given start now wrong refused has_answer
said_all by None left after start now wrong refused has_answer line so more = tt
said_all by (Some text) left after start now wrong refused has_answer line so more =
    let n = subst (λ l. IfSome l (λ t. IsNext t false line after)) so.1 more in
    subst (λ rest. Said by text rest start now wrong refused has_answer) n so.2
