-- Lines that came one after another are those of the whole text.
use Rattle.std.proofs.Common.{◌≡◌, ◌∙◌, ℕ, Bool, true, false, List, [], ◌∷◌, ◌++◌, Option}
use Rattle.std.proofs.Common.{Some, None, IfSome, nat_eq, refl, ap, sym, subst, cond, length}
use Rattle.std.specs.Io.BufRead.{drop_through, take_through}
use Rattle.std.specs.List.{onto_first}
use Rattle.script.specs.Script.{lines_of}
use Rattle.rpmb_client.specs.Answer.{and_then, answer_in, answer_of, only, replies_of, reply_of}
use Rattle.rpmb_client.specs.Answer.{used_of}
use Rattle.rpmb_client.specs.Finding.{IsFinder, counted}
use Rattle.rpmb_client.specs.declared.choosing.Finder.{Finder}
use Rattle.rpmb_commands.specs.Explaining.{IsCut, IsNext, without_feed}
use Rattle.rpmb_commands.specs.ReadingData.{IsSought, replies_in}
use Rattle.rpmb_commands.proofs.Lines.{IsCut-push}

by_test : {P : Type 0} (b : Bool) → (b ≡ true → P) → (b ≡ false → P) → P
by_test true f g = f refl
by_test false f g = g refl

-- 1. The lines of a text are its first one, and the others

-- the lines behind the first line feed; none where there is none
abbrev other_lines : List ℕ → List (List ℕ)
other_lines [] = []
other_lines (x ∷ xs) = cond (nat_eq x 10) (lines_of xs) (other_lines xs)

without_feed-alone : (x : ℕ) → nat_eq x 10 ≡ true → without_feed (x ∷ []) ≡ []
without_feed-alone x is = rw is refl

without_feed-cons : (x : ℕ) (xs : List ℕ) → nat_eq x 10 ≡ false
    → without_feed (x ∷ xs) ≡ x ∷ without_feed xs
without_feed-cons x [] isnt = rw isnt refl
without_feed-cons x (y ∷ ys) isnt = refl

first_line : (text : List ℕ)
    → lines_of text ≡ without_feed (take_through 10 text) ∷ other_lines text
unfolding lines_of
first_line [] = refl
first_line (x ∷ xs) = by_test (nat_eq x 10) (λ is.
    rw is (ap (λ l. l ∷ lines_of xs) (sym (without_feed-alone x is)))) (λ isnt.
    rw isnt (ap (onto_first x) (first_line xs)
    ∙ ap (λ l. l ∷ other_lines xs) (sym (without_feed-cons x (take_through 10 xs) isnt))))

-- 2. Their replies

no_reply : (asked : Option (List ℕ)) → reply_of asked [] ≡ None
unfolding used_of
no_reply None = refl
no_reply (Some nonce) = refl

no_replies : (asked : Option (List ℕ)) → replies_of asked (lines_of []) ≡ []
unfolding lines_of replies_of
no_replies asked = ap (λ r. and_then r []) (no_reply asked)

other_replies : (asked : Option (List ℕ)) (text : List ℕ)
    → replies_of asked (other_lines text) ≡ replies_of asked (lines_of (drop_through 10 text))
unfolding replies_of
other_replies asked [] = sym (no_replies asked)
other_replies asked (x ∷ xs) = by_test (nat_eq x 10) (λ is. rw is refl) (λ isnt.
    rw isnt (other_replies asked xs))

replies-cons : (asked : Option (List ℕ)) (line : List ℕ) (lines : List (List ℕ))
    → replies_of asked (line ∷ lines) ≡ and_then (reply_of asked line) (replies_of asked lines)
unfolding replies_of
replies-cons asked line lines = refl

replies_cut : (asked : Option (List ℕ)) (text : List ℕ) (lines : List (List ℕ))
    → IsCut text lines [] → replies_of asked (lines_of text) ≡ replies_of asked lines
unfolding replies_of
replies_cut asked text [] cut = ap (λ t. replies_of asked (lines_of t)) cut ∙ no_replies asked
replies_cut asked text (line ∷ lines) cut =
    ap (replies_of asked) (first_line text)
    ∙ replies-cons asked (without_feed (take_through 10 text)) (other_lines text)
    ∙ ap (λ l. and_then (reply_of asked l) (replies_of asked (other_lines text))) (sym cut.1)
    ∙ ap (and_then (reply_of asked line)) (other_replies asked text
    ∙ replies_cut asked (drop_through 10 text) lines cut.2)
    ∙ sym (replies-cons asked line lines)

pub answer_cut : (nonce text : List ℕ) (lines : List (List ℕ)) → IsCut text lines []
    → answer_of nonce lines ≡ answer_in nonce text
unfolding answer_of
answer_cut nonce text lines cut =
    ap (λ us. cond (nat_eq (length us) 1) (only us) (only (replies_of (Some nonce) lines)))
    (sym (replies_cut None text lines cut))
    ∙ ap (λ us. cond (nat_eq (length (replies_of None (lines_of text))) 1)
    (only (replies_of None (lines_of text))) (only us))
    (sym (replies_cut (Some nonce) text lines cut))

pub counted_cut : (asked : Option (List ℕ)) (text : List ℕ) (lines : List (List ℕ))
    → IsCut text lines [] → counted (replies_of asked lines) ≡ counted (replies_in asked text)
counted_cut asked text lines cut = ap counted (sym (replies_cut asked text lines cut))

-- 3. What finds the answer, while lines come

-- so many of a text came that this is left
abbrev pub SoughtSoFar : List ℕ → (given left : Option (List ℕ)) → Finder → Type 0
SoughtSoFar nonce given left finder =
    IfSome given (λ text. (rest : List ℕ) × (left ≡ Some rest)
    × ((lines : List (List ℕ)) × IsCut text lines rest × IsFinder nonce lines finder))

pub sought_none : (nonce : List ℕ) (given : Option (List ℕ)) (finder : Finder)
    → IsFinder nonce [] finder → SoughtSoFar nonce given given finder
sought_none nonce None finder is = tt
sought_none nonce (Some text) finder is = (text, refl, ([], refl, is))

pub sought_more : (nonce : List ℕ) (given left after : Option (List ℕ)) (line : List ℕ)
    (old new : Finder) → SoughtSoFar nonce given left old
    → IfSome left (λ text. IsNext text true line after)
    → ((nonce : List ℕ) (lines : List (List ℕ)) → IsFinder nonce lines old
    → IsFinder nonce (lines ++ without_feed line ∷ []) new)
    → SoughtSoFar nonce given after new
sought_more nonce None left after line old new so more taken = tt
sought_more nonce (Some text) left after line old new so more taken =
    let rest = so.0 in
    let lines = so.2.0 in
    let n = subst (λ l. IfSome l (λ t. IsNext t true line after)) so.1 more in
    let piece = without_feed (take_through 10 rest) in (
      drop_through 10 rest,
      n.2,
      (
        lines ++ piece ∷ [],
        IsCut-push text rest lines so.2.1 n.0,
        subst (λ l. IsFinder nonce (lines ++ without_feed l ∷ []) new) n.1
            (taken nonce lines so.2.2),
      ),
    )

pub sought_all : (nonce : List ℕ) (given left after : Option (List ℕ)) (line : List ℕ)
    (finder : Finder) → SoughtSoFar nonce given left finder
    → IfSome left (λ text. IsNext text false line after)
    → IfSome given (λ text. IsSought nonce text finder)
sought_all nonce None left after line finder so more = tt
sought_all nonce (Some text) left after line finder so more =
    let n = subst (λ l. IfSome l (λ t. IsNext t false line after)) so.1 more in
    (so.2.0, subst (λ rest. IsCut text so.2.0 rest) n so.2.1, so.2.2)
