-- A string that a JSON writer wrote.
use Rattle.std.proofs.Common.{◌≡◌, ◌∙◌, ◌++◌, ◌∷◌, ℕ, List, [], OnOk, Ok, Result, ap, ap₂, subst}
use Rattle.std.proofs.lemmas.List.{append-nil}
use Rattle.json.specs.Print.{print, print_from, quoted}
use Rattle.json.specs.Token.{Token, string}
use Rattle.json.specs.Written.{Writes, Written}

print_string : (text : List ℕ) → print (string text ∷ []) ≡ quoted text
unfolding print_from
print_string text = append-nil (quoted text)

-- the bytes of a writer that was empty, and wrote this string
pub string_written : {E : Type 0} (r : Result (Unit {0}) E) (u : Unit {0}) (old new : Written)
    (start items text : List ℕ) → r ≡ Ok u → Writes r old new (string text)
    → start ≡ [] → old.before ≡ start → old.tokens ≡ []
    → items ≡ new.before ++ print new.tokens → items ≡ quoted text
string_written r u old new start items text done writes empty before tokens is =
    let more = subst (λ x. OnOk x (new.tokens ≡ old.tokens ++ string text ∷ [])) done writes.ok in
    is ∙ ap₂ (λ (x : List ℕ) (y : List Token). x ++ print y)
    (writes.room.0 ∙ before ∙ empty)
    (more ∙ ap (λ (l : List Token). l ++ string text ∷ []) tokens) ∙ print_string text
