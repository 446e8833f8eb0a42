-- A text that a writer takes front by front.
use Rattle.std.proofs.Common.{◌≡◌, ℕ, ◌+◌, ◌≤◌, List, ◌++◌, Option, length, subst, sym, ◌∙◌, ap}
use Rattle.std.proofs.Common.{ap₂, take, drop, arith}
use Rattle.commands.proofs.Common.{Appends-kept, Appends-nil, Appends-trans, Appends, Keeps, Takes}
use Rattle.std.proofs.lemmas.List.{drop-take, length-drop, take-append-drop, take-take}

-- the writer took so many bytes of the text
pub record Took (start now : Option (List ℕ)) (text : List ℕ) (taken : ℕ) : Type 0 where
  pub within : taken ≤ length text
  pub appended : Appends start now (take taken text)

take_add : (text : List ℕ) (n m : ℕ) → take n text ++ take m (drop n text) ≡ take (n + m) text
take_add text n m =
    ap₂ (λ (a b : List ℕ). a ++ b) (sym (take-take n (n + m) text (omega arith)))
    (sym (drop-take n m text))
    ∙ take-append-drop n (take (n + m) text)

pub took_more : (start now next : Option (List ℕ)) (text rest : List ℕ) (taken count : ℕ)
    → Took start now text taken → rest ≡ drop taken text
    → count ≤ length rest → Appends now next (take count rest)
    → Took start next text (taken + count)
took_more start now next text rest taken count t is fits more = record {
  within = (let e = ap length is in let l = length-drop taken text in let w = t.within in
      omega (arith, fits, e, l, w));
  appended = subst (Appends start next) (ap (λ r. take taken text ++ take count r) is
      ∙ take_add text taken count)
      (Appends-trans start now next (take taken text) (take count rest) t.appended more);
}

pub took_kept : (start now next : Option (List ℕ)) (text : List ℕ) (taken : ℕ)
    → Took start now text taken → Keeps now next → Took start next text taken
took_kept start now next text taken t kept =
    record {
      within = t.within;
      appended = Appends-kept start now next (take taken text) t.appended
          kept;
    }

pub takes : (start now : Option (List ℕ)) (text : List ℕ) (taken : ℕ) → Took start now text taken
    → Takes start now text
takes start now text taken t = record {
  front = take taken text;
  rest = drop taken text;
  parts = sym (take-append-drop taken text);
  appended = t.appended;
}

pub takes_kept : (start now next : Option (List ℕ)) (text : List ℕ) (taken : ℕ)
    → Took start now text taken → Keeps now next → Takes start next text
takes_kept start now next text taken t kept =
    takes start next text taken (took_kept start now next text taken t kept)
