-- What is found in a list: the key of a guest, and the replies of lines.
use Rattle.std.proofs.Common.{◌≡◌, ◌∙◌, ◌<◌, ◌+◌, ℕ, true, false, List, Option, Some, None, []}
use Rattle.std.proofs.Common.{arith}
use Rattle.std.proofs.Common.{if◌then◌else◌, ◌∷◌, ◌++◌, length, drop, get_or, nat_eq, refl, ap, sym}
use Rattle.std.proofs.Common.{Bool, is_some, length-append, min, option_map}
use Rattle.std.proofs.lemmas.List.{append-nil, drop_more}
use Rattle.std.proofs.lemmas.Bool.Decides.{nat_tests}
use Rattle.rpmb_client.specs.Answer.{Used, and_then, answer_of, only, replies_of, reply_of}
use Rattle.rpmb_client.specs.Finding.{Kept, count_after, counted, kept_after, kept_of, most}
use Rattle.rpmb_client.specs.Finding.{only_kept, or_else}
use Rattle.rpmb_client.specs.Keys.{key_at, pairs_of}
use Rattle.rpmb_client.specs.Seen.{used_seen}
use Rattle.rpmb_client.specs.declared.answer.Used as used
use Rattle.rpmb_client.specs.declared.keys.GuestKey.{GuestKey}

key_at-first : (entry : GuestKey) (keys : List GuestKey) (guest : ℕ) → nat_eq entry.guest guest
    ≡ true
    → key_at (pairs_of (entry ∷ keys)) guest ≡ Some entry.key
unfolding key_at
key_at-first entry keys guest is = rw is refl

key_at-next : (entry : GuestKey) (keys : List GuestKey) (guest : ℕ) → nat_eq entry.guest guest
    ≡ false
    → key_at (pairs_of (entry ∷ keys)) guest ≡ key_at (pairs_of keys) guest
unfolding key_at
key_at-next entry keys guest is = rw is refl

-- the entry at a place, looked for from there on
pub key_at_place : (keys : List GuestKey) (i guest : ℕ) (d : GuestKey) → i < length keys
    → nat_eq (get_or keys i d).guest guest ≡ true
    → key_at (pairs_of (drop i keys)) guest ≡ key_at (pairs_of keys) guest
    → Some (get_or keys i d).key ≡ key_at (pairs_of keys) guest
key_at_place keys i guest d lt is same =
    sym (ap (λ ks. key_at (pairs_of ks) guest) (drop_more keys i d lt)
    ∙ key_at-first (get_or keys i d) (drop (i + 1) keys) guest is) ∙ same

pub key_past_place : (keys : List GuestKey) (i guest : ℕ) (d : GuestKey) → i < length keys
    → nat_eq (get_or keys i d).guest guest ≡ false
    → key_at (pairs_of (drop i keys)) guest ≡ key_at (pairs_of keys) guest
    → key_at (pairs_of (drop (i + 1) keys)) guest ≡ key_at (pairs_of keys) guest
key_past_place keys i guest d lt is same =
    sym (ap (λ ks. key_at (pairs_of ks) guest) (drop_more keys i d lt)
    ∙ key_at-next (get_or keys i d) (drop (i + 1) keys) guest is) ∙ same

pub no_key : (guest : ℕ) → key_at (pairs_of []) guest ≡ None
unfolding key_at
no_key guest = refl

pub no_replies : (asked : Option (List ℕ)) → [] ≡ replies_of asked []
unfolding replies_of
no_replies asked = refl

and_then-append : (read : Option Used) (us vs : List Used) → and_then read us
    ++ vs ≡ and_then read (us ++ vs)
and_then-append None us vs = refl
and_then-append (Some u) us vs = refl

-- one line more
pub replies_of-push : (asked : Option (List ℕ)) (lines : List (List ℕ)) (line : List ℕ)
    → replies_of asked (lines ++ line ∷ []) ≡ replies_of asked lines
    ++ and_then (reply_of asked line) []
unfolding replies_of
replies_of-push asked [] line = refl
replies_of-push asked (l ∷ ls) line =
    ap (and_then (reply_of asked l)) (replies_of-push asked ls line)
    ∙ sym (and_then-append (reply_of asked l) (replies_of asked ls)
    (and_then (reply_of asked line) []))

-- what is kept with one reply more
kept_of-push : (us : List Used) (read : Option Used)
    → kept_of (us ++ and_then read []) ≡ kept_after (kept_of us) read
unfolding kept_of
kept_of-push us None = ap kept_of (append-nil us)
kept_of-push [] (Some u) = refl
kept_of-push (a ∷ []) (Some u) = refl
kept_of-push (a ∷ b ∷ us) (Some u) = refl

pub kept_more : (asked : Option (List ℕ)) (lines : List (List ℕ)) (line : List ℕ)
    (old new : Kept) (read : Option Used) → old ≡ kept_of (replies_of asked lines)
    → read ≡ reply_of asked line → new ≡ kept_after old read
    → new ≡ kept_of (replies_of asked (lines ++ line ∷ []))
kept_more asked lines line old new read was is now =
    now ∙ ap (λ k. kept_after k read) was ∙ sym (kept_of-push (replies_of asked lines) read)
    ∙ ap (λ r. kept_of (replies_of asked lines ++ and_then r [])) is
    ∙ ap kept_of (sym (replies_of-push asked lines line))

counted_next : (n : ℕ) → min (n + 1) most ≡ min (min n most + 1) most
counted_next n = grind (arith)

-- and how many there are
counted-push : (us : List Used) (read : Option Used)
    → counted (us ++ and_then read []) ≡ count_after (counted us) (is_some read)
counted-push us None = ap counted (append-nil us)
counted-push us (Some u) =
    ap (λ n. min n most) (length-append us (u ∷ [])) ∙ counted_next (length us)

is_some_seen : (read : Option used.Used) → is_some read ≡ is_some (option_map used_seen read)
is_some_seen None = refl
is_some_seen (Some u) = refl

pub counted_more : (asked : Option (List ℕ)) (lines : List (List ℕ)) (line : List ℕ) (old new : ℕ)
    (is_one : Bool) (read : Option used.Used) → old ≡ counted (replies_of asked lines)
    → option_map used_seen read ≡ reply_of asked line → is_one ≡ is_some read
    → new ≡ count_after old is_one
    → new ≡ counted (replies_of asked (lines ++ line ∷ []))
counted_more asked lines line old new is_one read was is one now =
    now ∙ ap (λ n. count_after n is_one) was
    ∙ ap (count_after (counted (replies_of asked lines))) (one ∙ is_some_seen read)
    ∙ sym (counted-push (replies_of asked lines) (option_map used_seen read))
    ∙ ap (λ r. counted (replies_of asked lines ++ and_then r [])) is
    ∙ ap counted (sym (replies_of-push asked lines line))

only_of : (us : List Used) → only_kept (kept_of us) ≡ only us
unfolding kept_of
only_of [] = refl
only_of (a ∷ []) = refl
only_of (a ∷ b ∷ us) = refl

choice_of : (all asked : List Used)
    → or_else (only_kept (kept_of all)) (only_kept (kept_of asked))
    ≡ (if nat_eq (length all) 1 then only all else only asked)
unfolding kept_of
choice_of [] asked = only_of asked
choice_of (a ∷ []) asked = refl
choice_of (a ∷ b ∷ us) asked =
    let many : nat_eq (length (a ∷ b ∷ us)) 1 ≡ false = grind (arith, nat_tests) in
    rw many (only_of asked)

-- what is kept of all lines gives their answer
pub answer_kept : (nonce : List ℕ) (lines : List (List ℕ)) (all asked : Kept)
    → all ≡ kept_of (replies_of None lines) → asked ≡ kept_of (replies_of (Some nonce) lines)
    → or_else (only_kept all) (only_kept asked) ≡ answer_of nonce lines
unfolding answer_of
answer_kept nonce lines all asked is is' =
    ap (λ k. or_else (only_kept k) (only_kept asked)) is
    ∙ ap (λ k. or_else (only_kept (kept_of (replies_of None lines))) (only_kept k)) is'
    ∙ choice_of (replies_of None lines) (replies_of (Some nonce) lines)
