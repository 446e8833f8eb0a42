-- The keys that words say, one after another.
use Rattle.std.proofs.Common.{◌≡◌, ◌≢◌, ◌<◌, ℕ, List, [], ◌∷◌, ◌++◌, Bor, Option, Some, None}
use Rattle.std.proofs.Common.{MatchOption, Result, Ok, Err, OnOk, length, get_or, refl, inr, subst}
use Rattle.rpmb_client.specs.declared.keys.Keys.{Keys}
use Rattle.rpmb_commands.specs.KeysSaid.{AddsKey, AddsKeys, IsForOthers, IsParted, KeysSaid}
use Rattle.rpmb_commands.specs.KeysSaid.{keys_seen, no_keys}

pub parted : (word : List ℕ) (r : Option (Bor (List ℕ) × Bor (List ℕ)))
    → ((name : List ℕ) → word ≢ 64 ∷ name)
    → MatchOption r ((i : ℕ) → i < length word → get_or word i 0 ≢ 61)
    (λ x. (word ≡ x.0.now ++ (61 ∷ x.1.now))
    × ((i : ℕ) → i < length x.0.now → get_or x.0.now i 0 ≢ 61))
    → MatchOption r (IsForOthers word) (λ parts. IsParted word parts.0.now parts.1.now)
parted word None at cases = inr cases
parted word (Some x) at cases = record { at = at; parts = cases.0; first = cases.1 }

pub on_ok : {T E : Type 0} (r : Result T E) (P Q : Type 0) → OnOk r P → (P → Q) → OnOk r Q
on_ok (Ok done) P Q p f = f p
on_ok (Err e) P Q p f = tt

pub AddsKeys-push : (gives : List ℕ → List ℕ → Type 0) (words : List (Bor (List ℕ)))
    (word : Bor (List ℕ)) (old now new : KeysSaid)
    → AddsKeys gives words old now → AddsKey gives word.now now new
    → AddsKeys gives (words ++ word ∷ []) old new
AddsKeys-push gives [] word old now new before more =
    (new, subst (λ o. AddsKey gives word.now o new) before more, refl)
AddsKeys-push gives (w ∷ ws) word old now new before more =
    (before.0, before.1, AddsKeys-push gives ws word before.0 now new before.2 more)

pub no_keys_seen : (keys : Keys) → keys.own.items ≡ [] → keys.others ≡ None
    → keys_seen keys ≡ no_keys
no_keys_seen keys own others = rw (own, others) refl
