-- The guest whose turn it is.
use Rattle.std.proofs.Common.{◌≡◌, Bool, IsTrue, Option, Some, None, ℕ, arith, List, get_or, refl}
use Rattle.std.proofs.Common.{ap, sym, ◌∙◌, subst, ⊎_elim}
use Rattle.flusher.proofs.Common.{slice_get, slice_set, position, position-Some, slice_get-get_or}
use Rattle.flusher.proofs.Common.{DiskCall, Write, Region, SlotRegion, Entry, Group}
use Rattle.flusher.proofs.Common.{Guest, last_of, open_write, Turn, spelled}
use Rattle.flusher.proofs.Common.{turn_of, moved_in, guest_write, guest_after_write}
use Rattle.flusher.proofs.Common.{guest_after_sync, guest_has_write, AllFit, GuestFits}
use Rattle.std.specs.Prelude.{MatchOption}
use Rattle.intent_slots.specs.Home.{home_bytes}
use Rattle.flusher.specs.Round.{WroteSlot}
use Rattle.flusher.proofs.Guests.{set_cases, map_cases}
use Rattle.flusher.proofs.Shortness.{IsShort, guest_short}
use Rattle.std.specs.Prelude.{map}

pub of_home : {D : Type 0} (makes : D → DiskCall → D → Type 0) (od nd : D) (ok : Bool)
    (region : Region) (side : SlotRegion) (i : Group) (o : Option Entry) (at : ℕ) (bytes : List ℕ)
    → o ≡ None → at ≡ region.base → bytes ≡ home_bytes i.key (last_of i)
    → makes od (Write at bytes ok) nd → MatchOption (spelled region side (open_write i o)) ⊥ (λ w.
    makes od (Write w.0 w.1 ok) nd)
of_home makes od nd ok region side i None at bytes none there is call =
    subst (λ (n : ℕ). makes od (Write n (home_bytes i.key (last_of i)) ok) nd) there
    (subst (λ (b : List ℕ). makes od (Write at b ok) nd) is call)
of_home makes od nd ok region side i (Some e) at bytes none there is call = absurd (cc)

module _ (len g : ℕ) (x : Guest) (f : GuestFits len g x) where
  synced_fits : GuestFits len g (guest_after_sync x)
  synced_fits = grind arith

  turn_fits : (t : Turn) → turn_of x ≡ t → GuestFits len g (moved_in t x)
  turn_fits t is = grind arith

  written_fits : GuestFits len g (guest_after_write x)
  written_fits = turn_fits (turn_of x) refl

pub map_fits : (len : ℕ) (xs : List Guest) → AllFit len xs → AllFit len (map guest_after_sync xs)
map_fits len xs fits = record {
  each = λ g y at. (
      let from = map_cases guest_after_sync xs g y at in
      let old = fits.each g from.0 from.1 in
      subst (λ (v : Guest). GuestFits len g v) (sym from.2) (synced_fits len g from.0 old));
}

pub default_is : (xs : List Guest) (g : ℕ) (a b : Guest) → position guest_has_write xs ≡ Some g
    → get_or xs g a ≡ get_or xs g b
default_is xs g a b next =
    cc (
      slice_get-get_or xs g a (position-Some guest_has_write xs g a next).0,
      slice_get-get_or xs g b (position-Some guest_has_write xs g b next).0,
    )

module _ (xs : List Guest) (g : ℕ) (none : Guest) (next : position guest_has_write xs ≡ Some g)
  where
    pub in_place : slice_get xs g ≡ Some (get_or xs g none)
    in_place = slice_get-get_or xs g none (position-Some guest_has_write xs g none next).0

    pub can_write : IsTrue (guest_has_write (get_or xs g none))
    can_write = (position-Some guest_has_write xs g none next).1

    pub still_fits : (len : ℕ) (moved : Guest) → AllFit len xs
        → moved ≡ guest_after_write (get_or xs g none) → AllFit len (slice_set xs g moved)
    still_fits len moved fits is = record {
      each = λ h x at. ⊎_elim
          (λ e. (let old = fits.each g (get_or xs g none) in_place in let x' = get_or xs g none in
          subst (λ (v : Guest). GuestFits len h v) (sym (e.1 ∙ is))
          (subst (λ (n : ℕ). GuestFits len n (guest_after_write x')) (sym e.0)
          (written_fits len g x' old))))
          (λ e. fits.each h x e.1)
          (set_cases xs g h moved x at);
    }

    pub its_fit : (len : ℕ) → AllFit len xs → GuestFits len g (get_or xs g none)
    its_fit len fits = fits.each g (get_or xs g none) in_place

    module _ {D : Type 0} (makes : D → DiskCall → D → Type 0) (od nd : D) (ok : Bool)
        (moved : Guest)
        (is : moved ≡ guest_after_write (get_or xs g none)) where
      written_by : (o : Option (ℕ × List ℕ)) → guest_write (get_or xs g none) ≡ o → IsShort o
          → MatchOption o ⊥ (λ w. makes od (Write w.0 w.1 ok) nd)
          → WroteSlot makes g od xs ok nd (slice_set xs g moved)
      written_by None next short call = absurd call
      written_by (Some w) next short call = record {
        guest = get_or xs g none;
        is = in_place;
        at = w.0;
        bytes = w.1;
        next = next;
        few = short;
        call = call;
        slots = ap (slice_set xs g) is;
      }

      pub wrote_slot : (len : ℕ) → AllFit len xs
          → MatchOption (guest_write (get_or xs g none)) ⊥ (λ w. makes od (Write w.0 w.1 ok) nd)
          → WroteSlot makes g od xs ok nd (slice_set xs g moved)
      wrote_slot len fits call = written_by (guest_write (get_or xs g none)) refl
          (guest_short len g (get_or xs g none) (its_fit len fits)) call
