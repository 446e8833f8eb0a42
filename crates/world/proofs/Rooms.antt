-- A guest waits for no more replies after a step than before it, but for a Submit of its own.
use Rattle.std.proofs.Common.{◌≡◌, ◌≢◌, ℕ, ◌+◌, ◌≤◌, Bool, true, false, List, [], ◌∷◌, Option, Some}
use Rattle.std.proofs.Common.{None, length, drop, refl, ap, sym, subst, ◌∙◌, arith}
use Rattle.world.proofs.Common.{if◌then◌else◌, ◌==◌, ◌&&◌, is_some, slice_get, slice_set}
use Rattle.world.proofs.Common.{length-map, DiskCall, DiskState, Intent, get_set_same}
use Rattle.world.proofs.Common.{get_set_other, DeviceState, Job, Done, due_at, due_of, may_settle}
use Rattle.world.proofs.Common.{next_intent, state, with_turn, guest_after, GuestState, collected}
use Rattle.world.proofs.Common.{first_due, took, marks_for, settled_to, Turn, Take, Settle, Collect}
use Rattle.world.proofs.Common.{Break, move_some, BoardState, Fault, Marks, Report, guests}
use Rattle.world.proofs.Common.{in_place, put, AdvancesUnder, Answer, CollectsInto, Drives}
use Rattle.world.proofs.Common.{GivesWhere, Idles, PopsInto, SettlesBy, TakesInto, Act, count_of}
use Rattle.rpmb_book.specs.ByGuest.{broken_when}
use Rattle.rpmb_book.specs.Guest.{Held, kept_or_failed}
use Rattle.board.proofs.Linked.{at_each, other_guest, own, turned}

-- of a guest, and what lies in its place for replies
pub record IsLighter (x : GuestState) (was : Option (Option Done)) (y : GuestState)
    (now : Option (Option Done)) : Type 0 where
  pub held : length y.held ≤ length x.held
  pub all : length y.held + count_of (in_place now) ≤ length x.held + count_of (in_place was)

-- a guest after a step was there before it, and waits for no more
pub record Waits {D : Type 0} (old new : BoardState D) (g : ℕ) (y : GuestState) : Type 0 where
  pub before : GuestState
  pub there : slice_get (guests old) g ≡ Some before
  pub lighter : IsLighter before (slice_get old.dones g) y (slice_get new.dones g)

abbrev pub WaitForNoMore : {D : Type 0} → BoardState D → BoardState D → Type 0
WaitForNoMore old new = (g : ℕ) (y : GuestState) → slice_get (guests new) g ≡ Some y
    → Waits old new g y

module _ {D : Type 0} (old : BoardState D) where
  same_book : (new : BoardState D) → new.book ≡ old.book → new.dones ≡ old.dones
      → WaitForNoMore old new
  same_book new book dones g y at = record {
    before = y;
    there = ap (λ b. slice_get (state b).guests g) (sym book) ∙ at;
    lighter = record {
      held = omega arith;
      all =
          (let same = ap (λ l. count_of (in_place (slice_get l g))) dones in omega arith);
    };
  }

  pub idles : (answer : Answer) (new : BoardState D) → Idles answer old new → WaitForNoMore old new
  idles answer new i = same_book new (ap (λ b. b.book) i.1) (ap (λ b. b.dones) i.1)

  -- a turn that lets no reply leave, and adds none
  turn : (new : BoardState D) (t : Turn) → new.book ≡ with_turn old.book t → new.dones ≡ old.dones
      → ((g : ℕ) (x : GuestState) → length (guest_after g (state old.book).broken t x).held
      ≡ length x.held) → WaitForNoMore old new
  turn new t book dones keeps g y at = grind (arith, turned)

  pub drives : (g : ℕ) (act : Act) (answer : Answer) (new : BoardState D) (o : Option DeviceState)
      → Drives g act o answer old new → WaitForNoMore old new
  drives g act answer new None does = idles answer new does
  drives g act answer new (Some d) does =
      same_book new (ap (λ b. b.book) does.after) (ap (λ b. b.dones) does.after)

  pub pops : (g : ℕ) (answer : Answer) (new : BoardState D) (place : Option (Option Job))
      (o : Option DeviceState) → PopsInto g place o answer old new → WaitForNoMore old new
  pops g answer new place o does = grind (arith, same_book)

  pub gives : (g : ℕ) (answer : Answer) (new : BoardState D) (free : Bool) (intent : Option Intent)
      → GivesWhere g free intent answer old new → WaitForNoMore old new
  gives g answer new free intent does = grind (arith, same_book)

  pub advances : (shows : D → DiskState) (makes : D → DiskCall → D → Type 0) (answer : Answer)
      (new : BoardState D) (report : Option Report)
      → AdvancesUnder shows makes report answer old new → WaitForNoMore old new
  advances shows makes answer new (Some r) does = idles answer new does
  advances shows makes answer new None does =
      same_book new (ap (λ b. b.book) does.after) (ap (λ b. b.dones) does.after)

  takes_held : (n g : ℕ) (x : GuestState) → length (if n == g then took x else x).held
      ≡ length x.held
  takes_held n g x = grind arith

  pub takes : (g : ℕ) (answer : Answer) (new : BoardState D) (place : Option (Option Intent))
      → TakesInto g place answer old new → WaitForNoMore old new
  takes g answer new None does = idles answer new does
  takes g answer new (Some (Some i)) does = idles answer new does
  takes g answer new (Some None) does = by (is_some (next_intent old.book old.shares g))
      (ap (λ b. b.book) does.1)
    where
      by : (b : Bool) → new.book ≡ (if b then with_turn old.book (Take g) else old.book)
          → WaitForNoMore old new
      by true book = turn new (Take g) book (ap (λ b. b.dones) does.1) (λ h x. takes_held g h x)
      by false book = same_book new book (ap (λ b. b.dones) does.1)

  settled_held : (mark : Option ℕ) (x : GuestState) → length (settled_to mark x).held
      ≡ length x.held
  settled_held None x = refl
  settled_held (Some m) x = refl

  broken_held : (broken : Bool) (x : GuestState) → length (broken_when broken x).held
      ≡ length x.held
  broken_held true x = refl
  broken_held false x = length-map x.held (kept_or_failed x.settled)

  pub settles : (answer : Answer) (new : BoardState D) (report : Option Report)
      → SettlesBy report answer old new → WaitForNoMore old new
  settles answer new None does = idles answer new does
  settles answer new (Some (Marks marks)) does =
      by (may_settle old.book old.shares marks && move_some (guests old) marks)
      (ap (λ b. b.book) does.1)
    where
      by : (b : Bool) → new.book
          ≡ (if b then with_turn old.book (Settle (marks_for (length (guests old)) marks)) else
          old.book) → WaitForNoMore old new
      by true book = turn new (Settle (marks_for (length (guests old)) marks)) book
          (ap (λ b. b.dones) does.1) (λ h x.
          settled_held (slice_get (marks_for (length (guests old)) marks) h) x)
      by false book = same_book new book (ap (λ b. b.dones) does.1)
  settles answer new (Some Fault) does = by (state old.book).broken refl (ap (λ b. b.book) does.1)
    where
      by : (b : Bool) → (state old.book).broken ≡ b
          → new.book ≡ (if b then old.book else with_turn old.book Break) → WaitForNoMore old new
      by true is book = same_book new book (ap (λ b. b.dones) does.1)
      by false is book = turn new Break book (ap (λ b. b.dones) does.1) (λ h x.
          broken_held (state old.book).broken x)

  -- a reply that is due was held
  one_held : (settled : ℕ) (held : List Held) (d : Done) → first_due settled held ≡ Some d
      → length (drop 1 held) + 1 ≡ length held
  one_held settled [] d is = absurd (cc)
  one_held settled (h ∷ hs) d is = omega arith

  pub collects : (g : ℕ) (answer : Answer) (new : BoardState D) (place : Option (Option Done))
      → slice_get old.dones g ≡ place → CollectsInto g place answer old new → WaitForNoMore old new
  collects g answer new None at does = idles answer new does
  collects g answer new (Some (Some done)) at does = idles answer new does
  collects g answer new (Some None) at does = by (due_of old.book g) refl does.1
    where
      by : (o : Option Done) → due_of old.book g ≡ o
          → new ≡ record old {
            book =
                (if is_some o then with_turn old.book (Collect g) else old.book);
            dones =
                put old.dones g o;
          } → WaitForNoMore old new
      by None due after = same_book new (ap (λ b. b.book) after) (ap (λ b. b.dones) after)
      by (Some d) due after = subst (WaitForNoMore old) (sym after)
          (at_each {P = λ h. (y : GuestState) → slice_get (guests to) h ≡ Some y → Waits old to h y}
          g here there)
        where
          to : BoardState D
          to = record old {
            book = with_turn old.book (Collect g);
            dones =
                slice_set old.dones g (Some d);
          }

          here : (y : GuestState) → slice_get (guests to) g ≡ Some y → Waits old to g y
          here y is =
              let x = own old.book (Collect g) g collected (λ h v. refl) y is in
              let less = one_held x.0.settled x.0.held d (ap due_at (sym x.1) ∙ due) in
              let held = ap (λ v. length v.held) x.2 in
              let now = ap (λ o. count_of (in_place o)) (get_set_same old.dones g None (Some d) at)
              in
              record {
                before = x.0;
                there = x.1;
                lighter =
                    record { held = omega arith; all = omega arith };
              }

          there : (h : ℕ) → h ≢ g → (y : GuestState) → slice_get (guests to) h ≡ Some y
              → Waits old to h y
          there h other y is =
              let same = ap (λ o. count_of (in_place o))
              (get_set_other old.dones g h (Some d) other) in
              record {
                before = y;
                there = other_guest old.book (Collect g) g collected (λ k v.
                    refl) h other y is;
                lighter = record { held = omega arith; all = omega arith };
              }
