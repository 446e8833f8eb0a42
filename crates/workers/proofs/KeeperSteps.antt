-- What a keeper's steps leave of what the flusher says of it.
use Rattle.std.proofs.Common.{◌≡◌, ◌∙◌, ℕ, Bool, true, false, List, [], Option, Some, None, Ok, Err}
use Rattle.std.proofs.Common.{refl, ap, sym, subst}
use Rattle.std.specs.Prelude.{if◌then◌else◌, slice_get, slice_set}
use Rattle.disk.specs.Disk.{DiskCall, DiskState, Effect}
use Rattle.intent_slots.specs.Payload.{Intent}
use Rattle.flusher.proofs.Guests.{get_set_same}
use Rattle.flusher.specs.Store.{AllFit, Gives, StoreState}
use Rattle.rpmb_book.specs.Book.{BookView, first_of, guest_of, is_share, next_intent, share_moved}
use Rattle.rpmb_book.specs.Book.{take_answer}
use Rattle.rpmb_book.specs.Guest.{intent_sequence}
use Rattle.rpmb_book.specs.declared.refused.Refused.TheVariants.{Foreign}
use Rattle.board.specs.State.{KeeperState, Report, in_place, over, put}
use Rattle.board.specs.Steps.{AdvancesUnder, Answer, GivesWhere, TakesInto, did_answer}
use Rattle.board.specs.Steps.{given_answer}
use Rattle.board.specs.declared.step.Seen.TheVariants.{Did}
use Rattle.workers.specs.Following.{Follow, Follows}
use Rattle.workers.specs.Keeping.{GivesNext, GivesTaken, Keeps, KeyedStore}
use Rattle.workers.proofs.Following.{follow_given, follow_moved}
use Rattle.workers.proofs.Keeping.{keeps_advanced}

-- 1. A take, and a give

-- the intent that a take gave
pub record Took {D : Type 0} (g : ℕ) (b : BookView) (k k' : KeeperState D) : Type 0 where
  pub intent : Intent
  pub taken : take_answer b k.shares g ≡ Ok (Some intent)
  pub lies : in_place (slice_get k'.intents g) ≡ Some intent
  pub shares : k'.shares ≡ slice_set k.shares g (intent_sequence intent)
  pub store : k'.store ≡ k.store

module _ {D : Type 0} (b b' : BookView) (k k' : KeeperState D) (g : ℕ) where
  pub took : TakesInto g (slice_get k.intents g) (Ok Did) (over b k) (over b' k') → Took g b k k'
  took does = by (slice_get k.intents g) refl does
    where
      answered : (shared : Bool) (o : Option Intent) (i : Intent)
          → (if shared then o else None) ≡ Some i
          → (if shared then Ok (if shared then o else None) else Err Foreign) ≡ Ok (Some i)
      answered true o i is = ap Ok is
      answered false o i is = absurd (cc)

      given : (o : Option Intent) → next_intent b k.shares g ≡ o → Ok Did ≡ given_answer o
          → slice_get k.intents g ≡ Some None → k'.shares ≡ share_moved k.shares g o
          → k'.store ≡ k.store → k'.intents ≡ put k.intents g o → Took g b k k'
      given None is did empty shares store intents = absurd (cc)
      given (Some i) is did empty shares store intents = record {
        intent = i;
        taken = answered (is_share b k.shares g) (first_of g (guest_of b g)) i is;
        lies = ap (λ l. in_place (slice_get l g)) intents
            ∙ ap in_place (get_set_same k.intents g None (Some i) empty);
        shares = shares;
        store = store;
      }

      by : (place : Option (Option Intent)) → slice_get k.intents g ≡ place
          → TakesInto g place (Ok Did) (over b k) (over b' k') → Took g b k k'
      by None is does = absurd (let e = does.0 in cc)
      by (Some (Some i)) is does = absurd (let e = does.0 in cc)
      by (Some None) is does = (let o = next_intent b k.shares g in
          let n = does.1 in
          given o refl does.0 is (ap (λ v. v.shares) n) (ap (λ v. v.store) n)
          (ap (λ v. v.intents) n))

  -- an intent that comes next in a free slot is given
  pub gave : (free : Bool) (o : Option Intent) (i : Intent) (did : Bool)
      → GivesWhere g free o (did_answer did) (over b k) (over b' k') → free ≡ true → o ≡ Some i
      → did ≡ true
  gave false o i did does free lies = absurd (cc)
  gave true None i did does free lies = absurd (cc)
  gave true (Some j) i true does free lies = refl
  gave true (Some j) i false does free lies = absurd (let e = does.0 in cc)

-- 2. An intent that was taken, and then given

module _ {D : Type 0} (b : BookView) (k k' k'' : KeeperState D) (g : ℕ) (t : Took g b k k')
    (n : GivesNext g k' k'') where
  same : n.intent ≡ t.intent
  same = (let lay = n.lay in let lies = t.lies in cc)

  pub given_taken : GivesTaken b k.shares g k.store.guests k''.store.guests
  given_taken = record {
    intent = t.intent;
    taken = t.taken;
    gives = subst (λ i. Gives i k.store.guests k''.store.guests) same
        (subst (λ (s : StoreState D). Gives n.intent s.guests k''.store.guests) t.store n.gives);
  }

  pub follows_given : Follows k → Follows k''
  follows_given follows =
      subst (λ l. Follow l k''.store.guests)
      (ap (λ i. slice_set k.shares g (intent_sequence i)) same ∙ sym (n.shares ∙ t.shares))
      (follow_given k.shares n.len k'.store.guests k''.store.guests g n.intent
      (subst (λ (s : StoreState D). Follow k.shares s.guests) (sym t.store) follows) n.fits n.own
      n.may n.gives)

-- 3. A call of the disk

-- a flusher has no book, and its calls ask for none
pub no_book : BookView
no_book = record {
  life = 0;
  folded = 0;
  opening = record { guests = []; broken = false };
  history = [];
}

module _ {D : Type 0} (shows : D → DiskState) (makes : D → DiskCall → D → Type 0)
    (k k' : KeeperState D) (answer : Answer) where
  pub follows_called : (len : ℕ) (report : Option Report)
      → (report ≡ None → AllFit len k.store.guests) → Follows k
      → AdvancesUnder shows makes report answer (over no_book k) (over no_book k') → Follows k'
  follows_called len None fits follows a =
      subst (λ l. Follow l k'.store.guests) (sym (ap (λ v. v.shares) a.after))
      (subst (λ (s : StoreState D). Follow k.shares s.guests) (sym (ap (λ v. v.store) a.after))
      (follow_moved k.shares len a.progress k.store.guests a.store.guests follows (fits refl)
      a.moves))
  follows_called len (Some r) fits follows does =
      subst (λ v. Follow v.shares v.store.guests) (sym does.1) follows

  pub keeps_called : (effect : (x y : D) (call : DiskCall) → makes x call y
      → Effect (shows x) call (shows y)) (first : KeyedStore D) (keys : List (Option (List ℕ)))
      (report : Option Report)
      → AdvancesUnder shows makes report answer (over no_book k) (over no_book k')
      → Keeps shows makes first (record { store = k.store; keys = keys })
      → Keeps shows makes first (record { store = k'.store; keys = keys })
  keeps_called effect first keys None a keeps =
      subst (λ v. Keeps shows makes first (record { store = v.store; keys = keys })) (sym a.after)
      (keeps_advanced shows makes effect first (record { store = k.store; keys = keys })
      (record { store = a.store; keys = keys }) a.progress keeps refl
      (λ broken. (a.refused broken).1) a.moves a.round a.front a.moments a.held)
  keeps_called effect first keys (Some r) does keeps =
      subst (λ v. Keeps shows makes first (record { store = v.store; keys = keys })) (sym does.1)
      keeps
