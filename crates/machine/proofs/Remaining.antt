-- What a serve does is less than what remained to be done.
use Rattle.std.proofs.Common.{◌≡◌, ◌≤◌, ◌<◌, inl, inr, refl, ap, sym, subst, ◌∙◌, ℕ, ◌+◌, ◌*◌}
use Rattle.std.proofs.Common.{Bool, true, false, Option, Some, None, Result, Ok, Err, List, [], ◌∷◌}
use Rattle.std.proofs.Common.{zero, suc, drop, length, arith, length-append, length-drop}
use Rattle.std.proofs.lemmas.List.{length-take}
use Rattle.std.specs.Prelude.{option_map, if◌then◌else◌, ◌==◌, ◌&&◌, is_some, take}
use Rattle.board.proofs.Common.{length-map, nat_tests}
use Rattle.machine.proofs.Common.{slice_get, slice_set, AdvancesUnder, Answer, BoardState, Boards}
use Rattle.machine.proofs.Common.{Calls, CollectsInto, DeviceState, Done, Fault, GivesUp}
use Rattle.machine.proofs.Common.{GivesWhere}
use Rattle.machine.proofs.Common.{Hands, HandsOne, PopsOne, Range, Intent, IsShare, Job, LearnsOf}
use Rattle.machine.proofs.Common.{Makes, Marks}
use Rattle.machine.proofs.Common.{OutboxMakes, OutboxState, Pops, PopsInto, Report, Runs, SettlesBy}
use Rattle.machine.proofs.Common.{Stand, Step, Still, SubmitsFrom, TakesInto, Tally, Then, Voids}
use Rattle.machine.proofs.Common.{board_of, get_set_same, in_place, outbox_state, put, standing}
use Rattle.intent_slots.specs.Payload.{Entry}
use Rattle.flusher.proofs.Countdown.{round_lowers}
use Rattle.flusher.specs.CallsLeft.{called, guest_left, left_of}
use Rattle.flusher.specs.Pair.{given_at, with_intent}
use Rattle.flusher.specs.Progress.{Wrote}
use Rattle.flusher.specs.Round.{Round, Ends, call_of, plan_at}
use Rattle.flusher.specs.Store.{given, given_of, next_call}
use Rattle.flusher.specs.declared.guest.Guest.{Guest}
use Rattle.flusher.specs.declared.slot.Slot.{Slot}
use Rattle.mmio_transport.specs.declared.fault.DeviceFault.{DeviceFault}
use Rattle.rpmb_book.proofs.ByGuest.{by_guest}
use Rattle.rpmb_book.proofs.Replay.{replay-push}
use Rattle.rpmb_book.proofs.Rolling.{state_stays}
use Rattle.rpmb_book.specs.Book.{BookView, due_at, due_of, first_of, guest_of, is_share, may_settle}
use Rattle.rpmb_book.specs.Book.{next_intent, share_moved, state, submit_of, with_turn}
use Rattle.rpmb_book.specs.ByGuest.{broken_when, guest_after}
use Rattle.rpmb_book.specs.Fold.{after_submit, roomy}
use Rattle.rpmb_book.specs.Guest.{GuestState, Held, collected, entry_when, first_due, first_intent}
use Rattle.rpmb_book.specs.Guest.{held_when, joined_by, kept_or_failed, next_group, submitted, took}
use Rattle.rpmb_book.specs.Marks.{marks_for, settled_to}
use Rattle.rpmb_book.specs.Turn.{Break, Collect, Settle, Take, Turn, move_some}
use Rattle.board.specs.State.{count_in}
use Rattle.board.specs.Steps.{Advances, given_answer, job_of, pop_answer, report_of}
use Rattle.board.specs.declared.step.Seen.TheVariants.{Did, Nothing}
use Rattle.board.specs.declared.step.Step.TheVariants as step
use Rattle.machine.specs.Remaining.{ComesToAnEnd, Spends, answered_of, book_remaining}
use Rattle.machine.specs.Remaining.{intent_remaining, remaining, store_remaining, taken_of}
use Rattle.machine.specs.Serving.{ByPop, ByReply, ByStep, DoesMany, DoesMore, DoesNone, DoesSome}
use Rattle.machine.specs.Serving.{IsDone, MayWrite, is_write}

-- 1. The book

turned_by : (n : ℕ) (f : GuestState → GuestState)
    → ((x : GuestState) → book_remaining (Some (f x)) ≤ book_remaining (Some x) + n)
    → (o : Option GuestState) → book_remaining (option_map f o) ≤ book_remaining o + n
turned_by n f more None = omega arith
turned_by n f more (Some x) = more x

-- what a turn makes of a guest of the book
turned_at : (b : BookView) (t : Turn) (k : ℕ) → guest_of (with_turn b t) k
    ≡ option_map (guest_after k (state b).broken t) (guest_of b k)
turned_at b t k =
    ap (λ s. slice_get s.guests k) (replay-push b.opening b.history t)
    ∙ by_guest (state b) t k

joined_one : (waiting : List Entry) (o : Option Entry)
    → length (joined_by waiting o) ≤ length waiting + 1
joined_one waiting None = omega arith
joined_one waiting (Some e) =
    let long = length-append waiting (e ∷ []) in omega (arith, long)

chosen_one : (v broken : Bool) (job : Job) (x : GuestState)
    → book_remaining (Some (if v then submitted broken job x else x))
    ≤ book_remaining (Some x) + 13
chosen_one true broken job x =
    let held = length-append x.held (held_when broken x.core job ∷ []) in
    let waiting = joined_one x.waiting (entry_when broken x.core job) in
    omega (arith, held, waiting)
chosen_one false broken job x = omega arith

-- a job that was answered brings a reply, and a request at most
submitted_book : (b : BookView) (job : Job) (k : ℕ)
    → book_remaining (guest_of (after_submit b job) k) ≤ book_remaining (guest_of b k) + 13
submitted_book b job k =
    let is = ap book_remaining (turned_at (roomy b) (submit_of b job) k) in
    let now = state (roomy b) in
    let more = turned_by 13 (guest_after k now.broken (submit_of b job))
    (chosen_one _ now.broken job) (slice_get now.guests k) in
    let same = ap (λ s. book_remaining (slice_get s.guests k)) (state_stays b).1 in
    omega (arith, is, more, same)

due_list : (settled : ℕ) (hs : List Held) (done : Done) → first_due settled hs ≡ Some done
    → length (drop 1 hs) + 1 ≤ length hs
due_list settled [] done is = absurd (let no = is in cc)
due_list settled (h ∷ hs) done is = omega arith

same_number : (k : ℕ) → (k == k) ≡ true
same_number k = grind arith

chosen_less : (v : Bool) (x : GuestState) → v ≡ true → length (drop 1 x.held) + 1 ≤ length x.held
    → book_remaining (Some (if v then collected x else x)) + 2 ≤ book_remaining (Some x)
chosen_less true x is less = omega (arith, less)
chosen_less false x is less = absurd (let no = is in cc)

due_less : (k : ℕ) (broken : Bool) (o : Option GuestState) (done : Done) → due_at o ≡ Some done
    → book_remaining (option_map (guest_after k broken (Collect k)) o) + 2 ≤ book_remaining o
due_less k broken None done is = absurd (let no = is in cc)
due_less k broken (Some x) done is =
    chosen_less (k == k) x (same_number k) (due_list x.settled x.held done is)

collected_book : (b : BookView) (k : ℕ) (done : Done) → due_of b k ≡ Some done
    → book_remaining (guest_of (with_turn b (Collect k)) k) + 2 ≤ book_remaining (guest_of b k)
collected_book b k done is =
    let now = ap book_remaining (turned_at b (Collect k) k) in
    let less = due_less k (state b).broken (guest_of b k) done is in
    omega (arith, now, less)

-- as many requests as an intent has left the book
took_less : (v : Bool) (x : GuestState) (n : ℕ) → v ≡ true → n ≡ length (take 4 x.waiting)
    → book_remaining (Some (if v then took x else x)) + 11 * n ≤ book_remaining (Some x)
took_less true x n is many =
    let front = length-take 4 x.waiting in
    let rest = length-drop 4 x.waiting in
    omega (arith, many, front, rest)
took_less false x n is many = absurd (let no = is in cc)

-- an intent that the book gives has as many requests as leave it, and one at least
record Gave (x : GuestState) (i : Intent) : Type 0 where
  many : length i.group.entries ≡ length (take 4 x.waiting)
  some : 1 ≤ length (take 4 x.waiting)

gave_where : (empty : Bool) (g : ℕ) (x : GuestState) (i : Intent)
    → (if empty then None else Some (record { guest = g; group = next_group x })) ≡ Some i
    → (empty ≡ false) × (i.group.entries ≡ take 4 x.waiting)
gave_where true g x i is = absurd (let no = is in cc)
gave_where false g x i is =
    let same : record { guest = g; group = next_group x } ≡ i = (let all = is in cc) in
    (refl, ap (λ (j : Intent). j.group.entries) (sym same))

gave : (g : ℕ) (x : GuestState) (i : Intent) → first_intent g x ≡ Some i → Gave x i
gave g x i is =
    let found = gave_where (length x.waiting == 0) g x i is in
    let not_empty = found.0 in
    let front = length-take 4 x.waiting in
    let some : 0 < length x.waiting = grind (arith, nat_tests) in
    record { many = ap length found.1; some = omega (arith, front, some) }

took_at : (g : ℕ) (broken : Bool) (o : Option GuestState) (i : Intent)
    → first_of g o ≡ Some i
    → book_remaining (option_map (guest_after g broken (Take g)) o)
    + intent_remaining (Some i) + 1 ≤ book_remaining o
took_at g broken None i is = absurd (let no = is in cc)
took_at g broken (Some x) i is =
    let its = gave g x i is in
    let many = its.many in
    let some = its.some in
    let less = took_less (g == g) x (length i.group.entries) (same_number g) many in
    omega (arith, less, many, some)

share_where : (v : Bool) (g : ℕ) (o : Option GuestState) (i : Intent)
    → (if v then first_of g o else None) ≡ Some i → first_of g o ≡ Some i
share_where true g o i is = is
share_where false g o i is = absurd (let no = is in cc)

taken_book : (b : BookView) (shares : List ℕ) (g : ℕ) (i : Intent)
    → next_intent b shares g ≡ Some i
    → book_remaining (guest_of (with_turn b (Take g)) g) + intent_remaining (Some i) + 1
    ≤ book_remaining (guest_of b g)
taken_book b shares g i is =
    let now = ap book_remaining (turned_at b (Take g) g) in
    let less = took_at g (state b).broken (guest_of b g) i
    (share_where (is_share b shares g) g (guest_of b g) i is) in
    omega (arith, now, less)

settled_book : (mark : Option ℕ) (x : GuestState) → book_remaining (Some (settled_to mark x))
    ≤ book_remaining (Some x) + 0
settled_book None x = omega arith
settled_book (Some m) x = omega arith

broken_book : (broken : Bool) (x : GuestState) → book_remaining (Some (broken_when broken x))
    ≤ book_remaining (Some x) + 0
broken_book true x = omega arith
broken_book false x =
    let long = length-map x.held (kept_or_failed x.settled) in omega (arith, long)

-- no request or reply joins the book, whether a turn is made or none is
turned_where : (v : Bool) (b : BookView) (t : Turn) (k : ℕ) → ((x : GuestState)
    → book_remaining (Some (guest_after k (state b).broken t x)) ≤ book_remaining (Some x) + 0)
    → book_remaining (guest_of (if v then with_turn b t else b) k) ≤ book_remaining (guest_of b k)
turned_where true b t k keeps =
    let now = ap book_remaining (turned_at b t k) in
    let less = turned_by 0 (guest_after k (state b).broken t) keeps (guest_of b k) in
    omega (arith, now, less)
turned_where false b t k keeps = omega arith

broken_off : (v : Bool) (b : BookView) (k : ℕ)
    → book_remaining (guest_of (if v then b else with_turn b Break) k)
    ≤ book_remaining (guest_of b k)
broken_off true b k = omega arith
broken_off false b k = turned_where true b Break k (broken_book (state b).broken)

-- 2. The store

slot_at : (x : Guest) (i : Intent) (slot : Option Slot)
    → guest_left (given_at x i slot) ≤ guest_left
    (record x { slot = slot }) + (length i.group.entries + 8)
slot_at x i None = omega arith
slot_at x i (Some s) = omega arith

set_adds : (xs : List Guest) (g n : ℕ) (x y : Guest) → slice_get xs g ≡ Some x
    → guest_left y ≤ guest_left x + n → left_of (slice_set xs g y) ≤ left_of xs + n
unfolding left_of
set_adds [] g n x y at more = absurd (let no = at in cc)
set_adds (z ∷ xs) zero n x y at more =
    let is : z ≡ x = (let all = at in cc) in
    let same = ap guest_left is in
    omega (arith, more, same)
set_adds (z ∷ xs) (suc g) n x y at more =
    let rest = set_adds xs g n x y at more in omega (arith, rest)

given_where : (xs : List Guest) (i : Intent) (o : Option Guest) → slice_get xs i.guest ≡ o
    → left_of (given_of xs i o) ≤ left_of xs + (length i.group.entries + 8)
given_where xs i None at = omega arith
given_where xs i (Some x) at =
    set_adds xs i.guest (length i.group.entries + 8) x (with_intent x i) at (slot_at x i x.slot)

-- an intent that is given brings as many calls as it has requests, and eight
given_left : (xs : List Guest) (i : Intent)
    → left_of (given xs i) ≤ left_of xs + (length i.group.entries + 8)
unfolding given
given_left xs i = given_where xs i (slice_get xs i.guest) refl

given_store : (broken : Bool) (xs : List Guest) (i : Intent)
    → store_remaining broken (given xs i) + 1 ≤ store_remaining broken xs + intent_remaining
    (Some i)
given_store true xs i = omega arith
given_store false xs i = let more = given_left xs i in omega (arith, more)

-- 3. Each step

full_place : {X : Type 0} (o : Option (Option X)) (x : X) → in_place o ≡ Some x → o ≡ Some (Some x)
full_place None x is = absurd (let no = is in cc)
full_place (Some None) x is = absurd (let no = is in cc)
full_place (Some (Some y)) x is = ap Some is

count_few : {X : Type 0} (o : Option X) → count_in o ≤ 1
count_few None = omega arith
count_few (Some x) = omega arith

-- It does no more than remained; and where it did something that is one thing.
abbrev Pays : (g : ℕ) → Type 0 → BoardState OutboxState → BoardState OutboxState → Type 0
Pays g Did_ old new = Spends g 0 old new × (Did_ → Spends g 1 old new)

module _ (g : ℕ) (old new : BoardState OutboxState) where
  -- by its parts
  spends_by : (n : ℕ)
      → n + 14 * count_in (in_place (slice_get new.jobs g)) + book_remaining (guest_of new.book g)
      + intent_remaining (in_place (slice_get new.intents g))
      + count_in (in_place (slice_get new.dones g))
      + store_remaining new.store.broken new.store.guests + count_in new.report
      + 15 * answered_of (slice_get old.tallies g)
      + 15 * count_in (in_place (slice_get old.jobs g))
      ≤ 14 * count_in (in_place (slice_get old.jobs g)) + book_remaining (guest_of old.book g)
      + intent_remaining (in_place (slice_get old.intents g))
      + count_in (in_place (slice_get old.dones g))
      + store_remaining old.store.broken old.store.guests + count_in old.report
      + 15 * answered_of (slice_get new.tallies g)
      + 15 * count_in (in_place (slice_get new.jobs g))
      → Spends g n old new
  unfolding remaining taken_of
  spends_by n less = omega (arith, less)

  same_spends : new ≡ old → Spends g 0 old new
  same_spends is =
      let left = ap (remaining g) is in
      let taken = ap (taken_of g) is in
      omega (arith, left, taken)

  pays_none : {P : Type 0} → new ≡ old → (P → ⊥) → Pays g P old new
  pays_none is none = (same_spends is, λ did. absurd (none did))

  pays_one : {P : Type 0} → Spends g 1 old new → Pays g P old new
  pays_one less = (omega (arith, less), λ did. less)

  submit_pays : (answer : Answer) (job : Option Job) (tally : Option Tally)
      → in_place (slice_get old.jobs g) ≡ job → slice_get old.tallies g ≡ tally
      → SubmitsFrom g job tally answer old new → Pays g (answer ≡ Ok Did) old new
  submit_pays answer job None there counted does =
      pays_none does.1 (λ did. absurd (let no = did in let is = does.0 in cc))
  submit_pays answer None (Some tally) there counted does =
      pays_none does.1 (λ did. absurd (let no = did in let is = does.0 in cc))
  submit_pays answer (Some job) (Some tally) there counted (inr refused) =
      pays_none refused.1 (λ did. absurd (let no = did in let is = refused.0 in cc))
  submit_pays answer (Some job) (Some tally) there counted (inl did) =
      let full = full_place (slice_get old.jobs g) job there in
      let job_was = ap count_in there in
      let job_now = ap (λ b. count_in (in_place (slice_get b.jobs g))) did.2
      ∙ ap (λ o. count_in (in_place o)) (get_set_same old.jobs g (Some job) None full) in
      let count_was = ap answered_of counted in
      let count_now = ap (λ b. answered_of (slice_get b.tallies g)) did.2
      ∙ ap answered_of (get_set_same old.tallies g tally (record tally { count = tally.count + 1 })
      counted) in
      let book = ap (λ b. book_remaining (guest_of b.book g)) did.2 in
      let more = submitted_book old.book job g in
      let intents = ap (λ b. intent_remaining (in_place (slice_get b.intents g))) did.2 in
      let dones = ap (λ b. count_in (in_place (slice_get b.dones g))) did.2 in
      let store = ap (λ b. store_remaining b.store.broken b.store.guests) did.2 in
      let report = ap (λ b. count_in b.report) did.2 in
      pays_one (spends_by 1 (omega (
        arith,
        job_was,
        job_now,
        count_was,
        count_now,
        book,
        more,
        intents,
        dones,
        store,
        report,
      )))

  collect_by : (answer : Answer) (due : Option Done) → due_of old.book g ≡ due
      → answer ≡ (if is_some due then Ok Did else Ok Nothing) → new
      ≡ record old {
        book = if is_some due then with_turn old.book (Collect g) else old.book;
        dones = put old.dones g due;
      } → Pays g (answer ≡ Ok Did) old new
  collect_by answer None is gave after =
      pays_none after (λ did. absurd (let no = did in let all = gave in cc))
  collect_by answer (Some done) is gave after =
      let jobs = ap (λ b. count_in (in_place (slice_get b.jobs g))) after in
      let counts = ap (λ b. answered_of (slice_get b.tallies g)) after in
      let book = ap (λ b. book_remaining (guest_of b.book g)) after in
      let less = collected_book old.book g done is in
      let intents = ap (λ b. intent_remaining (in_place (slice_get b.intents g))) after in
      let few = count_few (in_place (slice_get new.dones g)) in
      let store = ap (λ b. store_remaining b.store.broken b.store.guests) after in
      let report = ap (λ b. count_in b.report) after in
      pays_one (spends_by 1 (omega (arith, jobs, counts, book, less, intents, few, store, report)))

  collect_pays : (answer : Answer) (place : Option (Option Done))
      → CollectsInto g place answer old new → Pays g (answer ≡ Ok Did) old new
  collect_pays answer None does =
      pays_none does.1 (λ did. absurd (let no = did in let is = does.0 in cc))
  collect_pays answer (Some (Some done)) does =
      pays_none does.1 (λ did. absurd (let no = did in let is = does.0 in cc))
  collect_pays answer (Some None) does =
      collect_by answer (due_of old.book g) refl (does.0 ∙ answer_is (due_of old.book g)) does.1
    where
      answer_is : (o : Option Done) → given_answer o ≡ (if is_some o then Ok Did else Ok Nothing)
      answer_is None = refl
      answer_is (Some done) = refl

  take_by : (answer : Answer) (next : Option Intent) → next_intent old.book old.shares g ≡ next
      → slice_get old.intents g ≡ Some None → answer ≡ given_answer next → new
      ≡ record old {
        book = if is_some next then with_turn old.book (Take g) else old.book;
        shares = share_moved old.shares g next;
        intents = put old.intents g next;
      } → Pays g (answer ≡ Ok Did) old new
  take_by answer None is empty gave after =
      pays_none after (λ did. absurd (let no = did in let all = gave in cc))
  take_by answer (Some i) is empty gave after =
      let jobs = ap (λ b. count_in (in_place (slice_get b.jobs g))) after in
      let counts = ap (λ b. answered_of (slice_get b.tallies g)) after in
      let book = ap (λ b. book_remaining (guest_of b.book g)) after in
      let less = taken_book old.book old.shares g i is in
      let intent_now = ap (λ b. intent_remaining (in_place (slice_get b.intents g))) after
      ∙ ap (λ o. intent_remaining (in_place o)) (get_set_same old.intents g None (Some i) empty) in
      let dones = ap (λ b. count_in (in_place (slice_get b.dones g))) after in
      let store = ap (λ b. store_remaining b.store.broken b.store.guests) after in
      let report = ap (λ b. count_in b.report) after in
      pays_one (spends_by 1 (omega (
        arith,
        jobs,
        counts,
        book,
        less,
        intent_now,
        dones,
        store,
        report,
      )))

  take_pays : (answer : Answer) (place : Option (Option Intent)) → slice_get old.intents g ≡ place
      → TakesInto g place answer old new → Pays g (answer ≡ Ok Did) old new
  take_pays answer None at does =
      pays_none does.1 (λ did. absurd (let no = did in let is = does.0 in cc))
  take_pays answer (Some (Some i)) at does =
      pays_none does.1 (λ did. absurd (let no = did in let is = does.0 in cc))
  take_pays answer (Some None) at does =
      take_by answer (next_intent old.book old.shares g) refl at does.0 does.1

  give_pays : (answer : Answer) (free : Bool) (i : Option Intent)
      → in_place (slice_get old.intents g) ≡ i → GivesWhere g free i answer old new
      → Pays g (answer ≡ Ok Did) old new
  give_pays answer false i there does =
      pays_none does.1 (λ did. absurd (let no = did in let is = does.0 in cc))
  give_pays answer true None there does =
      pays_none does.1 (λ did. absurd (let no = did in let is = does.0 in cc))
  give_pays answer true (Some i) there does =
      let full = full_place (slice_get old.intents g) i there in
      let jobs = ap (λ b. count_in (in_place (slice_get b.jobs g))) does.1 in
      let counts = ap (λ b. answered_of (slice_get b.tallies g)) does.1 in
      let book = ap (λ b. book_remaining (guest_of b.book g)) does.1 in
      let intent_was = ap intent_remaining there in
      let intent_now = ap (λ b. intent_remaining (in_place (slice_get b.intents g))) does.1
      ∙ ap (λ o. intent_remaining (in_place o)) (get_set_same old.intents g (Some i) None full) in
      let dones = ap (λ b. count_in (in_place (slice_get b.dones g))) does.1 in
      let store = ap (λ b. store_remaining b.store.broken b.store.guests) does.1 in
      let more = given_store old.store.broken old.store.guests i in
      let report = ap (λ b. count_in b.report) does.1 in
      pays_one (spends_by 1 (omega (
        arith,
        jobs,
        counts,
        book,
        intent_was,
        intent_now,
        dones,
        store,
        more,
        report,
      )))

  -- a call of the disk that is a write, of a store that isn't broken
  wrote_pays : (answer : Answer) (a : Advances outbox_state OutboxMakes answer old new) (ok : Bool)
      → old.report ≡ None → old.store.broken ≡ false
      → Ends ok Wrote a.progress a.store.broken → Spends g 1 old new
  wrote_pays answer a true none whole ends =
      let lower = round_lowers OutboxMakes old.store.disk old.store.guests a.progress a.store.disk
      a.store.guests a.store.broken (a.round whole) (ap called ends.0) in
      let was = ap (λ v. store_remaining v old.store.guests) whole in
      let now = ap (λ b. store_remaining b.store.broken b.store.guests) a.after
      ∙ ap (λ v. store_remaining v a.store.guests) ends.1 in
      let report_was = ap count_in none in
      let report_now = ap (λ b. count_in b.report) a.after
      ∙ ap (λ p. count_in (report_of p)) ends.0 in
      let jobs = ap (λ b. count_in (in_place (slice_get b.jobs g))) a.after in
      let counts = ap (λ b. answered_of (slice_get b.tallies g)) a.after in
      let book = ap (λ b. book_remaining (guest_of b.book g)) a.after in
      let intents = ap (λ b. intent_remaining (in_place (slice_get b.intents g))) a.after in
      let dones = ap (λ b. count_in (in_place (slice_get b.dones g))) a.after in
      spends_by 1 (omega (
        arith,
        lower,
        was,
        now,
        report_was,
        report_now,
        jobs,
        counts,
        book,
        intents,
        dones,
      ))
  wrote_pays answer a false none whole ends =
      let was = ap (λ v. store_remaining v old.store.guests) whole in
      let now = ap (λ b. store_remaining b.store.broken b.store.guests) a.after
      ∙ ap (λ v. store_remaining v a.store.guests) ends.1 in
      let report_was = ap count_in none in
      let report_now = ap (λ b. count_in b.report) a.after
      ∙ ap (λ p. count_in (report_of p)) ends.0 in
      let jobs = ap (λ b. count_in (in_place (slice_get b.jobs g))) a.after in
      let counts = ap (λ b. answered_of (slice_get b.tallies g)) a.after in
      let book = ap (λ b. book_remaining (guest_of b.book g)) a.after in
      let intents = ap (λ b. intent_remaining (in_place (slice_get b.intents g))) a.after in
      let dones = ap (λ b. count_in (in_place (slice_get b.dones g))) a.after in
      spends_by 1 (omega (
        arith,
        was,
        now,
        report_was,
        report_now,
        jobs,
        counts,
        book,
        intents,
        dones,
      ))

  by_plan : (answer : Answer) (a : Advances outbox_state OutboxMakes answer old new) (o : Option ℕ)
      (waits : Bool) → old.report ≡ None → old.store.broken ≡ false
      → is_write (call_of (plan_at o waits)) ≡ true
      → Round OutboxMakes (plan_at o waits) old.store.disk old.store.guests a.progress a.store.disk
      a.store.guests a.store.broken
      → Spends g 1 old new
  by_plan answer a (Some k) waits none whole write r = wrote_pays answer a r.ok none whole r.ends
  by_plan answer a None true none whole write r = absurd (let no = write in cc)
  by_plan answer a None false none whole write r = absurd (let no = write in cc)

  by_broken : (answer : Answer) (a : Advances outbox_state OutboxMakes answer old new) (b : Bool)
      → old.report ≡ None → old.store.broken ≡ b
      → is_write (next_call b old.store.guests) ≡ true → Spends g 1 old new
  by_broken answer a true none is write = absurd (let no = write in cc)
  by_broken answer a false none is write =
      by_plan answer a _ _ none is write (a.round is)

  advance_pays : {P : Type 0} (answer : Answer) (r : Option Report) → old.report ≡ r
      → MayWrite old → (answer ≡ Ok Nothing → P → ⊥)
      → AdvancesUnder outbox_state OutboxMakes r answer old new → Pays g P old new
  advance_pays answer (Some r) there may none does = pays_none does.1 (none does.0)
  advance_pays answer None there may none does =
      pays_one (by_broken answer does old.store.broken there refl may.write)

  settle_by : (answer : Answer) (r : Report) → old.report ≡ Some r
      → book_remaining (guest_of new.book g) ≤ book_remaining (guest_of old.book g)
      → new ≡ record old { book = new.book; report = None } → Spends g 1 old new
  settle_by answer r there book after =
      let report_was = ap count_in there in
      let report_now = ap (λ b. count_in b.report) after in
      let jobs = ap (λ b. count_in (in_place (slice_get b.jobs g))) after in
      let counts = ap (λ b. answered_of (slice_get b.tallies g)) after in
      let intents = ap (λ b. intent_remaining (in_place (slice_get b.intents g))) after in
      let dones = ap (λ b. count_in (in_place (slice_get b.dones g))) after in
      let store = ap (λ b. store_remaining b.store.broken b.store.guests) after in
      spends_by 1 (omega (
        arith,
        report_was,
        report_now,
        book,
        jobs,
        counts,
        intents,
        dones,
        store,
      ))

  settle_pays : (answer : Answer) (r : Option Report) → old.report ≡ r → SettlesBy r answer old new
      → Pays g (answer ≡ Ok Did) old new
  settle_pays answer None there does =
      pays_none does.1 (λ did. absurd (let no = did in let is = does.0 in cc))
  settle_pays answer (Some (Marks marks)) there does =
      let all = marks_for (length (state old.book).guests) marks in
      let book = ap (λ b. book_remaining (guest_of b.book g)) does.1 in
      let less = turned_where
      (may_settle old.book old.shares marks && move_some (state old.book).guests marks) old.book
      (Settle all) g (settled_book (slice_get all g)) in
      pays_one (settle_by answer (Marks marks) there (omega (arith, book, less))
      (does.1 ∙ ap (λ b. record old { book = b; report = None })
      (sym (ap (λ b. b.book) does.1))))
  settle_pays answer (Some Fault) there does =
      let book = ap (λ b. book_remaining (guest_of b.book g)) does.1 in
      let less = broken_off (state old.book).broken old.book g in
      pays_one (settle_by answer Fault there (omega (arith, book, less))
      (does.1 ∙ ap (λ b. record old { book = b; report = None })
      (sym (ap (λ b. b.book) does.1))))

  unpopped : (devices : List DeviceState) → new ≡ record old { devices = devices }
      → Spends g 0 old new
  unfolding remaining taken_of
  unpopped devices after =
      let left : remaining g new ≡ remaining g old = ap (λ b. remaining g b) after in
      let taken : taken_of g new ≡ taken_of g old = ap (λ b. taken_of g b) after in
      omega (arith, left, taken)

  -- a pop takes a chain where it says so
  pop_by : (answer : Answer) (popped : Result (Option Job) DeviceFault) (devices : List DeviceState)
      → slice_get old.jobs g ≡ Some None → answer ≡ pop_answer popped
      → new ≡ record old { devices = devices; jobs = put old.jobs g (job_of popped) }
      → Pays g (answer ≡ Ok Did) old new
  pop_by answer (Ok None) devices empty gave after =
      (unpopped devices after, λ did. absurd (let no = did in let is = gave in cc))
  pop_by answer (Err e) devices empty gave after =
      (unpopped devices after, λ did. absurd (let no = did in let is = gave in cc))
  pop_by answer (Ok (Some job)) devices empty gave after =
      let job_was = ap (λ o. count_in (in_place o)) empty in
      let job_now = ap (λ b. count_in (in_place (slice_get b.jobs g))) after
      ∙ ap (λ o. count_in (in_place o)) (get_set_same old.jobs g None (Some job) empty) in
      let counts = ap (λ b. answered_of (slice_get b.tallies g)) after in
      let book = ap (λ b. book_remaining (guest_of b.book g)) after in
      let intents = ap (λ b. intent_remaining (in_place (slice_get b.intents g))) after in
      let dones = ap (λ b. count_in (in_place (slice_get b.dones g))) after in
      let store = ap (λ b. store_remaining b.store.broken b.store.guests) after in
      let report = ap (λ b. count_in b.report) after in
      pays_one (spends_by 1 (omega (
        arith,
        job_was,
        job_now,
        counts,
        book,
        intents,
        dones,
        store,
        report,
      )))

  pop_pays : (answer : Answer) (device : Option DeviceState) → slice_get old.jobs g ≡ Some None
      → PopsInto g (Some None) device answer old new → Pays g (answer ≡ Ok Did) old new
  pop_pays answer None empty does =
      pays_none does.1 (λ did. absurd (let no = did in let is = does.0 in cc))
  pop_pays answer (Some d) empty does =
      pop_by answer does.popped (slice_set old.devices g does.device) empty does.answers does.after

spends_twice : (g n m : ℕ) (a b c : BoardState OutboxState) → Spends g n a b → Spends g m b c
    → Spends g (n + m) a c
spends_twice g n m a b c first more = omega (arith, first, more)

spends_same : (g : ℕ) (a b : BoardState OutboxState) → b ≡ a → Spends g 0 a b
spends_same g a b is = same_spends g a b is

-- devices count for nothing
pays_rest : {P : Type 0} (g : ℕ) (a b : Boards) → Pays g P (board_of a) (board_of b)
    → Pays g P a.rest b.rest
unfolding remaining taken_of
pays_rest g a b pays = pays

fewer : (g n m : ℕ) (a b : BoardState OutboxState) → n ≤ m → Spends g m a b → Spends g n a b
fewer g n m a b few spends = omega (arith, few, spends)

-- a step but the disk's did something where it says so
did_pays : (g : ℕ) (x : Step) (answer : Answer) (a b : BoardState OutboxState)
    → (x ≡ step.Advance → ⊥) → Pays g (answer ≡ Ok Did) a b → Pays g (IsDone x answer) a b
did_pays g x answer a b other pays = (
  pays.0,
  λ done. elim done [
    | inl did ↦ pays.1 did
    | inr advance ↦ absurd (other advance.0)
  ],
)

not_done : (answer : Answer) → answer ≡ Ok Nothing → IsDone step.Advance answer → ⊥
not_done answer nothing (inl did) = absurd (let no = nothing in let yes = did in cc)
not_done answer nothing (inr advance) = advance.1 nothing

-- 4. All steps of a guest

module _ (g most : ℕ) where
  popped_pays : (v w : Bool) (answer : Answer) (a b : Boards) (qs : List Range)
      → PopsOne g most v answer a qs w b → Pays g (answer ≡ Ok Did) a.rest b.rest
  popped_pays v w answer a b qs pops =
      pays_rest g a b (pop_pays g (board_of a) (board_of b) answer _ pops.empty
      (subst (λ p. PopsInto g p (slice_get (board_of a).devices g) answer (board_of a) (board_of b))
      pops.empty pops.makes.steps.does))

  handed_spends : (a b : Boards) (qs : List Range) → HandsOne g a qs b → Spends g 1 a.rest b.rest
  handed_spends a b qs hands =
      let h = hands.hands in
      let full = full_place (slice_get a.rest.dones g) h.done h.lay in
      let rest = ap (λ x. x.rest) h.after in
      let done_was = ap count_in h.lay in
      let done_now = ap (λ r. count_in (in_place (slice_get r.dones g))) rest
      ∙ ap (λ o. count_in (in_place o)) (get_set_same a.rest.dones g (Some h.done) None full) in
      let jobs = ap (λ r. count_in (in_place (slice_get r.jobs g))) rest in
      let counts = ap (λ r. answered_of (slice_get r.tallies g)) rest in
      let book = ap (λ r. book_remaining (guest_of r.book g)) rest in
      let intents = ap (λ r. intent_remaining (in_place (slice_get r.intents g))) rest in
      let store = ap (λ r. store_remaining r.store.broken r.store.guests) rest in
      let report = ap (λ r. count_in r.report) rest in
      spends_by g a.rest b.rest 1 (omega (
        arith,
        done_was,
        done_now,
        jobs,
        counts,
        book,
        intents,
        store,
        report,
      ))

  step_pays : (x : Step) (answer : Answer) (a b : Boards) → IsShare g x a → Makes x answer a b
      → Pays g (IsDone x answer) a.rest b.rest
  step_pays (step.Drive k act) answer a b share makes = absurd share
  step_pays (step.Pop k) answer a b share makes = absurd share
  step_pays (step.Submit k) answer a b share makes =
      did_pays g (step.Submit k) answer a.rest b.rest (λ adv. absurd (let no = adv in cc))
      (subst (λ n. Pays n (answer ≡ Ok Did) a.rest b.rest) share
      (pays_rest k a b
      (submit_pays k (board_of a) (board_of b) answer _ _ refl refl makes.steps.does)))
  step_pays (step.Collect k) answer a b share makes =
      did_pays g (step.Collect k) answer a.rest b.rest (λ adv. absurd (let no = adv in cc))
      (subst (λ n. Pays n (answer ≡ Ok Did) a.rest b.rest) share
      (pays_rest k a b (collect_pays k (board_of a) (board_of b) answer _ makes.steps.does)))
  step_pays (step.Publish k) answer a b share makes = absurd share
  step_pays (step.Take k) answer a b share makes =
      did_pays g (step.Take k) answer a.rest b.rest (λ adv. absurd (let no = adv in cc))
      (subst (λ n. Pays n (answer ≡ Ok Did) a.rest b.rest) share
      (pays_rest k a b (take_pays k (board_of a) (board_of b) answer _ refl makes.steps.does)))
  step_pays (step.Give k) answer a b share makes =
      did_pays g (step.Give k) answer a.rest b.rest (λ adv. absurd (let no = adv in cc))
      (subst (λ n. Pays n (answer ≡ Ok Did) a.rest b.rest) share
      (pays_rest k a b (give_pays k (board_of a) (board_of b) answer _ _ refl makes.steps.does)))
  step_pays step.Advance answer a b share makes =
      pays_rest g a b (advance_pays g (board_of a) (board_of b) answer _ refl
      (record { write = share.write; room = share.room })
      (λ nothing done. not_done answer nothing done) makes.steps.does)
  step_pays step.Settle answer a b share makes =
      did_pays g step.Settle answer a.rest b.rest (λ adv. absurd (let no = adv in cc))
      (pays_rest g a b (settle_pays g (board_of a) (board_of b) answer _ refl makes.steps.does))

  pub runs_spend : (s t : Stand) (a b : Boards) → Runs g most s a t b → Spends g 0 a.rest b.rest
  runs_spend s t a b (Still r d) = spends_same g d.rest d.rest refl
  runs_spend s t a b (Then q r x y z o answer runs share makes) =
      spends_twice g 0 0 x.rest y.rest z.rest (runs_spend q r x y runs)
      (step_pays o answer y z share makes).0
  runs_spend s t a b (Pops q r l m x y z answer runs pops) =
      spends_twice g 0 0 x.rest y.rest z.rest (runs_spend q (standing [] true l) x y runs)
      (popped_pays l m answer y z r pops).0
  runs_spend s t a b (Hands q r l x y z runs hands) =
      fewer g 0 1 x.rest z.rest (omega arith)
      (spends_twice g 0 1 x.rest y.rest z.rest (runs_spend q (standing [] true l) x y runs)
      (handed_spends y z r hands))
  runs_spend s t a b (LearnsOf q r v w l x y z none runs knows) =
      spends_twice g 0 0 x.rest y.rest z.rest (runs_spend q (standing r v l) x y runs)
      (spends_same g y.rest z.rest (ap (λ b. b.rest) knows.after))
  runs_spend s t a b (GivesUp q r v l x y runs) = runs_spend q (standing r v l) x y runs
  runs_spend s t a b (Calls q r l x y z runs notified) =
      spends_twice g 0 0 x.rest y.rest z.rest (runs_spend q (standing r true l) x y runs)
      (spends_same g y.rest z.rest (ap (λ b. b.rest) notified.after))
  runs_spend s t a b (Voids q r v l x y z runs why refuses) =
      spends_twice g 0 0 x.rest y.rest z.rest (runs_spend q (standing r v l) x y runs)
      (spends_same g y.rest z.rest (ap (λ b. b.rest) refuses.after))

  does_spend : (s t : Stand) (a b : Boards) → DoesSome g most s a t b → Spends g 1 a.rest b.rest
  does_spend s t a b (ByStep q r u x y z w o answer before share makes some after) =
      spends_twice g 1 0 x.rest z.rest w.rest
      (spends_twice g 0 1 x.rest y.rest z.rest (runs_spend q r x y before)
      ((step_pays o answer y z share makes).1 some)) (runs_spend r u z w after)
  does_spend s t a b (ByPop q u qs l m x y z w answer before pops some after) =
      spends_twice g 1 0 x.rest z.rest w.rest
      (spends_twice g 0 1 x.rest y.rest z.rest (runs_spend q (standing [] true l) x y before)
      ((popped_pays l m answer y z qs pops).1 some)) (runs_spend (standing qs false m) u z w after)
  does_spend s t a b (ByReply q u qs l x y z w before hands after) =
      spends_twice g 1 0 x.rest z.rest w.rest
      (spends_twice g 0 1 x.rest y.rest z.rest (runs_spend q (standing [] true l) x y before)
      (handed_spends y z qs hands)) (runs_spend (standing qs false l) u z w after)

  many_spend : (n : ℕ) (s t : Stand) (a b : Boards) → DoesMany g most n s a t b
      → Spends g n a.rest b.rest
  many_spend n s t a b (DoesNone k q r x y none runs) =
      subst (λ m. Spends g m x.rest y.rest) (sym none) (runs_spend q r x y runs)
  many_spend n s t a b (DoesMore k m q r u x y z more many some) =
      subst (λ j. Spends g j x.rest z.rest) (sym more)
      (spends_twice g m 1 x.rest y.rest z.rest (many_spend m q r x y many)
      (does_spend r u y z some))

pub comes_to_an_end : ComesToAnEnd
comes_to_an_end guest most n s t a b many = many_spend guest most n s t a b many
