-- How many chains of a guest wait: a pop adds one at most, and no other step of a serve adds any.
use Rattle.std.proofs.Common.{◌≡◌, ◌≤◌, ◌<◌, inl, inr, refl, ap, subst, ◌∙◌, ℕ, ◌+◌, Bool, true}
use Rattle.std.proofs.Common.{false}
use Rattle.std.proofs.Common.{Option, Some, None, List, [], ◌∷◌, drop, length, arith, length-append}
use Rattle.std.specs.Prelude.{option_map, if◌then◌else◌, ◌==◌, is_some, nat_lt}
use Rattle.board.proofs.Common.{nat_tests}
use Rattle.machine.proofs.Common.{slice_get, Answer, BoardState, Boards, CollectsInto}
use Rattle.machine.proofs.Common.{DeviceState, Done, HandsReply, Job, Makes, OutboxMakes}
use Rattle.machine.proofs.Common.{OutboxState}
use Rattle.machine.proofs.Common.{PopsInto, SubmitsFrom, Tally, board_of, get_set_same, in_place}
use Rattle.machine.proofs.Common.{outbox_state, put, Calls, GivesUp, Hands, IsShare, LearnsOf, Pops}
use Rattle.machine.proofs.Common.{Runs, Stand, Step, Still, Then, Voids, standing}
use Rattle.mmio_transport.specs.declared.done.Published.{Published}
use Rattle.rpmb_book.proofs.ByGuest.{by_guest}
use Rattle.rpmb_book.proofs.Replay.{replay-push}
use Rattle.rpmb_book.proofs.Rolling.{state_stays}
use Rattle.rpmb_book.specs.Book.{BookView, due_at, due_of, guest_of, state, submit_of, with_turn}
use Rattle.rpmb_book.specs.ByGuest.{guest_after}
use Rattle.rpmb_book.specs.Fold.{after_submit, roomy}
use Rattle.rpmb_book.specs.Guest.{GuestState, Held, collected, first_due, held_when, submitted}
use Rattle.rpmb_book.specs.Turn.{Collect}
use Rattle.board.specs.State.{count_held, count_in, waiting}
use Rattle.board.specs.declared.step.Step.TheVariants as step
use Rattle.machine.specs.Ending.{TakesAnswer, Full, Outside, Short, Told}
use Rattle.machine.specs.Serving.{KeepsLimit, KeepsWaiting}
use Rattle.machine.proofs.Waiting.{advanced_waits, gave_waits, settled_waits, took_waits}
use Rattle.machine.specs.declared.turn.Asked.{Asked}
use Rattle.machine.specs.declared.turn.Asked.TheVariants as asked

-- 1. The book, and a place

count_few : {X : Type 0} (o : Option X) → count_in o ≤ 1
count_few None = omega arith
count_few (Some x) = omega arith

turned_more : (f : GuestState → GuestState)
    → ((x : GuestState) → length (f x).held ≤ length x.held + 1) → (o : Option GuestState)
    → count_held (option_map f o) ≤ count_held o + 1
turned_more f more None = omega arith
turned_more f more (Some x) = more x

submitted_one : (broken : Bool) (job : Job) (x : GuestState)
    → length (submitted broken job x).held ≤ length x.held + 1
submitted_one broken job x =
    let long = length-append x.held (held_when broken x.core job ∷ []) in omega (arith, long)

chosen_one : (v broken : Bool) (job : Job) (x : GuestState)
    → length (if v then submitted broken job x else x).held ≤ length x.held + 1
chosen_one true broken job x = submitted_one broken job x
chosen_one false broken job x = omega arith

-- a job that was answered adds a reply at most
submitted_held : (b : BookView) (job : Job) (k : ℕ)
    → count_held (guest_of (after_submit b job) k) ≤ count_held (guest_of b k) + 1
submitted_held b job k =
    let now = state (roomy b) in
    let is = ap (λ s. count_held (slice_get s.guests k))
    (replay-push (roomy b).opening (roomy b).history (submit_of b job))
    ∙ ap count_held (by_guest now (submit_of b job) k) in
    let more = turned_more (guest_after k now.broken (submit_of b job))
    (chosen_one _ now.broken job) (slice_get now.guests k) in
    let same = ap (λ s. count_held (slice_get s.guests k)) (state_stays b).1 in
    omega (arith, is, more, same)

due_list : (settled : ℕ) (hs : List Held) (done : Done) → first_due settled hs ≡ Some done
    → length (drop 1 hs) + 1 ≤ length hs
due_list settled [] done is = absurd (let no = is in cc)
due_list settled (h ∷ hs) done is = omega arith

chosen_less : (v : Bool) (x : GuestState) → v ≡ true → length (drop 1 x.held) + 1 ≤ length x.held
    → length (if v then collected x else x).held + 1 ≤ length x.held
chosen_less true x is less = less
chosen_less false x is less = absurd (let no = is in cc)

same_number : (k : ℕ) → (k == k) ≡ true
same_number k = grind arith

due_less : (k : ℕ) (broken : Bool) (o : Option GuestState) (done : Done) → due_at o ≡ Some done
    → count_held (option_map (guest_after k broken (Collect k)) o) + 1 ≤ count_held o
due_less k broken None done is = absurd (let no = is in cc)
due_less k broken (Some x) done is =
    chosen_less (k == k) x (same_number k) (due_list x.settled x.held done is)

-- a reply that leaves the book is one less
collected_held : (b : BookView) (k : ℕ) (done : Done) → due_of b k ≡ Some done
    → count_held (guest_of (with_turn b (Collect k)) k) + 1 ≤ count_held (guest_of b k)
collected_held b k done is =
    let now = ap (λ s. count_held (slice_get s.guests k))
    (replay-push b.opening b.history (Collect k))
    ∙ ap count_held (by_guest (state b) (Collect k) k) in
    let less = due_less k (state b).broken (guest_of b k) done is in
    omega (arith, now, less)

full_place : {X : Type 0} (o : Option (Option X)) (x : X) → in_place o ≡ Some x → o ≡ Some (Some x)
full_place None x is = absurd (let no = is in cc)
full_place (Some None) x is = absurd (let no = is in cc)
full_place (Some (Some y)) x is = ap Some is

-- 2. Each step

module _ (g : ℕ) (old new : BoardState OutboxState) where
  as_many : new ≡ old → waiting g new ≤ waiting g old
  as_many is = let same = ap (λ b. waiting g b) is in omega (arith, same)

  one_job : new.book ≡ old.book → new.dones ≡ old.dones → waiting g new ≤ waiting g old + 1
  one_job book dones =
      let held = ap (λ b. count_held (guest_of b g)) book in
      let left = ap (λ ds. count_in (in_place (slice_get ds g))) dones in
      let few = count_few (in_place (slice_get new.jobs g)) in
      omega (arith, held, left, few)

  pop_waits : (answer : Answer) (place : Option (Option Job)) (device : Option DeviceState)
      → PopsInto g place device answer old new → waiting g new ≤ waiting g old + 1
  pop_waits answer None device does = let same = as_many does.1 in omega (arith, same)
  pop_waits answer (Some (Some job)) device does = let same = as_many does.1 in omega (arith, same)
  pop_waits answer (Some None) None does = let same = as_many does.1 in omega (arith, same)
  pop_waits answer (Some None) (Some d) does =
      one_job (ap (λ b. b.book) does.after) (ap (λ b. b.dones) does.after)

  submit_waits : (answer : Answer) (job : Option Job) (tally : Option Tally)
      → in_place (slice_get old.jobs g) ≡ job → SubmitsFrom g job tally answer old new
      → waiting g new ≤ waiting g old
  submit_waits answer job None there does = as_many does.1
  submit_waits answer None (Some tally) there does = as_many does.1
  submit_waits answer (Some job) (Some tally) there (inr refused) = as_many refused.1
  submit_waits answer (Some job) (Some tally) there (inl did) =
      let was = ap count_in there in
      let full = full_place (slice_get old.jobs g) job there in
      let now = ap (λ b. count_in (in_place (slice_get b.jobs g))) did.2
      ∙ ap (λ o. count_in (in_place o)) (get_set_same old.jobs g (Some job) None full) in
      let left = ap (λ b. count_in (in_place (slice_get b.dones g))) did.2 in
      let held = ap (λ b. count_held (guest_of b.book g)) did.2 in
      let more = submitted_held old.book job g in
      omega (arith, was, now, left, held, more)

  collect_by : (due : Option Done) → due_of old.book g ≡ due → new
      ≡ record old {
        book = if is_some due then with_turn old.book (Collect g) else old.book;
        dones = put old.dones g due;
      } → waiting g new ≤ waiting g old
  collect_by None is after = as_many after
  collect_by (Some done) is after =
      let held = ap (λ b. count_held (guest_of b.book g)) after in
      let jobs = ap (λ b. count_in (in_place (slice_get b.jobs g))) after in
      let less = collected_held old.book g done is in
      let few = count_few (in_place (slice_get new.dones g)) in
      omega (arith, held, jobs, less, few)

  collect_waits : (answer : Answer) (place : Option (Option Done))
      → CollectsInto g place answer old new → waiting g new ≤ waiting g old
  collect_waits answer None does = as_many does.1
  collect_waits answer (Some (Some done)) does = as_many does.1
  collect_waits answer (Some None) does = collect_by (due_of old.book g) refl does.1

module _ (g : ℕ) (answer : Answer) (a b : Boards) where
  popped_waits : Makes (step.Pop g) answer a b → waiting g b.rest ≤ waiting g a.rest + 1
  popped_waits makes = pop_waits g (board_of a) (board_of b) answer _ _ makes.steps.does

  submitted_waits : Makes (step.Submit g) answer a b → waiting g b.rest ≤ waiting g a.rest
  submitted_waits makes =
      submit_waits g (board_of a) (board_of b) answer _ _ refl makes.steps.does

  collected_waits : Makes (step.Collect g) answer a b → waiting g b.rest ≤ waiting g a.rest
  collected_waits makes = collect_waits g (board_of a) (board_of b) answer _ makes.steps.does

-- a reply that is handed to its device no longer lies in its place
handed_waits : (g : ℕ) (published : Published) (a b : Boards)
    → HandsReply outbox_state OutboxMakes g published a b → waiting g b.rest ≤ waiting g a.rest
handed_waits g published a b hands =
    let was = ap count_in hands.lay in
    let held = ap (λ x. count_held (guest_of x.rest.book g)) hands.after in
    let jobs = ap (λ x. count_in (in_place (slice_get x.rest.jobs g))) hands.after in
    let few = count_few (in_place (slice_get b.rest.dones g)) in
    omega (arith, was, held, jobs, few)

-- 3. One move after another

is_below : (n m : ℕ) → nat_lt n m ≡ true → n < m
is_below n m is = grind (arith, nat_tests)

module _ (g most : ℕ) (a b : BoardState OutboxState) where
  pub limit_same : b ≡ a → KeepsLimit g most a b
  limit_same is = inl (let same = ap (λ r. waiting g r) is in omega (arith, same))

  limit_kept : KeepsWaiting g a b → KeepsLimit g most a b
  limit_kept keeps = inl (let same = keeps.1 in omega (arith, same))

  -- a chain more was taken where fewer wait than may
  limit_one : nat_lt (waiting g a) most ≡ true → waiting g b ≤ waiting g a + 1
      → KeepsLimit g most a b
  limit_one fewer one = inr (let below = is_below (waiting g a) most fewer in
      omega (arith, below, one))

pub limit_twice : (g most : ℕ) (a b c : BoardState OutboxState) → KeepsLimit g most a b
    → KeepsLimit g most b c → KeepsLimit g most a c
limit_twice g most a b c first (inr few) = inr few
limit_twice g most a b c (inl less) (inl more) = inl (omega (arith, less, more))
limit_twice g most a b c (inr few) (inl more) = inr (omega (arith, few, more))

-- what a monitor's answer changes is the device's
pub answered_rest : (g : ℕ) (a : Asked) (there : Bool) (bytes : List ℕ) (ok : Bool)
    (old new : Boards) → TakesAnswer g a there bytes old ok new → new.rest ≡ old.rest
answered_rest g asked.Nothing there bytes ok old new does = ap (λ b. b.rest) does.1
answered_rest g asked.Write true bytes ok old new does = ap (λ b. b.rest) does.1
answered_rest g asked.Write false bytes ok old new does = ap (λ b. b.rest) does.1.after
answered_rest g (asked.Read ask) false bytes ok old new does = ap (λ b. b.rest) does.1.after
answered_rest g (asked.Read ask) true bytes ok old new (Told is tells) =
    ap (λ b. b.rest) tells.after
answered_rest g (asked.Read ask) true bytes ok old new (Full is same) = ap (λ b. b.rest) same
answered_rest g (asked.Read ask) true bytes ok old new (Short is few refuses) =
    ap (λ b. b.rest) refuses.after
answered_rest g (asked.Read ask) true bytes ok old new (Outside is out refuses) =
    ap (λ b. b.rest) refuses.after

-- 4. All steps of a guest

module _ (g most : ℕ) where
  step_limit : (x : Step) (answer : Answer) (a b : Boards) → IsShare g x a → Makes x answer a b
      → KeepsLimit g most a.rest b.rest
  step_limit (step.Drive k act) answer a b share makes = absurd share
  step_limit (step.Pop k) answer a b share makes = absurd share
  step_limit (step.Submit k) answer a b share makes =
      inl (submitted_waits g answer a b
      (subst (λ n. Makes (step.Submit n) answer a b) share makes))
  step_limit (step.Collect k) answer a b share makes =
      inl (collected_waits g answer a b
      (subst (λ n. Makes (step.Collect n) answer a b) share makes))
  step_limit (step.Publish k) answer a b share makes = absurd share
  step_limit (step.Take k) answer a b share makes =
      limit_kept g most a.rest b.rest (took_waits g answer a b k makes)
  step_limit (step.Give k) answer a b share makes =
      limit_kept g most a.rest b.rest (gave_waits g answer a b k makes)
  step_limit step.Advance answer a b share makes =
      limit_kept g most a.rest b.rest (advanced_waits g answer a b makes)
  step_limit step.Settle answer a b share makes =
      limit_kept g most a.rest b.rest (settled_waits g answer a b makes)

  -- no more of its chains wait behind them than before, or than may
  pub runs_limit : (s t : Stand) (a b : Boards) → Runs g most s a t b
      → KeepsLimit g most a.rest b.rest
  runs_limit s t a b (Still r d) = limit_same g most d.rest d.rest refl
  runs_limit s t a b (Then q r x y z o answer runs share makes) =
      limit_twice g most x.rest y.rest z.rest (runs_limit q r x y runs)
      (step_limit o answer y z share makes)
  runs_limit s t a b (Pops q r l m x y z answer runs pops) =
      limit_twice g most x.rest y.rest z.rest (runs_limit q (standing [] true l) x y runs)
      (limit_one g most y.rest z.rest pops.fewer (popped_waits g answer y z pops.makes))
  runs_limit s t a b (Hands q r l x y z runs hands) =
      limit_twice g most x.rest y.rest z.rest (runs_limit q (standing [] true l) x y runs)
      (inl (handed_waits g hands.published y z hands.hands))
  runs_limit s t a b (LearnsOf q r v w l x y z none runs knows) =
      limit_twice g most x.rest y.rest z.rest (runs_limit q (standing r v l) x y runs)
      (limit_same g most y.rest z.rest (ap (λ b. b.rest) knows.after))
  runs_limit s t a b (GivesUp q r v l x y runs) = runs_limit q (standing r v l) x y runs
  runs_limit s t a b (Calls q r l x y z runs notified) =
      limit_twice g most x.rest y.rest z.rest (runs_limit q (standing r true l) x y runs)
      (limit_same g most y.rest z.rest (ap (λ b. b.rest) notified.after))
  runs_limit s t a b (Voids q r v l x y z runs why refuses) =
      limit_twice g most x.rest y.rest z.rest (runs_limit q (standing r v l) x y runs)
      (limit_same g most y.rest z.rest (ap (λ b. b.rest) refuses.after))
