-- One guest's share in a board, through one call after another; and one look at a guest's queue, by
-- the way it ended.
use Rattle.std.proofs.Common.{◌≡◌, ◌<◌, ℕ, false, Option, Some, length, refl, ap, sym, subst, ◌∙◌}
use Rattle.std.proofs.Common.{length-set, max, None, Result, Ok, Err, arith, ◌≤◌, inl, ◌+◌, Bool}
use Rattle.std.proofs.Common.{true, [], unwrap_or, ap₂}
use Rattle.queue_looks.proofs.Common.{slice_get, slice_set, DiskCall, DiskState, get_set_same}
use Rattle.queue_looks.proofs.Common.{get_set_other, DeviceState, Job, Moves, BoardState, there_is}
use Rattle.queue_looks.proofs.Common.{lent_moves, moves_none, moves_twice, sound_moved, IsCalm}
use Rattle.queue_looks.proofs.Common.{is_broken, with_device, ShowsShare, OnShare, Share, share_of}
use Rattle.queue_looks.proofs.Common.{LooksOn, HostFault, Look, Answered, ◌==◌, nat_lt, nat_tests}
use Rattle.queue_looks.proofs.Common.{length-map, slice_get_within, done_of, GivesJob, DeviceFault}
use Rattle.queue_looks.proofs.Common.{guest_of, refusal, Held, Tally, Refused, guests, in_place}
use Rattle.queue_looks.proofs.Common.{IsSound, PopsInto, PublishesFrom, PublishesReply, SubmitsFrom}
use Rattle.queue_looks.proofs.Common.{told_of, AnswerAll, EndLooks, IsOnlyPopped, Looks, FindsJob}
use Rattle.queue_looks.proofs.Common.{after_when, held_since, refusal_of, reply_when, runner_of}
use Rattle.queue_looks.proofs.Common.{runner_since, Leaves, Waits, Steps, answer_by, fault_of}
use Rattle.queue_looks.proofs.Common.{found_by}
use Rattle.queue_looks.proofs.Settled.{also_there, cores_in}
use Rattle.queue_looks.proofs.Since.{since_after}
use Rattle.rpmb_book.proofs.Places.{set-nothing, set-twice}
use Rattle.rpmb_book.specs.Audit.{HasHistory}
use Rattle.rpmb_book.proofs.Calm.{room_when_calm}
use Rattle.board.specs.Steps.{Answer as BoardAnswer}
use Rattle.board.specs.declared.step.Seen.TheVariants.{Nothing}
use Rattle.queue_looks.proofs.Serves.{Popped, Submitted, leaves_calm, leaves_published, named}
use Rattle.queue_looks.proofs.Serves.{popped, reply_in, runner_after, same_broken, submit_did}
use Rattle.queue_looks.proofs.Serves.{submit_nothing, submit_refused, submit_waits}
use Rattle.rpmb_book.specs.declared.refused.Refused.TheVariants as refused
use Rattle.board.specs.declared.step.Step.TheVariants as step
use Rattle.board.specs.declared.step.StepFault.TheVariants as fault
use Rattle.queue_looks.specs.declared.looking.Look.TheVariants as look

module _ {D : Type 0} (shows : D → DiskState) (makes : D → DiskCall → D → Type 0) (g : ℕ) where
  -- 1. The share

  -- there is one
  one_share : (b : BoardState D) (s s' : Share) → ShowsShare g b s → ShowsShare g b s' → s ≡ s'
  one_share b s s' x y = grind arith

  -- of each guest of a calm board
  pub share_there : (b : BoardState D) → IsCalm shows b → g < length b.devices → (s : Share)
      × ShowsShare g b s
  share_there b calm there =
      let p = calm.sound.linked.places in
      let d = there_is b.devices g there in
      let j = also_there b.devices b.jobs g d.0 d.1 (p.jobs ∙ sym p.devices) in
      (share_of b d.0 j.0, record { at = d.1; place = j.1; runner = refl; broken = refl })

  -- 2. What became of it

  -- the device and the job of the guest alone are others, and the board is calm
  pub share_made : (P : Share → Share → Type 0) (b b' : BoardState D) (d d' : DeviceState)
      (o o' : Option Job) → slice_get b.devices g ≡ Some d → slice_get b.jobs g ≡ Some o
      → b'.devices ≡ slice_set b.devices g d' → b'.jobs ≡ slice_set b.jobs g o' → IsCalm shows b'
      → (is_broken b' ≡ false → is_broken b ≡ false) → Moves shows makes b b'
      → P (share_of b d o) (share_of b' d' o') → OnShare shows makes g P b b'
  share_made P b b' d d' o o' at place devices jobs calm whole moves does = record {
    old = share_of b d o;
    new = share_of b' d' o';
    before = record { at = at; place = place; runner = refl; broken = refl };
    after = grind (arith, get_set_same);
    does = does;
    touches = grind (arith, get_set_other, length-set);
    moves = moves;
  }

  -- its device was lent to its driver
  pub share_lent : (b : BoardState D) (d d' : DeviceState) → IsCalm shows b → slice_get b.devices g
      ≡ Some d
      → OnShare shows makes g (λ s s'. (s.device ≡ d) × (s'.device ≡ d')
      × (s' ≡ record s { device = d' })) b (with_device b g d')
  share_lent b d d' calm at =
      let p = calm.sound.linked.places in
      let j = also_there b.devices b.jobs g d at (p.jobs ∙ sym p.devices) in
      let moves = lent_moves shows makes g b d' in
      let lent : IsCalm shows (with_device b g d') =
      record {
        sound = sound_moved shows makes b (with_device b g d') calm.sound moves;
        quiet =
            calm.quiet;
        replies = calm.replies;
        report = calm.report;
        broken = calm.broken;
      } in
      share_made (λ s s'. (s.device ≡ d) × (s'.device ≡ d') × (s' ≡ record s { device = d' })) b
      (with_device b g d') d d' j.0 j.0 at j.1 refl (sym (set-nothing b.jobs g j.0 j.1)) lent
      (λ whole. whole) moves (refl, refl, refl)

  pub share_none : (b : BoardState D) → IsCalm shows b → g < length b.devices
      → OnShare shows makes g (λ s s'. s' ≡ s) b b
  share_none b calm there =
      let s = share_there b calm there in
      share_made (λ s s'. s' ≡ s) b b s.0.device s.0.device s.0.job s.0.job s.1.at s.1.place
      (sym (set-nothing b.devices g s.0.device s.1.at))
      (sym (set-nothing b.jobs g s.0.job s.1.place)) calm (λ whole. whole)
      (moves_none shows makes b) refl

  -- one call after another
  pub share_then : (P Q R : Share → Share → Type 0) (a b c : BoardState D)
      → OnShare shows makes g P a b → OnShare shows makes g Q b c
      → ((s s1 s2 : Share) → P s s1 → Q s1 s2 → R s s2) → OnShare shows makes g R a c
  share_then P Q R a b c p q both = record {
    old = p.old;
    new = q.new;
    before = p.before;
    after = q.after;
    does = both p.old p.new q.new p.does
        (subst (λ s. Q s q.new) (one_share b q.old p.new q.before p.after) q.does);
    touches = grind arith;
    moves = moves_twice shows makes a b c p.moves q.moves;
  }

  pub share_so : (P R : Share → Share → Type 0) (a b : BoardState D) → OnShare shows makes g P a b
      → ((s s' : Share) → P s s' → R s s') → OnShare shows makes g R a b
  share_so P R a b p so = record {
    old = p.old;
    new = p.new;
    before = p.before;
    after = p.after;
    does = so p.old p.new p.does;
    touches = p.touches;
    moves = p.moves;
  }

-- One look at a guest's queue, by the way it ended.

-- 1. What the definitions say

takes_none : (o : Option Job) (d d' : DeviceState) → FindsJob o d None d' → (o ≡ None)
    × GivesJob d (Ok None) d'
takes_none o d d' takes = grind arith

told_so : (why : Option Refused) → fault_of (unwrap_or why refused.NoMemory) ≡ told_of why
told_so why = grind arith

equals : (n : ℕ) → (n == n) ≡ true
equals n = grind (arith, nat_tests)

-- the refusal of a calm board's book
same_refusal : {D : Type 0} (shows : D → DiskState) (g : ℕ) (b : BoardState D) (tally : Tally)
    (job : Job) → IsCalm shows b → HasHistory b.book → slice_get b.tallies g ≡ Some tally
    → job.guest ≡ g → refusal b.book tally job ≡ refusal_of (runner_of b) job
unfolding refusal_of
same_refusal shows g b tally job calm has counted own_job =
    let x = also_there b.tallies (guests b) g tally counted (calm.sound.linked.many
    ∙ sym calm.sound.linked.counted) in
    let t = calm.sound.linked.each g x.0 x.1 in
    let tally_is : tally ≡ record { guest = g; count = x.0.submits } = cc in
    let here : guest_of b.book job.guest ≡ Some x.0 = ap (slice_get (guests b)) own_job ∙ x.1 in
    let held : x.0.held ≡ [] = (calm.quiet g x.0 x.1).none in
    let mine : (g == job.guest) ≡ true = ap (λ n. g == n) own_job ∙ equals g in
    let below = slice_get_within (guests b) g x.0 x.1 in
    let long = length-map (guests b) (λ v. v.core) in
    let inside : nat_lt job.guest (length (cores_in (guests b))) ≡ true =
    grind (arith, nat_tests) in
    let full = room_when_calm b.book has (λ k y at. (calm.quiet k y at).none) in
    rw (tally_is, here, held, mine, equals x.0.submits, inside, full) refl

-- 2. The pop

module _ {D : Type 0} (shows : D → DiskState) (makes : D → DiskCall → D → Type 0) (g : ℕ)
    (b b1 : BoardState D) (result : Result Bool DeviceFault)
    (calm : IsCalm shows b) (there : g < length b.devices)
    (pop : Steps shows makes (step.Pop g) (answer_by fault.Device result) b b1) where
  abbrev answer : BoardAnswer
  answer = answer_by fault.Device result

  here : (s : Share) × ShowsShare g b s
  here = share_there shows makes g b calm there

  abbrev d : DeviceState
  d = here.0.device

  abbrev o : Option Job
  o = here.0.job

  t : Popped g d o answer b b1
  t = popped g d o answer b b1 here.1.at here.1.place
      (subst (λ x. PopsInto g (Some o) x answer b b1) here.1.at
      (subst (λ x. PopsInto g x (slice_get b.devices g) answer b b1) here.1.place pop.does))

  pub calm_popped : IsCalm shows b1
  calm_popped = subst (IsCalm shows) (sym t.is) (record {
    sound = subst (IsSound shows) t.is (sound_moved shows makes b b1 calm.sound pop.moves);
    quiet = calm.quiet;
    replies = calm.replies;
    report = calm.report;
    broken = calm.broken;
  })

  -- no job was answered
  only_popped : (told : Result Look HostFault)
      → Looks g (share_of b d o) told (share_of b t.device t.job)
      → OnShare shows makes g (λ s s'. Looks g s told s') b b1
  only_popped told does = grind (arith, share_made, t, here, calm_popped)

  -- the pop made a fault
  pub look_failed : (e : DeviceFault) (told : Result Look HostFault) → result ≡ Err e
      → ((s s' : Share) → IsOnlyPopped (λ v v'. GivesJob v (Err e) v') s s' → Looks g s told s')
      → OnShare shows makes g (λ s s'. Looks g s told s') b b1
  look_failed e told is looks = grind (arith, only_popped, share_of, t)

  module _ (did : Bool) (ok : result ≡ Ok did) (b2 : BoardState D) (submitted : Result Bool Refused)
      (submit : Steps shows makes (step.Submit g) (answer_by fault.Book submitted) b1 b2) where
    finds : FindsJob o d t.job t.device
    finds = grind arith

    submits : (r : Result Bool Refused) → submitted ≡ r
        → SubmitsFrom g (in_place (slice_get b1.jobs g)) (slice_get b1.tallies g)
        (answer_by fault.Book r) b1 b2
    submits r is = subst (λ x.
        SubmitsFrom g (in_place (slice_get b1.jobs g)) (slice_get b1.tallies g)
        (answer_by fault.Book x) b1 b2) is submit.does

    place1 : slice_get b1.jobs g ≡ Some t.job
    place1 = ap (λ v. slice_get v.jobs g) t.is ∙ get_set_same b.jobs g o t.job here.1.place

    -- 3. Nothing was there

    pub look_nothing : submitted ≡ Ok false
        → OnShare shows makes g (λ s s'. Looks g s (Ok look.Nothing) s') b b2
    look_nothing is =
        let devices = ap (λ v. length v.devices) t.is ∙ length-set b.devices g t.device in
        let l = calm_popped.sound.linked in
        let tally = there_is b1.tallies g (omega arith) in
        let q = submit_nothing g (in_place (slice_get b1.jobs g)) tally.0 b1 b2
        (subst (λ u. SubmitsFrom g (in_place (slice_get b1.jobs g)) u (Ok Nothing) b1 b2)
        tally.1 (submits (Ok false) is)) in
        let none : t.job ≡ None = ap in_place (sym place1) ∙ q.1 in
        let gave = takes_none o d t.device (subst (λ u. FindsJob o d u t.device) none finds) in
        subst (OnShare shows makes g (λ s s'. Looks g s (Ok look.Nothing) s') b) (sym q.0)
        (only_popped (Ok look.Nothing) (record {
          empty = gave.0;
          gave = gave.1;
          rest =
              ap (share_of b t.device) (none ∙ sym gave.0);
        }))

    -- 4. The book refused the job

    pub look_refused : (why : Refused) → submitted ≡ Err why
        → OnShare shows makes g (λ s s'. Looks g s (Err (fault_of why)) s') b b2
    look_refused why is =
        let q = submit_refused g (in_place (slice_get b1.jobs g)) (slice_get b1.tallies g) why b1 b2
        (submits (Err why) is) in
        let job : t.job ≡ Some q.job = ap in_place (sym place1) ∙ q.there in
        let long = length-map (guests b) (λ x. x.core) in
        subst (OnShare shows makes g (λ s s'. Looks g s (Err (fault_of why)) s') b) (sym q.is)
        (only_popped (Err (fault_of why)) (inl (record {
          job = q.job;
          takes = subst (λ u. FindsJob o d u t.device) job finds;
          known = omega (arith, there);
          cause = λ mine. ap fault_of q.cause ∙ told_so (refusal b1.book q.tally q.job)
              ∙ ap told_of (same_refusal shows g b1 q.tally q.job calm_popped submit.history
              q.counted mine) ∙ ap (λ v. told_of (refusal_of (runner_of v) q.job)) t.is;
          rest = ap (share_of b t.device) job;
        })))

    -- 5. The job was answered

    module _ (accepted : submitted ≡ Ok true) where
      pub done : Submitted g b1 b2
      done = submit_did g (in_place (slice_get b1.jobs g)) (slice_get b1.tallies g) b1 b2 refl refl
          (submits (Ok true) accepted)

      abbrev reply : Held
      reply = reply_in b1 done.job

      pub look_waits : Waits shows g b2 (reply_in b1 done.job) b2
      look_waits = submit_waits shows g b1 b2 calm_popped done
          (sound_moved shows makes b1 b2 calm_popped.sound submit.moves)

      module _ (b3 b4 : BoardState D) (published : BoardAnswer)
          (left : Leaves shows g b2 (reply_in b1 done.job) b3) (settled : Moves shows makes b2 b3)
          (from : PublishesFrom g (in_place (slice_get b3.dones g)) (slice_get b3.devices g)
          published b3 b4) (moves4 : Moves shows makes b3 b4) where
        devices3 : b3.devices ≡ slice_set b.devices g t.device
        devices3 = left.stays.devices ∙ ap (λ v. v.devices) done.is ∙ ap (λ v. v.devices) t.is

        jobs3 : b3.jobs ≡ slice_set b.jobs g None
        jobs3 = left.stays.jobs ∙ ap (λ v. v.jobs) done.is ∙ ap (λ v. slice_set v.jobs g None) t.is
            ∙ set-twice b.jobs g t.job None

        at3 : slice_get b3.devices g ≡ Some t.device
        at3 = ap (λ v. slice_get v g) devices3 ∙ get_set_same b.devices g d t.device here.1.at

        over : PublishesReply g t.device left.done published b3 b4
        over = leaves_published shows g b2 reply b3 b4 left t.device published at3 from

        broken2 : is_broken b2 ≡ is_broken b1
        broken2 = same_broken shows g b1 b2 calm_popped done

        whole : is_broken b4 ≡ false → is_broken b ≡ false
        whole known = sym (ap is_broken t.is) ∙ sym broken2
            ∙ left.stays.whole (sym (ap is_broken over.after) ∙ known)

        -- the reply, whether a call of the disk failed or not
        given_reply : left.done ≡ done_of done.job
            (reply_when (is_broken b) (is_broken b4) (runner_of b).cores done.job) left.done.need
        unfolding reply_when
        given_reply =
            grind (
              arith,
              broken2,
              done,
              done_of,
              held_since,
              is_broken,
              reply_when,
              runner_of,
              slice_get,
              t,
            )

        after_job : runner_of b4 ≡ after_when (is_broken b) (is_broken b4) (runner_of b) done.job
        after_job =
            ap runner_of over.after ∙ left.stays.runner
            ∙ ap₂ (λ was r. runner_since was (is_broken b3) r) broken2
            (runner_after shows g b1 b2 calm_popped done)
            ∙ since_after (is_broken b1) (is_broken b3) (runner_of b1) done.job
            ∙ ap₂ (λ v now. after_when (is_broken v) now (runner_of v) done.job) t.is
            (sym (ap is_broken over.after))

        pub look_answered : OnShare shows makes g (λ s s'. Looks g s (Ok look.Answered) s') b b4
        look_answered = share_made shows makes g (λ s s'. Looks g s (Ok look.Answered) s') b b4 d
            over.device o None here.1.at here.1.place
            (ap (λ v. v.devices) over.after ∙ ap (λ l. slice_set l g over.device) devices3
            ∙ set-twice b.devices g t.device over.device)
            (ap (λ v. v.jobs) over.after ∙ jobs3)
            (leaves_calm shows g b2 reply b3 b4 left t.device published at3 over
            (sound_moved shows makes b3 b4 left.sound moves4)) whole
            (moves_twice shows makes b b1 b4 pop.moves
            (moves_twice shows makes b1 b3 b4
            (moves_twice shows makes b1 b2 b3 submit.moves settled) moves4))
            (record {
              job = done.job;
              taken = t.device;
              takes = subst (λ u. FindsJob o d u t.device) (ap in_place (sym place1) ∙ done.place)
                  finds;
              own = named shows g b1 b2 calm_popped done;
              done = left.done;
              reply = given_reply;
              fits = over.fits;
              published = over.published;
              publishes = over.publishes;
              empty = refl;
              runner = after_job;
              whole = whole;
            })

-- 6. Looks one after another

pub add_one : (g n : ℕ) (s s1 s' : Share) → AnswerAll g n s s1 → Looks g s1 (Ok look.Answered) s'
    → AnswerAll g (n + 1) s s'
add_one g n s s1 s' all one = grind arith

module _ {D : Type 0} (shows : D → DiskState) (makes : D → DiskCall → D → Type 0) (g : ℕ)
    (b b1 b2 : BoardState D) (n times most : ℕ) (is : most ≡ max times 1)
    (before : OnShare shows makes g (λ s s'. AnswerAll g n s s') b b1) where
  pub looks_all : most ≤ n → n ≤ most
      → OnShare shows makes g (λ s s'. LooksOn g (max 1 times) s (Ok look.Answered) s') b b1
  looks_all least within = grind arith

  pub looks_then : (told answer : Result Look HostFault) → n < most
      → OnShare shows makes g (λ s s'. Looks g s told s') b1 b2
      → ((s s' : Share) → Looks g s told s' → EndLooks g (max 1 times) n s answer s')
      → OnShare shows makes g (λ s s'. LooksOn g (max 1 times) s answer s') b b2
  looks_then told answer within one ends = grind (arith, share_then)

  pub looks_found : (s s' : Share) → Looks g s (Ok look.Nothing) s'
      → EndLooks g (max 1 times) n s (Ok (found_by n)) s'
  looks_found s s' l = grind arith
