-- With IN_ORDER a queue's replies are published in the order of its pops.
use Rattle.std.proofs.Common.{◌≡◌, ◌≢◌, ◌⊎◌, inl, inr, ℕ, zero, suc, ◌+◌, ◌≤◌, ◌<◌, ◌==◌, Bool}
use Rattle.std.proofs.Common.{true, false, List, [], ◌∷◌, ◌++◌, Option, Some, None, Result, Ok, Err}
use Rattle.std.proofs.Common.{length, map, refl, ap, sym, subst, ◌∙◌, arith}
use Rattle.world.proofs.Common.{if◌then◌else◌, slice_get, slice_set, nat_tests, append_assoc}
use Rattle.world.proofs.Common.{GuestConfig, CutMakes, CutState, cut_state, is_free, get_set_same}
use Rattle.world.proofs.Common.{get_set_other, Intent, QueueState, DeviceState, first_state}
use Rattle.world.proofs.Common.{last_count, Job, Done, GivesFrom, GivesJob, is_stopped, live_queue}
use Rattle.world.proofs.Common.{Publishes, WritesIn, Published, Wrote, Dropped, DeviceFault, Tally}
use Rattle.world.proofs.Common.{BoardState, Report, in_place, put, AdvancesUnder, Answer}
use Rattle.world.proofs.Common.{CollectsInto, Does, Drives, GivesWhere, PopsInto, PublishesFrom}
use Rattle.world.proofs.Common.{SettlesBy, SubmitsFrom, TakesInto, job_of, pop_answer}
use Rattle.world.proofs.Common.{first_devices, Event, Refusal, Home, Up, Down, Pop, Publication}
use Rattle.world.proofs.Common.{Act, Step, Happens, OpensOrNot, Runs, StepsAt, WorldState, choosing}
use Rattle.world.proofs.Common.{popped_after, publication_of, published_after, raised}
use Rattle.world.proofs.Common.{with_publication, AreInOrder, IsTied, IsTiedTo, is_of, numbers_of}
use Rattle.world.proofs.Common.{pops_of}
use Rattle.world.specs.World.{pop_of, with_pop}
use Rattle.world.specs.InOrder.{IsTiedAt}
use Rattle.std.specs.List.{position_or_len, remove}
use Rattle.chains.specs.declared.popped.Outstanding.{Outstanding}
use Rattle.chains.specs.Ring.{is_chain}
use Rattle.mmio_transport.specs.Device.{after_ready, after_reset, after_write, counted, first_queue}
use Rattle.board.specs.Steps.{Acts}
use Rattle.world.specs.declared.event.Event.TheVariants as event
use Rattle.board.specs.declared.step.Step.TheVariants as step
use Rattle.board.specs.declared.step.Seen.TheVariants as seen
use Rattle.world.specs.InOrder.{AllInOrder, AreBefore, AreLived, IsInOrderAt}
use Rattle.world.proofs.Runs.{lacks_same}

-- 1. Lists of pops

abbrev pub only_when : Bool → Pop → List ℕ
only_when c p = if c then p.number ∷ [] else []

pub numbers-append : (life session readiness : ℕ) (ps : List Pop) (p : Pop)
    → numbers_of life session readiness (ps ++ p ∷ []) ≡ numbers_of life session readiness ps
    ++ only_when (is_of life session readiness p) p
numbers-append life session readiness [] p = grind arith
numbers-append life session readiness (x ∷ ps) p =
    grind (arith, (numbers-append life session readiness ps p))

-- a pop of this queue
own : (life session readiness : ℕ) (p : Pop) → p.life ≡ life → p.session ≡ session
    → p.readiness ≡ readiness → is_of life session readiness p ≡ true
own life session readiness p l s r = grind (arith, nat_tests, l, s, r)

-- pops of earlier readiness are none of this queue
numbers_none : (life session before readiness : ℕ) (ps : List Pop) → AreBefore life before ps
    → before < readiness → numbers_of life session readiness ps ≡ []
numbers_none life session before readiness [] early less = refl
numbers_none life session before readiness (p ∷ ps) early less =
    grind (arith, (numbers_none life session before readiness ps early.1 less))

pub pops-append : (us : List Publication) (u : Publication) → pops_of (us ++ u ∷ []) ≡ pops_of us
    ++ u.pop ∷ []
pops-append [] u = refl
pops-append (x ∷ us) u = ap (λ l. x.pop ∷ l) (pops-append us u)

before-append : (life readiness : ℕ) (ps : List Pop) (p : Pop) → AreBefore life readiness ps
    → p.readiness ≤ readiness → AreBefore life readiness (ps ++ p ∷ [])
before-append life readiness [] p early last = ((λ same. last), tt)
before-append life readiness (x ∷ ps) p early last =
    (early.0, before-append life readiness ps p early.1 last)

before_more : (life less more : ℕ) (ps : List Pop) → less ≤ more → AreBefore life less ps
    → AreBefore life more ps
before_more life less more [] below early = tt
before_more life less more (x ∷ ps) below early = (
  (λ same. (let first = early.0 same in omega arith)),
  before_more life less more ps below early.1,
)

lived-append : (life : ℕ) (ps : List Pop) (p : Pop) → AreLived life ps → p.life ≤ life
    → AreLived life (ps ++ p ∷ [])
lived-append life [] p lived last = (last, tt)
lived-append life (x ∷ ps) p lived last = (lived.0, lived-append life ps p lived.1 last)

lived_more : (less more : ℕ) (ps : List Pop) → less ≤ more → AreLived less ps → AreLived more ps
lived_more less more [] below lived = tt
lived_more less more (x ∷ ps) below lived = ((omega arith, lived_more less more ps below lived.1))

-- pops of earlier lives are of no readiness of this one
before_born : (less life readiness : ℕ) (ps : List Pop) → less < life → AreLived less ps
    → AreBefore life readiness ps
before_born less life readiness [] below lived = tt
before_born less life readiness (x ∷ ps) below lived =
    ((λ same. (absurd (omega arith))), before_born less life readiness ps below lived.1)

pub get-append : (l more : List ℕ) (k n : ℕ) → slice_get l k ≡ Some n → slice_get (l ++ more) k
    ≡ Some n
get-append [] more zero n at = absurd (cc)
get-append [] more (suc k) n at = absurd (cc)
get-append (x ∷ l) more zero n at = at
get-append (x ∷ l) more (suc k) n at = get-append l more k n at

-- 2. A device

-- what an act may make of a device's queue
abbrev pub IsReadied : DeviceState → DeviceState → Type 0
IsReadied d d' = (q : QueueState) × (d'.queue ≡ Some q) × (q.ring.outstanding ≡ [])
    × (d'.readiness ≡ counted d.readiness)

abbrev pub Keeps : DeviceState → DeviceState → Type 0
Keeps d d' = ((d'.queue ≡ d.queue) × (d'.session ≡ d.session) × (d'.readiness ≡ d.readiness))
    ⊎ (((d'.queue ≡ None) × (d'.readiness ≡ d.readiness)) ⊎ IsReadied d d')

module _ (life : ℕ) (ps : List Pop) (us : List Publication) where
  abbrev Numbers : ℕ → ℕ → List Pop → List ℕ
  Numbers session readiness list = numbers_of life session readiness list

  tied_kept : (d d' : DeviceState) → IsTiedTo life ps us d → Keeps d d' → IsTiedTo life ps us d'
  tied_kept d d' t x3 = grind (arith, before_more, numbers_none)

-- 3. What a driver does

pub kept_itself : (d d' : DeviceState) → d' ≡ d → Keeps d d'
kept_itself d d' is = inl (ap (λ v. v.queue) is, ap (λ v. v.session) is, ap (λ v. v.readiness) is)

ready_kept : (d : DeviceState) (value : ℕ) → Keeps d (after_ready d value)
unfolding after_ready first_queue
ready_kept d value = grind arith

reset_kept : (d : DeviceState) → Keeps d (after_reset d)
unfolding after_reset
reset_kept d = inr (inl (refl, refl))

write_kept : (d : DeviceState) (offset width value : ℕ) → Keeps d (after_write d offset width value)
unfolding after_write
write_kept d offset width value = grind (arith, ready_kept, reset_kept)

pub act_kept : (act : Act) (d d' : DeviceState) (answer : Answer) → Acts act d answer d'
    → Keeps d d'
act_kept act d d' answer acts = grind (arith, write_kept)

-- 4. A pop and a publish

number-append : (os : List Outstanding) (o : Outstanding) → map (λ x. x.number) (os ++ o ∷ [])
    ≡ map (λ x. x.number) os ++ o.number ∷ []
number-append [] o = refl
number-append (x ∷ os) o = ap (λ l. x.number ∷ l) (number-append os o)

-- a pop that gives no job
pub pop_kept : (d d' : DeviceState) (popped : Result (Option Job) DeviceFault) (stopped : Bool)
    (live : Option QueueState) → (stopped ≡ is_stopped d) → live ≡ live_queue d
    → GivesFrom stopped live d popped d' → job_of popped ≡ None → Keeps d d'
pop_kept d d' popped stopped live halts from gives none = grind arith

module _ (life : ℕ) (ps : List Pop) (us : List Publication) (d d' : DeviceState)
    (t : IsTiedTo life ps us d) where
  -- one that does
  job_tied : (job : Job) (stopped : Bool) (live : Option QueueState) → live ≡ live_queue d
      → GivesFrom stopped live d (Ok (Some job)) d' → IsTiedTo life (ps ++ pop_of life job ∷ []) us
      d'
  job_tied job stopped live from gives =
      grind (arith, append_assoc, before-append, number-append, numbers-append)

  -- the oldest chain is the first that is outstanding
  oldest_first : (number id places : ℕ) (os : List Outstanding)
      → position_or_len (is_chain number id places) os < length os
      → position_or_len (is_chain number id places) os ≡ 0
      → map (λ x. x.number) os ≡ number
      ∷ map (λ x. x.number) (remove os (position_or_len (is_chain number id places) os))
  oldest_first number id places os there first = grind arith

  reply_tied : (done : Done) (notify : Bool) (live : Option QueueState) → d.queue ≡ live
      → WritesIn live d done notify d' → IsTiedTo life ps (us ++ publication_of life done ∷ []) d'
  reply_tied done notify live at writes =
      grind (arith, append_assoc, before-append, numbers-append, oldest_first, pops-append)

-- 5. A step

abbrev AreTied : ℕ → (ℕ → List Pop) → (ℕ → List Publication) → List DeviceState → Type 0
AreTied life popped published devices = (g : ℕ) (d : DeviceState) → slice_get devices g ≡ Some d
    → IsTiedTo life (popped g) (published g) d

one_changed : (life n : ℕ) (d d' : DeviceState) (devices devices' : List DeviceState) (ps ps' : ℕ
    → List Pop) (us us' : ℕ → List Publication) → slice_get devices n ≡ Some d
    → devices' ≡ slice_set devices n d'
    → ((g : ℕ) → g ≢ n → ps' g ≡ ps g) → ((g : ℕ) → g ≢ n → us' g ≡ us g)
    → IsTiedTo life (ps' n) (us' n) d' → AreTied life ps us devices
    → AreTied life ps' us' devices'
one_changed life n d d' devices devices' ps ps' us us' at is others_p others_u here tied g e there =
    grind (arith, get_set_other, get_set_same)

pub yes_it : (g n : ℕ) → g ≡ n → (g == n) ≡ true
yes_it g n e = grind (arith, nat_tests)

pub not_it : (g n : ℕ) → g ≢ n → (g == n) ≡ false
not_it g n e = grind (arith, nat_tests)

module _ (life : ℕ) (ps : ℕ → List Pop) (us : ℕ → List Publication) (answer : Answer)
    (b b' : BoardState CutState) where
  abbrev Tied : (ℕ → List Pop) → (ℕ → List Publication) → Type 0
  Tied popped published = AreTied life ps us b.devices → AreTied life popped published b'.devices

  same_devices : b'.devices ≡ b.devices → Tied ps us
  same_devices is = λ tied g d there. tied g d (ap (λ l. slice_get l g) (sym is) ∙ there)

  drive_tied : (n : ℕ) (act : Act) (o : Option DeviceState) → slice_get b.devices n ≡ o
      → Drives n act o answer b b' → Tied ps us
  drive_tied n act None at does = same_devices (ap (λ v. v.devices) does.1)
  drive_tied n act (Some d) at does = λ tied.
      one_changed life n d does.device b.devices b'.devices ps ps us us at
      (ap (λ v. v.devices) does.after) (λ g differs. refl) (λ g differs. refl)
      (tied_kept life (ps n) (us n) d does.device (tied n d at)
      (act_kept act d does.device answer does.acts)) tied

  -- what is popped where no job is given
  no_pop : (n : ℕ) → answer ≡ Ok seen.Nothing → (g : ℕ)
      → popped_after life (step.Pop n) answer b' ps g ≡ ps g
  no_pop n is g = ap (λ a. popped_after life (step.Pop n) a b' ps g) is

  as_before : (ps' : ℕ → List Pop) → ((g : ℕ) → ps' g ≡ ps g) → Tied ps us → Tied ps' us
  as_before ps' same tied = λ had g d there. subst (λ l. IsTiedTo life l (us g) d) (sym (same g))
      (tied had g d there)

  pop_tied : (n : ℕ) (place : Option (Option Job)) (o : Option DeviceState)
      → slice_get b.jobs n ≡ place → slice_get b.devices n ≡ o → PopsInto n place o answer b b'
      → Tied (popped_after life (step.Pop n) answer b' ps) us
  pop_tied n None o lies at does =
      as_before _ (no_pop n does.0) (same_devices (ap (λ v. v.devices) does.1))
  pop_tied n (Some (Some job)) o lies at does =
      as_before _ (no_pop n does.0) (same_devices (ap (λ v. v.devices) does.1))
  pop_tied n (Some None) None lies at does =
      as_before _ (no_pop n does.0) (same_devices (ap (λ v. v.devices) does.1))
  pop_tied n (Some None) (Some d) lies at does =
      by does.popped does.gives does.answers (ap (λ v. v.jobs) does.after)
    where
      none : (popped : Result (Option Job) DeviceFault) → GivesJob d popped does.device
          → job_of popped ≡ None → ((g : ℕ) → popped_after life (step.Pop n) answer b' ps g ≡ ps g)
          → Tied (popped_after life (step.Pop n) answer b' ps) us
      none popped gives gone same = λ tied.
          one_changed life n d does.device b.devices b'.devices ps
          (popped_after life (step.Pop n) answer b' ps) us us at
          (ap (λ v. v.devices) does.after) (λ g differs. same g) (λ g differs. refl)
          (subst (λ l. IsTiedTo life l (us n) does.device) (sym (same n))
          (tied_kept life (ps n) (us n) d does.device (tied n d at)
          (pop_kept d does.device popped (is_stopped d) (live_queue d) refl refl gives gone)))
          tied

      by : (popped : Result (Option Job) DeviceFault) → GivesJob d popped does.device
          → answer ≡ pop_answer popped → b'.jobs ≡ put b.jobs n (job_of popped)
          → Tied (popped_after life (step.Pop n) answer b' ps) us
      by (Ok None) gives told jobs = none (Ok None) gives refl (no_pop n told)
      by (Err e) gives told jobs =
          none (Err e) gives refl (λ g. ap (λ a. popped_after life (step.Pop n) a b' ps g) told)
      by (Ok (Some job)) gives told jobs = λ tied.
          (let placed : in_place (slice_get b'.jobs n) ≡ Some job =
          ap (λ l. in_place (slice_get l n)) jobs
          ∙ ap in_place (get_set_same b.jobs n None (Some job) lies) in
          let said : (g : ℕ) → popped_after life (step.Pop n) answer b' ps g
          ≡ (if g == n then with_pop life (in_place (slice_get b'.jobs n)) (ps g) else ps g) =
          λ g. ap (λ a. popped_after life (step.Pop n) a b' ps g) told in
          let mine : popped_after life (step.Pop n) answer b' ps n ≡ ps n ++ pop_of life job ∷ [] =
          said n ∙ ap (λ c. if c then with_pop life (in_place (slice_get b'.jobs n)) (ps n) else ps
          n) (yes_it n n refl) ∙ ap (λ o. with_pop life o (ps n)) placed in
          one_changed life n d does.device b.devices b'.devices ps
          (popped_after life (step.Pop n) answer b' ps) us us at
          (ap (λ v. v.devices) does.after)
          (λ g differs. said g ∙ ap (λ c. if c then with_pop life (in_place (slice_get b'.jobs n))
          (ps g) else ps g) (not_it g n differs)) (λ g differs. refl)
          (subst (λ l. IsTiedTo life l (us n) does.device) (sym mine)
          (job_tied life (ps n) (us n) d does.device (tied n d at) job (is_stopped d)
          (live_queue d) refl gives)) tied)

  -- what is published where nothing was written
  unwritten : (us' : ℕ → List Publication) → ((g : ℕ) → us' g ≡ us g) → Tied ps us → Tied ps us'
  unwritten us' same tied = λ had g d there. subst (λ l. IsTiedTo life (ps g) l d) (sym (same g))
      (tied had g d there)

  no_reply : (n : ℕ) → answer ≡ Ok seen.Nothing → (g : ℕ)
      → published_after life (step.Publish n) answer b us g ≡ us g
  no_reply n is g = ap (λ a. published_after life (step.Publish n) a b us g) is

  publish_tied : (n : ℕ) (reply : Option Done) (o : Option DeviceState)
      → in_place (slice_get b.dones n) ≡ reply → slice_get b.devices n ≡ o
      → PublishesFrom n reply o answer b b'
      → Tied ps (published_after life (step.Publish n) answer b us)
  publish_tied n reply None lies at does =
      unwritten _ (no_reply n does.0) (same_devices (ap (λ v. v.devices) does.1))
  publish_tied n None (Some d) lies at does =
      unwritten _ (no_reply n does.0) (same_devices (ap (λ v. v.devices) does.1))
  publish_tied n (Some done) (Some d) lies at does = by does.published does.publishes does.answers
    where
      by : (published : Published) → Publishes d done published does.device
          → answer ≡ Ok (seen.Published published)
          → Tied ps (published_after life (step.Publish n) answer b us)
      by Dropped publishes told = λ tied.
          (let same : (g : ℕ) → published_after life (step.Publish n) answer b us g ≡ us g = λ g.
          ap (λ a. published_after life (step.Publish n) a b us g) told in
          one_changed life n d does.device b.devices b'.devices ps ps us
          (published_after life (step.Publish n) answer b us) at
          (ap (λ v. v.devices) does.after) (λ g differs. refl) (λ g differs. same g)
          (subst (λ l. IsTiedTo life (ps n) l does.device) (sym (same n))
          (tied_kept life (ps n) (us n) d does.device (tied n d at)
          (kept_itself d does.device publishes.1))) tied)
      by (Wrote notify) publishes told = λ tied.
          (let said : (g : ℕ) → published_after life (step.Publish n) answer b us g
          ≡ (if g == n then with_publication life (in_place (slice_get b.dones n)) (us g) else
          us g) = λ g. ap (λ a. published_after life (step.Publish n) a b us g) told in
          let mine : published_after life (step.Publish n) answer b us n ≡ us n
          ++ publication_of life done ∷ [] =
          said n ∙ ap (λ c. if c then with_publication life (in_place (slice_get b.dones n)) (us n)
          else us n) (yes_it n n refl) ∙ ap (λ o. with_publication life o (us n)) lies in
          one_changed life n d does.device b.devices b'.devices ps ps us
          (published_after life (step.Publish n) answer b us) at
          (ap (λ v. v.devices) does.after) (λ g differs. refl)
          (λ g differs. said g ∙ ap (λ c.
          if c then with_publication life (in_place (slice_get b.dones n)) (us g) else us g)
          (not_it g n differs))
          (subst (λ l. IsTiedTo life (ps n) l does.device) (sym mine)
          (reply_tied life (ps n) (us n) d does.device (tied n d at) done notify d.queue refl
          publishes)) tied)

  pub submit_same : (n : ℕ) (job : Option Job) (tally : Option Tally)
      → SubmitsFrom n job tally answer b b' → b'.devices ≡ b.devices
  submit_same n job tally does = grind arith

  pub collect_same : (n : ℕ) (place : Option (Option Done)) → CollectsInto n place answer b b'
      → b'.devices ≡ b.devices
  collect_same n place does = grind arith

  pub take_same : (n : ℕ) (place : Option (Option Intent)) → TakesInto n place answer b b'
      → b'.devices ≡ b.devices
  take_same n place does = grind arith

  pub give_same : (n : ℕ) (free : Bool) (intent : Option Intent)
      → GivesWhere n free intent answer b b' → b'.devices ≡ b.devices
  give_same n free intent does = grind arith

  pub advance_same : (report : Option Report) → AdvancesUnder cut_state CutMakes report answer b b'
      → b'.devices ≡ b.devices
  advance_same (Some r) does = ap (λ v. v.devices) does.1
  advance_same None does = ap (λ v. v.devices) does.after

  pub settle_same : (report : Option Report) → SettlesBy report answer b b' → b'.devices ≡ b.devices
  settle_same report does = grind arith

  pub step_tied : (s : Step) → Does cut_state CutMakes s answer b b'
      → Tied (popped_after life s answer b' ps) (published_after life s answer b us)
  step_tied (step.Drive n act) does = drive_tied n act (slice_get b.devices n) refl does
  step_tied (step.Pop n) does = pop_tied n (slice_get b.jobs n) (slice_get b.devices n) refl refl
      does
  step_tied (step.Submit n) does =
      same_devices (submit_same n (in_place (slice_get b.jobs n)) (slice_get b.tallies n) does)
  step_tied (step.Collect n) does = same_devices (collect_same n (slice_get b.dones n) does)
  step_tied (step.Publish n) does = publish_tied n (in_place (slice_get b.dones n))
      (slice_get b.devices n) refl refl does
  step_tied (step.Take n) does = same_devices (take_same n (slice_get b.intents n) does)
  step_tied (step.Give n) does =
      same_devices (give_same n (is_free b.store.guests n) (in_place (slice_get b.intents n)) does)
  step_tied step.Advance does = same_devices (advance_same b.report does)
  step_tied step.Settle does = same_devices (settle_same b.report does)

-- what is noted is of this life
module _ (life : ℕ) (b : BoardState CutState) (g : ℕ) where
  popped_lived : (s : Step) (answer : Answer) (ps : ℕ → List Pop) → AreLived life (ps g)
      → AreLived life (popped_after life s answer b ps g)
  popped_lived s answer ps lived = grind (arith, lived-append)

  published_lived : (s : Step) (answer : Answer) (us : ℕ → List Publication)
      → AreLived life (pops_of (us g))
      → AreLived life (pops_of (published_after life s answer b us g))
  published_lived s answer us lived = grind (arith, lived-append, pops-append)

-- 6. Events

step_event : (s : Step) (old new : WorldState) (told : Option Refusal) (home : Home)
    → old.home ≡ home → IsTied old → StepsAt s home old told new → IsTied new
step_event s old new told (Up b) is tied (inl st) =
    let now : (w : Home) → w ≡ Up b → IsTiedAt old w → IsTiedAt old (Up b) = λ w same at.
    subst (IsTiedAt old) same at in
    let before = now old.home is tied.now in
    subst IsTied (sym st.after) (record {
      popped = λ g. popped_lived old.openings st.board g s st.answer old.popped (tied.popped g);
      published = λ g. published_lived old.openings b g s st.answer old.published
          (tied.published g);
      now = λ g d there few. step_tied old.openings old.popped old.published st.answer b st.board s
          st.does (λ h e at. before h e at few) g d there;
    })
step_event s old new told (Up b) is tied (inr lacks) =
    subst IsTied (sym (lacks_same s b old new told lacks)) tied
step_event s old new told (Down d) is tied same = subst IsTied (sym same.1) tied

fail_event : (k : ℕ) (old new : WorldState) (home : Home) → old.home ≡ home → IsTied old
    → new ≡ record old { home = choosing k home } → IsTied new
fail_event k old new (Up b) is tied after =
    subst IsTied (sym after) (record {
      popped = tied.popped;
      published = tied.published;
      now =
          subst (IsTiedAt old) is tied.now;
    })
fail_event k old new (Down d) is tied after =
    subst IsTied (sym after) (record { popped = tied.popped; published = tied.published; now = tt })

pub raised_more : (n : ℕ) → raised n < last_count → n < raised n
unfolding raised
raised_more n less = grind (arith, nat_tests, less)

pub raised_from : (n : ℕ) → n ≤ raised n
unfolding raised
raised_from n = grind (arith, nat_tests)

-- a fresh device has no queue
no_queue : (cs : List GuestConfig) (n g : ℕ) (d : DeviceState) → slice_get (first_devices n cs) g
    ≡ Some d → d.queue ≡ None
unfolding first_state
no_queue [] n zero d at = absurd (cc)
no_queue [] n (suc g) d at = absurd (cc)
no_queue (c ∷ cs) n zero d at = grind arith
no_queue (c ∷ cs) n (suc g) d at = no_queue cs (n + 1) g d at

opening_event : (left : CutState) (old new : WorldState) (told : Option Refusal) → IsTied old
    → OpensOrNot left old told new → IsTied new
opening_event left old new told tied x5 =
    grind (arith, before_born, lived_more, no_queue, raised_from, raised_more)

pub event_tied : (old new : WorldState) (e : Event) (told : Option Refusal) → IsTied old
    → Happens old e told new → IsTied new
event_tied old new (event.Do s) told tied h = step_event s old new told old.home refl tied h
event_tied old new (event.Fail k) told tied h = fail_event k old new old.home refl tied h.1
event_tied old new (event.Stop filler) told tied h = opening_event h.0 old new told tied h.2
event_tied old new (event.StopIn filler) told tied h = opening_event h.0 old new told tied h.2
event_tied old new event.Open told tied h = opening_event _ old new told tied h
event_tied old new (event.Upgrade stop) told tied h =
    opening_event h.left old new h.opened tied h.opens

-- 7. Runs

-- of a device whose queue is ready with IN_ORDER
pub in_order_of : (life : ℕ) (ps : List Pop) (us : List Publication) (d : DeviceState)
    → IsTiedTo life ps us d → (q : QueueState) → d.queue ≡ Some q → q.ring.places.in_order ≡ true
    → d.readiness < last_count
    → AreInOrder life d.session d.readiness ps us
in_order_of life ps us d t q ready order few = λ k n there.
    (let list = numbers_of life d.session d.readiness (pops_of us) in
    ap (λ l. slice_get l k) (t.tied q ready order few)
    ∙ get-append list (map (λ o. o.number) q.ring.outstanding) k n there)

in_order_at : (w : WorldState) (home : Home) → IsTiedAt w home → IsInOrderAt w home
in_order_at w (Up b) tied = λ g d q at ready order life few.
    in_order_of w.openings (w.popped g) (w.published g) d (tied g d at life) q ready order few
in_order_at w (Down d) tied = tt

pub all_in_order : (old new : WorldState) (events : List Event) (told : Option Refusal) → IsTied old
    → (run : Runs old events told new) → AllInOrder old events told new run × IsTied new
all_in_order old new [] told tied run = (
  subst (λ w. IsInOrderAt w w.home) (sym run.1) (in_order_at old old.home tied.now),
  subst IsTied (sym run.1) tied,
)
all_in_order old new (e ∷ es) told tied run =
    grind (
      arith,
      in_order_at,
      (all_in_order run.mid new es run.later
          (event_tied old run.mid e run.first.one tied run.first.happens) run.rest),
    )
