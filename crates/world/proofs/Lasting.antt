-- What was published of a queue that was ready with IN_ORDER stays in the order of its pops, also
-- once it is gone.
use Rattle.std.proofs.Common.{◌≡◌, inl, inr, ℕ, zero, suc, ◌≤◌, ◌<◌, ◌==◌, Bool, true, false, List}
use Rattle.std.proofs.Common.{[], ◌∷◌, ◌++◌, Option, Some, None, Result, Ok, refl, ap, sym, subst}
use Rattle.std.proofs.Common.{◌∙◌, arith}
use Rattle.world.proofs.Common.{if◌then◌else◌, slice_get, slice_set, cases_eq, Partition, CutMakes}
use Rattle.world.proofs.Common.{CutState, cut_state, is_free, get_set_same, get_set_other}
use Rattle.world.proofs.Common.{QueueState, DeviceState, last_count, Job, Done, GivesJob, Publishes}
use Rattle.world.proofs.Common.{WritesIn, Published, Wrote, Dropped, DeviceFault, BoardState}
use Rattle.world.proofs.Common.{in_place, Answer, Does, Drives, PopsInto, PublishesFrom, Event}
use Rattle.world.proofs.Common.{Refusal, Home, Up, Down, Pop, Publication, Act, Step, Happens}
use Rattle.world.proofs.Common.{OpensOrNot, Runs, StepsAt, StepsIn, WorldState, choosing}
use Rattle.world.proofs.Common.{opened_world, popped_after, publication_of, published_after}
use Rattle.world.proofs.Common.{with_publication, AreInOrder, IsTied, IsTiedTo, is_of, numbers_of}
use Rattle.world.proofs.Common.{pops_of}
use Rattle.rpmb_core.proofs.Passing.{by_test}
use Rattle.world.specs.declared.event.Event.TheVariants as event
use Rattle.board.specs.declared.step.Step.TheVariants as step
use Rattle.board.specs.declared.step.Seen.TheVariants as seen
use Rattle.world.specs.InOrder.{InOrderOfRuns, IsReadyAt, QueueName, WasReady}
use Rattle.world.proofs.Runs.{lacks_same}
use Rattle.world.proofs.Ordered.{Keeps, act_kept, advance_same, all_in_order, collect_same}
use Rattle.world.proofs.Ordered.{event_tied, get-append, give_same, in_order_of, numbers-append}
use Rattle.world.proofs.Ordered.{only_when, pops-append, raised_more, settle_same, not_it, yes_it}
use Rattle.world.proofs.Ordered.{submit_same, take_same, kept_itself}

-- 1. Lists

module _ (life session readiness : ℕ) where
  more_popped : (ps : List Pop) (p : Pop) (us : List Publication)
      → AreInOrder life session readiness ps us → AreInOrder life session readiness (ps ++ p ∷ [])
      us
  more_popped ps p us order = grind (arith, get-append, numbers-append)

  -- a publication of another queue
  other_published : (ps : List Pop) (us : List Publication) (u : Publication)
      → is_of life session readiness u.pop ≡ false → AreInOrder life session readiness ps us
      → AreInOrder life session readiness ps (us ++ u ∷ [])
  other_published ps us u other order = λ k n at.
      (let same : numbers_of life session readiness (pops_of (us ++ u ∷ []))
      ≡ numbers_of life session readiness (pops_of us) ++ [] =
      grind (arith, numbers-append, numbers_of, only_when, pops-append, pops_of) in
      order k n (without (numbers_of life session readiness (pops_of us)) k n
      (ap (λ l. slice_get l k) (sym same) ∙ at)))
    where
      without : (l : List ℕ) (k n : ℕ) → slice_get (l ++ []) k ≡ Some n → slice_get l k ≡ Some n
      without [] k n at = at
      without (x ∷ l) zero n at = at
      without (x ∷ l) (suc k) n at = without l k n at

own_is : (life session readiness : ℕ) (p : Pop) → is_of life session readiness p ≡ true
    → (p.life ≡ life) × (p.session ≡ session) × (p.readiness ≡ readiness)
own_is life session readiness p so = grind arith

-- 2. A device

-- this device has come to the queue, or went past it; and where the queue is ready it has IN_ORDER
record IsBehind (n : QueueName) (d : DeviceState) : Type 0 where
  pub reached : n.readiness ≤ d.readiness
  pub still : (q : QueueState) → d.queue ≡ Some q → d.session ≡ n.session
      → d.readiness ≡ n.readiness → q.ring.places.in_order ≡ true

-- a device after another: its queue is the same, or a later one
record Follows (d d' : DeviceState) : Type 0 where
  pub up : d.readiness ≤ d'.readiness
  pub same : (q' : QueueState) → d'.queue ≡ Some q' → d'.readiness < last_count
      → d'.readiness ≤ d.readiness
      → (q : QueueState) × (d.queue ≡ Some q) × (q.ring.places.in_order ≡ q'.ring.places.in_order)
      × (d.session ≡ d'.session)

follows_kept : (d d' : DeviceState) → Keeps d d' → Follows d d'
follows_kept d d' x2 = grind arith

abbrev AllFollow : List DeviceState → List DeviceState → Type 0
AllFollow ds ds' = (g : ℕ) (d' : DeviceState) → slice_get ds' g ≡ Some d' → (d : DeviceState)
    × (slice_get ds g ≡ Some d) × Follows d d'

same_follow : (ds ds' : List DeviceState) → ds' ≡ ds → AllFollow ds ds'
same_follow ds ds' is = λ g d' at.
    (d', ap (λ l. slice_get l g) (sym is) ∙ at, follows_kept d' d' (kept_itself d' d' refl))

one_follows : (n : ℕ) (d d' : DeviceState) (ds ds' : List DeviceState) → slice_get ds n ≡ Some d
    → ds' ≡ slice_set ds n d' → Follows d d' → AllFollow ds ds'
one_follows n d d' ds ds' at is follows = grind (arith, get_set_other, get_set_same)

-- 3. A step

pop_follows : (d d' : DeviceState) (popped : Result (Option Job) DeviceFault) → GivesJob d popped d'
    → Follows d d'
pop_follows d d' popped gives = grind arith

publish_follows : (d d' : DeviceState) (done : Done) (published : Published)
    → Publishes d done published d' → Follows d d'
publish_follows d d' done published publishes = grind arith

module _ (answer : Answer) (b b' : BoardState CutState) where
  drive_follows : (n : ℕ) (act : Act) (o : Option DeviceState) → slice_get b.devices n ≡ o
      → Drives n act o answer b b' → AllFollow b.devices b'.devices
  drive_follows n act None at does = same_follow b.devices b'.devices (ap (λ v. v.devices) does.1)
  drive_follows n act (Some d) at does = one_follows n d does.device b.devices b'.devices at
      (ap (λ v. v.devices) does.after)
      (follows_kept d does.device (act_kept act d does.device answer does.acts))

  pops_follow : (n : ℕ) (place : Option (Option Job)) (o : Option DeviceState)
      → slice_get b.devices n ≡ o → PopsInto n place o answer b b' → AllFollow b.devices b'.devices
  pops_follow n None o at does = same_follow b.devices b'.devices (ap (λ v. v.devices) does.1)
  pops_follow n (Some (Some job)) o at does =
      same_follow b.devices b'.devices (ap (λ v. v.devices) does.1)
  pops_follow n (Some None) None at does =
      same_follow b.devices b'.devices (ap (λ v. v.devices) does.1)
  pops_follow n (Some None) (Some d) at does = one_follows n d does.device b.devices b'.devices at
      (ap (λ v. v.devices) does.after) (pop_follows d does.device does.popped does.gives)

  publishes_follow : (n : ℕ) (reply : Option Done) (o : Option DeviceState) → slice_get b.devices n
      ≡ o → PublishesFrom n reply o answer b b' → AllFollow b.devices b'.devices
  publishes_follow n reply None at does =
      same_follow b.devices b'.devices (ap (λ v. v.devices) does.1)
  publishes_follow n None (Some d) at does =
      same_follow b.devices b'.devices (ap (λ v. v.devices) does.1)
  publishes_follow n (Some done) (Some d) at does = one_follows n d does.device b.devices b'.devices
      at (ap (λ v. v.devices) does.after) (publish_follows d does.device done does.published
      does.publishes)

  step_follows : (life : ℕ) (ps : ℕ → List Pop) (us : ℕ → List Publication) (s : Step)
      → Does cut_state CutMakes s answer b b' → AllFollow b.devices b'.devices
  step_follows life ps us (step.Drive n act) does = drive_follows n act (slice_get b.devices n) refl
      does
  step_follows life ps us (step.Pop n) does =
      pops_follow n (slice_get b.jobs n) (slice_get b.devices n) refl does
  step_follows life ps us (step.Submit n) does =
      same_follow b.devices b'.devices
      (submit_same life ps us answer b b' n (in_place (slice_get b.jobs n)) (slice_get b.tallies n)
      does)
  step_follows life ps us (step.Collect n) does =
      same_follow b.devices b'.devices (collect_same life ps us answer b b' n (slice_get b.dones n)
      does)
  step_follows life ps us (step.Publish n) does =
      publishes_follow n (in_place (slice_get b.dones n)) (slice_get b.devices n) refl does
  step_follows life ps us (step.Take n) does =
      same_follow b.devices b'.devices (take_same life ps us answer b b' n (slice_get b.intents n)
      does)
  step_follows life ps us (step.Give n) does =
      same_follow b.devices b'.devices
      (give_same life ps us answer b b' n (is_free b.store.guests n)
      (in_place (slice_get b.intents n)) does)
  step_follows life ps us step.Advance does =
      same_follow b.devices b'.devices (advance_same life ps us answer b b' b.report does)
  step_follows life ps us step.Settle does =
      same_follow b.devices b'.devices (settle_same life ps us answer b b' b.report does)

-- 4. What stays

abbrev IsBehindAt : QueueName → WorldState → Home → Type 0
IsBehindAt n w (Up b) = n.life ≡ w.openings → (d : DeviceState) → slice_get b.devices n.guest
    ≡ Some d → IsBehind n d
IsBehindAt n w (Down d) = Unit {0}

record Lasts (n : QueueName) (w : WorldState) : Type 0 where
  pub order : AreInOrder n.life n.session n.readiness (w.popped n.guest) (w.published n.guest)
  pub reached : n.life ≤ w.openings
  pub lives : n.life < last_count
  pub readied : n.readiness < last_count
  pub now : IsBehindAt n w w.home

order_by : (life l session s readiness r : ℕ) (ps : List Pop) (us : List Publication) → life ≡ l
    → session ≡ s → readiness ≡ r → AreInOrder life session readiness ps us → AreInOrder l s r ps us
order_by life l session s readiness r ps us a b c order =
    subst (λ v. AreInOrder l s v ps us) c
    (subst (λ v. AreInOrder l v readiness ps us) b
    (subst (λ v. AreInOrder v session readiness ps us) a order))

-- it begins where the queue is ready
begins : (n : QueueName) (w : WorldState) (home : Home) → w.home ≡ home → IsTied w
    → IsReadyAt n w home → Lasts n w
begins n w home is tied ready = grind (arith, in_order_of)

-- a reply that was written
written_order : (n : QueueName) (life : ℕ) (ps : List Pop) (us : List Publication)
    (d d' : DeviceState) (done : Done) (notify : Bool) (live : Option QueueState) → d.queue ≡ live
    → WritesIn live d done notify d'
    → AreInOrder n.life n.session n.readiness ps us → n.readiness < last_count
    → (n.life ≡ life → IsBehind n d)
    → (n.life ≡ life → IsTiedTo life ps (us ++ publication_of life done ∷ []) d')
    → AreInOrder n.life n.session n.readiness ps (us ++ publication_of life done ∷ [])
written_order n life ps us d d' done notify None at writes order readied behind tied = absurd writes
written_order n life ps us d d' done notify (Some q) at writes order readied behind tied =
    let u : Publication = publication_of life done in
    by_test (is_of n.life n.session n.readiness u.pop)
    (λ mine.
    (let e = own_is n.life n.session n.readiness u.pop mine in
    let due = writes.due in
    let ordered = (behind (sym e.0)).still q at (sym due.session ∙ e.1) (sym due.readiness ∙ e.2) in
    let session : d'.session ≡ n.session = ap (λ v. v.session) writes.after ∙ sym due.session
    ∙ e.1 in
    let readiness : d'.readiness ≡ n.readiness = ap (λ v. v.readiness) writes.after
    ∙ sym due.readiness ∙ e.2 in
    order_by life n.life d'.session n.session d'.readiness n.readiness ps (us ++ u ∷ []) e.0 session
    readiness
    (in_order_of life ps (us ++ u ∷ []) d' (tied (sym e.0)) _ (ap (λ v. v.queue) writes.after)
    ordered (omega arith))))
    (λ other. other_published n.life n.session n.readiness ps us u other order)

-- what a step popped
popped_order : (n : QueueName) (life : ℕ) (b : BoardState CutState) (us : List Publication)
    (s : Step) (answer : Answer) (ps : ℕ → List Pop)
    → AreInOrder n.life n.session n.readiness (ps n.guest) us
    → AreInOrder n.life n.session n.readiness (popped_after life s answer b ps n.guest) us
popped_order n life b us s answer ps order = grind (arith, more_popped)

-- what a step published
module _ (n : QueueName) (life : ℕ) (b b' : BoardState CutState) (answer : Answer) (ps : List Pop)
    (us : ℕ → List Publication)
    (order : AreInOrder n.life n.session n.readiness ps (us n.guest))
    (readied : n.readiness < last_count)
    (behind : n.life ≡ life → (d : DeviceState) → slice_get b.devices n.guest ≡ Some d
    → IsBehind n d) where
  abbrev Orders : Step → Type 0
  Orders s = AreInOrder n.life n.session n.readiness ps (published_after life s answer b us n.guest)

  abbrev Ties : Step → Type 0
  Ties s = n.life ≡ life → (d' : DeviceState) → slice_get b'.devices n.guest ≡ Some d'
      → IsTiedTo life ps (published_after life s answer b us n.guest) d'

  same_order : (us' : List Publication) → us' ≡ us n.guest
      → AreInOrder n.life n.session n.readiness ps us'
  same_order us' same = subst (AreInOrder n.life n.session n.readiness ps) (sym same) order

  publish_order : (m : ℕ) (reply : Option Done) (o : Option DeviceState)
      → in_place (slice_get b.dones m) ≡ reply → slice_get b.devices m ≡ o
      → PublishesFrom m reply o answer b b' → Ties (step.Publish m) → Orders (step.Publish m)
  publish_order m reply None lies at does tied =
      same_order _ (ap (λ a. published_after life (step.Publish m) a b us n.guest) does.0)
  publish_order m None (Some d) lies at does tied =
      same_order _ (ap (λ a. published_after life (step.Publish m) a b us n.guest) does.0)
  publish_order m (Some done) (Some d) lies at does tied =
      by does.published does.publishes does.answers
    where
      by : (published : Published) → Publishes d done published does.device
          → answer ≡ Ok (seen.Published published) → Orders (step.Publish m)
      by Dropped publishes told =
          same_order _ (ap (λ a. published_after life (step.Publish m) a b us n.guest) told)
      by (Wrote notify) publishes told =
          let said : published_after life (step.Publish m) answer b us n.guest
          ≡ (if n.guest == m then with_publication life (in_place (slice_get b.dones m))
          (us n.guest) else us n.guest) =
          ap (λ a. published_after life (step.Publish m) a b us n.guest) told in
          elim (cases_eq n.guest m) [
            | inl same ↦ (
                let mine : published_after life (step.Publish m) answer b us n.guest ≡ us n.guest
                ++ publication_of life done ∷ [] =
                said ∙ ap (λ c. if c then with_publication life (in_place (slice_get b.dones m))
                (us n.guest) else us n.guest) (yes_it n.guest m same)
                ∙ ap (λ r. with_publication life r (us n.guest)) lies in
                let there : slice_get b'.devices n.guest ≡ Some does.device =
                ap (λ v. slice_get v.devices n.guest) does.after
                ∙ ap (slice_get (slice_set b.devices m does.device)) same
                ∙ get_set_same b.devices m d does.device at in
                subst (AreInOrder n.life n.session n.readiness ps) (sym mine)
                (written_order n life ps (us n.guest) d does.device done notify d.queue refl
                publishes order readied
                (λ e. behind e d (ap (slice_get b.devices) same ∙ at))
                (λ e. subst (λ l. IsTiedTo life ps l does.device) mine (tied e does.device there))))
            | inr differs ↦ same_order _ (said
                ∙ ap (λ c. if c then with_publication life (in_place (slice_get b.dones m))
                (us n.guest) else us n.guest) (not_it n.guest m differs))
          ]

  published_order : (s : Step) → Does cut_state CutMakes s answer b b' → Ties s → Orders s
  published_order (step.Publish m) does tied = publish_order m (in_place (slice_get b.dones m))
      (slice_get b.devices m) refl refl does tied
  published_order (step.Drive m act) does tied = order
  published_order (step.Pop m) does tied = order
  published_order (step.Submit m) does tied = order
  published_order (step.Collect m) does tied = order
  published_order (step.Take m) does tied = order
  published_order (step.Give m) does tied = order
  published_order step.Advance does tied = order
  published_order step.Settle does tied = order

behind_up : (n : QueueName) (w : WorldState) (b : BoardState CutState) (h : Home) → h ≡ Up b
    → IsBehindAt n w h → n.life ≡ w.openings → (d : DeviceState) → slice_get b.devices n.guest
    ≡ Some d → IsBehind n d
behind_up n w b h same at = subst (IsBehindAt n w) same at

step_lasts : (n : QueueName) (s : Step) (b : BoardState CutState) (old new : WorldState)
    (told : Option Refusal) → old.home ≡ Up b → IsTied new → StepsIn s b old told new → Lasts n old
    → Lasts n new
step_lasts n s b old new told is tied st lasts =
    let follow = step_follows st.answer b st.board old.openings old.popped old.published s st.does
    in
    let behind = behind_up n old b old.home is lasts.now in
    let after = subst IsTied st.after tied in
    let few : n.life ≡ old.openings → old.openings < last_count = λ e. (omega arith) in
    subst (Lasts n) (sym st.after) (record {
      order = published_order n old.openings b st.board st.answer
          (popped_after old.openings s st.answer st.board old.popped n.guest) old.published
          (popped_order n old.openings st.board (old.published n.guest) s st.answer old.popped
          lasts.order) lasts.readied behind s st.does
          (λ e d' there. after.now n.guest d' there (few e));
      reached = lasts.reached;
      lives = lasts.lives;
      readied = lasts.readied;
      now = grind arith;
    })

-- 5. Events

step_event : (n : QueueName) (s : Step) (old new : WorldState) (told : Option Refusal) (home : Home)
    → old.home ≡ home → IsTied new → StepsAt s home old told new → Lasts n old → Lasts n new
step_event n s old new told (Up b) is tied (inl st) lasts =
    step_lasts n s b old new told is tied st lasts
step_event n s old new told (Up b) is tied (inr lacks) lasts =
    subst (Lasts n) (sym (lacks_same s b old new told lacks)) lasts
step_event n s old new told (Down d) is tied same lasts = subst (Lasts n) (sym same.1) lasts

fail_event : (n : QueueName) (k : ℕ) (old new : WorldState) (home : Home) → old.home ≡ home
    → new ≡ record old { home = choosing k home } → Lasts n old → Lasts n new
fail_event n k old new home is after lasts = grind arith

opened_lasts : (n : QueueName) (old : WorldState) (b : BoardState CutState)
    (partitions : List Partition) (openings : ℕ) → Lasts n old
    → Lasts n (opened_world openings old b partitions)
opened_lasts n old b partitions openings lasts = grind (arith, raised_more)

opening_event : (n : QueueName) (left : CutState) (old new : WorldState) (told : Option Refusal)
    → OpensOrNot left old told new → Lasts n old → Lasts n new
opening_event n left old new told (inl o) lasts =
    subst (Lasts n) (sym o.after) (opened_lasts n old o.board o.begins.partitions old.openings
    lasts)
opening_event n left old new told (inr r) lasts =
    subst (Lasts n) (sym r.after) (record {
      order = lasts.order;
      reached = lasts.reached;
      lives =
          lasts.lives;
      readied = lasts.readied;
      now = tt;
    })

event_lasts : (n : QueueName) (old new : WorldState) (e : Event) (told : Option Refusal)
    → IsTied new → Happens old e told new → Lasts n old → Lasts n new
event_lasts n old new (event.Do s) told tied h lasts =
    step_event n s old new told old.home refl tied h lasts
event_lasts n old new (event.Fail k) told tied h lasts =
    fail_event n k old new old.home refl h.1 lasts
event_lasts n old new (event.Stop filler) told tied h lasts =
    opening_event n h.0 old new told h.2 lasts
event_lasts n old new (event.StopIn filler) told tied h lasts =
    opening_event n h.0 old new told h.2 lasts
event_lasts n old new event.Open told tied h lasts = opening_event n _ old new told h lasts
event_lasts n old new (event.Upgrade stop) told tied h lasts =
    opening_event n h.left old new h.opened h.opens lasts

-- 6. Runs

run_lasts : (n : QueueName) (old new : WorldState) (es : List Event) (told : Option Refusal)
    → IsTied old → (run : Runs old es told new) → Lasts n old → Lasts n new
run_lasts n old new [] told tied run lasts = subst (Lasts n) (sym run.1) lasts
run_lasts n old new (e ∷ es) told tied run lasts =
    let one = event_tied old run.mid e run.first.one tied run.first.happens in
    run_lasts n run.mid new es run.later one run.rest
    (event_lasts n old run.mid e run.first.one one run.first.happens lasts)

lasts_to_end : (n : QueueName) (old new : WorldState) (es : List Event) (told : Option Refusal)
    → IsTied old → (run : Runs old es told new) → WasReady n old es told new run → Lasts n new
lasts_to_end n old new [] told tied run ready =
    subst (Lasts n) (sym run.1) (begins n old old.home refl tied ready)
lasts_to_end n old new (e ∷ es) told tied run (inl now) =
    run_lasts n old new (e ∷ es) told tied run (begins n old old.home refl tied now)
lasts_to_end n old new (e ∷ es) told tied run (inr later) =
    lasts_to_end n run.mid new es run.later
    (event_tied old run.mid e run.first.one tied run.first.happens) run.rest later

pub in_order_of_runs : InOrderOfRuns
in_order_of_runs old new es told tied run =
    let both = all_in_order old new es told tied run in
    (both.0, (λ n ready. (lasts_to_end n old new es told tied run ready).order), both.1)
