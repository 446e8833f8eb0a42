-- What is noted of a step, in the logs of all guests.
use Rattle.std.proofs.Common.{◌≡◌, ◌≢◌, ◌⊎◌, inl, inr, ℕ, zero, suc, ◌+◌, ◌≤◌, ◌<◌, Bool, List, []}
use Rattle.std.proofs.Common.{◌∷◌, ◌++◌, Option, Some, None, Ok, Err, length, refl, ap, sym, subst}
use Rattle.std.proofs.Common.{◌∙◌, arith}
use Rattle.world.proofs.Common.{option_map, slice_get, slice_index_or, slice_set, cases_eq}
use Rattle.world.proofs.Common.{nat_tests, slice_get_cases, slice_get-get_or, slice_get_within}
use Rattle.world.proofs.Common.{limits_of, Request, Partition, GuestConfig, CutMakes, CutState}
use Rattle.world.proofs.Common.{cut_state, Part, get_set_same, get_set_other, DeviceState, Job}
use Rattle.world.proofs.Common.{Done, guest_of, refusal_at, state, submit_of, is_full, with_turn}
use Rattle.world.proofs.Common.{submit_rolls, GuestState, submitted, Tally, BoardState, guests}
use Rattle.world.proofs.Common.{in_place, Answer, Does, Idles, PublishesFrom, SubmitsFrom, Did}
use Rattle.world.proofs.Common.{IsLinkedBoard, accepted_after, answered, GuestLog, Up, Pop}
use Rattle.world.proofs.Common.{Publication, Act, Step, popped_after, published_after}
use Rattle.world.proofs.Common.{publication_of, with_publication, HasRoom, HaveRoom, accepted_in}
use Rattle.world.proofs.Common.{count_of, popped_in, popped_of, published_in, published_of, IsGuest}
use Rattle.world.proofs.Common.{IsNoted}
use Rattle.rpmb_frame.specs.Limits.{Limits}
use Rattle.board.specs.State.{HasNoJob}
use Rattle.board.specs.declared.step.Step.TheVariants as step
use Rattle.board.specs.declared.step.StepFault.TheVariants as fault
use Rattle.mmio_transport.specs.declared.fault.DeviceFault.TheVariants as device_fault
use Rattle.world.specs.Noting.{NotesPop, NotesSubmit, Submits, Unnoted}
use Rattle.board.proofs.Doing.{full_at}
use Rattle.board.proofs.Linked.{at_each, chosen, in_book, of_guest, other_guest, there_is, turned}
use Rattle.world.proofs.Noted.{IsQuiet, still_room}
use Rattle.world.proofs.Rooms.{pops}

-- a place that is there, and in which nothing lies
empty_there : {X : Type 0} (places : List (Option X)) (n : ℕ) → n < length places
    → in_place (slice_get places n) ≡ None → slice_get places n ≡ Some None
empty_there [] n below empty = absurd (omega arith)
empty_there (x ∷ places) zero below empty = ap Some empty
empty_there (x ∷ places) (suc n) below empty = empty_there places n (omega arith) empty

-- 1. A Submit and a Publish, in the logs of all guests

module _ (config : List GuestConfig) (life n : ℕ) (answer : Answer) (b b' : BoardState CutState)
    (logs : List GuestLog) (log log' : GuestLog) (at : slice_get logs n ≡ Some log) where
  abbrev Logs' : List GuestLog
  Logs' = slice_set logs n log'

  here : slice_get Logs' n ≡ Some log'
  here = get_set_same logs n log log' at

  other : (g : ℕ) → g ≢ n → slice_get Logs' g ≡ slice_get logs g
  other g differs = get_set_other logs n g log' differs

  accepted_same : log'.accepted ≡ log.accepted → (g : ℕ) → accepted_in config Logs' g
      ≡ accepted_in config logs g
  accepted_same same = grind (arith, here, other)

  published_same : log'.published ≡ log.published → (g : ℕ)
      → published_in Logs' g ≡ published_in logs g
  published_same same = grind (arith, here, other)

  popped_same : log'.popped ≡ log.popped → (g : ℕ) → popped_in Logs' g ≡ popped_in logs g
  popped_same same = grind (arith, here, other)

  -- room, guest by guest
  room_each : (v : BoardState CutState)
      → ((y : GuestState) → slice_get (guests v) n ≡ Some y → HasRoom log' y (slice_get v.dones n))
      → ((g : ℕ) (l : GuestLog) (y : GuestState) → g ≢ n → slice_get logs g ≡ Some l
      → slice_get (guests v) g ≡ Some y → HasRoom l y (slice_get v.dones g))
      → HaveRoom (Up v) Logs'
  room_each v mine others g l y there is = elim (cases_eq g n) [
    | inl same ↦ (let same_log : log' ≡ l = (let a = here in let c = ap (slice_get Logs') (sym same)
        ∙ there in cc) in
        subst (λ k. HasRoom k y (slice_get v.dones g)) same_log
        (subst (λ k. HasRoom log' y (slice_get v.dones k)) (sym same)
        (mine y (ap (slice_get (guests v)) (sym same) ∙ is))))
    | inr differs ↦ others g l y differs (sym (other g differs) ∙ there) is
  ]

  -- a guest's log that says the same, with as much room
  same_room : log'.published ≡ log.published → log.room ≤ log'.room
      → (x : GuestState) (reply : Option (Option Done)) → HasRoom log x reply → HasRoom log' x reply
  same_room same more x reply has = grind arith

  -- 2. A Submit

  module _ (linked_many : length (guests b) ≡ length config)
      (many : length logs ≡ length (guests b)) (is : (c : GuestConfig) → slice_get config n ≡ Some c
      → IsGuest c n b) (room : HaveRoom (Up b) logs) where
    configured : (c : GuestConfig) × (slice_get config n ≡ Some c)
    configured = there_is config n (let below = slice_get_within logs n log at in
        omega (arith, linked_many, many))

    tallied : (t : ℕ) → option_map (λ v. v.guest) (slice_get b.tallies n) ≡ Some t → t ≡ n
    tallied = (is configured.0 configured.1).tallied

    -- what a Submit that wasn't refused made
    record Went : Type 0 where
      pub job : Job
      pub lies : in_place (slice_get b.jobs n) ≡ Some job
      pub its : job.guest ≡ n
      pub known : (x : GuestState) → slice_get (guests b) n ≡ Some x → ¬ (length x.held ≡ 64)
      pub did : answer ≡ Ok Did
      pub after : state b'.book ≡ state (with_turn b.book (submit_of b.book job))
      pub dones : b'.dones ≡ b.dones

    -- it went, or all is as it was and nothing is accepted
    record Stayed : Type 0 where
      pub board : b' ≡ b
      pub nothing : answered (step.Submit n) answer b ≡ None

    went_or_stayed : (o : Option Job) (tally : Option Tally) → in_place (slice_get b.jobs n) ≡ o
        → slice_get b.tallies n ≡ tally → SubmitsFrom n o tally answer b b' → Went ⊎ Stayed
    went_or_stayed o None lies there does =
        inr (record { board = does.1; nothing = ap (λ a. answered (step.Submit n) a b) does.0 })
    went_or_stayed None (Some tally) lies there does =
        inr (record { board = does.1; nothing = ap (λ a. answered (step.Submit n) a b) does.0 })
    went_or_stayed (Some job) (Some tally) lies there does = elim does [
      | inl went ↦ (let its : job.guest ≡ n =
          sym (of_guest (is_full b.book) tally job (guest_of b.book job.guest) went.0)
          ∙ tallied tally.guest (ap (option_map (λ v. v.guest)) there) in
          inl (record {
            job = job;
            lies = lies;
            its = its;
            known = λ x found. not_full (is_full b.book) tally job x
                (subst (λ o. refusal_at (is_full b.book) tally job o ≡ None)
                (ap (slice_get (guests b)) its ∙ found) went.0);
            did = went.1;
            after = ap (λ v. state v.book) went.2 ∙ submit_rolls b.book job;
            dones = ap (λ v. v.dones) went.2;
          }))
      | inr refused ↦ inr (record {
        board = refused.1;
        nothing =
            ap (λ a. answered (step.Submit n) a b) refused.0;
      })
    ]
      where
        not_full : (full : Bool) (tally : Tally) (job : Job) (x : GuestState)
            → refusal_at full tally job (Some x) ≡ None → ¬ (length x.held ≡ 64)
        not_full full tally job x allowed = grind (arith, nat_tests)

    submit_says : Submits n answer b b' log log' → (g : ℕ) → accepted_in config Logs' g
        ≡ accepted_after (step.Submit n) answer b (accepted_in config logs) g
    submit_says made = grind (arith, configured, here, other, went_or_stayed)

    few_done : (o : Option Done) → count_of o ≤ 1
    few_done None = omega arith
    few_done (Some d) = omega arith

    submit_room : NotesSubmit n answer b b' log log' → Submits n answer b b' log log' → Went
        ⊎ Stayed → HaveRoom (Up b') Logs'
    submit_room notes made (inr stayed) = subst (λ v. HaveRoom (Up v) Logs') (sym stayed.board)
        (room_each b (λ y there. same_room notes.published notes.capacity y (slice_get b.dones n)
        (room n log y at there)) (λ g l y differs found there. room g l y found there))
    submit_room notes made (inl went) = room_each b' mine others
      where
        mine : (y : GuestState) → slice_get (guests b') n ≡ Some y
            → HasRoom log' y (slice_get b'.dones n)
        mine y there =
            let x = turned b.book (submit_of b.book went.job) n y
            (ap (λ s. slice_get s.guests n) (sym went.after) ∙ there) in
            let has = room n log x.0 at x.1 in
            let few = has.few in
            let not_full = went.known x.0 x.1 in
            let long : length y.held ≡ length x.0.held + 1 =
            ap (λ v. length v.held) (x.2
            ∙ chosen went.job.guest n went.its x.0
            (submitted (state b.book).broken went.job x.0)) ∙ one_longer x.0.held _ in
            let one = few_done (in_place (slice_get b'.dones n)) in
            let same = ap length notes.published in
            record { few = omega arith; room = omega arith }
          where
            below : (k : ℕ) → k ≤ 64 → ¬ (k ≡ 64) → k < 64
            below k few differs = grind (arith)

            one_longer : {X : Type 0} (list : List X) (x : X) → length (list ++ x ∷ [])
                ≡ length list + 1
            one_longer [] x = omega arith
            one_longer (v ∷ list) x = (let rest = one_longer list x in omega arith)

        others : (g : ℕ) (l : GuestLog) (y : GuestState) → g ≢ n → slice_get logs g ≡ Some l
            → slice_get (guests b') g ≡ Some y → HasRoom l y (slice_get b'.dones g)
        others g l y differs found there =
            let before = other_guest b.book (submit_of b.book went.job) went.job.guest
            (submitted (state b.book).broken went.job) (λ k x. refl) g (λ e.
            differs (e ∙ went.its)) y (ap (λ s. slice_get s.guests g) (sym went.after) ∙ there)
            in
            subst (HasRoom l y) (ap (λ d. slice_get d g) (sym went.dones)) (room g l y found before)

    pub submit_noted : NotesSubmit n answer b b' log log'
        → IsNoted config life (step.Submit n) answer b b' logs Logs'
    submit_noted notes = by notes.made
      where
        by : Submits n answer b b' log log' ⊎ Unnoted n answer b b' log log'
            → IsNoted config life (step.Submit n) answer b b' logs Logs'
        by (inl made) = record {
          steps = inl (
            made.does,
            record {
              accepted = submit_says made;
              published =
                  published_same notes.published;
              popped = popped_same notes.popped;
            },
          );
          room = submit_room notes made
              (went_or_stayed (in_place (slice_get b.jobs n)) (slice_get b.tallies n) refl refl
              made.does);
        }
        by (inr unnoted) = record {
          steps = inr (
            (unnoted.lies, unnoted.answer_is),
            record {
              board = unnoted.board;
              accepted = accepted_same unnoted.accepted;
              published =
                  published_same notes.published;
              popped = popped_same notes.popped;
            },
          );
          room = subst (λ v. HaveRoom (Up v) Logs') (sym unnoted.board)
              (room_each b (λ y there.
              same_room notes.published notes.capacity y (slice_get b.dones n)
              (room n log y at there)) (λ g l y differs found there. room g l y found there));
        }

    -- 3. A Publish

    publish_here : (a : Answer) (ps qs : ℕ → List Publication) → ps n ≡ qs n
        → published_after life (step.Publish n) a b ps n ≡ published_after life (step.Publish n) a b
        qs n
    publish_here a ps qs same = grind arith

    publish_there : (a : Answer) (ps : ℕ → List Publication) (g : ℕ) → g ≢ n
        → published_after life (step.Publish n) a b ps g ≡ ps g
    publish_there a ps g differs = grind arith

    one_more : (o : Option Done) (list : List Publication) → length (with_publication life o list)
        ≤ length list + count_of o
    one_more None list = omega arith
    one_more (Some d) list = by list
      where
        by : (list : List Publication) → length (list ++ publication_of life d ∷ [])
            ≤ length list + 1
        by [] = omega arith
        by (p ∷ list) = (let rest = by list in omega arith)

    publish_long : (a : Answer) (ps : ℕ → List Publication)
        → length (published_after life (step.Publish n) a b ps n) ≤ length (ps n) + count_of
        (in_place (slice_get b.dones n))
    publish_long a ps = grind (arith, one_more)

    -- the book is as it was, and the reply's place is empty then
    record Emptied : Type 0 where
      pub book : b'.book ≡ b.book
      pub gone : count_of (in_place (slice_get b'.dones n)) ≡ 0
      pub rest : (g : ℕ) → g ≢ n → slice_get b'.dones g ≡ slice_get b.dones g

    pub publish_noted : Does cut_state CutMakes (step.Publish n) answer b b'
        → log' ≡ record log {
          published = published_after life (step.Publish n) answer b (λ g.
              log.published) n;
        }
        → IsNoted config life (step.Publish n) answer b b' logs Logs'
    publish_noted does is_log = record {
      steps =
          grind (
            arith,
            accepted_same,
            at_each,
            here,
            other,
            popped_same,
            publish_here,
            publish_there,
            published_after,
            published_in,
            published_of,
          );
      room = (let gone = empties (in_place (slice_get b.dones n)) (slice_get b.devices n) refl does
          in room_each b' (mine gone) (others gone));
    }
      where
        empties : (o : Option Done) (device : Option DeviceState) → in_place (slice_get b.dones n)
            ≡ o → PublishesFrom n o device answer b b' → Emptied ⊎ Idles answer b b'
        empties o None lies does = inr does
        empties None (Some d) lies does = inr does
        empties (Some r) (Some d) lies does = inl (record {
          book = ap (λ v. v.book) does.after;
          gone = ap (λ v. count_of (in_place (slice_get v.dones n))) does.after
              ∙ ap (λ o. count_of (in_place o))
              (get_set_same b.dones n (Some r) None (full_at (slice_get b.dones n) r (sym lies)));
          rest = λ g differs. ap (λ v. slice_get v.dones g) does.after
              ∙ get_set_other b.dones n g None differs;
        })

        mine : Emptied ⊎ Idles answer b b' → (y : GuestState) → slice_get (guests b') n ≡ Some y
            → HasRoom log' y (slice_get b'.dones n)
        mine (inl went) y there =
            let has = room n log y at (ap (λ v. slice_get (state v).guests n) (sym went.book)
            ∙ there) in
            let long = publish_long answer (λ g. log.published) in
            let is = ap (λ l. length l.published) is_log in
            let wide = ap (λ l. l.room) is_log in
            record { few = has.few; room = omega arith }
        mine (inr idle) y there =
            let unsaid = ap (λ l. l.published) is_log
            ∙ ap (λ a. published_after life (step.Publish n) a b (λ g. log.published) n) idle.0
            in
            let wide = ap (λ l. l.room) is_log in
            same_room unsaid (omega arith) y (slice_get b'.dones n)
            (subst (λ v. HasRoom log y (slice_get v.dones n)) (sym idle.1)
            (room n log y at (ap (λ v. slice_get (guests v) n) (sym idle.1) ∙ there)))

        others : Emptied ⊎ Idles answer b b' → (g : ℕ) (l : GuestLog) (y : GuestState) → g ≢ n
            → slice_get logs g ≡ Some l → slice_get (guests b') g ≡ Some y
            → HasRoom l y (slice_get b'.dones g)
        others (inl went) g l y differs found there =
            subst (HasRoom l y) (sym (went.rest g differs))
            (room g l y found (ap (λ v. slice_get (state v).guests g) (sym went.book) ∙ there))
        others (inr idle) g l y differs found there =
            subst (λ v. HasRoom l y (slice_get v.dones g)) (sym idle.1)
            (room g l y found (ap (λ v. slice_get (guests v) g) (sym idle.1) ∙ there))

    -- 4. A Pop

    pop_there : (a : Answer) (ps : ℕ → List Pop) (g : ℕ) → g ≢ n
        → popped_after life (step.Pop n) a b' ps g ≡ ps g
    pop_there a ps g differs = grind arith

    pop_here : (a : Answer) (ps qs : ℕ → List Pop) → ps n ≡ qs n
        → popped_after life (step.Pop n) a b' ps n ≡ popped_after life (step.Pop n) a b' qs n
    pop_here a ps qs same = grind arith

    pub pop_noted : n < length b.jobs → NotesPop life n answer b b' log log'
        → IsNoted config life (step.Pop n) answer b b' logs Logs'
    pop_noted below notes = by notes.made
      where
        says : log'.popped ≡ popped_after life (step.Pop n) answer b' (λ h. log.popped) n → (g : ℕ)
            → popped_in Logs' g ≡ popped_after life (step.Pop n) answer b' (popped_in logs) g
        says list = at_each {P = λ g. popped_in Logs' g ≡ popped_after life (step.Pop n) answer b'
            (popped_in logs) g} n
            (ap popped_of here ∙ list ∙ pop_here answer (λ h. log.popped) (popped_in logs)
            (sym (ap popped_of at)))
            (λ g differs. ap popped_of (other g differs)
            ∙ sym (pop_there answer (popped_in logs) g differs))

        -- room as before, in a log with as much
        with_log : HaveRoom (Up b') logs → HaveRoom (Up b') Logs'
        with_log had = room_each b'
            (λ y there. same_room notes.published (omega arith) y (slice_get b'.dones n)
            (had n log y at there))
            (λ g l y differs found there. had g l y found there)

        by : (Does cut_state CutMakes (step.Pop n) answer b b'
            × (log'.popped ≡ popped_after life (step.Pop n) answer b' (λ h. log.popped) n))
            ⊎ (HasNoJob n b × (answer ≡ Err (fault.Device device_fault.NoMemory)) × (b' ≡ b)
            × (log'.popped ≡ log.popped)) → IsNoted config life (step.Pop n) answer b b' logs
            Logs'
        by (inl made) = record {
          steps = inl (
            made.0,
            record {
              accepted = accepted_same notes.accepted;
              published =
                  published_same notes.published;
              popped = says made.1;
            },
          );
          room = with_log (still_room b b' logs room
              (pops b n answer b' (slice_get b.jobs n) (slice_get b.devices n) made.0));
        }
        by (inr un) = record {
          steps = inr (
            (empty_there b.jobs n below un.0, un.1),
            record {
              board = un.2;
              accepted = accepted_same notes.accepted;
              published =
                  published_same notes.published;
              popped = popped_same un.3;
            },
          );
          room = with_log (subst (λ v. HaveRoom (Up v) logs) (sym un.2) room);
        }

-- 5. As the code looks at them

guest_is : (config : List GuestConfig) (bases : ℕ → Partition) (accepted : ℕ → List Request)
    (parts : ℕ → Part) (b : BoardState CutState) → IsLinkedBoard cut_state config bases accepted
    parts b
    → (n : ℕ) (c : GuestConfig) → slice_get config n ≡ Some c → IsGuest c n b
guest_is config bases accepted parts b linked n c at =
    let x = in_book cut_state config bases accepted parts b linked n
    (slice_get_within config n c at) in
    let counted = (linked.each n x.0 x.1).tallied in
    record {
      limits = λ y there. same_limits (limits_of c) y.core.limits
          (ap (option_map limits_of) (sym at) ∙ (linked.each n y there).limits);
      tallied = λ t told. same_guest n t (ap (option_map (λ v. v.guest)) (sym counted) ∙ told);
    }
  where
    same_limits : (l k : Limits) → Some l ≡ Some k → k ≡ l
    same_limits l k is = cc

    same_guest : (k t : ℕ) → Some k ≡ Some t → t ≡ k
    same_guest k t is = cc

module _ (config : List GuestConfig) (bases : ℕ → Partition) (accepted : ℕ → List Request)
    (parts : ℕ → Part) (b : BoardState CutState)
    (linked : IsLinkedBoard cut_state config bases accepted parts b)
    (logs : List GuestLog) (many : length logs ≡ length (guests b)) (room : HaveRoom (Up b) logs)
  where
    pub submit_is : (life : ℕ) (s : Step) (n at : ℕ) (answer : Answer) (b' : BoardState CutState)
        (log log' : GuestLog) → s ≡ step.Submit n → at ≡ n → at < length logs
        → log ≡ slice_index_or logs at log
        → NotesSubmit n answer b b' log log'
        → IsNoted config life s answer b b' logs (slice_set logs at log')
    submit_is life s n at answer b' log log' is same below read notes =
        let there : slice_get logs n ≡ Some log = ap (slice_get logs) (sym same)
        ∙ slice_get-get_or logs at log below ∙ ap Some (sym read) in
        subst (λ k. IsNoted config life s answer b b' logs (slice_set logs k log')) (sym same)
        (subst (λ v. IsNoted config life v answer b b' logs (slice_set logs n log')) (sym is)
        (submit_noted config life n answer b b' logs log log' there linked.many many
        (guest_is config bases accepted parts b linked n) room notes))

    pub publish_is : (life : ℕ) (s : Step) (n at : ℕ) (answer : Answer) (b' : BoardState CutState)
        (log log' : GuestLog) → s ≡ step.Publish n → at ≡ n → at < length logs
        → log ≡ slice_index_or logs at log
        → Does cut_state CutMakes (step.Publish n) answer b b'
        → log' ≡ record log {
          published = published_after life (step.Publish n) answer b (λ g.
              log.published) n;
        }
        → IsNoted config life s answer b b' logs (slice_set logs at log')
    publish_is life s n at answer b' log log' is same below read does after =
        let there : slice_get logs n ≡ Some log = ap (slice_get logs) (sym same)
        ∙ slice_get-get_or logs at log below ∙ ap Some (sym read) in
        subst (λ k. IsNoted config life s answer b b' logs (slice_set logs k log')) (sym same)
        (subst (λ v. IsNoted config life v answer b b' logs (slice_set logs n log')) (sym is)
        (publish_noted config life n answer b b' logs log log' there linked.many many
        (guest_is config bases accepted parts b linked n) room does after))

    pub pop_is : (life : ℕ) (s : Step) (n at : ℕ) (answer : Answer) (b' : BoardState CutState)
        (log log' : GuestLog) → s ≡ step.Pop n → at ≡ n → at < length logs
        → log ≡ slice_index_or logs at log
        → NotesPop life n answer b b' log log'
        → IsNoted config life s answer b b' logs (slice_set logs at log')
    pop_is life s n at answer b' log log' is same below read notes =
        let there : slice_get logs n ≡ Some log = ap (slice_get logs) (sym same)
        ∙ slice_get-get_or logs at log below ∙ ap Some (sym read) in
        subst (λ k. IsNoted config life s answer b b' logs (slice_set logs k log')) (sym same)
        (subst (λ v. IsNoted config life v answer b b' logs (slice_set logs n log')) (sym is)
        (pop_noted config life n answer b b' logs log log' there linked.many many
        (guest_is config bases accepted parts b linked n) room (let wide = linked.places.jobs in
        let count = linked.many in omega (arith, below, same)) notes))

    -- no place of a guest that the board lacks is full
    none_there : {X : Type 0} (places : List (Option X)) (n : ℕ) → length places ≡ length config
        → length logs ≤ n → in_place (slice_get places n) ≡ None
    none_there places n wide past = grind (arith, slice_get_within)

    pub submit_past : (n at : ℕ) → at ≡ n → length logs ≤ at → in_place (slice_get b.jobs n) ≡ None
    submit_past n at same past = none_there b.jobs n linked.places.jobs (omega (arith, same, past))

    -- a guest that the board lacks has no place for a job
    pub pop_past : (n at : ℕ) → at ≡ n → length logs ≤ at → slice_get b.jobs n ≡ None
    pop_past n at same past = grind (arith, slice_get_within)

    pub publish_past : (n at : ℕ) → at ≡ n → length logs ≤ at → in_place (slice_get b.dones n) ≡
        None
    publish_past n at same past = none_there b.dones n linked.places.dones
        (omega (arith, same, past))

-- what a Publish asks for
pub room_for_one : (b : BoardState CutState) (logs : List GuestLog) (n at : ℕ) (log : GuestLog)
    → length logs ≡ length (guests b) → HaveRoom (Up b) logs → at ≡ n → at < length logs
    → log ≡ slice_index_or logs at log
    → length log.published + count_of (in_place (slice_get b.dones n)) ≤ log.room
room_for_one b logs n at log many room same below read =
    let there : slice_get logs n ≡ Some log = ap (slice_get logs) (sym same)
    ∙ slice_get-get_or logs at log below ∙ ap Some (sym read) in
    elim (slice_get_cases (guests b) n).1 [
      | inl found ↦ (let has = (room n log found.0 there found.2).room in omega arith)
      | inr beyond ↦ (absurd (omega arith))
    ]

-- the other steps
abbrev Others : Step → Type 0
Others s = ((n : ℕ) × (act : Act) × (s ≡ step.Drive n act))
    ⊎ (((n : ℕ) × (s ≡ step.Collect n))
    ⊎ (((n : ℕ) × (s ≡ step.Take n))
    ⊎ (((n : ℕ) × (s ≡ step.Give n)) ⊎ ((s ≡ step.Advance) ⊎ (s ≡ step.Settle)))))

pub quiet_others : (s : Step) (b : BoardState CutState) → Others s → IsQuiet s b
quiet_others s b x2 = grind arith
