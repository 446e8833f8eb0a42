-- What each event makes of the parts of a world.
use Rattle.std.proofs.Common.{◌≡◌, inl, inr, ℕ, zero, suc, ◌+◌, ◌-◌, ◌≤◌, ◌<◌, false, List, [], ◌∷◌}
use Rattle.std.proofs.Common.{Option, Some, None, Vec, Global, length, drop, map, take, refl, ap}
use Rattle.std.proofs.Common.{sym, subst, ◌∙◌, arith}
use Rattle.world.proofs.Common.{option_map, replicate, slice_get, slice_index_or, length-map}
use Rattle.world.proofs.Common.{slice_get_cases, slice_get-get_or, slice_get_within, Partition}
use Rattle.world.proofs.Common.{sequence, Request, GuestConfig, partition_after_all, content_of}
use Rattle.world.proofs.Common.{CutMakes, CutState, cut_state, HasRisen, Within, AnswersFault}
use Rattle.world.proofs.Common.{SyncsFirst, Untouched, OpenFault, fresh_guests, capacities_of}
use Rattle.world.proofs.Common.{state, GuestState, AreOfBoard, BoardState, guests, in_place, Answer}
use Rattle.world.proofs.Common.{Step, Event, Refusal, Home, Up, Down, Stage, IsLinkedBoard, Begins}
use Rattle.world.proofs.Common.{CallsRefused, bases_of, kept_by, new_board, Finds, IsTied, Happens}
use Rattle.world.proofs.Common.{LacksRoom, OpensOrNot, Runs, StepsAt, opened_world, partition_in}
use Rattle.world.proofs.Common.{raised, WorldState, choosing_call, refusal_of, IsConsistent}
use Rattle.world.proofs.Common.{IsConsistentAt, IsNew, IsOpen, AreCut, AreFresh, Asked, GuestLog}
use Rattle.world.proofs.Common.{cut_log, kept_count, HasRoom, HaveRoom, IsFitWith, asked_by}
use Rattle.world.proofs.Common.{count_of, home_of, popped_of, published_of, seen_of, world_of}
use Rattle.world.proofs.Common.{IsNoted}
use Rattle.world.specs.Records.{accepted_of}
use Rattle.std.specs.Prelude.{IfSome}
use Rattle.std.specs.Option.{option_or}
use Rattle.recovery.specs.Reading.{is_disk}
use Rattle.recovery.specs.declared.fault.OpenFault.TheVariants as open_fault
use Rattle.rpmb_book.specs.Sound.{IsSound}
use Rattle.world.specs.declared.event.Refusal.TheVariants as refusal
use Rattle.world.specs.declared.log.Log.{Log}
use Rattle.board.proofs.Opened.{fresh_at}
use Rattle.world.proofs.Runs.{event_kept, some_raised}
use Rattle.world.proofs.Ordered.{event_tied}
use Rattle.world.specs.Records.{IsFit, WorldView}
use Rattle.world.specs.Noting.{IsUnnoted}

-- 1. An open world

module _ (s : Stage) (b : BoardState CutState) (is : s.home ≡ Some (Up b))
    (consistent : IsConsistent (world_of (seen_of s))) (fit : IsFit s) where
  abbrev Old : WorldState
  Old = world_of (seen_of s)

  pub up : IsConsistentAt Old (Up b)
  up = subst (λ h. IsConsistentAt Old (home_of h)) is consistent

  pub linked_now : IsLinkedBoard cut_state s.config Old.bases Old.accepted up.0.parts b
  linked_now = up.0.linked

  pub many_now : length s.logs.items ≡ length (guests b)
  many_now = fit.fits.many up.1 ∙ sym linked_now.many

  pub room_now : HaveRoom (Up b) s.logs.items
  room_now = subst (λ h. HaveRoom (home_of h) s.logs.items) is fit.fits.room

  module _ (st : Step) (answer : Answer) (b' : BoardState CutState) (logs' : Vec Log Global)
      (noted : IsNoted s.config s.openings st answer b b' s.logs.items logs'.items) where
    abbrev After : Stage
    After = record s { home = Some (Up b'); logs = logs' }

    lacks : (v : Step) (new : WorldState) → IsUnnoted v b answer → new ≡ Old
        → LacksRoom v b Old (refusal_of answer) new
    lacks v new un same = grind arith

    pub steps_at : IsSound (state b.book) → AreOfBoard (state b.book)
        → StepsAt st (home_of s.home) Old (refusal_of answer) (world_of (seen_of After))
    steps_at sound of_board = grind arith

    pub steps_fit : length logs'.items ≡ length s.logs.items → IsFit After
    steps_fit same = grind arith

-- 2. A failure that is chosen

pub chosen_fit : (s : Stage) (k : ℕ) (b b' : BoardState CutState) → s.home ≡ Some (Up b)
    → b' ≡ choosing_call k b → IsFit s → IsFit (record s { home = Some (Up b') })
chosen_fit s k b b' is chosen fit = record {
  there = refl;
  fits = record {
    based = fit.fits.based;
    unbased = fit.fits.unbased;
    many = fit.fits.many;
    room = subst (λ v. HaveRoom (Up v) s.logs.items) (sym chosen)
        (as_before (subst (λ h. HaveRoom (home_of h) s.logs.items) is fit.fits.room));
  };
}
  where
    as_before : HaveRoom (Up b) s.logs.items → HaveRoom (Up (choosing_call k b)) s.logs.items
    as_before room g log x at there = room g log x at there

-- 3. A life that ends

-- what is noted has room, whatever was under way
pub left_fit : (s : Stage) (d : CutState) → IsConsistent (world_of (seen_of s)) → IsFit s
    → IsFitWith (Down d) (record s { home = None })
left_fit s d consistent fit = record {
  based = fit.fits.based;
  unbased = fit.fits.unbased;
  many = fit.fits.many;
  room = by (home_of s.home) refl;
}
  where
    by : (h : Home) → home_of s.home ≡ h → (g : ℕ) (log : GuestLog) → slice_get s.logs.items g
        ≡ Some log → length log.published ≤ log.room
    by (Down e) is g log at = subst (λ h. HaveRoom h s.logs.items) is fit.fits.room g log at
    by (Up b) is g log at =
        let up = subst (IsConsistentAt (world_of (seen_of s))) is consistent in
        let room = subst (λ h. HaveRoom h s.logs.items) is fit.fits.room in
        let below = slice_get_within s.logs.items g log at in
        elim (slice_get_cases (guests b) g).1 [
          | inl found ↦ (let has = (room g log found.0 at found.2).room in omega arith)
          | inr past ↦ (absurd (omega arith))
        ]

-- 4. Openings

-- what an opening makes of a world doesn't depend on where its disk was
pub opened_from : (d : CutState) (w : WorldState) (h : Home) (told : Option Refusal)
    (new : WorldState) → OpensOrNot d (record w { home = h }) told new → OpensOrNot d w told new
opened_from d w h told new (inl o) =
    inl (record {
      tells = o.tells;
      board = o.board;
      begins = o.begins;
      goes_on = o.goes_on;
      stand =
          o.stand;
      calls = o.calls;
      unfailed = o.unfailed;
      rest = o.rest;
      after = o.after
          ∙ same w.openings;
    })
  where
    same : (n : ℕ) → opened_world n (record w { home = h }) o.board o.begins.partitions
        ≡ opened_world n w o.board o.begins.partitions
    same zero = refl
    same (suc n) = refl
opened_from d w h told new (inr r) =
    inr (record {
      fault = r.fault;
      tells = r.tells;
      disk = r.disk;
      untouched = r.untouched;
      calls =
          r.calls;
      cause = r.cause;
      unfailed = r.unfailed;
      reason = r.reason;
      after = r.after;
    })

pub refuses_at : (s new : Stage) (disk left : CutState) (fault : OpenFault) (told : Option Refusal)
    → told ≡ Some (refusal.Open fault) → new ≡ record s { home = Some (Down left) }
    → Within cut_state CutMakes (Untouched (cut_state disk)) disk left
    → CallsRefused CutMakes disk left fault
    → (fault ≡ open_fault.DiskFault → HasRisen disk.failures left.failures)
    → (is_disk fault ≡ false → left.failures ≡ disk.failures)
    → AnswersFault (capacities_of s.config) (length disk.seen) (content_of disk.seen) fault
    → OpensOrNot disk (world_of (seen_of s)) told (world_of (seen_of new))
refuses_at s new disk left fault told is after moments calls cause unfailed reason = grind arith

pub refused_fit : (s new : Stage) (disk left : CutState)
    → new ≡ record s { home = Some (Down left) } → IsFitWith (Down disk) s → IsFit new
refused_fit s new disk left after fit =
    subst IsFit (sym after) (record {
      there = refl;
      fits =
          record { based = fit.based; unbased = fit.unbased; many = fit.many; room = fit.room };
    })

nothing_taken : (n : ℕ) (list : List Request) → list ≡ [] → take n list ≡ []
nothing_taken zero list none = refl
nothing_taken (suc n) list none = ap (take (suc n)) none

map_take : (c : GuestConfig) (n : ℕ) (list : List Asked) → map (asked_by c) (take n list)
    ≡ take n (map (asked_by c) list)
map_take c zero [] = refl
map_take c zero (x ∷ list) = refl
map_take c (suc n) [] = refl
map_take c (suc n) (x ∷ list) = ap (λ l. asked_by c x ∷ l) (map_take c n list)

kept_none : (base : Partition) (x : Option GuestState) → kept_by x base [] ≡ []
kept_none base None = refl
kept_none base (Some x) = nothing_taken (sequence x.core.partition - sequence base) [] refl

-- what a log says that was cut
kept_said : (c : Option GuestConfig) (log : Option GuestLog) (base : Partition)
    (x : Option GuestState) → accepted_of c (option_map (cut_log (kept_count base x)) log)
    ≡ kept_by x base (accepted_of c log)
kept_said c log base x = grind (arith, kept_none, map_take)

-- what fresh logs say
none_said : (c : Option GuestConfig) (log : Option GuestLog)
    → ((l : GuestLog) → log ≡ Some l → (l.accepted ≡ []) × (l.published ≡ []) × (l.popped ≡ []))
    → (accepted_of c log ≡ []) × (published_of log ≡ []) × (popped_of log ≡ [])
none_said c log empty = grind arith

-- the guests of a board that was opened have the partitions that were found
found_partitions : (config : List GuestConfig) (ps : List Partition) → length ps ≡ length config
    → map (λ x. x.core.partition) (fresh_guests config ps) ≡ ps
found_partitions [] [] many = refl
found_partitions [] (p ∷ ps) many = absurd (omega arith)
found_partitions (c ∷ config) [] many = absurd (omega arith)
found_partitions (c ∷ config) (p ∷ ps) many =
    ap (λ l. p ∷ l) (found_partitions config ps (omega arith))

module _ (s t : Stage) (disk : CutState) (b : BoardState CutState) (life : ℕ)
    (life_is : life ≡ raised s.openings) (starts : Begins cut_state life s.config b)
    (rest : t ≡ record s { bases = t.bases; logs = t.logs })
    (first : s.openings ≡ 0 → (t.bases.items ≡ map (λ x. x.core.partition) (guests b))
    × AreFresh (length s.config) t.logs.items)
    (later : 0 < s.openings → (t.bases ≡ s.bases) × AreCut (bases_of s.bases.items) b s.logs.items
    t.logs.items) where
  abbrev Opened : Stage
  Opened = record t { home = Some (Up b); openings = life }

  abbrev Same : Stage
  Same = record s { home = Some (Up b); bases = t.bases; logs = t.logs; openings = life }

  same_opened : Opened ≡ Same
  same_opened = ap (λ (v : Stage). record v { home = Some (Up b); openings = life }) rest

  begins_now : Begins cut_state (raised s.openings) s.config b
  begins_now = record {
    partitions = starts.partitions;
    store = starts.store;
    is = starts.is ∙ ap (λ l. new_board l s.config starts.partitions starts.store) life_is;
    begun = starts.begun;
    whole = starts.whole;
    linked = starts.linked;
  }

  many_partitions : length starts.partitions ≡ length s.config
  unfolding capacities_of
  many_partitions = starts.begun.all_partitions ∙ length-map s.config (λ c. c.capacity)

  guests_are : guests b ≡ fresh_guests s.config starts.partitions
  guests_are = ap guests starts.is

  bases_first : t.bases.items ≡ map (λ x. x.core.partition) (guests b)
      → t.bases.items ≡ starts.partitions
  bases_first is = is ∙ ap (map (λ x. x.core.partition)) guests_are
      ∙ found_partitions s.config starts.partitions many_partitions

  opened_now : (n : ℕ) → s.openings ≡ n → (n ≡ 0 → IsNew (world_of (seen_of s)))
      → world_of (seen_of Same) ≡ opened_world n (world_of (seen_of s)) b starts.partitions
  opened_now n none new = grind (arith, bases_first, kept_said, none_said)

  pub opens_at : (s.openings ≡ 0 → IsNew (world_of (seen_of s)))
      → Finds cut_state s.config (cut_state disk) b → SyncsFirst CutMakes disk b.store.disk
      → b.store.disk.failures ≡ disk.failures
      → OpensOrNot disk (world_of (seen_of s)) None (world_of (seen_of Opened))
  unfolding begins_now
  opens_at new found calls unfailed = inl (record {
    tells = refl;
    board = b;
    begins = begins_now;
    goes_on = found.goes_on;
    stand = found.stands;
    calls = calls;
    unfailed = unfailed;
    rest = found.rests;
    after = ap (λ v. world_of (seen_of v)) same_opened ∙ opened_now s.openings refl new;
  })

  -- nothing is held, and no reply is about to leave
  nothing_held : (g : ℕ) (x : GuestState) → slice_get (guests b) g ≡ Some x → x.held ≡ []
  nothing_held g x at = ap (λ v. v.held)
      (fresh_at s.config starts.partitions g x (ap (λ l. slice_get l g) (sym guests_are) ∙ at)).is

  nothing_leaves : (g : ℕ) → count_of (in_place (slice_get b.dones g)) ≡ 0
  nothing_leaves g = ap (λ v. count_of (in_place (slice_get v.dones g))) starts.is
      ∙ none (length s.config) g
    where
      none : (n g : ℕ) → count_of (in_place (slice_get (replicate n None) g)) ≡ 0
      none zero g = refl
      none (suc n) zero = refl
      none (suc n) (suc g) = none n g

  has_room : (log : GuestLog) → length log.published ≤ log.room → (g : ℕ) (x : GuestState)
      → slice_get (guests b) g ≡ Some x → HasRoom log x (slice_get b.dones g)
  has_room log fits g x at = grind (arith, nothing_held, nothing_leaves)

  pub opened_fit : IsFitWith (Down disk) s → IsFit Opened
  opened_fit fit = subst IsFit (sym same_opened) (record {
    there = refl;
    fits = record {
      based = λ some. based s.openings refl;
      unbased = λ none. absurd (let more = some_raised s.openings in omega (arith, life_is));
      many = λ some. logs_many s.openings refl;
      room = λ g log x at there. room s.openings refl g log x at there;
    };
  })
    where
      based : (n : ℕ) → s.openings ≡ n → length t.bases.items ≡ length s.config
      based zero none = ap length (bases_first (first none).0) ∙ many_partitions
      based (suc n) some = (let l = later (omega arith) in ap (λ v. length v.items) l.0
          ∙ fit.based (omega arith))

      logs_many : (n : ℕ) → s.openings ≡ n → length t.logs.items ≡ length s.config
      logs_many zero none = (first none).1.many
      logs_many (suc n) some = (let l = later (omega (arith, some)) in l.1.many
          ∙ fit.many (omega (arith, some)))

      room : (n : ℕ) → s.openings ≡ n → (g : ℕ) (log : GuestLog) (x : GuestState)
          → slice_get t.logs.items g ≡ Some log → slice_get (guests b) g ≡ Some x
          → HasRoom log x (slice_get b.dones g)
      room zero none g log x at there =
          has_room log (let empty = ap length ((first none).1.each g log at).1 in omega arith) g x
          there
      room (suc n) some g log x at there =
          by (slice_get s.logs.items g) refl (sym ((later (omega (arith, some))).1.each g) ∙ at)
        where
          by : (o : Option GuestLog) → slice_get s.logs.items g ≡ o
              → option_map (cut_log (kept_count (bases_of s.bases.items g)
              (slice_get (guests b) g))) o ≡ Some log → HasRoom log x (slice_get b.dones g)
          by None before is = absurd (cc)
          by (Some old) before is =
              let e : cut_log (kept_count (bases_of s.bases.items g) (slice_get (guests b) g)) old
              ≡ log = cc in
              has_room log (subst (λ l. length l.published ≤ l.room) e (fit.room g old before)) g x
              there

-- 5. Events in turn

-- the events so far led here, with the first of their refusals; and what follows goes on from here
pub record GoesOnFrom (old : WorldState) (events : List Event) (n : ℕ) (first : Option Refusal)
    (s : Stage) : Type 0 where
  pub runs : (told : Option Refusal) (new : WorldState)
      → Runs (world_of (seen_of s)) (drop n events) told new
      → Runs old events (option_or first told) new
  pub consistent : IsConsistent (world_of (seen_of s))
  pub tied : IsTied (world_of (seen_of s))
  pub fit : IsFit s

drop_next : (events : List Event) (n : ℕ) (e : Event) → slice_get events n ≡ Some e
    → drop n events ≡ e ∷ drop (suc n) events
drop_next [] zero e is = absurd (cc)
drop_next [] (suc n) e is = absurd (cc)
drop_next (x ∷ events) zero e is = (let same : x ≡ e = cc in ap (λ v. v ∷ events) same)
drop_next (x ∷ events) (suc n) e is = drop_next events n e is

drop_past : (events : List Event) (n : ℕ) → length events ≤ n → drop n events ≡ []
drop_past [] zero past = refl
drop_past [] (suc n) past = refl
drop_past (x ∷ events) zero past = absurd (omega arith)
drop_past (x ∷ events) (suc n) past = drop_past events n (omega arith)

first_first : (a b c : Option Refusal) → option_or a (option_or b c) ≡ option_or (option_or a b) c
first_first None b c = refl
first_first (Some x) b c = refl

first_alone : (a : Option Refusal) → option_or a None ≡ a
first_alone None = refl
first_alone (Some x) = refl

pub goes_on_at_first : (v : WorldView) (events : List Event) (s : Stage) → seen_of s ≡ v
    → IsConsistent (world_of (seen_of s)) → IsTied (world_of (seen_of s)) → IsFit s
    → GoesOnFrom (world_of v) events 0 None s
goes_on_at_first v events s is consistent tied fit = grind arith

pub goes_on_after : (old : WorldState) (events : List Event) (n : ℕ)
    (first refused later : Option Refusal) (s s' : Stage) (e : Event)
    → GoesOnFrom old events n first s → n < length events → e ≡ slice_index_or events n e
    → Happens (world_of (seen_of s)) e refused (world_of (seen_of s')) → IsFit s'
    → later ≡ option_or first refused → GoesOnFrom old events (n + 1) later s'
goes_on_after old events n first refused later s s' e before below read happens fit is = record {
  runs = λ told new run. subst (λ f. Runs old events (option_or f told) new) (sym is)
      (subst (λ f. Runs old events f new) (first_first first refused told)
      (before.runs (option_or refused told) new
      (subst (λ l. Runs (world_of (seen_of s)) l (option_or refused told) new)
      (sym (drop_next events n e there ∙ ap (λ k. e ∷ drop k events) (one_more n)))
      (record {
        mid = world_of (seen_of s');
        later = told;
        first =
            record { one = refused; happens = happens; tells = refl };
        rest = run;
      }))));
  consistent = (event_kept (world_of (seen_of s)) (world_of (seen_of s')) e refused
      before.consistent happens).0;
  tied = event_tied (world_of (seen_of s)) (world_of (seen_of s')) e refused before.tied happens;
  fit = fit;
}
  where
    one_more : (k : ℕ) → suc k ≡ k + 1
    one_more k = omega arith

    there : slice_get events n ≡ Some e
    there = slice_get-get_or events n e below ∙ ap Some (sym read)

pub all_ran : (old : WorldState) (events : List Event) (n : ℕ) (first : Option Refusal) (s : Stage)
    → GoesOnFrom old events n first s → length events ≤ n
    → Runs old events first (world_of (seen_of s))
all_ran old events n first s now past =
    subst (λ f. Runs old events f (world_of (seen_of s))) (first_alone first)
    (now.runs None (world_of (seen_of s))
    (subst (λ l. Runs (world_of (seen_of s)) l None (world_of (seen_of s)))
    (sym (drop_past events n past)) (refl, refl)))

-- 6. What an open world shows

pub gives_partition : (s : Stage) (v : WorldView) → seen_of s ≡ v
    → IsConsistent (world_of (seen_of s)) → (g : ℕ) (o : Option Partition)
    → o ≡ partition_in (home_of s.home) g
    → IfSome o (λ p. p ≡ partition_after_all ((world_of v).bases g) ((world_of v).accepted g))
gives_partition s v is consistent g o read =
    subst (λ u. IfSome o (λ p.
    p ≡ partition_after_all ((world_of u).bases g) ((world_of u).accepted g))) is
    (at_home (home_of s.home) consistent o read)
  where
    none_is : (o : Option Partition) → o ≡ None
        → IfSome o (λ p. p ≡ partition_after_all ((world_of (seen_of s)).bases g)
        ((world_of (seen_of s)).accepted g))
    none_is None is = tt
    none_is (Some p) is = absurd (cc)

    of_guest : (b : BoardState CutState) → IsOpen (world_of (seen_of s)) b → (x : Option GuestState)
        → slice_get (guests b) g ≡ x → (o : Option Partition)
        → o ≡ option_map (λ y. y.core.partition) x
        → IfSome o (λ p. p ≡ partition_after_all ((world_of (seen_of s)).bases g)
        ((world_of (seen_of s)).accepted g))
    of_guest b up None there o is = none_is o is
    of_guest b up (Some x) there None is = tt
    of_guest b up (Some x) there (Some p) is =
        (let e : p ≡ x.core.partition = cc in e ∙ (up.linked.each g x there).link.partition)

    at_home : (h : Home) → IsConsistentAt (world_of (seen_of s)) h → (o : Option Partition)
        → o ≡ partition_in h g → IfSome o (λ p.
        p ≡ partition_after_all ((world_of (seen_of s)).bases g)
        ((world_of (seen_of s)).accepted g))
    at_home (Up b) up o is = of_guest b up.0 (slice_get (guests b) g) refl o is
    at_home (Down d) down o is = none_is o is
