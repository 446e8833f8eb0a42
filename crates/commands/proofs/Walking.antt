-- The moments of a run, line by line.
use Rattle.std.proofs.Common.{◌≡◌, ◌≤◌, ◌<◌, ◌+◌, inl, inr, ℕ, suc, true, false, Bool, List, []}
use Rattle.std.proofs.Common.{◌∷◌, ◌++◌, Option, None, Some, Result, Ok, Err, length, map, refl, ap}
use Rattle.std.proofs.Common.{sym, subst, ◌∙◌, arith}
use Rattle.commands.proofs.Common.{is_ok, not, slice_get, append_assoc, length-append}
use Rattle.commands.proofs.Common.{get_or_from_slice_get, Appends-nil, Appends-trans, Keeps-refl}
use Rattle.commands.proofs.Common.{Appends, Keeps, Partition, sequence, Request}
use Rattle.commands.proofs.Common.{GuestConfig, partition_after_all, sequence_of_all, DiskCall}
use Rattle.commands.proofs.Common.{DiskState, HasRisen, Still, Within, capacities_of, Untouched}
use Rattle.commands.proofs.Common.{mark_of, GuestCore, GuestState, last_count, IsWithin, Said, Line}
use Rattle.commands.proofs.Common.{StaysLinked, bases_of, BoardState, guests, is_broken, HostState}
use Rattle.commands.proofs.Common.{seen, GoOn, Moves, moves_none, moves_twice, runner_of, LineDone}
use Rattle.commands.proofs.Common.{LineRuns, KeepsUnless, OpeningEnds, IsFailedIn, text_when}
use Rattle.commands.proofs.Common.{told_when, IsOpened, AnyMoment, Begun, IsTold, MayEnd, Moment}
use Rattle.commands.proofs.Common.{MovesTo, Starts, StopsAt, Trail, Walked, Went, moment_of}
use Rattle.commands.proofs.Common.{AreWithin, IsAt, StoresNothing, Told, first_told, Fault}
use Rattle.std.proofs.KnownBytes.{Keeps-trans}
use Rattle.guest_driver.specs.Config.{SetupState}
use Rattle.disk.proofs.Ways.{within_end}
use Rattle.recovery.proofs.Ways.{untouched_here}
use Rattle.flusher.specs.Marks.{marks_of}
use Rattle.script.specs.Line.{said}
use Rattle.board.specs.Board.{marks_in}
use Rattle.board.specs.Moving.{KeepsHeader}
use Rattle.board.proofs.Headers.{header_opened, header_twice}
use Rattle.board.proofs.Stays.{marks_at}
use Rattle.queue_looks.specs.Calm.{IsCalm}
use Rattle.queue_looks.proofs.Settled.{below}
use Rattle.commands.specs.Moments.{AcceptNoMore, IsDone, Leads, LinesCome, Stopped}
use Rattle.commands.specs.declared.fault.Fault.TheVariants as fault
use Rattle.commands.proofs.Accepting.{accepts_own, guest_at, next_own, none_more, parted}
use Rattle.commands.proofs.Accepting.{partition_in}
use Rattle.commands.proofs.Cases.{line_cases}
use Rattle.commands.proofs.Lines.{line_breaks, line_runs}
use Rattle.commands.proofs.Opened.{found_core, risen}
use Rattle.commands.proofs.Reasons.{line_hosts, line_inside}
use Rattle.commands.proofs.Until.{answered_more, clean_before, clean_next, fails_on, text_none}
use Rattle.commands.proofs.Until.{told_none}

-- what a host's calls lead to
pub leads_by : {D : Type 0} (shows : D → DiskState) (makes : D → DiskCall → D → Type 0)
    (board : List GuestConfig) (partitions : List Partition) (accepted : ℕ → List Request)
    (h h' : HostState D) (start now : Option (List ℕ))
    → StaysLinked shows board (bases_of partitions) accepted h.board
    → (moves : Moves shows makes h.board h'.board)
    → (n : ℕ → List Request) × Leads shows makes board partitions (moment_of accepted h start)
    (moment_of n h' now) × StaysLinked shows board (bases_of partitions) n h'.board
leads_by shows makes board partitions accepted h h' start now linked moves =
    let r = moves.reaches board (bases_of partitions) accepted linked in (
      r.now,
      record {
        more = r.more;
        moments = r.moments;
        faithful = moves.faithful;
        kept = moves.marks;
        whole = moves.whole;
        cause = moves.cause;
      },
      r.linked,
    )

-- 1. Line by line

-- While no call has failed, a calm board's marks count all that was accepted.
all_kept : {D : Type 0} (shows : D → DiskState) (board : List GuestConfig) (bases : ℕ → Partition)
    (accepted : ℕ → List Request) (b : BoardState D) → IsCalm shows b
    → StaysLinked shows board bases accepted b → b.store.broken ≡ false
    → (g : ℕ) → g < length board → sequence (bases g) + length (accepted g) ≤ marks_in b g
all_kept shows board bases accepted b calm linked whole g there =
    let l = linked.linked in
    let many = l.many in
    let x = guest_at (guests b) g (omega (arith, there, many)) in
    let t = l.each g x.0 x.1 in
    let settled : x.0.settled ≡ sequence x.0.core.partition =
    (calm.quiet g x.0 x.1).settled (sym calm.broken ∙ whole) in
    let s = below shows b g x.0 calm.sound x.1 in
    let least = s.settled in
    let marked : marks_in b g ≡ mark_of s.stored = get_or_from_slice_get (marks_of b.store.guests) g
    (mark_of s.stored) 0 (marks_at b.store.guests g s.stored s.at) in
    let all : sequence x.0.core.partition ≡ sequence (bases g) + length (accepted g) =
    ap sequence t.link.partition ∙ sequence_of_all (bases g) (accepted g) t.link.in_turn in
    omega (arith, settled, least, marked, all)

-- what the partitions are that the script says, where a run stands
after_at : {D : Type 0} (shows : D → DiskState) (board : List GuestConfig) (bases : ℕ → Partition)
    (accepted : ℕ → List Request) (steps : ℕ) (t : Told) (h : HostState D)
    → StaysLinked shows board bases accepted h.board → IsAt steps t (seen h)
    → (g : ℕ) (p : Partition) → slice_get (map (λ c. c.partition) t.cores) g ≡ Some p
    → p ≡ partition_after_all (bases g) (accepted g)
after_at shows board bases accepted steps t h linked is g p at =
    let cores : map (λ (x : GuestState). x.core) (guests h.board) ≡ t.cores = is.cores in
    let x = found_core (guests h.board) g p
    (ap (λ cs. slice_get (map (λ (c : GuestCore). c.partition) cs) g) cores ∙ at) in
    sym x.2 ∙ (linked.linked.each g x.0 x.1).link.partition

-- the end of a trail
pub done_at : {D : Type 0} {shows : D → DiskState} {makes : D → DiskCall → D → Type 0}
    {setup : SetupState} {partitions : List Partition} {start : Option (List ℕ)}
    {first : Moment D} {done : List Said} {m : Moment D}
    → Trail shows makes setup partitions start first done m
    → IsDone shows setup partitions start done m
done_at (Begun is) = is
done_at (Went done line m n trail did inside accepts leads is) = is

-- Before the first line.
pub walk_begins : {D : Type 0} (shows : D → DiskState) (makes : D → DiskCall → D → Type 0)
    (setup : SetupState) (partitions : List Partition) (h : HostState D) (all : List Said)
    (start : Option (List ℕ))
    → Starts shows setup partitions h → Walked shows makes setup partitions all start
    (moment_of (λ g. []) h start) all h start
walk_begins shows makes setup partitions h all start starts =
    let first = first_told setup.board partitions in
    let at : IsAt 0 (told_when None first []) (seen h) =
    subst (λ x. IsAt 0 x (seen h)) (told_none first) starts.ready in
    record {
      accepted = λ g. [];
      done = [];
      parts = refl;
      trail = Begun (record {
        tied = starts.linked;
        calm = starts.calm;
        guests = starts.host;
        kept = all_kept shows setup.board (bases_of partitions) (λ g. []) h.board starts.calm
            starts.linked;
        told = λ clean. record {
          failed = None;
          known = subst (λ b. IsFailedIn b None []) (sym starts.whole) tt;
          printed = subst (Appends start start) (text_none first) (Appends-nil start);
          at = at;
          few = omega arith;
          answered = starts.answered;
          after = after_at shows setup.board (bases_of partitions) (λ g. []) 0
              (told_when None first []) h starts.linked at;
        };
      });
    }

-- what one line more makes of it
told_on : {D : Type 0} (shows : D → DiskState) (makes : D → DiskCall → D → Type 0)
    (board : List GuestConfig) (partitions : List Partition) (start : Option (List ℕ))
    (done : List Said) (line : Said) (a b : ℕ → List Request)
    (h h' : HostState D) (now next : Option (List ℕ))
    → IsTold board partitions start done (moment_of a h now) → IsCalm shows h.board
    → IsCalm shows h'.board → StaysLinked shows board (bases_of partitions) b h'.board
    → LineRuns shows makes line h now (Ok tt) next h' → StoresNothing (line ∷ [])
    → length done + 3 < last_count → IsTold board partitions start (done ++ line ∷ [])
    (moment_of b h' next)
told_on shows makes board partitions start done line a b h h' now next told calm calm' linked runs
    clean few =
    let was = is_broken h.board in
    let broke = is_broken h'.board in
    let first = first_told board partitions in
    let before = told_when told.failed first done in
    let on = fails_on was broke told.failed first done line
    (subst (λ x. IsFailedIn x told.failed done) calm.broken told.known)
    (line_breaks line h h' now next runs.did runs.whole) in
    let ran = line_runs line h h' now next runs.did clean (length done) before told.few told.at in
    let many : length (done ++ line ∷ []) ≡ length done + 1 = length-append done (line ∷ []) in
    let at = subst (λ n. IsAt n (told_when on.next first (done ++ line ∷ [])) (seen h')) (sym many)
    (subst (λ x. IsAt (length done + 1) x (seen h')) (sym on.told) ran.after) in
    record {
      failed = on.next;
      known = subst (λ x. IsFailedIn x on.next (done ++ line ∷ [])) (sym calm'.broken) on.known;
      printed = subst (Appends start next) (sym on.text)
          (Appends-trans start now next (text_when told.failed first done) _ told.printed
          ran.printed);
      at = at;
      few = omega (arith, many, few);
      answered = (let was_answered = told.answered in let more = ran.answered in let added =
          answered_more done line in omega (arith, was_answered, more, added));
      after = after_at shows board (bases_of partitions) b _ _ h' linked at;
    }

-- A line more.
pub walk_on : {D : Type 0} (shows : D → DiskState) (makes : D → DiskCall → D → Type 0)
    (setup : SetupState) (partitions : List Partition) (all : List Said)
    (start : Option (List ℕ)) (first : Moment D) (line : Said) (rest : List Said)
    (h h' : HostState D) (now next : Option (List ℕ)) → length all + 2 < last_count
    → Walked shows makes setup partitions all start first (line ∷ rest) h now
    → LineRuns shows makes line h now (Ok tt) next h' → IsWithin (length setup.board) line
    → Walked shows makes setup partitions all start first rest h' next
walk_on shows makes setup partitions all start first line rest h h' now next few walked runs within
    =
    let is = done_at walked.trail in
    let did : LineDone line h now next h' = runs.did in
    let l = leads_by shows makes setup.board partitions walked.accepted h h' now next is.tied
    runs.moves in
    let calm = runs.calm is.calm in
    let count : length all ≡ length walked.done + suc (length rest) = ap length walked.parts
    ∙ length-append walked.done (line ∷ rest) in
    record {
      accepted = l.0;
      done = walked.done ++ line ∷ [];
      parts = walked.parts ∙ sym (append_assoc walked.done (line ∷ []) rest);
      trail = Went walked.done line (moment_of walked.accepted h now) (moment_of l.0 h' next)
          walked.trail did (line_inside setup line h h' now next did is.guests within)
          (accepts_own shows setup.board (bases_of partitions) walked.accepted l.0 h h' now next
          line is.tied l.2 l.1.more did) l.1 (record {
            tied = l.2;
            calm = calm;
            guests = line_hosts setup line h h' now next did is.guests;
            kept = all_kept shows setup.board (bases_of partitions) l.0 h'.board calm l.2;
            told = λ clean. told_on shows makes setup.board partitions start walked.done line
                walked.accepted l.0 h h' now next
                (is.told (clean_before walked.done (line ∷ []) clean)) is.calm calm l.2 runs
                (clean_next walked.done [] line clean) (omega (arith, few, count));
          });
    }

-- 2. A whole run

-- how lines that ended so may end a run
may_end : {D : Type 0} (board : List GuestConfig) (f : Fault) (rest : List Said)
    (last after : Moment D) (now next : Option (List ℕ)) → StopsAt board f rest last after
    → KeepsUnless f last.printed now → Keeps now next → MayEnd board (Err f) rest last after next
may_end board f [] last after now next stops kept more = absurd stops.reason
may_end {D = D} board f (line ∷ rest) last after now next stops kept more =
    line_cases board (seen after.host).runner.answered line (λ e.
    StopsAt board e (line ∷ rest) last after → KeepsUnless e last.printed now
    → MayEnd board (Err e) (line ∷ rest) last after next)
    (λ ends s k. inr (fault.FileFault, s)) (λ ends s k. (s, on (k (λ is. absurd (cc)))))
    (λ ends s k. (s, on (k (λ is. absurd (cc))))) (λ ends s k. (s, on (k (λ is. absurd (cc)))))
    f stops.reason stops kept
  where
    on : Keeps last.printed now → Keeps last.printed next
    on k = Keeps-trans last.printed now next k more

module _ {D : Type 0} (shows : D → DiskState) (makes : D → DiskCall → D → Type 0)
    (setup : SetupState) (disk : D) (h : HostState D) (read : List Line)
    (start : Option (List ℕ)) (opened : IsOpened shows makes setup disk h)
    (within : AreWithin (length setup.board) read) where
  abbrev board : List GuestConfig
  board = setup.board

  abbrev every : List Said
  every = map said read

  abbrev first_of : Moment D
  first_of = moment_of (λ g. []) h start

  -- the lines are done, or one came to a fault, and calls came after them
  whole_run : (ended : Result (Unit {0}) Fault) (rest : List Said) (b c : HostState D)
      (printed now : Option (List ℕ)) (new : D)
      → (walked : Walked shows makes setup opened.partitions every start first_of rest b printed)
      → Moves shows makes b.board c.board → Moves shows makes h.board c.board
      → new ≡ c.board.store.disk
      → ((n : ℕ → List Request) → StaysLinked shows board (bases_of opened.partitions) n c.board
      → GoOn walked.accepted n → MayEnd board ended rest (moment_of walked.accepted b printed)
      (moment_of n c now) now)
      → AnyMoment shows makes setup every disk start ended new now
  whole_run ended rest b c printed now new walked moves total is ends =
      let l = leads_by shows makes board opened.partitions walked.accepted b c printed now
      (done_at walked.trail).tied moves in
      inr (record {
        partitions = opened.partitions;
        of_image = opened.of_image;
        first = first_of;
        opening = opened.untouched;
        none = λ g. refl;
        whole = opened.whole;
        silent = refl;
        ready = opened.ready;
        answered = opened.answered;
        done = walked.done;
        rest = rest;
        parts = walked.parts;
        last = moment_of walked.accepted b printed;
        trail = walked.trail;
        after = moment_of l.0 c now;
        leads = l.1;
        tied = l.2;
        disk = is;
        header = subst (KeepsHeader shows makes disk) (sym is)
            (header_twice shows makes disk h.board.store.disk c.board.store.disk
            (within_end shows makes (Untouched (shows disk)) disk h.board.store.disk
            opened.untouched).faithful (header_opened shows makes disk h.board.store.disk
            opened.untouched) total.header);
        cause = λ broke. subst (λ d. HasRisen (shows disk).failures (shows d).failures) (sym is)
            (risen shows makes setup disk h c opened total broke);
        ends = ends l.0 l.2 l.1.more;
      })

  starts : IsCalm shows h.board → Starts shows setup opened.partitions h
  starts calm = record {
    calm = calm;
    whole = opened.whole;
    linked = opened.linked;
    ready =
        opened.ready;
    answered = opened.answered;
    host = opened.host;
  }

  -- all lines came to their end, and the calls after them
  pub run_finished : (h' : HostState D) (r : Result (Unit {0}) Fault) (now next : Option (List ℕ))
      (new : D) → IsCalm shows h.board → Moves shows makes h.board h'.board
      → LinesCome shows makes read h start (Ok tt) h' now
      → Keeps now next → MovesTo shows makes h'.board r new
      → AnyMoment shows makes setup every disk start r new next
  run_finished h' r now next new calm total come kept to =
      whole_run r [] h' after now next new walked to.moves
      (moves_twice shows makes h.board h'.board to.last total to.moves) to.disk
      (ends r to.only to.last.store.broken refl to.told)
    where
      after : HostState D
      after = record { board = to.last; fronts = h'.fronts }

      walked : Walked shows makes setup opened.partitions every start first_of [] h' now
      walked = come setup opened.partitions (starts calm) within

      none : (n : ℕ → List Request) → StaysLinked shows board (bases_of opened.partitions) n to.last
          → GoOn walked.accepted n → AcceptNoMore board walked.accepted n
      none n linked more g inside =
          none_more shows board (bases_of opened.partitions) walked.accepted n h'.board to.last
          (done_at walked.trail).tied linked more g inside
          (ap (λ r. partition_in r.cores g) to.runner
          ∙ parted (is_broken h'.board) (is_broken to.last) (runner_of h'.board).cores g)

      ends : (r : Result (Unit {0}) Fault) → ((f : Fault) → r ≡ Err f → f ≡ fault.DiskFault)
          → (broken : Bool) → to.last.store.broken ≡ broken → is_ok r ≡ not broken
          → (n : ℕ → List Request) → StaysLinked shows board (bases_of opened.partitions) n to.last
          → GoOn walked.accepted n → MayEnd board r [] (moment_of walked.accepted h' now)
          (moment_of n after next) next
      ends (Ok x) only false same told n linked more = (refl, kept, same, none n linked more)
      ends (Ok x) only true same told n linked more = absurd (cc)
      ends (Err f) only true same told n linked more =
          subst (λ e. MayEnd board (Err e) [] (moment_of walked.accepted h' now)
          (moment_of n after next) next) (sym (only f refl)) (refl, kept, same, none n linked more)
      ends (Err f) only false same told n linked more = absurd (cc)

  -- the line that ended the run, and what it had accepted
  stops_at : (h' : HostState D) (f : Fault) (now next : Option (List ℕ))
      → (s : Stopped shows makes setup opened.partitions every start first_of f h' now)
      → (n : ℕ → List Request)
      → StaysLinked shows board (bases_of opened.partitions) n h'.board → GoOn s.walked.accepted n
      → StopsAt board f s.rest (moment_of s.walked.accepted s.before s.printed)
      (moment_of n h' next)
  stops_at h' f now next s n linked more = record {
    reason = s.reason;
    call = s.fails;
    accepts = next_own shows board (bases_of opened.partitions) s.walked.accepted n s.before h' f
        s.rest (done_at s.walked.trail).tied linked more s.fails;
  }

  -- a line came to a fault
  pub run_stopped : (h' : HostState D) (f : Fault) (now next : Option (List ℕ)) (new : D)
      → IsCalm shows h.board → Moves shows makes h.board h'.board
      → LinesCome shows makes read h start (Err f) h' now
      → Keeps now next → new ≡ h'.board.store.disk
      → AnyMoment shows makes setup every disk start (Err f) new next
  run_stopped h' f now next new calm total come kept is =
      let s = come setup opened.partitions (starts calm) within in
      whole_run (Err f) s.rest s.before h' s.printed next new s.walked s.moves total is
      (λ n linked more. may_end board f s.rest (moment_of s.walked.accepted s.before s.printed)
      (moment_of n h' next) now next (stops_at h' f now next s n linked more) s.silent kept)

  -- standard output took no more
  pub run_unwritten : (h' : HostState D) (r : Result (Unit {0}) Fault) (now next : Option (List ℕ))
      (new : D) → IsCalm shows h.board → Moves shows makes h.board h'.board
      → LinesCome shows makes read h start r h' now
      → new ≡ h'.board.store.disk
      → AnyMoment shows makes setup every disk start (Err fault.FileFault) new next
  run_unwritten h' (Ok x) now next new calm total come is =
      let walked = come setup opened.partitions (starts calm) within in
      whole_run (Err fault.FileFault) [] h' h' now next new walked (moves_none shows makes h'.board)
      total is
      (λ n linked more. inl (
        refl,
        λ g inside. none_more shows board (bases_of opened.partitions)
            walked.accepted n h'.board h'.board (done_at walked.trail).tied linked more g inside
            refl,
      ))
  run_unwritten h' (Err f) now next new calm total come is =
      let s = come setup opened.partitions (starts calm) within in
      whole_run (Err fault.FileFault) s.rest s.before h' s.printed next new s.walked s.moves total
      is (λ n linked more. inr (f, stops_at h' f now next s n linked more))

-- an image that wasn't opened
pub run_refused : {D : Type 0} (shows : D → DiskState) (makes : D → DiskCall → D → Type 0)
    (setup : SetupState) (all : List Said) (disk new : D) (f : Fault)
    (start : Option (List ℕ))
    → OpeningEnds (capacities_of setup.board) (shows disk) (shows new) f
    → Within shows makes (Untouched (shows disk)) disk new
    → AnyMoment shows makes setup all disk start (Err f) new start
run_refused shows makes setup all disk new f start of moments =
    inl (record { fault = f; is = refl; reason = of; moments = moments; silent = Keeps-refl start })

-- lines for which memory was refused
pub run_unread : {D : Type 0} (shows : D → DiskState) (makes : D → DiskCall → D → Type 0)
    (setup : SetupState) (all : List Said) (disk : D) (start : Option (List ℕ))
    → AnyMoment shows makes setup all disk start (Err fault.NoMemory) disk start
run_unread shows makes setup all disk start =
    run_refused shows makes setup all disk disk fault.NoMemory start tt
    (Still disk (untouched_here (shows disk)))
