-- What follows of a run from its moments: what it printed, which fault ended it, and what it
-- leaves.
use Rattle.std.proofs.Common.{◌≡◌, ◌<◌, inl, inr, ℕ, Bool, true, false, List, [], ◌∷◌, ◌++◌, Option}
use Rattle.std.proofs.Common.{Some, None, Result, Ok, Err, length, map, refl, ap, sym, subst, ◌∙◌}
use Rattle.std.proofs.Common.{arith}
use Rattle.commands.proofs.Common.{IfErr, OnOk, slice_get, Appends-kept, append-nil, length-map}
use Rattle.commands.proofs.Common.{slice_get_within, Appends, Keeps, Partition, GuestConfig}
use Rattle.commands.proofs.Common.{partition_after_all, DiskCall, DiskState, HasRisen, within_end}
use Rattle.commands.proofs.Common.{capacities_of, region_at, part_of, Untouched, GuestCore}
use Rattle.commands.proofs.Common.{GuestState, Said, bases_of, guests, seen, Ends, NextEnds}
use Rattle.commands.proofs.Common.{RunPrints, running, IsFailedIn, text_when, told_when, AnyMoment}
use Rattle.commands.proofs.Common.{Begun, IsTold, MayEnd, Moment, StopsAt, Trail, Went, broken_at}
use Rattle.commands.proofs.Common.{StoresNothing, first_told, Fault}
use Rattle.std.specs.Prelude.{take}
use Rattle.std.proofs.lemmas.List.{take_all}
use Rattle.guest_driver.specs.Config.{SetupState}
use Rattle.disk.specs.Disk.{MayLeave}
use Rattle.flusher.specs.Round.{FrontStays}
use Rattle.intent_slots.specs.Recovered as recovered
use Rattle.board.specs.Board.{LeavesPrefixes}
use Rattle.commands.specs.Ending.{IsReadable, OneEnds, PrintsAllOn, PrintsFirstOn}
use Rattle.commands.specs.Failing.{HasFailed}
use Rattle.commands.specs.Image.{Ran}
use Rattle.commands.specs.Moments.{AcceptNoMore, IsRefused, WholeRun, disk_at, kept_at}
use Rattle.commands.specs.Transcript.{Says, partitions_after}
use Rattle.commands.specs.declared.fault.Fault.TheVariants as fault
use Rattle.commands.proofs.Cases.{end_cases, line_cases, opening_cases}
use Rattle.commands.proofs.Lines.{next_before}
use Rattle.commands.proofs.Until.{clean_before, still_chain}
use Rattle.commands.proofs.Walking.{done_at}

-- 1. Of lines

-- the line that a run stopped for is one of them
one_ends : (board : List GuestConfig) (n : ℕ) (f : Fault) (done rest : List Said)
    → NextEnds board n f rest → OneEnds board f (done ++ rest)
one_ends board n f [] [] ends = absurd ends
one_ends board n f [] (line ∷ rest) ends = inl (n, ends)
one_ends board n f (line ∷ done) rest ends = inr (one_ends board n f done rest ends)

-- the line in which a call failed first
failed_in : (broke : Bool) (failed : Option ℕ) (done rest : List Said) (old new : DiskState)
    → IsFailedIn broke failed done → (broke ≡ true → HasRisen old.failures new.failures)
    → HasFailed failed (done ++ rest) old new
failed_in broke None done rest old new known rises = tt
failed_in false (Some n) done rest old new known rises = absurd known
failed_in true (Some n) done rest old new known rises = (still_chain n done rest known, rises refl)

-- none did
none_failed : (failed : Option ℕ) (done : List Said) → IsFailedIn false failed done → failed ≡ None
none_failed None done known = refl
none_failed (Some n) done known = absurd known

-- the fault of a line that a run stopped for
next_cases : (board : List GuestConfig) (n : ℕ) (rest : List Said) (P : Fault → Type 0)
    → P fault.FileFault → P fault.NoMemory
    → (NextEnds board n fault.HistoryFull rest → P fault.HistoryFull)
    → (NextEnds board n fault.OutOfRange rest → P fault.OutOfRange) → (f : Fault)
    → NextEnds board n f rest → P f
next_cases board n [] P file memory full range f ends = absurd ends
next_cases board n (line ∷ rest) P file memory full range f ends =
    line_cases board n line P (λ e. file) (λ e. memory) full range f ends

-- the disk is as faithful as it was
faithful_at : {D : Type 0} {shows : D → DiskState} {makes : D → DiskCall → D → Type 0}
    {setup : SetupState} {partitions : List Partition} {start : Option (List ℕ)}
    {first : Moment D} {done : List Said} {m : Moment D}
    → Trail shows makes setup partitions start first done m → (shows (disk_at m)).faithful
    ≡ (shows (disk_at first)).faithful
faithful_at (Begun is) = refl
faithful_at (Went done line m n trail did inside accepts leads is) = leads.faithful
    ∙ faithful_at trail

module _ {D : Type 0} (shows : D → DiskState) (makes : D → DiskCall → D → Type 0)
    (setup : SetupState) (all : List Said) (old : D) (start : Option (List ℕ))
    (ended : Result (Unit {0}) Fault) (new : D) (now : Option (List ℕ))
    (w : WholeRun shows makes setup all old start ended new now) where
  abbrev board : List GuestConfig
  board = setup.board

  abbrev s : DiskState
  s = shows old

  abbrev s' : DiskState
  s' = shows new

  told : StoresNothing all → IsTold board w.partitions start w.done w.last
  told clean = (done_at w.trail).told
      (clean_before w.done w.rest (subst StoresNothing w.parts clean))

  rises : broken_at w.last ≡ true → HasRisen s.failures s'.failures
  rises broke = by (broken_at w.after) refl
    where
      by : (b : Bool) → broken_at w.after ≡ b → HasRisen s.failures s'.failures
      by true is = w.cause is
      by false is = absurd (let no = w.leads.whole is in cc)

  has_failed : (clean : StoresNothing all) → HasFailed (told clean).failed all s s'
  has_failed clean = let t = told clean in subst (λ ls. HasFailed t.failed ls s s') (sym w.parts)
      (failed_in (broken_at w.last) t.failed w.done w.rest s s' t.known rises)

  ended_with : w.rest ≡ [] → all ≡ w.done
  ended_with none = w.parts ∙ ap (λ r. w.done ++ r) none ∙ append-nil w.done

  -- all lines came to their end
  whole_on : w.rest ≡ [] → Keeps w.last.printed now → StoresNothing all
      → PrintsAllOn board s s' all start now
  whole_on none kept clean =
      let t = told clean in
      let text = text_when t.failed (first_told board w.partitions) in
      record {
        partitions = w.partitions;
        of_image = w.of_image;
        failed = t.failed;
        has_failed = has_failed clean;
        printed = subst (λ ls. Appends start now (text ls)) (sym (ended_with none))
            (Appends-kept start w.last.printed now (text w.done) t.printed kept);
      }

  -- standard output took no more
  cut_on : PrintsFirstOn board s s' fault.FileFault all start now
  cut_on = record {
    partitions = w.partitions;
    of_image = w.of_image;
    failed = None;
    has_failed =
        tt;
    prints = λ not. absurd (not refl);
  }

  -- a line ended it
  front_on : (f : Fault) → StopsAt board f w.rest w.last w.after → Keeps w.last.printed now
      → StoresNothing all → PrintsFirstOn board s s' f all start now
  front_on f stops kept clean =
      let t = told clean in
      let first = first_told board w.partitions in
      record {
        partitions = w.partitions;
        of_image = w.of_image;
        failed = t.failed;
        has_failed = has_failed clean;
        prints = λ not. record {
          first = w.done;
          rest = w.rest;
          parts = w.parts;
          printed = Appends-kept start w.last.printed now (text_when t.failed first w.done)
              t.printed kept;
          reason = subst (λ n. NextEnds board n f w.rest) t.answered
              (next_before board w.rest w.last.host w.after.host f (length w.done)
              (told_when t.failed first w.done) stops.call t.few t.at stops.reason);
        };
      }

  -- what it has printed
  pub whole_prints : (script : List ℕ) → ((ls : List Said) → Says board script ls → ls ≡ all)
      → (f : Fault) → ended ≡ Err f → RunPrints board script s s' f start now
  whole_prints script same f is =
      end_cases board w.rest w.last w.after now (λ e. RunPrints board script s s' e start now)
      (λ none kept broke. inr (λ ls says clean. subst (λ x. PrintsAllOn board s s' x start now)
      (sym (same ls says)) (whole_on none kept (subst StoresNothing (same ls says) clean))))
      cut
      (λ e stops kept. next_cases board _ w.rest (λ x. StopsAt board x w.rest w.last w.after
      → RunPrints board script s s' x start now)
      (λ at. cut) (λ at. inr (front fault.NoMemory at kept)) (λ reason at.
      front fault.HistoryFull at kept) (λ reason at. front fault.OutOfRange at kept) e
      stops.reason stops)
      f (subst (λ r. MayEnd board r w.rest w.last w.after now) is w.ends)
    where
      cut : (ls : List Said) → Says board script ls → StoresNothing ls
          → PrintsFirstOn board s s' fault.FileFault ls start now
      cut ls says clean = subst (λ x. PrintsFirstOn board s s' fault.FileFault x start now)
          (sym (same ls says)) cut_on

      front : (e : Fault) → StopsAt board e w.rest w.last w.after → Keeps w.last.printed now
          → (ls : List Said) → Says board script ls → StoresNothing ls
          → PrintsFirstOn board s s' e ls start now
      front e at kept ls says clean = subst (λ x. PrintsFirstOn board s s' e x start now)
          (sym (same ls says)) (front_on e at kept (subst StoresNothing (same ls says) clean))

  -- and which fault it was
  pub whole_ends : (script : List ℕ) → IsReadable board script
      → ((ls : List Said) → Says board script ls → ls ≡ all) → (f : Fault) → ended ≡ Err f
      → Ends (running script) board s s' f
  whole_ends script good same f is =
      end_cases board w.rest w.last w.after now (λ e. Ends (running script) board s s' e)
      (λ none kept broke. (good, w.cause broke)) good
      (λ e stops kept. next_cases board _ w.rest (λ x. Ends (running script) board s s' x) good tt
      (λ reason. (good, one fault.HistoryFull reason)) (λ reason.
      (good, one fault.OutOfRange reason)) e stops.reason)
      f (subst (λ r. MayEnd board r w.rest w.last w.after now) is w.ends)
    where
      one : (e : Fault) → NextEnds board (seen w.after.host).runner.answered e w.rest
          → (ls : List Said) → Says board script ls → OneEnds board e ls
      one e reason ls says = subst (OneEnds board e) (sym (same ls says ∙ w.parts))
          (one_ends board _ e w.done w.rest reason)

  -- with no fault it left the partitions after its lines
  pub whole_ran : ended ≡ Ok tt → StoresNothing all → Ran board s s' all start now
  whole_ran is clean = by (subst (λ r. MayEnd board r w.rest w.last w.after now) is w.ends)
    where
      by : (w.rest ≡ []) × Keeps w.last.printed now × (broken_at w.after ≡ false)
          × AcceptNoMore board w.last.accepted w.after.accepted → Ran board s s' all start now
      by end =
          let t = told clean in
          let first = first_told board w.partitions in
          let whole = ended_with end.0 in
          let none : t.failed ≡ None =
          none_failed t.failed w.done
          (subst (λ b. IsFailedIn b t.failed w.done) (w.leads.whole end.2) t.known) in
          let printed : Appends start w.last.printed (text_when None first w.done) =
          subst (λ o. Appends start w.last.printed (text_when o first w.done)) none t.printed in
          let kept = (done_at w.trail).kept (w.leads.whole end.2) in
          record {
            partitions = w.partitions;
            of_image = w.of_image;
            printed = subst (λ ls. Appends start now (text_when None first ls)) (sym whole)
                (Appends-kept start w.last.printed now (text_when None first w.done) printed end.1);
            left = λ known c may g p at.
                let there : g < length board =
                inside t none g p (subst (λ ls.
                slice_get (partitions_after board w.partitions ls) g ≡ Some p) whole at) in
                let base = bases_of w.partitions g in
                let is_p : p ≡ partition_after_all base (w.last.accepted g) =
                t.after g p (subst (λ o.
                slice_get (map (λ c. c.partition) (told_when o first w.done).cores) g ≡ Some p)
                (sym none) (subst (λ ls. slice_get (partitions_after board w.partitions ls) g
                ≡ Some p) whole at)) in
                let faithful : (shows (disk_at w.last)).faithful ≡ true = faithful_at w.trail
                ∙ (within_end shows makes (Untouched s) old (disk_at w.first)
                w.opening).faithful ∙ known in
                let q = within_end shows makes
                (LeavesPrefixes board (bases_of w.partitions) w.after.accepted (kept_at w.last))
                (disk_at w.last) (disk_at w.after) (w.leads.moments faithful) g there c
                (subst (λ d. MayLeave (shows d) c) w.disk may) in
                let same : w.after.accepted g ≡ w.last.accepted g = end.3 g there in
                let least = kept g there in
                let enough = q.2.enough in
                let long = ap length same in
                let all_of : take q.2.count (w.after.accepted g) ≡ w.last.accepted g =
                take_all q.2.count (w.after.accepted g) (omega (arith, least, enough, long))
                ∙ same in
                let is_q : q.0 ≡ part_of p = q.2.is
                ∙ ap (λ rs. part_of (partition_after_all base rs)) all_of
                ∙ ap part_of (sym is_p) in
                subst (λ v. recovered.Stands (region_at (capacities_of board) g) c v) is_q q.1;
            header = λ known. within_end shows makes (FrontStays s) old new (w.header known);
          }
        where
          inside : (t : IsTold board w.partitions start w.done w.last) → t.failed ≡ None
              → (g : ℕ) (p : Partition) → slice_get (partitions_after board w.partitions w.done) g
              ≡ Some p → g < length board
          inside t none g p at =
              let first = first_told board w.partitions in
              let cores : map (λ (x : GuestState). x.core) (guests w.last.host.board)
              ≡ (told_when None first w.done).cores =
              subst (λ o. map (λ (x : GuestState). x.core) (guests w.last.host.board)
              ≡ (told_when o first w.done).cores) none t.at.cores in
              let below = slice_get_within (partitions_after board w.partitions w.done) g p at in
              let count = length-map (told_when None first w.done).cores (λ (c : GuestCore).
              c.partition) in
              let mapped = length-map (guests w.last.host.board) (λ (x : GuestState). x.core) in
              let same = ap length cores in
              let many = (done_at w.trail).tied.linked.many in
              omega (arith, below, count, mapped, same, many)

-- 2. Whether the image was opened or not

module _ {D : Type 0} (shows : D → DiskState) (makes : D → DiskCall → D → Type 0)
    (setup : SetupState) (script : List ℕ) (all : List Said) (old : D)
    (start : Option (List ℕ)) (new : D) (now : Option (List ℕ)) (same : (ls : List Said)
    → Says setup.board script ls → ls ≡ all) where
  -- an image that wasn't opened
  refused : (P : Fault → Type 0) → (f : Fault)
      → (it : IsRefused shows makes setup.board old start (Err f) new now) → P it.fault → P f
  refused P f it holds = subst P (let back : it.fault ≡ f = (let is = it.is in cc) in back) holds

  run_prints : (f : Fault) → AnyMoment shows makes setup all old start (Err f) new now
      → RunPrints setup.board script (shows old) (shows new) f start now
  run_prints f (inl it) = refused
      (λ e. RunPrints setup.board script (shows old) (shows new) e start now) f it
      (opening_cases (capacities_of setup.board) (shows old) (shows new) (λ e.
      RunPrints setup.board script (shows old) (shows new) e start now) (inl it.silent) (λ rose.
      inl it.silent) (λ is. it.silent) (λ is. it.silent) it.fault it.reason)
  run_prints f (inr w) = whole_prints shows makes setup all old start (Err f) new now w script same
      f refl

  run_ends : IsReadable setup.board script → (f : Fault)
      → AnyMoment shows makes setup all old start (Err f) new now
      → Ends (running script) setup.board (shows old) (shows new) f
  run_ends good f (inl it) = refused
      (λ e. Ends (running script) setup.board (shows old) (shows new) e) f it
      (opening_cases (capacities_of setup.board) (shows old) (shows new) (λ e.
      Ends (running script) setup.board (shows old) (shows new) e) tt (λ rose. (good, rose)) (λ is.
      (good, is)) (λ is. (good, is)) it.fault it.reason)
  run_ends good f (inr w) = whole_ends shows makes setup all old start (Err f) new now w script good
      same f refl

  run_ran : AnyMoment shows makes setup all old start (Ok tt) new now → StoresNothing all
      → Ran setup.board (shows old) (shows new) all start now
  run_ran (inl it) clean = absurd (let is = it.is in cc)
  run_ran (inr w) clean = whole_ran shows makes setup all old start (Ok tt) new now w refl clean

  -- by how it ended
  pub all_prints : (r : Result (Unit {0}) Fault) → AnyMoment shows makes setup all old start r new
      now → IfErr r (λ f. RunPrints setup.board script (shows old) (shows new) f start now)
  all_prints (Ok x) m = tt
  all_prints (Err f) m = run_prints f m

  pub all_ends : IsReadable setup.board script → (r : Result (Unit {0}) Fault)
      → AnyMoment shows makes setup all old start r new now
      → IfErr r (Ends (running script) setup.board (shows old) (shows new))
  all_ends good (Ok x) m = tt
  all_ends good (Err f) m = run_ends good f m

  pub all_ran : (r : Result (Unit {0}) Fault) → AnyMoment shows makes setup all old start r new now
      → OnOk r ((ls : List Said) → Says setup.board script ls → StoresNothing ls
      → Ran setup.board (shows old) (shows new) ls start now)
  all_ran (Ok x) m = λ ls says clean.
      subst (λ x. Ran setup.board (shows old) (shows new) x start now)
      (sym (same ls says)) (run_ran m (subst StoresNothing (same ls says) clean))
  all_ran (Err f) m = tt
