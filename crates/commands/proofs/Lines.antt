-- What follows of a line's call for a host whose guests are all ready.
use Rattle.std.proofs.Common.{◌≡◌, ◌<◌, ◌+◌, ℕ, Bool, false, List, [], ◌∷◌, Option, Some, None}
use Rattle.std.proofs.Common.{Result, Ok, Err, ap, arith, get_or, length, refl, subst, sym, ◌∙◌}
use Rattle.commands.proofs.Common.{slice_get, slice_get-get_or, Appends-kept, Appends-nil, Appends}
use Rattle.commands.proofs.Common.{Keeps, GuestConfig, Said, nothing, chain, reset, store}
use Rattle.commands.proofs.Common.{last_count, ChainCall, is_broken, GuestView, RunnerView}
use Rattle.commands.proofs.Common.{cores_when, reply_when, job_of, ChainsAt, HostState, HostView}
use Rattle.commands.proofs.Common.{seen, HostFault, Answer, Used, Stuck, ChainFault, LineDone}
use Rattle.commands.proofs.Common.{LineFails, NextFails, IsOfWriting, LineEnds, NextEnds, fault_of}
use Rattle.commands.proofs.Common.{IsAt, answer_line, StoresNothing, Told, used_line, Fault}
use Rattle.host.specs.Ready.{FailsBy}
use Rattle.queue_looks.specs.declared.fault.HostFault.TheVariants as host
use Rattle.host.proofs.Hosts.{all_later}
use Rattle.commands.proofs.Cases.{line_cases}
use Rattle.commands.proofs.Until.{Breaks, RunsSince, breaks_chain, breaks_none}

-- 1. A line that is done

none_printed : (start now : Option (List ℕ)) → Keeps start now → Appends start now []
none_printed start now kept = Appends-kept start start now [] (Appends-nil start) kept

chain_runs : {D : Type 0} (h h' : HostState D) (guest : ℕ) (readable : List ℕ) (writable : ℕ)
    (answer : Answer) (start now : Option (List ℕ))
    → ChainCall h guest readable writable (Ok answer) h'
    → Appends start now (answer_line guest answer)
    → RunsSince (is_broken h.board) (is_broken h'.board) (seen h)
    (chain guest readable writable) start now (seen h')
chain_runs h h' guest readable writable (Used bytes) start now call printed = λ steps t few at.
    let was = is_broken h.board in
    let broke = is_broken h'.board in
    let job = job_of guest (get_or t.sessions guest 0) readable writable in
    let b = call.answer steps t.sessions few at.ready in
    record {
      printed = subst (λ x. Appends start now (used_line guest x)) (b.used
          ∙ ap (λ c. reply_when was broke c job) at.cores) printed;
      after = record {
        cores = b.cores ∙ ap (λ c. cores_when was broke c job) at.cores;
        ready =
            b.ready;
      };
      answered = b.answered;
    }
chain_runs h h' guest readable writable (Stuck reason) start now call printed = λ steps t few at.
    absurd (call.answer steps t.sessions few at.ready).used

pub line_runs : {D : Type 0} (line : Said) (h h' : HostState D) (start now : Option (List ℕ))
    → LineDone line h start now h' → StoresNothing (line ∷ [])
    → RunsSince (is_broken h.board) (is_broken h'.board) (seen h) line start now (seen h')
line_runs nothing h h' start now did clean =
    subst (λ x. RunsSince (is_broken h.board) (is_broken x.board) (seen h) nothing start now
    (seen x)) (sym did.0)
    (λ steps t few at. record {
      printed = none_printed start now did.1;
      after =
          record { cores = at.cores; ready = all_later steps t.sessions (seen h).guests at.ready };
      answered = omega arith;
    })
line_runs (chain guest readable writable) h h' start now did clean =
    chain_runs h h' guest readable writable did.answer start now did.call did.printed
line_runs (store guest at bytes) h h' start now did clean = absurd clean
line_runs (reset guest) h h' start now did clean = λ steps t few at.
    let r = did.0.ready steps t.sessions few at.ready in
    let same = ap (λ x. x.answered) r.runner in
    record {
      printed = none_printed start now did.1;
      after =
          record { cores = ap (λ x. x.cores) r.runner ∙ at.cores; ready = r.ready };
      answered =
          omega (arith, same);
    }

-- only a chain breaks a store
pub line_breaks : {D : Type 0} (line : Said) (h h' : HostState D) (start now : Option (List ℕ))
    → LineDone line h start now h' → (is_broken h'.board ≡ false → is_broken h.board ≡ false)
    → Breaks (is_broken h.board) (is_broken h'.board) line
line_breaks nothing h h' start now did whole = breaks_none (is_broken h.board) (is_broken h'.board)
    nothing (ap (λ x. is_broken x.board) did.0)
line_breaks (chain guest readable writable) h h' start now did whole =
    breaks_chain (is_broken h.board) (is_broken h'.board) guest readable writable whole
line_breaks (store guest at bytes) h h' start now did whole =
    breaks_none (is_broken h.board) (is_broken h'.board) (store guest at bytes) did.0.same
line_breaks (reset guest) h h' start now did whole =
    breaks_none (is_broken h.board) (is_broken h'.board) (reset guest) did.0.same

-- 2. A line that ended the run

-- a guest stands at the place
pub there_is : (guests : List GuestView) (n : ℕ) → n < length guests → (g : GuestView)
    × (slice_get guests n ≡ Some g)
there_is [] n inside = absurd (omega (arith, inside))
there_is (g ∷ guests) n inside = (_, slice_get-get_or (g ∷ guests) n g inside)

-- a book that was full when the chain came had answered as many before it
full_before : (was broke : Bool) (e : HostFault) (g : GuestView) (r r' : RunnerView)
    (guest session : ℕ) (readable : List ℕ) (writable : ℕ) (board : List GuestConfig)
    → FailsBy was broke e g r readable writable (job_of guest session readable writable) r'
    → LineEnds board r'.answered (fault_of e) (chain guest readable writable)
    → LineEnds board r.answered (fault_of e) (chain guest readable writable)
full_before was broke host.HistoryFull g r r' guest session readable writable board fails ends =
    (tt, sym (ap (λ x. x.answered) fails.1.runner) ∙ ends.1)
full_before was broke host.OutOfRange g r r' guest session readable writable board fails ends = ends
full_before was broke host.NoMemory g r r' guest session readable writable board fails ends = ends
full_before was broke host.Busy g r r' guest session readable writable board fails ends = ends
full_before was broke host.NoRoom g r r' guest session readable writable board fails ends = ends
full_before was broke host.Foreign g r r' guest session readable writable board fails ends = ends

-- the writing of a line
writing_before : (board : List GuestConfig) (n m : ℕ) (f : Fault) (line : Said) → IsOfWriting f
    → LineEnds board n f line → LineEnds board m f line
writing_before board n m f line of ends =
    line_cases board n line (λ e. IsOfWriting e → LineEnds board m e line) (λ e of. e) (λ e of. e)
    (λ e of. absurd of) (λ e of. absurd of) f ends of

chain_before : (was broke : Bool) (board : List GuestConfig) (h h' : HostView) (guest : ℕ)
    (readable : List ℕ) (writable : ℕ) (told : Result Answer HostFault) (f : Fault) (steps : ℕ)
    (t : Told)
    → (o : Option GuestView) → slice_get h.guests guest ≡ o
    → ChainsAt was broke o h guest readable writable told h' → ChainFault told f
    → steps + 2 < last_count → IsAt steps t h
    → LineEnds board h'.runner.answered f (chain guest readable writable)
    → LineEnds board h.runner.answered f (chain guest readable writable)
chain_before was broke board h h' guest readable writable (Ok answer) f steps t o at chains cause
    few is ends = writing_before board h'.runner.answered h.runner.answered f
    (chain guest readable writable) cause ends
chain_before was broke board h h' guest readable writable (Err e) f steps t None at chains cause few
    is ends =
    absurd (subst (λ x. LineEnds board h'.runner.answered x (chain guest readable writable)) (cause
    ∙ ap fault_of (let same : e ≡ host.Foreign = (let told = chains.0 in cc) in same)) ends)
chain_before was broke board h h' guest readable writable (Err e) f steps t (Some g) at chains cause
    few is ends =
    let line = chain guest readable writable in
    subst (λ x. LineEnds board h.runner.answered x line) (sym cause)
    (full_before was broke e g h.runner h'.runner guest (get_or t.sessions guest 0) readable
    writable board (chains.answer (get_or t.sessions guest 0) steps few
    (is.ready.each guest g at))
    (subst (λ x. LineEnds board h'.runner.answered x line) cause ends))

line_before : {D : Type 0} (board : List GuestConfig) (line : Said) (h h' : HostState D) (f : Fault)
    (steps : ℕ) (t : Told) → LineFails line h f h' → steps + 2 < last_count → IsAt steps t (seen h)
    → LineEnds board (seen h').runner.answered f line
    → LineEnds board (seen h).runner.answered f line
line_before board nothing h h' f steps t fails few at ends = absurd fails
line_before board (chain guest readable writable) h h' f steps t fails few at ends =
    chain_before (is_broken h.board) (is_broken h'.board) board (seen h) (seen h') guest readable
    writable fails.told f steps t (slice_get (seen h).guests guest) refl fails.call.own
    fails.cause few at ends
line_before board (store guest place bytes) h h' f steps t fails few at ends =
    line_cases board (seen h').runner.answered (store guest place bytes) (λ e.
    LineEnds board (seen h).runner.answered e (store guest place bytes)) (λ e. e) (λ e. e) (λ e.
    absurd e.0) (λ e. e) f ends
line_before board (reset guest) h h' f steps t fails few at ends =
    line_cases board (seen h').runner.answered (reset guest) (λ e.
    LineEnds board (seen h).runner.answered e (reset guest)) (λ e. e) (λ e. e) (λ e. absurd e.0)
    (λ e. e) f ends

pub next_before : {D : Type 0} (board : List GuestConfig) (rest : List Said) (h h' : HostState D)
    (f : Fault) (steps : ℕ) (t : Told) → NextFails rest h f h' → steps + 2 < last_count
    → IsAt steps t (seen h)
    → NextEnds board (seen h').runner.answered f rest
    → NextEnds board (seen h).runner.answered f rest
next_before board [] h h' f steps t fails few at ends = absurd fails
next_before board (line ∷ rest) h h' f steps t fails few at ends =
    line_before board line h h' f steps t fails few at ends
