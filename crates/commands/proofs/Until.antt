-- What lines print where a call of the disk fails in one of them.
use Rattle.std.proofs.Common.{◌≡◌, ℕ, zero, suc, ◌+◌, ◌<◌, Bool, true, false, List, [], ◌∷◌, ◌++◌}
use Rattle.std.proofs.Common.{Option, Some, None, get_or, length, refl, ap, sym, ◌∙◌, arith}
use Rattle.commands.proofs.Common.{append_assoc, append-nil, slice_get, Appends, last_count}
use Rattle.commands.proofs.Common.{GuestCore, Said, nothing, chain, store, reset, HostView, job_of}
use Rattle.commands.proofs.Common.{cores_when, reply_when, IsFailedIn, text_when, told_when, IsAt}
use Rattle.commands.proofs.Common.{StoresNothing, Told, printed_by, told_after, told_by, transcript}
use Rattle.commands.proofs.Common.{used_line}
use Rattle.mmio_transport.specs.Job.{Job}
use Rattle.queue_looks.specs.Runner.{answer_at, answer_since_at, reply_of}
use Rattle.commands.specs.Failing.{IsChainAt, failures, printed_since, told_broken, told_since}
use Rattle.commands.specs.Failing.{told_until, transcript_until}
use Rattle.commands.specs.Running.{IsChain, answered_by, answered_in}
use Rattle.commands.proofs.Printing.{told_after-append, transcript-append}

-- 1. While no call fails, a line prints what the transcript says

same_answer : (job : Job) (c : Option GuestCore) → answer_since_at false false job c
    ≡ answer_at job c
same_answer job None = refl
same_answer job (Some c) = refl

same_reply : (cores : List GuestCore) (job : Job) → reply_when false false cores job
    ≡ reply_of cores job
unfolding reply_when reply_of
same_reply cores job = same_answer job (slice_get cores job.guest)

pub printed_whole : (t : Told) (line : Said) → printed_since false false t line ≡ printed_by t line
printed_whole t nothing = refl
printed_whole t (chain guest readable writable) =
    ap (used_line guest) (same_reply t.cores (job_of guest (get_or t.sessions guest 0) readable
    writable))
printed_whole t (store guest at bytes) = refl
printed_whole t (reset guest) = refl

pub told_whole : (t : Told) (line : Said) → told_since false false t line ≡ told_by t line
unfolding cores_when
told_whole t nothing = refl
told_whole t (chain guest readable writable) = refl
told_whole t (store guest at bytes) = refl
told_whole t (reset guest) = refl

-- 2. A line more at the end

told_broken-append : (t : Told) (lines : List Said) (line : Said)
    → told_broken t (lines ++ line ∷ []) ≡ told_since true true (told_broken t lines) line
unfolding told_broken
told_broken-append t [] line = refl
told_broken-append t (first ∷ lines) line = told_broken-append (told_since true true t first) lines
    line

failures-append : (t : Told) (lines : List Said) (line : Said) → failures t (lines ++ line ∷ [])
    ≡ failures t lines ++ printed_since true true (told_broken t lines) line
unfolding failures told_broken
failures-append t [] line = append-nil (printed_since true true t line)
failures-append t (first ∷ lines) line = ap (λ bytes. printed_since true true t first ++ bytes)
    (failures-append (told_since true true t first) lines line)
    ∙ sym (append_assoc (printed_since true true t first)
    (failures (told_since true true t first) lines)
    (printed_since true true (told_broken (told_since true true t first) lines) line))

-- after the line in which a call failed
told_until-append : (n : ℕ) (t : Told) (lines : List Said) (line : Said) → n < length lines
    → told_until n t (lines ++ line ∷ []) ≡ told_since true true (told_until n t lines) line
unfolding told_until
told_until-append n t [] line inside = absurd (omega (arith, inside))
told_until-append zero t (first ∷ lines) line inside =
    told_broken-append (told_since false true t first) lines line
told_until-append (suc n) t (first ∷ lines) line inside =
    told_until-append n (told_by t first) lines line (omega (arith, inside))

until-append : (n : ℕ) (t : Told) (lines : List Said) (line : Said) → n < length lines
    → transcript_until n t (lines ++ line ∷ []) ≡ transcript_until n t lines
    ++ printed_since true true (told_until n t lines) line
unfolding transcript_until told_until
until-append n t [] line inside = absurd (omega (arith, inside))
until-append zero t (first ∷ lines) line inside =
    ap (λ bytes. printed_since false true t first ++ bytes)
    (failures-append (told_since false true t first) lines line)
    ∙ sym (append_assoc (printed_since false true t first)
    (failures (told_since false true t first) lines)
    (printed_since true true (told_broken (told_since false true t first) lines) line))
until-append (suc n) t (first ∷ lines) line inside =
    ap (λ bytes. printed_by t first ++ bytes)
    (until-append n (told_by t first) lines line (omega (arith, inside)))
    ∙ sym (append_assoc (printed_by t first) (transcript_until n (told_by t first) lines)
    (printed_since true true (told_until n (told_by t first) lines) line))

-- the line itself
told_until-here : (t : Told) (lines : List Said) (line : Said)
    → told_until (length lines) t (lines ++ line ∷ []) ≡ told_since false true (told_after t lines)
    line
unfolding told_until told_after told_broken
told_until-here t [] line = refl
told_until-here t (first ∷ lines) line = told_until-here (told_by t first) lines line

until-here : (t : Told) (lines : List Said) (line : Said)
    → transcript_until (length lines) t (lines ++ line ∷ []) ≡ transcript t lines
    ++ printed_since false true (told_after t lines) line
unfolding transcript_until transcript told_after failures
until-here t [] line = append-nil (printed_since false true t line)
until-here t (first ∷ lines) line =
    ap (λ bytes. printed_by t first ++ bytes) (until-here (told_by t first) lines line)
    ∙ sym (append_assoc (printed_by t first) (transcript (told_by t first) lines)
    (printed_since false true (told_after (told_by t first) lines) line))

-- 3. The line in which a call failed

inside_of : (n : ℕ) (lines : List Said) → IsChainAt n lines → n < length lines
inside_of n [] is = absurd is
inside_of zero (line ∷ lines) is = omega arith
inside_of (suc n) (line ∷ lines) is = let less = inside_of n lines is in omega (arith, less)

pub still_chain : (n : ℕ) (lines more : List Said) → IsChainAt n lines → IsChainAt n (lines ++ more)
still_chain n [] more is = absurd is
still_chain zero (line ∷ lines) more is = is
still_chain (suc n) (line ∷ lines) more is = still_chain n lines more is

chain_here : (lines : List Said) (line : Said) → IsChain line
    → IsChainAt (length lines) (lines ++ line ∷ [])
chain_here [] line is = is
chain_here (first ∷ lines) line is = chain_here lines line is

-- 4. One line more

-- a broken store stays so, and only a chain breaks one
abbrev pub Breaks : Bool → Bool → Said → Type 0
Breaks true broke line = broke ≡ true
Breaks false true line = IsChain line
Breaks false false line = Unit {0}

-- a line printed what it prints there, and brought the host on
pub record HasRunSince (was broke : Bool) (steps : ℕ) (t : Told) (line : Said)
    (start next : Option (List ℕ)) (h h' : HostView) : Type 0 where
  pub printed : Appends start next (printed_since was broke t line)
  pub after : IsAt (steps + 1) (told_since was broke t line) h'
  pub answered : h'.runner.answered ≡ h.runner.answered + answered_by line

-- what a line does to a host whose guests are ready, whether a call failed or not
abbrev pub RunsSince : Bool → Bool → HostView → Said → Option (List ℕ) → Option (List ℕ) → HostView
    → Type 0
RunsSince was broke h line start next h' = (steps : ℕ) → (t : Told) → steps + 2 < last_count
    → IsAt steps t h → HasRunSince was broke steps t line start next h h'

pub answered_more : (lines : List Said) (line : Said) → answered_in (lines ++ line ∷ [])
    ≡ answered_in lines + answered_by line
answered_more [] line = omega arith
answered_more (first ∷ lines) line = (let more = answered_more lines line in omega (arith, more))

pub text_none : (t : Told) → [] ≡ transcript t []
unfolding transcript
text_none t = refl

pub told_none : (t : Told) → t ≡ told_after t []
unfolding told_after
told_none t = refl

-- the line that failed first once one more line was run, what is printed with it, and what it makes
-- of the guests
pub record Failing (was broke : Bool) (failed : Option ℕ) (first : Told) (done : List Said)
    (line : Said) : Type 0 where
  pub next : Option ℕ
  pub known : IsFailedIn broke next (done ++ line ∷ [])
  pub text : text_when next first (done ++ line ∷ []) ≡ text_when failed first done
      ++ printed_since was broke (told_when failed first done) line
  pub told : told_when next first (done ++ line ∷ [])
      ≡ told_since was broke (told_when failed first done) line

pub fails_on : (was broke : Bool) (failed : Option ℕ) (first : Told) (done : List Said)
    (line : Said) → IsFailedIn was failed done → Breaks was broke line
    → Failing was broke failed first done line
fails_on false false None first done line known breaks = record {
  next = None;
  known = tt;
  text = transcript-append first done line
      ∙ ap (λ b. transcript first done ++ b) (sym (printed_whole (told_after first done) line));
  told = told_after-append first done line ∙ sym (told_whole (told_after first done) line);
}
fails_on false true None first done line known breaks = record {
  next = Some (length done);
  known = chain_here done line breaks;
  text = until-here first done line;
  told = told_until-here first done line;
}
fails_on true true (Some n) first done line known breaks = record {
  next = Some n;
  known = still_chain n done (line ∷ []) known;
  text = until-append n first done line (inside_of n done known);
  told = told_until-append n first done line (inside_of n done known);
}
fails_on true false (Some n) first done line known breaks = absurd (cc)
fails_on false broke (Some n) first done line known breaks = absurd known
fails_on true broke None first done line known breaks = absurd known

-- none of the first of these lines stores, and the next doesn't
pub clean_before : (done rest : List Said) → StoresNothing (done ++ rest) → StoresNothing done
clean_before [] rest clean = tt
clean_before (nothing ∷ done) rest clean = clean_before done rest clean
clean_before (chain guest readable writable ∷ done) rest clean = clean_before done rest clean
clean_before (store guest at bytes ∷ done) rest clean = clean
clean_before (reset guest ∷ done) rest clean = clean_before done rest clean

pub clean_next : (done rest : List Said) (line : Said) → StoresNothing (done ++ line ∷ rest)
    → StoresNothing (line ∷ [])
clean_next [] rest nothing clean = tt
clean_next [] rest (chain guest readable writable) clean = tt
clean_next [] rest (store guest at bytes) clean = clean
clean_next [] rest (reset guest) clean = tt
clean_next (nothing ∷ done) rest line clean = clean_next done rest line clean
clean_next (chain guest readable writable ∷ done) rest line clean = clean_next done rest line clean
clean_next (store guest at bytes ∷ done) rest line clean = absurd clean
clean_next (reset guest ∷ done) rest line clean = clean_next done rest line clean

-- which lines break a store
pub breaks_chain : (was broke : Bool) (guest : ℕ) (readable : List ℕ) (writable : ℕ)
    → (broke ≡ false → was ≡ false) → Breaks was broke (chain guest readable writable)
breaks_chain true true guest readable writable keeps = refl
breaks_chain true false guest readable writable keeps = absurd (let no = keeps refl in cc)
breaks_chain false true guest readable writable keeps = tt
breaks_chain false false guest readable writable keeps = tt

pub breaks_none : (was broke : Bool) (line : Said) → broke ≡ was → Breaks was broke line
breaks_none true broke line same = same
breaks_none false true line same = absurd (cc)
breaks_none false false line same = tt
