-- How a refusal is passed on.
use Rattle.std.proofs.Common.{◌≡◌, Result, Ok, Err, IfErr, IsOk, subst}
use Rattle.std.proofs.Common.{refl}
use Rattle.std.proofs.lemmas.Result.{err_from_is_err_and}
use Rattle.std.specs.Result.{IsErrAnd}
use Rattle.rpmb_client.specs.declared.fault.ClientFault.{ClientFault}
use Rattle.rpmb_client.specs.declared.fault.ClientFault.TheVariants as fault
use Rattle.rpmb_commands.specs.Refusing.{IsOfWriting, refusal_of_fault, told_as}
use Rattle.rpmb_commands.specs.declared.refusal.Refusal.{Refusal}

-- a callee's refusal is the caller's
pub passed : {T E : Type 0} (r : Result T E) (f : E) (P : E → Type 0) → IsErrAnd r (λ y. y ≡ f)
    → P f → IfErr r P
passed r f P is p = let q = err_from_is_err_and r is in rw (q.1, q.2) p

pub is_ok : {T E : Type 0} (a : T) (r : Result T E) → Ok a ≡ r → IsOk r
is_ok a r is = subst IsOk is refl

of_writing : (f : ClientFault) → IsOfWriting (refusal_of_fault f)
of_writing fault.NoMemory = tt
of_writing fault.FileFault = tt

-- what a client couldn't write
pub unwritten : (made : Result (Unit {0}) ClientFault) (r : Result (Unit {0}) Refusal) (P : Refusal
    → Type 0) → r ≡ told_as made
    → ((x : Refusal) → IsOfWriting x → P x) → IfErr r P
unwritten (Ok done) r P is all = rw is tt
unwritten (Err f) r P is all = rw is (all (refusal_of_fault f) (of_writing f))

pub if_err : {T E : Type 0} (r : Result T E) (P Q : E → Type 0) → IfErr r P → ((f : E) → P f → Q f)
    → IfErr r Q
if_err (Ok done) P Q p all = tt
if_err (Err f) P Q p all = all f p
