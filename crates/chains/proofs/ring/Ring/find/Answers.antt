use Rattle.std.proofs.Common.{◌≡◌, Ok, Some, subst}
use Rattle.chains.proofs.Common.{err_from_is_err_and, walk}
use Rattle.chains.proofs.NeedLemmas.{believes_asked, next_found}
use Rattle.chains.specs.Building.{found_of}
use Rattle.chains.specs.Needs.{OfBuffer}
use Rattle.chains.specs.Start.{descriptors_of}
use Rattle.chains.proofs.ring.Ring.find.Goals as goal

pub returns-in_err-request-clause-copies : goal.returns-in_err-request-clause-copies
returns-in_err-request-clause-copies g c =
    let r = c.from_residual-in_err-request in
    let p = err_from_is_err_and r.result r.ensures.1 in
    let m = c.args.memory.now in
    let ring = descriptors_of g.R.Rules.shape c.args.self.now in
    let walked = c.in_ok-walked.walked in
    let found : walk m.bytes ring c.in-Ok-Some.start ≡ Ok (found_of walked) =
    subst (λ v. walk m.bytes (descriptors_of g.R.Rules.shape v) c.in-Ok-Some.start
    ≡ Ok (found_of walked)) c.self.view_is
    (subst (λ area. walk m.bytes area c.in-Ok-Some.start ≡ Ok (found_of walked))
    c.descriptors-descriptors.ensures.value c.in_ok-walked.ensures.found) in
    let begins : g.R.Rules.start m.bytes c.args.self.now ≡ Ok (Some c.in-Ok-Some.start) =
    subst (λ v. g.R.Rules.start m.bytes v ≡ Ok (Some c.in-Ok-Some.start)) c.self.view_is
    (rw c.in-Ok-Some.field-0-is at c.in-Ok-Some.ensures.starts) in
    let seen : g.R.Rules.seen m c.args.self.now = subst (λ v. g.R.Rules.seen m v) c.self.view_is
    (rw c.in-Ok-Some.field-0-is at c.in-Ok-Some.ensures.seen) in
    rw (p.1, p.2) (believes_asked _ _ m _ _ _ _ _
    (λ ask of. OfBuffer (found_of walked)
    (next_found m.bytes ring _ _ c.in-Ok-Some.start _ (g.met.R.Rules.next_is m.bytes
    c.args.self.now)
    begins found) of)
    c.in_err-request.ensures.asks seen)
