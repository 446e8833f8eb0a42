use Rattle.std.proofs.Common.{ap, sym, ◌∙◌, subst, length-set, arith, List}
use Rattle.flusher.proofs.Common.{Guest, AllFit, slice_set, IsHeld}
use Rattle.flusher.proofs.Lookups.{gives, gives_it, given_there, still_fits}
use Rattle.flusher.proofs.store.Store.give.Goals as goal

pub returns-clause-fits : goal.returns-clause-fits
returns-clause-fits g c = subst (λ v. AllFit (g.D.Disk.state v.disk).len v.guests) c.self.view_is
    c.self.invariant.2

pub returns-clause-gives : goal.returns-clause-gives
returns-clause-gives g c = gives_it c.self.inside.guests.items c.args.self.now.guests c.args.intent
    c.from-guest.result c.index_mut.result.now c.take_in.new.self
    (ap (λ s. s.guests) c.self.view_is) (c.from-guest.ensures ∙ c.guest.ensures)
    c.index_mut.ensures.value c.requires.free c.take_in.ensures

pub returns-clause-held : goal.returns-clause-held
returns-clause-held g c parts held =
    let i = c.self.inside in
    let now = c.args.self.now in
    let all = gives i.guests.items now.guests c.args.intent c.from-guest.result
    c.index_mut.result.now c.take_in.new.self (ap (λ s. s.guests) c.self.view_is)
    (c.from-guest.ensures ∙ c.guest.ensures) c.index_mut.ensures.value c.requires.free
    c.take_in.ensures
    parts now.broken (g.D.Disk.state now.disk) c.requires.fits c.requires.next held in
    subst (λ s. IsHeld parts (slice_set i.guests.items c.from-guest.result c.take_in.new.self)
    s.broken (g.D.Disk.state s.disk)) (sym c.self.view_is) all

pub invariant_of-self : goal.invariant_of-self
invariant_of-self g c =
    let i = c.self.inside in
    let now = c.args.self.now in
    let same = ap (λ s. s.guests) c.self.view_is in
    let long = length-set i.guests.items c.from-guest.result c.take_in.new.self in
    let few = c.self.invariant.1 in
    let all = subst (λ (l : List Guest). AllFit (g.D.Disk.state i.disk).len l) same
    c.self.invariant.2 in (
      c.self.invariant.0,
      omega (arith, long, few),
      still_fits i.guests.items now.guests c.args.intent c.from-guest.result c.index_mut.result.now
          c.take_in.new.self same (c.from-guest.ensures ∙ c.guest.ensures) c.index_mut.ensures.value
          c.requires.free c.take_in.ensures
          (g.D.Disk.state i.disk).len all c.requires.fits,
    )

pub returns-clause-store : goal.returns-clause-store
returns-clause-store g c =
    let i = c.self.inside in
    let now = c.args.self.now in
    let is = c.self.view_is in
    let set = given_there i.guests.items now.guests c.args.intent c.from-guest.result
    c.index_mut.result.now c.take_in.new.self (ap (λ s. s.guests) is) (c.from-guest.ensures
    ∙ c.guest.ensures) c.index_mut.ensures.value c.requires.free c.take_in.ensures in
    λ j. record { disk = (is j).disk; guests = set j; broken = (is j).broken }
