use Rattle.std.proofs.Common.{◌≡◌, ℕ, ◌+◌, ◌%◌, ◌<◌, true, None, Some, get_or, slice_set, subst}
use Rattle.std.proofs.Common.{sym, ap, ◌∙◌, arith}
use Rattle.guest_driver.proofs.Common.{length-set, Flight, DriverState, no_flight, owner}
use Rattle.guest_driver.proofs.Common.{mark_after, IsStretch}
use Rattle.std.proofs.lemmas.List.{get_or_default}
use Rattle.guest_driver.proofs.Stretches.{stretch_back, in_order_of, one_place, owner_low}
use Rattle.guest_driver.proofs.driver.Driver.take_back.Goals as goal

pub invariant_of-self : goal.invariant_of-self
invariant_of-self c =
    let d = c.self.inside in
    let view = sym c.self.view_is in
    let id = c.args.id in
    let keeps = c.self.invariant in
    let flight = c.index-flight.result.now in
    let head : owner d.owners.items id ≡ Some id =
    subst (λ (v : DriverState). owner v.owners id ≡ Some id) view c.requires.flight in
    let long = keeps.each_owner in
    let wide = keeps.each_flight in
    let low : id < d.config.queue = let e = owner_low d.owners.items id id head in omega (
      arith,
      e,
      long,
    ) in
    let is : flight ≡ get_or d.flights.items id no_flight = c.index-flight.ensures
    ∙ get_or_default d.flights.items id flight no_flight (omega (arith, low, wide)) in
    let after = subst (λ (v : DriverState). c.used_after-self-inside.result ≡ mark_after
    v.config.ring
    v.config.queue v.used flight.places) view c.used_after-self-inside.ensures.value in
    let owners = slice_set d.owners.items id None in
    record {
      each_owner = length-set owners flight.last None ∙ length-set d.owners.items id None ∙ long;
      each_flight = wide;
      size_low = keeps.size_low;
      offered_low = keeps.offered_low;
      used_low = c.used_after-self-inside.ensures.low;
      next_low = keeps.next_low;
      each = keeps.each;
      stretch = λ ordered some.
          (let order = in_order_of d.config.ring d.config.in_order ordered in
          let oldest = subst (λ (v : DriverState). v.config.in_order ≡ true
          → (get_or v.flights id no_flight).place ≡ v.used) view c.requires.oldest in
          let less = stretch_back d.config.queue d.offered d.used d.next id d.owners.items
          d.flights.items
          (keeps.stretch ordered some) long low head (oldest order) (λ i below.
          (keeps.each i below).0) in
          let used_is : c.used_after-self-inside.result
          ≡ (d.used + (get_or d.flights.items id no_flight).places) % 65536 =
          after ∙ one_place d.config.ring d.config.in_order d.config.queue d.used flight.places
          ordered
          ∙ ap (λ (f : Flight). (d.used + f.places) % 65536) is in
          let P : ℕ → Type 0 = λ u.
          IsStretch d.config.queue d.offered u d.next (slice_set owners flight.last None)
          d.flights.items in
          let Q : ℕ → Type 0 = λ l.
          IsStretch d.config.queue d.offered ((d.used + (get_or d.flights.items id
          no_flight).places) %
          65536) d.next (slice_set owners l None) d.flights.items in
          subst P (sym used_is) (subst Q (sym (ap (λ (f : Flight). f.last) is)) less));
    }
