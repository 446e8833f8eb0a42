use Rattle.std.proofs.Common.{◌≡◌, ◌<◌, None, replicate, get_or, ◌≤◌, subst, sym, ap, ◌∙◌, rules}
use Rattle.std.proofs.Common.{arith}
use Rattle.guest_driver.proofs.Common.{get_or-replicate, Flight, owner, no_flight}
use Rattle.guest_driver.proofs.Stretches.{stretch_begins}
use Rattle.guest_driver.proofs.driver.Driver.new.Goals as goal

pub invariant_of-result : goal.invariant_of-result
invariant_of-result c =
    let size = c.args.config.now.queue in
    let owners : c.in_ok-owners.owners.items ≡ replicate size None = search rules in
    let flights : c.in_ok-flights.flights.items ≡ replicate size no_flight = search rules in
    record {
      each_owner = search (rules, arith);
      each_flight = search (rules, arith);
      size_low = search (rules, arith);
      offered_low = omega arith;
      used_low = omega arith;
      next_low = λ some. some;
      each = λ i low.
          (let e = ap (λ v. get_or v i no_flight) flights
          ∙ get_or-replicate size i no_flight no_flight low in
          subst (λ (f : Flight). (f.last < size) × (f.writable ≤ 8192)) (sym e) (
            omega (arith, low),
            omega arith,
          ));
      stretch = λ ordered some. stretch_begins size c.in_ok-owners.owners.items
          c.in_ok-flights.flights.items some
          (λ k low. ap (λ v. owner v k) owners ∙ get_or-replicate size k None None low);
    }
