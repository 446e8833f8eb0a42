use Rattle.std.proofs.Common.{◌≡◌, None, replicate, length, ap, ◌∙◌, rules, arith}
use Rattle.guest_driver.proofs.Common.{get_or-replicate, owner}
use Rattle.guest_driver.proofs.Stretches.{stretch_begins}
use Rattle.guest_driver.proofs.driver.Driver.forget.Goals as goal

pub invariant_of-self : goal.invariant_of-self
invariant_of-self c =
    let d = c.self.inside in
    let owners : c.fill.new.self.items ≡ replicate (length d.owners.items) None = search rules in
    let size = c.self.invariant.each_owner in
    record {
      each_owner = search (rules, arith);
      each_flight = search (rules, arith);
      size_low = c.self.invariant.size_low;
      offered_low = omega arith;
      used_low = omega arith;
      next_low = λ some. some;
      each = search (rules, arith);
      stretch = λ ordered some. stretch_begins d.config.queue c.fill.new.self.items
          c.fill-2.new.self.items
          some
          (λ k low. ap (λ v. owner v k) owners ∙ get_or-replicate (length d.owners.items) k None
          None (omega (arith, low, size)));
    }
