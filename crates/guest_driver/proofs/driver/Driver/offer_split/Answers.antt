use Rattle.std.proofs.Common.{◌≡◌, true, ◌+◌, ◌%◌, ◌<◌, Some, slice_set, subst, sym}
use Rattle.guest_driver.proofs.Common.{DriverState, TakesBy, next_by, takes_two, IsStretch}
use Rattle.guest_driver.specs.Driver.{in_table_order}
use Rattle.guest_driver.proofs.Stretches.{stretch_by, in_order_of}
use Rattle.guest_driver.proofs.driver.Driver.offer_split.Goals as goal

pub keep-requires-clause-order : goal.keep-requires-clause-order
keep-requires-clause-order c = λ ordered.
    (let d = c.self.inside in
    let view = sym c.self.view_is in
    let head = c.in-Some.head in
    let last = c.in-Some.last in
    let next = c.next_after-next.result in
    let is = subst (λ (v : DriverState). in_table_order v.config ≡ true) view ordered in
    let two = takes_two d.config c.args.readable.now c.args.writable in
    let takes = subst (λ (v : DriverState).
    TakesBy v.config.in_order v.owners v.next
    (takes_two v.config c.args.readable.now c.args.writable) head last) view c.in-Some.ensures in
    let value = subst (λ (v : DriverState). next ≡ next_by (in_table_order v.config) v.config.queue
    v.next
    last) view c.next_after-next.ensures.value in
    let low = subst (λ (v : DriverState). next < v.config.queue) view c.next_after-next.ensures.low
    in
    let more = stretch_by d.config.queue d.offered d.used d.next head last c.args.writable next two
    (in_table_order d.config) d.config.in_order d.owners.items d.flights.items
    is (in_order_of d.config.ring d.config.in_order is) (c.self.invariant.stretch is)
    c.self.invariant.size_low c.self.invariant.each_owner c.self.invariant.each_flight takes
    value low in
    let P : DriverState → Type 0 = λ v. IsStretch v.config.queue ((d.offered + 1) % 65536) v.used
    next
    (slice_set (slice_set v.owners head (Some head)) last (Some head))
    (slice_set v.flights head (record {
      last = last;
      places = 1;
      writable = c.args.writable;
      place =
          d.offered;
    })) in
    subst P c.self.view_is more)
