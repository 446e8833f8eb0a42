use Rattle.guest_driver.proofs.PackedCounted.{begins_counted, offer_counted, reap_counted}
use Rattle.guest_driver.proofs.PackedCounted.{full_by_places}
use Rattle.guest_driver.proofs.packed_laws.a_free_place_leaves_a_free_id.Goals as goal

pub returns-clause-begins : goal.returns-clause-begins
returns-clause-begins c = begins_counted

pub returns-clause-offer : goal.returns-clause-offer
returns-clause-offer c = offer_counted

pub returns-clause-reap : goal.returns-clause-reap
returns-clause-reap c = reap_counted

pub returns-clause-full : goal.returns-clause-full
returns-clause-full c = full_by_places
