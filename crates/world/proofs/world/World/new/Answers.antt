use Rattle.world.proofs.Images.{formatted_image}
use Rattle.world.proofs.world.World.new.Goals as goal

pub returns-clause-image : goal.returns-clause-image
returns-clause-image c long version fresh = record {
  few = c.guests-guests.ensures.in_range.count.1;
  leaves = formatted_image version c.args.config c.args.disk
      c.guests-guests.ensures.in_range.count.1 long fresh;
}
