use Rattle.board.proofs.Opened.{found_capacities}
use Rattle.board.proofs.rest.Rest.over.Goals as goal

pub new-requires : goal.new-requires
new-requires g c = found_capacities c.args.config.now c.args.store.guests c.args.partitions.items
    c.requires
