use Rattle.std.proofs.Common.{◌∙◌, sym}
use Rattle.guest_memory.specs.Piece.{lies_in}
use Rattle.guest_memory.proofs.Copies.{none_passes, first_below, first_passes}
use Rattle.guest_memory.proofs.pieces.find_from.Goals as goal

pub returns-clause-below : goal.returns-clause-below
returns-clause-below c = first_below (lies_in c.args.at c.args.len) c.args.pieces.now
    c.find.result c.find.ensures

pub returns-clause-has : goal.returns-clause-has
returns-clause-has c = first_passes (lies_in c.args.at c.args.len) c.args.pieces.now
    c.find.result c.find.ensures

pub returns-clause-none : goal.returns-clause-none
returns-clause-none c none = none_passes (lies_in c.args.at c.args.len) c.args.pieces.now
    (sym c.find.ensures ∙ none)
