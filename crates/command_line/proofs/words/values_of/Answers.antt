use Rattle.std.specs.Option.{option_copied}
use Rattle.command_line.proofs.FoundLemmas.{all_found}
use Rattle.command_line.proofs.words.values_of.Goals as goal

pub returns : goal.returns
returns c =
    all_found c.args.matches.now (option_copied c.get_str.result) (option_copied c.get_str-2.result)
    (option_copied c.get_str-3.result) (option_copied c.get_str-4.result)
    (option_copied c.get_str-5.result)
    c.get_str.ensures c.get_str-2.ensures c.get_str-3.ensures c.get_str-4.ensures
    c.get_str-5.ensures
