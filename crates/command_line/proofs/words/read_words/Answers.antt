use Rattle.command_line.proofs.ProgramLemmas.{asked, kinds_are, no_fault, not_asked, refusal}
use Rattle.command_line.proofs.words.read_words.Goals as goal

pub returns-in-Some-clause-ok : goal.returns-in-Some-clause-ok
returns-in-Some-clause-ok g c =
    asked _ _ c.in-Ok-try_get_matches_from.matches c.in-Some.command c.in-Ok.ensures
    c.in-Ok-try_get_matches_from.ensures.matches c.in-Some.ensures.some

pub returns-in-Some-clause-taken : goal.returns-in-Some-clause-taken
returns-in-Some-clause-taken g c =
    no_fault _ _ c.in-Ok.ensures c.in-Ok-try_get_matches_from.ensures.kinds

pub returns-in-Ok-try_get_matches_from-clause-refused :
    goal.returns-in-Ok-try_get_matches_from-clause-refused
returns-in-Ok-try_get_matches_from-clause-refused g c t =
    not_asked _ _ c.in-Ok-try_get_matches_from.matches t c.in-Ok.ensures
    c.in-Ok-try_get_matches_from.ensures.matches (c.in-None.ensures.none t)

pub returns-clause-refused : goal.returns-clause-refused
returns-clause-refused g c =
    refusal _ _ (c.refused.ensures.told _
    (kinds_are _ _ c.in-Err.error c.in-Ok.ensures c.in-Err.ensures.kinds))
