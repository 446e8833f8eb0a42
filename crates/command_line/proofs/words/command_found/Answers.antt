use Rattle.command_line.specs.Program.{texts_of}
use Rattle.command_line.proofs.FoundLemmas.{none_asked, some_asked}
use Rattle.command_line.proofs.words.command_found.Goals as goal

pub returns-in-Some-clause-some : goal.returns-in-Some-clause-some
returns-in-Some-clause-some c =
    some_asked c.args.matches.now c.in-Some.inner.now c.in-Some.name.now
    (texts_of c.values_of.result) c.command_of.result
    (record {
      called = c.in-Some.ensures.name;
      rows = c.in-Some.ensures.rows;
      found =
          c.values_of.ensures;
    })
    c.command_of.ensures.some

pub returns-in-Some-clause-none : goal.returns-in-Some-clause-none
returns-in-Some-clause-none c =
    none_asked c.args.matches.now c.in-Some.inner.now c.in-Some.name.now
    (texts_of c.values_of.result) c.command_of.result
    (record {
      called = c.in-Some.ensures.name;
      rows = c.in-Some.ensures.rows;
      found =
          c.values_of.ensures;
    })
    c.command_of.ensures.none
