-- What is said so far has places of the name alone.
use Rattle.wb_explain_names.specs.Said.{Says}
use Rattle.wb_explain_names.proofs.show.push_script.Given as goal

abbrev pub invariant-places : goal.invariant-places
invariant-places l =
    Says l.sides.own.file.now l.sides.own.text.now l.sides.host.file.now l.sides.host.text.now l.sides.name.now l.initial.out.items
    l.out.items
