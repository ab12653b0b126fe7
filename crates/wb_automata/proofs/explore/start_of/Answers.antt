use Rattle.std.proofs.Common.{◌≡◌, arith, None}
use Rattle.std.specs.Prelude.{slice_get}
use Rattle.std.proofs.lemmas.Option.{slice_get_past}
use Rattle.wb_automata.proofs.explore.start_of.Goals as goal

pub returns : goal.returns
returns c =
    let old = c.args.states.now in
    let none : slice_get old.paths c.len.result ≡ None = slice_get_past old.paths c.len.result
    (omega (arith, c.requires.count, c.len.ensures.count)) in
    rw (c.row.ensures, none) at c.place_of.ensures
