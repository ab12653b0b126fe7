use Rattle.std.proofs.Common.{◌<◌, ℕ, length, subst, sym}
use Rattle.std.specs.Prelude.{option_to_list}
use Rattle.wb_names_rows.specs.Moves.{IsNow}
use Rattle.wb_names_symbols.specs.Lent.{lent_file}
use Rattle.wb_names.proofs.RestLemmas.{start_within, tables_of}
use Rattle.wb_names.proofs.RestStart.{start_before, start_declared}
use Rattle.wb_names.proofs.StartLemmas.{starts_few, starts_there}
use Rattle.wb_names.proofs.rest.start_of.Goals as goal

pub written_start-requires-clause-there : goal.written_start-requires-clause-there
written_start-requires-clause-there c =
    starts_there (lent_file c.args.file.now) c.requires.ready.right.hold c.args.scope.now c.requires.numbers.there

pub written_start-requires-clause-few : goal.written_start-requires-clause-few
written_start-requires-clause-few c = starts_few (lent_file c.args.file.now) c.requires.ready.right.hold

pub returns-in-Some : goal.returns-in-Some
returns-in-Some c =
    start_before (lent_file c.args.file.now) c.args.scope.now c.args.moves.now c.requires.ready.right.hold c.requires.ready.alone
    c.in-Some.grammar
    c.in-Some.is
    c.moved_number.result
    (subst (λ (z : ℕ). IsNow c.args.moves.now.nonterminals.items z c.moved_number.result) c.start.ensures.start c.moved_number.ensures)

pub returns-in-None : goal.returns-in-None
returns-in-None c =
    start_declared (lent_file c.args.file.now) c.args.scope.now c.args.moves.now c.in-None.is (option_to_list c.written_start.result)
    c.written_start.ensures

pub moved_number-requires : goal.moved_number-requires
moved_number-requires c =
    let file = lent_file c.args.file.now in
    let m = c.args.moves.now in
    subst (λ (z : ℕ). z < length m.nonterminals.items) (sym c.start.ensures.start)
    (start_within file.base m c.requires.ready.right.is_file.base (tables_of file c.args.scope.now m c.requires.numbers)
    c.in-Some.grammar c.in-Some.is)
