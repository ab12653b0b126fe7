use Rattle.std.proofs.Common.{◌<◌, List, ℕ, All, length, subst, sym}
use Rattle.std.specs.List.{AllZip}
use Rattle.std.proofs.lemmas.Result.{on_ok_weaker}
use Rattle.wb_names_theory.specs.Declarations.{extensibles}
use Rattle.wb_names_rows.specs.Moves.{IsNow}
use Rattle.wb_names_rows.specs.Nodes.{IsAt}
use Rattle.wb_names_symbols.specs.Lent.{lent_file}
use Rattle.wb_names.proofs.RestLemmas.{base_alone, each_after, each_fresh, extensible_within, items_there, plains_after, tables_of}
use Rattle.wb_names.proofs.StartLemmas.{extensibles_there}
use Rattle.wb_names.proofs.rest.add_rest.Goals as goal

pub add_moved-requires : goal.add_moved-requires
add_moved-requires c =
    let file = lent_file c.args.file.now in
    let m = c.args.moves.now in
    subst (All (λ (k : ℕ). k < length m.nonterminals.items)) (sym c.as_slice.ensures)
    (extensible_within file.base m c.requires.ready.right.is_file.base (tables_of file c.args.scope.now m c.requires.numbers))

pub add_extensible-requires : goal.add_extensible-requires
add_extensible-requires c =
    extensibles_there (lent_file c.args.file.now) c.requires.ready.right.hold c.args.scope.now c.requires.numbers.there

pub add_base-requires-clause-tables : goal.add_base-requires-clause-tables
add_base-requires-clause-tables c = tables_of (lent_file c.args.file.now) c.args.scope.now c.args.moves.now c.requires.numbers

pub add_plains-requires : goal.add_plains-requires
add_plains-requires c = items_there (lent_file c.args.file.now) c.args.scope.now c.requires.ready.right.hold c.requires.numbers.there

pub returns : goal.returns
returns c =
    let file = lent_file c.args.file.now in
    let s = c.args.scope.now in
    let m = c.args.moves.now in
    let nothing = c.requires.nothing in
    let now = IsNow m.nonterminals.items in
    let base = base_alone file.base m c.args.rest.now.plains c.add_base.new.made nothing.attributes nothing.occurrences nothing.preferences
    c.in_ok-add_base.ensures in
    let moved = subst (λ (z : List ℕ). AllZip now z c.add_moved.new.made.items) c.as_slice.ensures
    (each_fresh now c.as_slice.result.now c.args.rest.now.extensible.items c.add_moved.new.made.items nothing.extensible
    c.in_ok-add_moved.ensures) in
    on_ok_weaker c.add_plains.result
    (λ added. record {
      plains = plains_after file s m c.add_base.new.made c.add_plains.new.made base added;
      extensible = each_after now (IsAt s.nonterminals) file.base.extensible (extensibles file.items) c.add_moved.new.made.items
          c.add_extensible.new.made.items moved c.in_ok-add_extensible.ensures;
      start = c.start_of-rest.ensures;
    })
    c.add_plains.ensures
