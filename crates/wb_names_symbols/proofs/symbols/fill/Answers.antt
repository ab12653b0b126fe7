use Rattle.std.proofs.Common.{◌∙◌, ap}
use Rattle.wb_names_rows.specs.declared.moves.Moves.{Moves}
use Rattle.wb_names_rows.specs.declared.scope.Scope.{Scope}
use Rattle.wb_names_symbols.specs.Lent.{lent_file}
use Rattle.wb_names_symbols.proofs.NamedLemmas.{symbols_are, has_base, named_rows}
use Rattle.wb_names_symbols.proofs.symbols.fill.Goals as goal

pub add_names-requires-clause-terminals : goal.add_names-requires-clause-terminals
add_names-requires-clause-terminals c = ap (λ (z : Scope). z.terminals) c.in_ok-counts.ensures.rows.scope

pub add_names-requires-clause-nonterminals : goal.add_names-requires-clause-nonterminals
add_names-requires-clause-nonterminals c = ap (λ (z : Scope). z.nonterminals) c.in_ok-counts.ensures.rows.scope

pub add_names-requires-clause-productions : goal.add_names-requires-clause-productions
add_names-requires-clause-productions c = ap (λ (z : Scope). z.productions) c.in_ok-counts.ensures.rows.scope

pub add_tables-requires : goal.add_tables-requires
add_tables-requires c =
    let rows = c.add_rows.new.symbols in
    has_base (lent_file c.args.file.now) c.in_ok-counts.counts rows.terminals rows.nonterminals c.add_names.new.scope
    (named_rows (lent_file c.args.file.now) c.in_ok-counts.counts rows.terminals rows.nonterminals c.as_slice-terminals.result.now
    c.as_slice-nonterminals.result.now rows.scope c.add_names.new.scope c.in_ok-counts.ensures.rows
    c.as_slice-terminals.ensures.value c.as_slice-nonterminals.ensures.value c.in_ok-add_names.ensures)

pub returns : goal.returns
returns c =
    let rows = c.add_rows.new.symbols in
    let same = c.in_ok-counts.ensures.moves in
    symbols_are (lent_file c.args.file.now) c.in_ok-counts.counts (record {
      terminals = rows.terminals;
      nonterminals = rows.nonterminals;
      scope = c.add_names.new.scope;
      moves = c.add_tables.new.moves;
    }) rows.moves (ap (λ (z : Moves). z.terminals.items) same ∙ c.requires.nothing.by_terminal)
    (ap (λ (z : Moves). z.nonterminals.items) same ∙ c.requires.nothing.by_nonterminal)
    (ap (λ (z : Moves). z.productions.items) same ∙ c.requires.nothing.by_production)
    (named_rows (lent_file c.args.file.now) c.in_ok-counts.counts rows.terminals rows.nonterminals c.as_slice-terminals.result.now
    c.as_slice-nonterminals.result.now rows.scope c.add_names.new.scope c.in_ok-counts.ensures.rows
    c.as_slice-terminals.ensures.value c.as_slice-nonterminals.ensures.value c.in_ok-add_names.ensures) c.in_ok-add_tables.ensures
