use Rattle.std.proofs.Common.{◌∙◌, ap, refl, sym}
use Rattle.wb_names_rows.specs.declared.scope.Scope.{Scope}
use Rattle.wb_names_symbols.specs.Lent.{lent_file}
use Rattle.wb_names_symbols.proofs.RowsNamed.{nonterminals_joined}
use Rattle.wb_names_symbols.proofs.symbols.add_rows.Goals as goal

pub add_attribute_names-requires : goal.add_attribute_names-requires
add_attribute_names-requires c = ap (λ (z : Scope). z.attributes) c.requires.nothing.scope

pub add_nonterminals-requires-clause-owner : goal.add_nonterminals-requires-clause-owner
add_nonterminals-requires-clause-owner c = ap (λ (z : Scope). z.owner) c.requires.nothing.scope

pub returns-clause-rows : goal.returns-clause-rows
returns-clause-rows c =
    let is = c.requires.nothing.scope in
    record {
      scope = λ j. record {
        owner = (is j).owner;
        terminals = (is j).terminals;
        nonterminals = (is j).nonterminals;
        attributes = c.in_ok-add_attribute_names.ensures j;
        productions = (is j).productions;
      };
      terminals = c.in_ok-scanned.ensures;
      nonterminals = λ s are. nonterminals_joined (lent_file c.args.file.now) c.requires.right.hold.once s c.add_attribute_names.new.names
          c.in_ok-of_grammar.of_grammar c.args.symbols.now.nonterminals c.add_nonterminals.new.made c.requires.nothing.of_grammar
          c.requires.nothing.others
          c.in_ok-of_grammar.ensures (are ∙ sym c.in_ok-add_attribute_names.ensures);
    }

pub returns-clause-moves : goal.returns-clause-moves
returns-clause-moves c = refl
