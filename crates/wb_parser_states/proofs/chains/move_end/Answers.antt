use Rattle.std.proofs.Common.{◌≡◌, ◌<◌, subst, sym}
use Rattle.std.specs.Prelude.{Some}
use Rattle.wb_lookahead.specs.Contents.{goto_of, size_of}
use Rattle.wb_scan_theory.specs.Parts.{AreTablesOf}
use Rattle.wb_parser_states.proofs.ChainLemmas.{move_ends}
use Rattle.wb_parser_states.proofs.TableLemmas.{nonterminals_of}
use Rattle.wb_parser_states.proofs.chains.move_end.Goals as goal

pub target_of-requires-clause-state : goal.target_of-requires-clause-state
target_of-requires-clause-state c = subst (λ z. c.args.start.below < size_of z) (sym c.tables.ensures.tables) c.requires.start.below

pub target_of-requires-clause-nonterminal : goal.target_of-requires-clause-nonterminal
target_of-requires-clause-nonterminal c =
    subst (λ z. c.args.start.from < z.nonterminals) (sym c.tables.ensures.tables)
    (subst (λ z. c.args.start.from < z) (sym (nonterminals_of c.tables.ensures.of_grammar)) c.requires.start.from)

pub chain_end-requires-clause-start : goal.chain_end-requires-clause-start
chain_end-requires-clause-start c = record {
  below = c.requires.start.below;
  from = subst (λ z. c.target_of.result < size_of z) c.tables.ensures.tables
      (c.target_of.ensures.below c.args.language.now.language.grammar
      (subst (AreTablesOf c.args.language.now.language.grammar) (sym c.tables.ensures.tables) c.tables.ensures.of_grammar));
  terminal = c.requires.start.terminal;
}

pub returns : goal.returns
returns c =
    move_ends c.args.language.now.language.grammar c.args.language.now.tables c.args.start c.target_of.result c.chain_end.result
    (λ next goes. c.target_of.ensures.next next (subst (λ z. goto_of z c.args.start.below c.args.start.from ≡ Some next)
    (sym c.tables.ensures.tables) goes)) c.chain_end.ensures
