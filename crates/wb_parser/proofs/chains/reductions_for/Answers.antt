use Rattle.std.proofs.Common.{◌≡◌, [], List, ℕ, rules, subst, sym}
use Rattle.wb_base.specs.Grammar.{GrammarView}
use Rattle.wb_lookahead.specs.Contents.{TablesView}
use Rattle.wb_parser_states.specs.Rules.{AreRules}
use Rattle.wb_scan_theory.specs.Parts.{AreTablesOf}
use Rattle.wb_parser.specs.Inner.Chains.{AreChains}
use Rattle.wb_parser.proofs.chains.reductions_for.Goals as goal

pub returns : goal.returns
returns c =
    let g = c.args.language.now.language.grammar in
    let of = subst (AreTablesOf g) (sym c.tables.ensures.tables) c.tables.ensures.of_grammar in
    let made = subst (λ (z : TablesView). AreChains g z [] c.no_chains-chains.result.items) c.tables.ensures.tables
    (c.no_chains-chains.ensures g of) in
    let none : c.new-productions.result.items ≡ [] = search rules in
    record {
      rules = subst (λ (z : GrammarView). AreRules z c.in_ok-rules.rules.items) c.grammar.ensures.grammar c.in_ok-rules.ensures;
      chains = subst (λ (ps : List ℕ). AreChains g c.args.language.now.tables ps c.no_chains-chains.result.items) (sym none) made;
    }
