use Rattle.std.proofs.Common.{rules, ◌<◌, ◌≤◌, ◌≡◌, ◌∙◌, ap, length, subst, sym, refl}
use Rattle.std.specs.Prelude.{Some, slice_index_or}
use Rattle.wb_lookahead.specs.Contents.{TablesView, action_of, goto_of, size_of}
use Rattle.wb_parser_states.proofs.RuleLemmas.{left_below, no_rule, rule_at}
use Rattle.wb_parser_states.proofs.TableLemmas.{goto_below, terminals_of}
use Rattle.wb_parser.proofs.ChainLemmas.{chain_linked, chain_production}
use Rattle.wb_parser.proofs.chains.linked.Goals as goal

pub bounds-rules-production : goal.bounds-rules-production
bounds-rules-production c =
    subst (λ k. c.in-Reduce.production < k) (sym c.requires.rules.count)
    (chain_production c.args.language.now.language.grammar c.args.language.now.tables c.args.productions.now.items c.args.chain
    c.in-Reduce.production c.tables-tables.ensures.of_grammar c.requires.chain c.in-Reduce.is)

pub offset_bounds-rules-production : goal.offset_bounds-rules-production
offset_bounds-rules-production c =
    let within : c.in-Reduce.production < length c.args.rules.now =
    subst (λ k. c.in-Reduce.production < k) (sym c.requires.rules.count)
    (chain_production c.args.language.now.language.grammar c.args.language.now.tables c.args.productions.now.items c.args.chain
    c.in-Reduce.production c.tables-tables.ensures.of_grammar c.requires.chain c.in-Reduce.is) in
    search rules

pub goto-requires-clause-state : goal.goto-requires-clause-state
goto-requires-clause-state c = subst (λ z. c.args.chain.start.below < size_of z) (sym c.tables-tables.ensures.tables) c.requires.chain.start.below

pub goto-requires-clause-nonterminal : goal.goto-requires-clause-nonterminal
goto-requires-clause-nonterminal c =
    let g = c.args.language.now.language.grammar in
    left_below g c.args.language.now.tables c.tables-tables.result.now c.in-Reduce.production
    (slice_index_or c.args.rules.now c.in-Reduce.production no_rule) c.tables-tables.ensures.of_grammar c.tables-tables.ensures.tables
    (rule_at g c.args.rules.now c.in-Reduce.production no_rule c.requires.rules
    (chain_production g c.args.language.now.tables c.args.productions.now.items c.args.chain c.in-Reduce.production
    c.tables-tables.ensures.of_grammar c.requires.chain c.in-Reduce.is))

pub action-requires-clause-state : goal.action-requires-clause-state
action-requires-clause-state c =
    let g = c.args.language.now.language.grammar in
    let rule = slice_index_or c.args.rules.now c.in-Reduce.production no_rule in
    let has = rule_at g c.args.rules.now c.in-Reduce.production no_rule c.requires.rules
    (chain_production g c.args.language.now.tables c.args.productions.now.items c.args.chain c.in-Reduce.production
    c.tables-tables.ensures.of_grammar c.requires.chain c.in-Reduce.is) in
    subst (λ z. c.in_ok-target.target < size_of z) (sym c.tables-tables.ensures.tables)
    (goto_below c.tables-tables.ensures.of_grammar c.args.chain.start.below rule.left c.in_ok-target.target c.requires.chain.start.below
    has.below (subst (λ z. goto_of z c.args.chain.start.below rule.left ≡ Some c.in_ok-target.target) c.tables-tables.ensures.tables
    (sym c.in_ok-target.ensures)))

pub action-requires-clause-terminal : goal.action-requires-clause-terminal
action-requires-clause-terminal c =
    subst (λ z. c.args.chain.start.terminal ≤ z.terminals) (sym c.tables-tables.ensures.tables)
    (subst (λ z. c.args.chain.start.terminal ≤ z) (sym (terminals_of c.tables-tables.ensures.of_grammar)) c.requires.chain.start.terminal)

pub returns-in-Ok-clause-some : goal.returns-in-Ok-clause-some
returns-in-Ok-clause-some c =
    let g = c.args.language.now.language.grammar in
    let ts = c.args.language.now.tables in
    let rule = slice_index_or c.args.rules.now c.in-Reduce.production no_rule in
    let has = rule_at g c.args.rules.now c.in-Reduce.production no_rule c.requires.rules
    (chain_production g ts c.args.productions.now.items c.args.chain c.in-Reduce.production c.tables-tables.ensures.of_grammar
    c.requires.chain c.in-Reduce.is) in
    chain_linked g ts c.args.productions.now.items c.push.new.list.items c.args.chain c.in-Reduce.production c.in_ok-target.target
    _ rule c.action.result c.tables-tables.ensures.of_grammar
    c.requires.chain c.requires.end c.in-Ok.ensures.ok c.in-Reduce.is has (search rules)
    (subst (λ (z : TablesView). goto_of z c.args.chain.start.below rule.left ≡ Some c.in_ok-target.target) c.tables-tables.ensures.tables
    (sym c.in_ok-target.ensures)) refl
    (c.action.ensures ∙ ap (λ (z : TablesView). action_of z c.in_ok-target.target c.args.chain.start.terminal) c.tables-tables.ensures.tables)
