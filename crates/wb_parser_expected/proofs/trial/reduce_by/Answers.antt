use Rattle.std.proofs.Common.{ℕ, subst}
use Rattle.std.specs.Prelude.{slice_index_or}
use Rattle.std.proofs.lemmas.Result.{IfOk-weaker}
use Rattle.wb_lookahead.specs.Contents.{TablesView}
use Rattle.wb_parser_states.specs.Rules.{IsRule}
use Rattle.wb_parser_states.specs.Stacks.{IsMoved}
use Rattle.wb_parser_states.specs.declared.rules.Rule.{Rule}
use Rattle.wb_parser_states.proofs.RuleLemmas.{left_below, no_rule, rule_at}
use Rattle.wb_parser_expected.specs.Inner.Trials.{IsMovedBy, over}
use Rattle.wb_parser_expected.proofs.trial.reduce_by.Goals as goal

pub reduce_over-requires-clause-left : goal.reduce_over-requires-clause-left
reduce_over-requires-clause-left c =
    let g = c.args.language.now.language.grammar in
    left_below g c.args.language.now.tables c.tables.result.now c.args.production _ c.tables.ensures.of_grammar c.tables.ensures.tables
    (rule_at g c.args.rules.now c.args.production no_rule c.requires.rules c.requires.production)

pub returns-clause-moved : goal.returns-clause-moved
returns-clause-moved c =
    let parts = c.args.language.now in
    let states = c.args.states.now in
    let old = over c.args.kept states c.args.extra.now.items in
    let new = c.reduce_over.new.extra.items in
    let rule : Rule = slice_index_or c.args.rules.now c.args.production no_rule in
    let is : IsRule parts.language.grammar c.args.production rule =
    rule_at parts.language.grammar c.args.rules.now c.args.production no_rule c.requires.rules c.requires.production in
    let f : (fewer : ℕ) → IsMoved c.tables.result.now old rule.width rule.left (over fewer states new) →
    IsMovedBy parts c.args.production old (over fewer states new) =
    λ fewer moved. (rule, is, subst (λ (z : TablesView). IsMoved z old rule.width rule.left (over fewer states new)) c.tables.ensures.tables moved) in
    IfOk-weaker c.reduce_over.result _ _ f c.reduce_over.ensures.moved
