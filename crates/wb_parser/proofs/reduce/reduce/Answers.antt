use Rattle.std.proofs.Common.{rules, ◌∙◌, ap, subst, length}
use Rattle.std.specs.Prelude.{min, slice_index_or}
use Rattle.wb_lookahead.specs.Contents.{TablesView}
use Rattle.wb_parser_states.specs.Stacks.{IsMoved}
use Rattle.wb_parser_states.proofs.RuleLemmas.{left_below, no_rule, rule_at}
use Rattle.wb_parser.proofs.reduce.reduce.Goals as goal

pub move_states-requires-clause-left : goal.move_states-requires-clause-left
move_states-requires-clause-left c =
    let g = c.args.language.now.language.grammar in
    left_below g c.args.language.now.tables c.tables-tables.result.now c.args.production _ c.tables-tables.ensures.of_grammar
    c.tables-tables.ensures.tables (rule_at g c.args.rules.now c.args.production _ c.requires.rules c.requires.production)

pub returns-clause-reduction : goal.returns-clause-reduction
returns-clause-reduction c =
    let g = c.args.language.now.language.grammar in
    let rule = rule_at g c.args.rules.now c.args.production no_rule c.requires.rules c.requires.production in
    let left = (slice_index_or c.args.rules.now c.args.production no_rule).left in
    record {
      left = left;
      right = rule.right;
      rule = rule.is;
      width = c.min-width.result;
      width_is = c.min-width.ensures ∙ ap (λ w. min w c.len.result) rule.width_is
          ∙ ap (min (length rule.right)) c.len.ensures;
      moved = subst (λ (t : TablesView). IsMoved t c.args.stack.now.states.items c.min-width.result left c.move_states.new.states.items)
          c.tables-tables.ensures.tables c.in_ok-state.ensures.moved;
      id = c.in_ok-build_over.field-0;
      id_is = c.in_ok-build_over.ensures.id;
      fits = search rules;
      values_are = search rules;
      trees_are = search rules;
    }
