use Rattle.std.proofs.Common.{subst, sym}
use Rattle.wb_lookahead.specs.Contents.{action_of}
use Rattle.wb_parser_states.specs.Chains.{IsRuleAction}
use Rattle.wb_parser_states.proofs.CodeLemmas.{codes_after}
use Rattle.wb_parser_states.proofs.reductions.asked_action.Goals as goal

pub returns-clause-reductions : goal.returns-clause-reductions
returns-clause-reductions c =
    let g = c.args.language.now.language.grammar in
    let tables = c.args.language.now.tables in
    record {
      rules = c.requires.reductions.rules;
      ends = c.requires.reductions.ends;
      codes = codes_after g tables c.args.reductions.now.codes _ c.args.state c.args.terminal c.code_or_zero-code.result
          c.requires.reductions.codes c.requires.terminal
          (λ some. subst (IsRuleAction g (action_of tables c.args.state c.args.terminal)) (sym (c.code_or_zero-code.ensures some))
          c.action_at-action.ensures) c.keep.ensures;
    }
