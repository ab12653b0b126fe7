use Rattle.std.proofs.Common.{rules, ◌≡◌, ◌-◌, ◌++◌, ◌∷◌, [], ◌∙◌, ap, length, refl, subst, sym, take}
use Rattle.wb_lookahead.specs.Contents.{action_of, size_of}
use Rattle.wb_parser_states.specs.Codes.{IsCodeOf}
use Rattle.wb_parser_states.specs.Stacks.{last_or}
use Rattle.wb_parser_states.specs.Steps.{CarryOver}
use Rattle.wb_parser_states.proofs.ChainLemmas.{move_carries}
use Rattle.wb_parser_states.proofs.StateLemmas.{pushed_below, top_below, top_pushed}
use Rattle.wb_parser_states.proofs.TableLemmas.{zero_below}
use Rattle.wb_parser_states.proofs.step.reduce_top.Goals as goal

pub end_from-end-requires-clause-key : goal.end_from-end-requires-clause-key
end_from-end-requires-clause-key c =
    let (production, act, has) = c.requires.rule in
    let kept = c.saturating_sub-kept.result in
    record {
      below = top_below (size_of c.args.language.now.tables) c.args.states.now.items (take kept c.args.states.now.items) _ kept c.top.result
          (zero_below c.requires.of_grammar) c.requires.states refl (ap (take kept) c.deref.ensures.value) c.top.ensures;
      from = has.below;
      terminal = c.requires.terminal;
    }

pub returns-clause-code : goal.returns-clause-code
returns-clause-code c =
    let end = c.end_from-end.result in
    subst (λ s. IsCodeOf c.args.language.now.language.grammar (action_of c.args.language.now.tables s c.args.terminal) end.code)
    (top_pushed (take c.saturating_sub-kept.result c.args.states.now.items) c.put.new.states.items end.target c.in_ok-put.ensures)
    c.end_from-end.ensures.end.code

pub returns-clause-carries : goal.returns-clause-carries
returns-clause-carries c =
    let items = c.args.states.now.items in
    let rule = c.args.rule in
    let end = c.end_from-end.result in
    let kept : c.saturating_sub-kept.result ≡ length items - rule.width = search rules in
    let cut : take c.saturating_sub-kept.result items ≡ take (length items - rule.width) items = ap (λ k. take k items) kept in
    subst (CarryOver c.args.language.now c.args.terminal items) (sym (c.in_ok-put.ensures ∙ ap (λ z. z ++ end.target ∷ []) cut))
    (move_carries c.args.language.now c.requires.language c.requires.of_grammar c.args.terminal c.requires.terminal items rule
    c.requires.rule _ end c.end_from-end.ensures.end refl refl
    (c.top.ensures ∙ ap (last_or 0) (ap (take c.saturating_sub-kept.result) c.deref.ensures.value ∙ cut)))

pub returns-clause-states : goal.returns-clause-states
returns-clause-states c =
    pushed_below (size_of c.args.language.now.tables) c.args.states.now.items (take c.saturating_sub-kept.result c.args.states.now.items)
    c.put.new.states.items c.saturating_sub-kept.result c.end_from-end.result.target c.requires.states refl c.in_ok-put.ensures
    c.end_from-end.ensures.end.target
