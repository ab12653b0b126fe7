use Rattle.std.proofs.Common.{rules, ◌≡◌, ◌-◌, ◌+◌, ◌++◌, ◌∷◌, [], ◌∙◌, ap, arith, length, refl, subst, sym, take}
use Rattle.std.proofs.lemmas.List.{length-take-le, take-take}
use Rattle.wb_lookahead.specs.Contents.{action_of, size_of}
use Rattle.wb_parser_states.specs.Codes.{IsCodeOf}
use Rattle.wb_parser_states.specs.Stacks.{last_or}
use Rattle.wb_parser_states.specs.Steps.{CarryOver}
use Rattle.wb_parser_states.proofs.ChainLemmas.{move_carries}
use Rattle.wb_parser_states.proofs.StateLemmas.{pushed_below, top_below, top_pushed}
use Rattle.wb_parser_states.proofs.TableLemmas.{zero_below}
use Rattle.wb_parser_states.proofs.within.reduce_some.Goals as goal

pub end_from-end-requires-clause-key : goal.end_from-end-requires-clause-key
end_from-end-requires-clause-key c =
    let (production, act, has) = c.requires.rule in
    let states = c.args.states.now in
    let kept = c.saturating_sub-kept.result in
    let kept_is : kept ≡ c.args.count - c.args.rule.width = search rules in
    record {
      below = top_below (size_of c.args.language.now.tables) (take c.args.count states) (take kept (take c.args.count states))
          _ kept c.top.result (zero_below c.requires.of_grammar) c.requires.states refl
          (sym (take-take kept c.args.count states (omega (arith, kept_is)))) c.top.ensures;
      from = has.below;
      terminal = c.requires.terminal;
    }

pub returns-clause-left : goal.returns-clause-left
returns-clause-left c =
    let parts = c.args.language.now in
    let states = c.args.states.now in
    let items = take c.args.count states in
    let rule = c.args.rule in
    let end = c.end_from-end.result in
    let kept = c.saturating_sub-kept.result in
    let kept_is : kept ≡ c.args.count - rule.width = search rules in
    let count : length items ≡ c.args.count = length-take-le c.args.count states c.requires.count in
    let cut : take kept states ≡ take (length items - rule.width) items =
    sym (take-take kept c.args.count states (omega (arith, kept_is))) ∙ ap (λ k. take k items) (kept_is ∙ ap (λ n. n - rule.width) (sym count)) in
    record {
      reached = record {
        within = omega (arith, kept_is, c.requires.some, c.requires.width, c.requires.count, c.put_at.ensures.length);
        below = pushed_below (size_of parts.tables) items (take kept states) (take (kept + 1) c.put_at.new.states) kept end.target
            c.requires.states (sym (take-take kept c.args.count states (omega (arith, kept_is)))) c.put_at.ensures.states
            c.end_from-end.ensures.end.target;
        carries = subst (CarryOver parts c.args.terminal items) (sym (c.put_at.ensures.states ∙ ap (λ z. z ++ end.target ∷ []) cut))
            (move_carries parts c.requires.language c.requires.of_grammar c.args.terminal c.requires.terminal items rule
            c.requires.rule _ end c.end_from-end.ensures.end refl refl
            (c.top.ensures ∙ ap (last_or 0) cut));
      };
      code = subst (λ s. IsCodeOf parts.language.grammar (action_of parts.tables s c.args.terminal) end.code)
          (top_pushed (take kept states) (take (kept + 1) c.put_at.new.states) end.target c.put_at.ensures.states)
          c.end_from-end.ensures.end.code;
    }
