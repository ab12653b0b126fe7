use Rattle.std.proofs.Common.{◌≡◌, ◌<◌, length, sym, ◌∙◌, ap, subst, arith}
use Rattle.std.proofs.lemmas.Grind.{common_steps}
use Rattle.wb_base.specs.Grammar.{GrammarView}
use Rattle.wb_termset.specs.Sets.{IsMember}
use Rattle.wb_termset.proofs.CallerLemmas.{IsMember-insert_same}
use Rattle.wb_grammar_theory.specs.Items.{HasItem, initial_item}
use Rattle.wb_grammar_theory.specs.Productions.{end_of}
use Rattle.wb_grammar_theory.specs.States.{start}
use Rattle.wb_items.specs.Kernels.{prefix_of}
use Rattle.wb_lookahead.specs.Inner.Spreading.{FlowsTo}
use Rattle.wb_items.specs.Lookaheads.{Lists}
use Rattle.wb_lookahead.proofs.PassLemmas.{first_within, one_member, start_has}
use Rattle.wb_lookahead.proofs.WaitingLemmas.{begun_sound, begun_waiting}
use Rattle.wb_lookahead.proofs.plain.begin.Goals as goal
use Rattle.wb_lemmas.proofs.Refusals.{on_ok_both}

pub spread-requires-clause-state : goal.spread-requires-clause-state
spread-requires-clause-state c = first_within c.requires.context.are_kernels

pub spread-requires-clause-has : goal.spread-requires-clause-has
spread-requires-clause-has c =
    let K = c.args.context.now.kernels.now in
    let top : c.productions.result ≡ length K.grammar.productions = c.productions.ensures.count ∙
    ap (λ (g : GrammarView). length g.productions) (sym c.requires.context.of_grammar) in
    subst (λ p. HasItem K.grammar (prefix_of K 0) (initial_item p)) (sym top) (start_has c.requires.context.are_kernels)

pub spread-requires-clause-sound : goal.spread-requires-clause-sound
spread-requires-clause-sound c =
    begun_sound c.args.lookaheads.now c.requires.shape c.requires.apart c.requires.empty c.requires.nothing

pub spread-requires-clause-flows : goal.spread-requires-clause-flows
spread-requires-clause-flows c =
    let K = c.args.context.now.kernels.now in
    let top : c.productions.result ≡ length K.grammar.productions = c.productions.ensures.count ∙
    ap (λ (g : GrammarView). length g.productions) (sym c.requires.context.of_grammar) in
    let last : c.terminals.result ≡ end_of K.grammar = c.terminals.ensures ∙
    ap (λ (g : GrammarView). g.terminals) (sym c.requires.context.of_grammar) in
    λ t has. subst (λ p. FlowsTo K 0 (initial_item p) t) (sym top)
    (subst (FlowsTo K 0 (initial_item (length K.grammar.productions)))
    (sym (one_member c.in_ok-lookahead_count.field-0 c.terminals.result c.in_ok-end.end c.insert.new.self c.in_ok-end.ensures
    c.insert.ensures.after t has ∙ last)) start)

pub returns-clause-waiting : goal.returns-clause-waiting
returns-clause-waiting c =
    let K = c.args.context.now.kernels.now in
    let top : c.productions.result ≡ length K.grammar.productions = c.productions.ensures.count ∙
    ap (λ (g : GrammarView). length g.productions) (sym c.requires.context.of_grammar) in
    let last : c.terminals.result ≡ end_of K.grammar = c.terminals.ensures ∙
    ap (λ (g : GrammarView). g.terminals) (sym c.requires.context.of_grammar) in
    let count = c.in_ok-lookahead_count.ensures.count in
    let fits : c.terminals.result < length c.in_ok-end.end = grind (arith, common_steps) in
    let has : IsMember c.insert.new.self (end_of K.grammar) =
    subst (IsMember c.insert.new.self) last
    (subst (λ z. IsMember z c.terminals.result) (sym c.insert.ensures.after)
    (IsMember-insert_same c.in_ok-end.end c.terminals.result fits)) in
    on_ok_both c.spread.result
    (λ lists spreads. begun_waiting c.args.lookaheads.now c.args.worklist.now c.requires.empty spreads
    (subst (λ p. Lists c.spread.new.lookaheads 0 (initial_item p) (end_of K.grammar)) top (lists (end_of K.grammar) has)))
    c.spread.ensures.lists c.spread.ensures.spreads
