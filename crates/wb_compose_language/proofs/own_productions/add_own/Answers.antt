use Rattle.std.proofs.Common.{arith, map, slice_get, subst, sym, ap, ◌∙◌, ◌≡◌}
use Rattle.std.specs.Prelude.{All}
use Rattle.wb_base.specs.Grammar.{GrammarView, IsSymbolBelow}
use Rattle.wb_compose_theory.specs.Blocks.{lift}
use Rattle.wb_compose_theory.specs.Renamings.{renamed}
use Rattle.wb_compose_theory_grammar.specs.Unions.{lifted_by}
use Rattle.wb_compose_language.proofs.GrammarLemmas.{lifted_below, own_more, some_weaker}
use Rattle.wb_compose_language.proofs.own_productions.add_own.Goals as goal

pub add-requires-clause-right : goal.add-requires-clause-right
add-requires-clause-right c =
    let r = lifted_by c.args.host.now c.args.before.terminals c.args.before.nonterminals 0 in
    let e = ap (λ (m : GrammarView). m.terminals) c.productions.invariant in
    let f = ap (λ (m : GrammarView). m.nonterminals) c.productions.invariant in
    subst (All (IsSymbolBelow c.productions.made.terminals c.productions.made.nonterminals))
    (sym (c.deref.ensures.value ∙ c.in_ok-right.ensures))
    (lifted_below c.args.host.now c.args.before.terminals c.args.before.nonterminals c.args.extension.now.terminals
    c.args.extension.now.nonterminals c.productions.made.terminals c.productions.made.nonterminals
    (omega (arith, e, c.requires.terminals)) (omega (arith, f, c.requires.nonterminals)) c.right.result.now c.right.ensures.in_range)

pub productions-preserved : goal.productions-preserved
productions-preserved c =
    let r = lifted_by c.args.host.now c.args.before.terminals c.args.before.nonterminals 0 in
    own_more c.args.made.now c.productions.made c.add.new.self c.args.host.now c.args.extension.now c.args.before.terminals
    c.args.before.nonterminals c.productions.production c.in_ok-left.left c.deref.result.now
    (omega (arith, c.productions.auto.production, c.productions-production.ensures.count))
    (omega (arith, c.productions-test.true, c.productions-production-end.ensures.count))
    (some_weaker (slice_get c.args.extension.now.productions c.productions.production) (λ q. c.left.result ≡ q.0)
    (λ q. c.in_ok-left.left ≡ r.nonterminal q.0) c.left.ensures.left
    (λ q e. c.in_ok-left.ensures ∙ (ap (λ z. lift z c.args.before.nonterminals c.left.result) c.nonterminals.ensures ∙ ap r.nonterminal e)))
    (some_weaker (slice_get c.args.extension.now.productions c.productions.production) (λ q. c.right.result.now ≡ q.1)
    (λ q. c.deref.result.now ≡ map (renamed r) q.1) c.right.ensures.right
    (λ q e. c.deref.ensures.value ∙ (c.in_ok-right.ensures ∙ ap (map (renamed r)) e)))
    c.productions.invariant c.in_ok-add.ensures.ok
