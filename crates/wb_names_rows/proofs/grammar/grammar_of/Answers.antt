use Rattle.std.proofs.Common.{ℕ, List, All, subst, sym, ap, Some, ◌∙◌}
use Rattle.std.proofs.lemmas.Option.{slice_get-get_or}
use Rattle.wb_base.specs.declared.symbol.Symbol.{Symbol}
use Rattle.wb_base.specs.Grammar.{IsSymbolBelow}
use Rattle.wb_lemmas.proofs.Elements.{all_at}
use Rattle.wb_syntax_resolved.specs.declared.production.Child.{Child}
use Rattle.wb_names_rows.specs.Grammars.{IsGrammarLike}
use Rattle.wb_names_rows.specs.Inner.Grammars.{AreSymbolsOf}
use Rattle.wb_names_rows.proofs.MadeLemmas.{symbols_below, made_more}
use Rattle.wb_names_rows.proofs.grammar.grammar_of.Goals as goal

pub add-requires-clause-right : goal.add-requires-clause-right
add-requires-clause-right c =
    let like = all_at (IsGrammarLike c.args.terminals c.args.nonterminals) c.args.productions.now c.productions.production-index
    c.production-item.result c.requires.productions
    (slice_get-get_or c.args.productions.now c.productions.production-index c.production-item.result c.productions-test.true
    ∙ ap Some (sym c.production-item.is)) in
    let are = subst (λ (cs : List Child). AreSymbolsOf cs c.in_ok-symbols.symbols.items) c.as_slice.ensures c.in_ok-symbols.ensures in
    let below = symbols_below c.args.terminals c.args.nonterminals c.production-item.result.children c.in_ok-symbols.symbols.items are like.children in
    subst (λ (ss : List Symbol). All (IsSymbolBelow c.productions.grammar.terminals c.productions.grammar.nonterminals) ss) (sym c.deref.ensures.value)
    (subst (λ (t : ℕ). All (IsSymbolBelow t c.productions.grammar.nonterminals) c.in_ok-symbols.symbols.items)
    (sym c.productions.invariant.terminals_are)
    (subst (λ (n : ℕ). All (IsSymbolBelow c.args.terminals n) c.in_ok-symbols.symbols.items) (sym c.productions.invariant.nonterminals_are) below))

pub productions-preserved : goal.productions-preserved
productions-preserved c =
    made_more c.args.terminals c.args.nonterminals c.args.start c.args.productions.now c.productions.production-index c.production-item.result
    c.deref.result.now c.productions.grammar c.add.new.self c.productions.invariant c.productions-test.true c.production-item.is
    (subst (λ (ss : List Symbol). AreSymbolsOf c.production-item.result.children ss) (sym c.deref.ensures.value)
    (subst (λ (cs : List Child). AreSymbolsOf cs c.in_ok-symbols.symbols.items) c.as_slice.ensures c.in_ok-symbols.ensures))
    c.in_ok-add.ensures.ok
