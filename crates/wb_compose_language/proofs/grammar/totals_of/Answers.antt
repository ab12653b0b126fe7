use Rattle.std.proofs.Common.{arith, map, take, subst, sym, length, refl}
use Rattle.std.proofs.lemmas.Option.{slice_get_read}
use Rattle.wb_compose_language.specs.Additions.{grammar_in}
use Rattle.wb_compose_language.specs.Inner.Totals.{AreTotals}
use Rattle.wb_compose_language.proofs.GrammarLemmas.{element_more, totals_more}
use Rattle.wb_compose_language.proofs.grammar.totals_of.Goals as goal

pub extensions-preserved : goal.extensions-preserved
extensions-preserved c =
    let xs = c.args.extensions.now in
    let i = c.extensions.extension-index in
    let x = c.extension-item.result in
    let at = slice_get_read xs (length xs) i x refl (omega arith) c.extension-item.is in
    subst (λ gs. AreTotals c.args.host.now gs c.in_ok-terminals.terminals c.in_ok-nonterminals.nonterminals)
    (sym (element_more grammar_in xs i x at))
    (totals_more c.args.host.now (grammar_in x) (map grammar_in (take i xs)) c.extensions.terminals c.extensions.nonterminals
    c.in_ok-terminals.terminals c.in_ok-nonterminals.nonterminals c.extensions.invariant (omega arith) (omega arith))
