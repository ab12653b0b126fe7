use Rattle.std.proofs.Common.{ap, arith, map, take, subst, sym, length, refl}
use Rattle.wb_base.specs.Grammar.{GrammarView}
use Rattle.wb_lemmas.proofs.Elements.{all_at}
use Rattle.wb_compose_theory_grammar.specs.Pieces.{Extends}
use Rattle.wb_compose_theory_grammar.specs.Unions.{added_nonterminals, added_terminals}
use Rattle.wb_compose_language.specs.declared.addition.Addition.{Addition}
use Rattle.std.proofs.lemmas.Option.{slice_get_read}
use Rattle.wb_compose_language.specs.Additions.{grammar_in}
use Rattle.wb_compose_language.specs.Inner.Totals.{AreAdded}
use Rattle.wb_compose_language.proofs.GrammarLemmas.{added_next, element_more, fits_total}
use Rattle.wb_compose_language.proofs.grammar.add_all.Goals as goal

pub add_own-requires-clause-terminals : goal.add_own-requires-clause-terminals
add_own-requires-clause-terminals c =
    let xs = c.args.extensions.now in
    let i = c.extensions.extension-index in
    let x = c.extension-item.result in
    let at = slice_get_read xs (length xs) i x refl (omega arith) c.extension-item.is in
    let more = (all_at (λ (y : Addition). Extends c.args.host.now (grammar_in y)) xs i x c.requires.extends at).terminals in
    let e = ap (λ (m : GrammarView). m.terminals) c.extensions.invariant.made_is in
    let f = c.requires.totals.terminals_are in
    fits_total c.args.host.now grammar_in xs i c.extensions.before.terminals c.extensions.made.terminals x (λ g. g.terminals)
    (added_terminals c.args.host.now) at (omega (arith, more)) c.extensions.invariant.before.terminals_are (omega (arith, e, f))

pub add_own-requires-clause-nonterminals : goal.add_own-requires-clause-nonterminals
add_own-requires-clause-nonterminals c =
    let xs = c.args.extensions.now in
    let i = c.extensions.extension-index in
    let x = c.extension-item.result in
    let at = slice_get_read xs (length xs) i x refl (omega arith) c.extension-item.is in
    let more = (all_at (λ (y : Addition). Extends c.args.host.now (grammar_in y)) xs i x c.requires.extends at).nonterminals in
    let e = ap (λ (m : GrammarView). m.nonterminals) c.extensions.invariant.made_is in
    let f = c.requires.totals.nonterminals_are in
    fits_total c.args.host.now grammar_in xs i c.extensions.before.nonterminals c.extensions.made.nonterminals x (λ g. g.nonterminals)
    (added_nonterminals c.args.host.now) at (omega (arith, more)) c.extensions.invariant.before.nonterminals_are (omega (arith, e, f))

pub extensions-preserved : goal.extensions-preserved
extensions-preserved c =
    let xs = c.args.extensions.now in
    let i = c.extensions.extension-index in
    let x = c.extension-item.result in
    let at = slice_get_read xs (length xs) i x refl (omega arith) c.extension-item.is in
    subst (λ gs. AreAdded c.args.host.now gs c.args.made.now c.add_own.new.made c.in_ok-before.before.terminals
    c.in_ok-before.before.nonterminals) (sym (element_more grammar_in xs i x at))
    (added_next c.args.host.now (grammar_in x) (map grammar_in (take i xs)) c.args.made.now c.extensions.made c.add_own.new.made
    c.extensions.before.terminals c.extensions.before.nonterminals c.in_ok-before.before.terminals c.in_ok-before.before.nonterminals
    c.extensions.invariant c.in_ok-add_own.ensures c.in_ok-before.ensures.terminals c.in_ok-before.ensures.nonterminals)
