use Rattle.std.proofs.Common.{List, ℕ, Contains, sym, subst, take}
use Rattle.wb_names_theory.specs.Declarations.{nonterminals}
use Rattle.wb_names_symbols.specs.Inner.Nonterminals.{AddsApart, IsDeclaredRow, form_nonterminals}
use Rattle.wb_names_symbols.proofs.ApartLemmas.{apart_append, apart_nothing}
use Rattle.wb_names_symbols.proofs.NamesFlat.{nonterminals_more}
use Rattle.wb_names_symbols.proofs.nonterminals.add_declared.Goals as goal

pub loop-item-init : goal.loop-item-init
loop-item-init c =
    let known = c.args.known.now in
    apart_nothing (Contains known.grammar.now) (IsDeclaredRow known.scope.now.owner known.items.now known.scope.now.attributes)
    c.args.made.now

pub loop-item-preserved : goal.loop-item-preserved
loop-item-preserved c =
    let known = c.args.known.now in
    let P = Contains known.grammar.now in
    let R = IsDeclaredRow known.scope.now.owner known.items.now known.scope.now.attributes in
    subst (λ (z : List (List ℕ)). AddsApart P R z c.args.made.now c.add_form.new.made)
    (sym (nonterminals_more known.items.now c.loop-item.item-index c.item-item.result c.loop-item-test.true c.item-item.is))
    (apart_append P R (nonterminals (take c.loop-item.item-index known.items.now))
    (form_nonterminals c.item-item.result.form) c.args.made.now
    c.loop-item.made c.add_form.new.made c.loop-item.invariant c.in_ok-add_form.ensures)
