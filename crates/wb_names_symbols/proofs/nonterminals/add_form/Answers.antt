use Rattle.std.proofs.Common.{◌≡◌, List, ℕ, Contains, true, ◌∷◌, [], sym, subst, ap, ◌∙◌, option_to_list}
use Rattle.std.specs.Prelude.{◌↔◌}
use Rattle.std.proofs.lemmas.Result.{on_ok_weaker}
use Rattle.wb_syntax.specs.declared.item.PlainForm.{PlainForm}
use Rattle.wb_names_theory.specs.Declarations.{nonterminal_of}
use Rattle.wb_names_symbols.specs.Inner.Nonterminals.{AddsApart, IsDeclaredRow, form_nonterminals}
use Rattle.wb_names_symbols.proofs.ApartLemmas.{apart_nothing, apart_row}
use Rattle.wb_names_symbols.proofs.NamesFlat.{not_nonterminal, not_plain}
use Rattle.wb_names_symbols.proofs.nonterminals.add_form.Goals as goal

pub returns-in_ok-row-in-Nonterminal : goal.returns-in_ok-row-in-Nonterminal
returns-in_ok-row-in-Nonterminal c =
    let known = c.args.known.now in
    let name = c.in-Nonterminal.name in
    let P = Contains known.grammar.now in
    let R = IsDeclaredRow known.scope.now.owner known.items.now known.scope.now.attributes in
    let is : form_nonterminals c.args.form.now ≡ name ∷ [] =
    ap form_nonterminals c.in-Plain.is ∙ ap (λ (z : PlainForm). option_to_list (nonterminal_of z)) c.in-Nonterminal.is in
    let leads = subst (λ (z : List ℕ). (c.is_there.result ≡ true) ↔ P z) c.as_slice.ensures c.is_there.ensures in
    on_ok_weaker c.add.result
    (λ adds. subst (λ (z : List (List ℕ)). AddsApart P R z c.args.made.now c.add.new.made) (sym is)
    (apart_row P R c.is_there.result name c.in_ok-row-in-Nonterminal.row c.args.made.now c.add.new.made leads.0 leads.1
    c.in_ok-row-in-Nonterminal.ensures adds))
    c.add.ensures

pub returns-in_default-plain : goal.returns-in_default-plain
returns-in_default-plain c =
    let known = c.args.known.now in
    let P = Contains known.grammar.now in
    let R = IsDeclaredRow known.scope.now.owner known.items.now known.scope.now.attributes in
    let is : form_nonterminals c.args.form.now ≡ [] =
    ap form_nonterminals c.in-Plain.is ∙ not_nonterminal c.in-Plain.plain c.in_default-plain.not-Nonterminal in
    subst (λ (z : List (List ℕ)). AddsApart P R z c.args.made.now c.args.made.now) (sym is) (apart_nothing P R c.args.made.now)

pub returns-in_default : goal.returns-in_default
returns-in_default c =
    let known = c.args.known.now in
    let P = Contains known.grammar.now in
    let R = IsDeclaredRow known.scope.now.owner known.items.now known.scope.now.attributes in
    subst (λ (z : List (List ℕ)). AddsApart P R z c.args.made.now c.args.made.now) (sym (not_plain c.args.form.now c.in_default.not-Plain))
    (apart_nothing P R c.args.made.now)
