use Rattle.std.proofs.Common.{◌≡◌, ◌⊎◌, List, ℕ, Some, true, Contains, slice_get, ap, subst, ◌∙◌, refl}
use Rattle.std.specs.Prelude.{◌↔◌}
use Rattle.std.proofs.lemmas.List.{take_all}
use Rattle.wb_lemmas.proofs.Places.{read_at}
use Rattle.wb_syntax_resolved.specs.declared.attributes.Nonterminal.{Nonterminal}
use Rattle.wb_syntax_resolved.specs.declared.attribution.AttributionParts.{AttributionParts}
use Rattle.wb_names_numbers_theory.specs.Files.{IsInGrammar}
use Rattle.wb_names_rows.specs.Marks.{IsMarked}
use Rattle.wb_names_symbols.specs.Lent.{lent_file}
use Rattle.wb_names_symbols.specs.Inner.Nonterminals.{AddsApart, IsSame}
use Rattle.wb_names_symbols.proofs.ApartLemmas.{apart_nothing, apart_row, apart_more}
use Rattle.wb_names_symbols.proofs.InGrammar.{told, told_back}
use Rattle.wb_names_symbols.proofs.nonterminals.add_rows.Goals as goal

pub loop-number-init : goal.loop-number-init
loop-number-init c = apart_nothing (λ (x : Nonterminal). IsInGrammar (lent_file c.args.file.now) x.name) IsSame c.args.made.now

pub loop-number-preserved : goal.loop-number-preserved
loop-number-preserved c =
    let file = lent_file c.args.file.now in
    let rows = c.as_slice-rows.result.now in
    let k = c.loop-number.number in
    let P = λ (x : Nonterminal). IsInGrammar file x.name in
    let x = c.index-rows-number.result in
    let at : slice_get rows k ≡ Some x = read_at rows rows k x refl c.loop-number-test.true c.index-rows-number.is in
    let read : rows ≡ c.args.file.now.base.now.attributes.nonterminals =
    c.as_slice-rows.ensures ∙ ap (λ (z : AttributionParts). z.nonterminals) c.parts.ensures.parts in
    let listed : slice_get file.base.attributes.nonterminals k ≡ Some x =
    subst (λ (z : List Nonterminal). slice_get z k ≡ Some x) read at in
    let leads = subst (λ (z : List ℕ). (c.is_marked_or_there-leads.result ≡ true)
    ↔ (IsMarked c.args.flags.now k ⊎ Contains c.args.grammar.now z))
    c.as_slice.ensures c.is_marked_or_there-leads.ensures in
    apart_more P IsSame rows k x c.args.made.now c.loop-number.made c.add_copy.new.made c.loop-number.invariant c.loop-number-test.true
    c.index-rows-number.is
    (apart_row P IsSame c.is_marked_or_there-leads.result x x c.loop-number.made c.add_copy.new.made
    (λ e. told file c.args.flags.now c.requires.flags c.args.grammar.now c.requires.grammar k x listed (leads.0 e))
    (λ p. leads.1 (told_back file c.args.flags.now c.requires.flags c.args.grammar.now c.requires.grammar k x listed p))
    refl c.in_ok-add_copy.ensures)

pub returns : goal.returns
returns c =
    let P = λ (x : Nonterminal). IsInGrammar (lent_file c.args.file.now) x.name in
    let read : c.as_slice-rows.result.now ≡ c.args.file.now.base.now.attributes.nonterminals =
    c.as_slice-rows.ensures ∙ ap (λ (z : AttributionParts). z.nonterminals) c.parts.ensures.parts in
    subst (λ (z : List Nonterminal). AddsApart P IsSame z c.args.made.now c.loop-number.made)
    (take_all c.loop-number.number c.as_slice-rows.result.now c.loop-number-test.false ∙ read) c.loop-number.invariant
