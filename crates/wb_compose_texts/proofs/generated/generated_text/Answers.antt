use Rattle.std.proofs.Common.{◌≡◌, ◌∙◌, ap, sym, subst, rules}
use Rattle.std.proofs.lemmas.Result.{IfOk-weaker}
use Rattle.wb_generate.specs.Outcomes.{IsOutcome}
use Rattle.wb_scan_theory.specs.Bounds.{HasNoCycle}
use Rattle.wb_compose.specs.LanguageViews.{LanguageParts}
use Rattle.wb_compose_texts.specs.Expressions.{AreUnitedExpressions}
use Rattle.wb_compose_texts.specs.Unions.{all_resolved}
use Rattle.wb_compose_texts.specs.Generated.{IsGeneratedText, first_layout, place_behind}
use Rattle.wb_compose_texts.proofs.TextLemmas.{enough_there, generated, layout_is_there, no_cycle}
use Rattle.wb_compose_texts.proofs.generated.generated_text.Goals as goal

pub generate-requires-clause-grammar : goal.generate-requires-clause-grammar
generate-requires-clause-grammar c =
    subst HasNoCycle (sym c.grammar-grammar.ensures.grammar) (no_cycle c.language.result.now.language c.grammar-grammar.ensures.language)

pub generate-requires-clause-expressions : goal.generate-requires-clause-expressions
generate-requires-clause-expressions c =
    let same : c.grammar-grammar.result.now ≡ c.args.composed.now.language.language.grammar =
    c.grammar-grammar.ensures.grammar ∙ ap (λ (v : LanguageParts). v.language.grammar) c.language.ensures in
    let written : AreUnitedExpressions c.args.host.now.resolved (all_resolved c.args.extensions.now) c.deref.result.now = search rules in
    enough_there c.args.host.now c.args.extensions.now c.args.composed.now.language.language c.args.composed.now.withdrawn.items
    c.requires.composed c.grammar-grammar.result.now same c.deref.result.now written

pub generate-requires-clause-layout : goal.generate-requires-clause-layout
generate-requires-clause-layout c =
    let same : c.grammar-grammar.result.now ≡ c.args.composed.now.language.language.grammar =
    c.grammar-grammar.ensures.grammar ∙ ap (λ (v : LanguageParts). v.language.grammar) c.language.ensures in
    let written : AreUnitedExpressions c.args.host.now.resolved (all_resolved c.args.extensions.now) c.deref.result.now = search rules in
    let place : c.layout_place-layout.result ≡ place_behind c.grammar-grammar.result.now.terminals (first_layout c.args.host.now.resolved) =
    search rules in
    layout_is_there c.args.host.now c.args.extensions.now c.args.composed.now.language.language c.args.composed.now.withdrawn.items
    c.requires.composed c.grammar-grammar.result.now same c.deref.result.now written c.layout_place-layout.result place

pub returns : goal.returns
returns c =
    let host = c.args.host.now in
    let es = c.args.extensions.now in
    let same : c.grammar-grammar.result.now ≡ c.args.composed.now.language.language.grammar =
    c.grammar-grammar.ensures.grammar ∙ ap (λ (v : LanguageParts). v.language.grammar) c.language.ensures in
    let written : AreUnitedExpressions host.resolved (all_resolved es) c.deref.result.now = search rules in
    let place : c.layout_place-layout.result ≡ place_behind c.grammar-grammar.result.now.terminals (first_layout host.resolved) =
    search rules in
    IfOk-weaker c.generate.result
    (IsOutcome c.grammar-grammar.result.now c.deref.result.now c.layout_place-layout.result c.args.number c.args.size)
    (IsGeneratedText host.resolved host.operations (all_resolved es) c.args.number c.args.size)
    (generated host es c.args.composed.now.language.language c.args.composed.now.withdrawn.items c.requires.composed
    c.grammar-grammar.result.now same c.deref.result.now written c.layout_place-layout.result place c.args.number c.args.size)
    c.generate.ensures
