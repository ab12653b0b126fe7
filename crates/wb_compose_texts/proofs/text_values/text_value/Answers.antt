use Rattle.std.proofs.Common.{◌≡◌, ap, subst}
use Rattle.wb_scan_theory.specs.Facts.{IsLanguage}
use Rattle.wb_session.specs.Parses.{FitsSignatures, IsParsed}
use Rattle.wb_compose.specs.LanguageViews.{LanguageParts}
use Rattle.wb_types.specs.Rules.{KindsOk}
use Rattle.wb_compose_texts.specs.Unions.{all_resolved}
use Rattle.wb_compose_texts.proofs.ComposedValues.{asked_of_text, text_answered}
use Rattle.wb_compose_texts.proofs.ParsedLemmas.{kinds_here, productions_here}
use Rattle.wb_compose_texts.proofs.text_values.text_value.Goals as goal

pub value_of-requires-clause-productions : goal.value_of-requires-clause-productions
value_of-requires-clause-productions g c =
    let q = c.args.question.now in
    productions_here q.host.now.resolved q.host.now.operations (all_resolved q.extensions.now) q.attributes.now
    c.requires.question.attributes

pub value_of-requires-clause-kinds : goal.value_of-requires-clause-kinds
value_of-requires-clause-kinds g c =
    let q = c.args.question.now in
    subst (KindsOk q.attributes.now) c.requires.question.same
    (kinds_here q.host.now.resolved q.host.now.operations (all_resolved q.extensions.now) q.attributes.now c.requires.question.attributes)

pub value_of-requires-clause-asked : goal.value_of-requires-clause-asked
value_of-requires-clause-asked g c =
    let q = c.args.question.now in
    let l = q.composed.now.language.language in
    let same : c.language-language.result.now.language ≡ l = ap (λ (v : LanguageParts). v.language) c.language-language.ensures in
    asked_of_text q.host.now q.extensions.now l q.composed.now.withdrawn.items c.requires.question.composed q.attributes.now
    c.requires.question.attributes c.args.text.now c.parse.new.store c.in_ok-parsed.parsed
    (subst (λ z. IsParsed z c.args.text.now c.parse.new.store c.in_ok-parsed.parsed) same c.in_ok-parsed.ensures.parsed)
    (subst (λ z. FitsSignatures z c.parse.new.store c.in_ok-parsed.parsed) same c.in_ok-parsed.ensures.fits) q.attribute
    c.requires.question.asked

pub returns : goal.returns
returns g c = λ name root.
    let q = c.args.question.now in
    let l = q.composed.now.language.language in
    let same : c.language-language.result.now.language ≡ l = ap (λ (v : LanguageParts). v.language) c.language-language.ensures in
    text_answered q.host.now q.extensions.now l q.composed.now.withdrawn.items c.requires.question.composed q.attributes.now
    c.requires.question.attributes c.args.text.now c.parse.new.store c.in_ok-parsed.parsed
    (subst (λ z. IsParsed z c.args.text.now c.parse.new.store c.in_ok-parsed.parsed) same c.in_ok-parsed.ensures.parsed)
    (record { signatures = c.args.operations.now.signatures; meaning = g.M.Meaning.meaning }) c.requires.question.same
    (subst IsLanguage same c.grammar-grammar.ensures.language) q.attribute q.steps c.value_of.result c.value_of.ensures name root
