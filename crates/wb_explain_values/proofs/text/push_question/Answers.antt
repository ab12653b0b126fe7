use Rattle.std.proofs.Common.{◌≡◌, ap, subst}
use Rattle.std.proofs.lemmas.Result.{on_ok_weaker}
use Rattle.wb_session.specs.Parses.{FitsSignatures, IsParsed}
use Rattle.wb_scan.specs.Views.{LanguageParts}
use Rattle.wb_operations.specs.Operations.{Operations}
use Rattle.wb_types.specs.Rules.{KindsOk}
use Rattle.wb_compose_files.specs.Unions.{all_resolved}
use Rattle.wb_compose_files.proofs.ComposedValues.{asked_of_text}
use Rattle.wb_compose_files.proofs.ParsedLemmas.{kinds_here, productions_here}
use Rattle.wb_explain_values.proofs.SaidLemmas.{text_said}
use Rattle.wb_explain_values.proofs.text.push_question.Goals as goal

pub push_parsed-answer-requires-clause-productions : goal.push_parsed-answer-requires-clause-productions
push_parsed-answer-requires-clause-productions g c =
    let q = c.args.question.now in
    productions_here q.host.now.resolved q.host.now.operations (all_resolved q.extensions.now) q.attributes.now
    c.requires.question.attributes

pub push_parsed-answer-requires-clause-kinds : goal.push_parsed-answer-requires-clause-kinds
push_parsed-answer-requires-clause-kinds g c =
    let q = c.args.question.now in
    subst (KindsOk q.attributes.now) c.requires.question.same
    (kinds_here q.host.now.resolved q.host.now.operations (all_resolved q.extensions.now) q.attributes.now c.requires.question.attributes)

pub push_parsed-answer-requires-clause-asked : goal.push_parsed-answer-requires-clause-asked
push_parsed-answer-requires-clause-asked g c =
    let q = c.args.question.now in
    let l = q.composed.now.language.language in
    let same : c.language-language.result.now.language ≡ l = ap (λ (v : LanguageParts). v.language) c.language-language.ensures in
    asked_of_text q.host.now q.extensions.now l q.composed.now.withdrawn.items c.requires.question.composed q.attributes.now
    c.requires.question.attributes c.args.asked.now.text.now c.parse.new.store c.in_ok-parsed.parsed
    (subst (λ z. IsParsed z c.args.asked.now.text.now c.parse.new.store c.in_ok-parsed.parsed) same c.in_ok-parsed.ensures.parsed)
    (subst (λ z. FitsSignatures z c.parse.new.store c.in_ok-parsed.parsed) same c.in_ok-parsed.ensures.fits) q.attribute
    c.requires.question.asked

pub returns : goal.returns
returns g c =
    let q = c.args.question.now in
    let l = q.composed.now.language.language in
    let operations : Operations = record { signatures = c.args.operations.now.signatures; meaning = g.M.Meaning.meaning } in
    let same : c.language-language.result.now.language ≡ l = ap (λ (v : LanguageParts). v.language) c.language-language.ensures in
    on_ok_weaker c.push_parsed-answer.result
    (text_said c.args.asked.now.files.now operations q.host.now q.extensions.now l q.composed.now.withdrawn.items
    c.requires.question.composed q.attributes.now
    c.requires.question.attributes c.args.asked.now.name.now q.attribute c.requires.asked c.args.asked.now.text.now c.parse.new.store
    c.in_ok-parsed.parsed
    (subst (λ z. IsParsed z c.args.asked.now.text.now c.parse.new.store c.in_ok-parsed.parsed) same c.in_ok-parsed.ensures.parsed) q.steps
    c.args.out.now.items c.push_parsed-answer.new.out.items) c.push_parsed-answer.ensures
