use Rattle.std.proofs.Common.{◌≡◌, ap, subst}
use Rattle.std.proofs.lemmas.Result.{IfOk-weaker}
use Rattle.wb_scan_theory.specs.Facts.{IsLanguage}
use Rattle.wb_session.specs.Parses.{IsParsed}
use Rattle.wb_compose.specs.LanguageViews.{LanguageParts}
use Rattle.wb_compose_texts.specs.Answers.{IsAnswerIn, IsUnitedTextAnswer}
use Rattle.wb_compose_texts.specs.Names.{terminals_of}
use Rattle.wb_compose_texts.specs.Signatures.{signatures_of}
use Rattle.wb_compose_texts.specs.Unions.{all_resolved}
use Rattle.wb_compose_texts.proofs.ComposedLemmas.{answered}
use Rattle.wb_compose_texts.proofs.trees.united_text_answer.Goals as goal

pub united_parsed_answer-requires : goal.united_parsed_answer-requires
united_parsed_answer-requires c = (c.language-language.result.now.language, (c.args.text.now, c.in_ok-parsed.ensures.parsed))

pub returns : goal.returns
returns c =
    let host = c.args.host.now in
    let es = c.args.extensions.now in
    let text = c.args.text.now in
    let l = c.args.composed.now.language.language in
    let same : c.language-language.result.now.language ≡ l = ap (λ (v : LanguageParts). v.language) c.language-language.ensures in
    let parsed : IsParsed l text c.parse.new.store c.in_ok-parsed.parsed =
    subst (λ z. IsParsed z text c.parse.new.store c.in_ok-parsed.parsed) same c.in_ok-parsed.ensures.parsed in
    IfOk-weaker c.united_parsed_answer.result
    (IsAnswerIn (terminals_of host.resolved (all_resolved es)) (signatures_of host.resolved (all_resolved es)) l text)
    (IsUnitedTextAnswer host.resolved host.operations (all_resolved es) text)
    (answered host es l c.args.composed.now.withdrawn.items c.requires (subst IsLanguage same c.grammar-grammar.ensures.language) text)
    (c.united_parsed_answer.ensures l text parsed)
