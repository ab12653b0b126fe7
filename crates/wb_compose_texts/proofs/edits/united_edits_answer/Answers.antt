-- What becomes of the text in the language that is composed is what becomes of it in that of the host with the extensions.
use Rattle.std.proofs.Common.{◌≡◌, ◌∙◌, ℕ, List, IfOk, ap, subst}
use Rattle.std.proofs.lemmas.Result.{IfOk-weaker}
use Rattle.wb_compose_texts.specs.Names.{terminals_of}
use Rattle.wb_compose_texts.specs.Signatures.{signatures_of}
use Rattle.wb_compose_texts.specs.Unions.{all_resolved}
use Rattle.wb_compose_texts.proofs.ComposedLemmas.{union_is}
use Rattle.wb_compose.specs.LanguageViews.{LanguageParts}
use Rattle.wb_scan_theory.specs.Facts.{IsLanguage}
use Rattle.wb_scan_theory.specs.Languages.{LanguageView}
use Rattle.wb_compose_texts.specs.EditAnswers.{IsEditsAnswerIn, IsUnitedEditsAnswer}
use Rattle.wb_compose_texts.proofs.edits.united_edits_answer.Goals as goal

pub returns : goal.returns
returns c =
    let host = c.args.host.now in
    let es = c.args.extensions.now in
    let names = terminals_of host.resolved (all_resolved es) in
    let signatures = signatures_of host.resolved (all_resolved es) in
    let edits = c.args.edits.now in
    let l = c.args.composed.now.language.language in
    let session = c.in_ok-session.session in
    let language : c.language-language.result.now.language ≡ l = ap (λ (v : LanguageParts). v.language) c.language-language.ensures in
    let same : session.language ≡ l = c.in_ok-session.ensures.language ∙ language in
    IfOk-weaker c.edited_answer-answer.result (IsEditsAnswerIn names signatures session.language session.text edits)
    (IsUnitedEditsAnswer host.resolved host.operations (all_resolved es) c.args.text.now edits)
    (λ answer is. record {
      whole = union_is host es l c.args.composed.now.withdrawn.items c.requires.composed;
      language = l;
      is_language = record {
        of_union = c.requires.composed.language;
        language = subst IsLanguage language c.grammar-grammar.ensures.language;
      };
      is = subst (λ (m : LanguageView). IsEditsAnswerIn names signatures m c.args.text.now edits answer) same
          (subst (λ (text : List ℕ). IsEditsAnswerIn names signatures session.language text edits answer) c.in_ok-session.ensures.text is);
    })
    c.edited_answer-answer.ensures
