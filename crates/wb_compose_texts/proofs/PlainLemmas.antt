-- A text without markers has the answer that it has in the language of the host alone, and there the answer that it has with extensions.
use Rattle.std.proofs.Common.{◌∙◌, [], ℕ, Bool, List, map, ap, sym}
use Rattle.wb_base.specs.Different.{Differ}
use Rattle.wb_operations.specs.Operations.{OperationSignature}
use Rattle.wb_report.specs.declared.shown.ShownStop.{ShownStop}
use Rattle.wb_scan_theory.specs.Languages.{LanguageView}
use Rattle.wb_syntax_resolved.specs.declared.resolved.ResolvedParts.{ResolvedParts}
use Rattle.wb_compose.specs.Languages.{IsUnitedLanguage}
use Rattle.wb_compose.specs.ListedHosts.{rows_of}
use Rattle.wb_compose.specs.UnitedLists.{united_attribution}
use Rattle.wb_compose.specs.Lexicons.{lexicon_of}
use Rattle.wb_compose.specs.Written.{name_in}
use Rattle.wb_compose_texts.specs.Answers.{HasPrintedTree, IsAnswerIn, IsUnitedTextAnswer, StopsShown}
use Rattle.wb_compose_texts.specs.declared.text_answer.TextAnswer.{TextAnswer}
use Rattle.wb_compose_texts.specs.declared.text_answer.TextAnswer.TheVariants as a
use Rattle.wb_compose_texts.specs.Names.{stop_shown, terminals_of}
use Rattle.wb_compose_texts.specs.Roots.{attributes_in}
use Rattle.wb_compose_texts.specs.Signatures.{signatures_of}
use Rattle.wb_compose_texts.specs.Unions.{IsLanguageOf, Union}
use Rattle.wb_reading.specs.Extends.{Extends}
use Rattle.wb_reading.specs.Laws.{ReadsAlike, further_kind}
use Rattle.wb_reading.specs.Markers.{IsPlain}
use Rattle.wb_reading.proofs.StopLemmas.{reads_alike}
use Rattle.wb_compose_texts.specs.HostReadings.{HasHostReading, HasLanguage}
use Rattle.wb_compose_texts.specs.UnionMarkers.{AreUnionMarkers, union_markers}
use Rattle.wb_compose_texts.proofs.ExtendsLemmas.{alone_with, language_in}
use Rattle.wb_compose_texts.proofs.OneReading.{plain_to}
use Rattle.wb_compose_texts.proofs.SameLanguage.{still}
use Rattle.wb_compose_texts.proofs.ShownLemmas.{printed_same, stop_same}
use Rattle.wb_compose_texts.proofs.UnionLemmas.{grammar_is, numbers, union_extends}

module _ (host : ResolvedParts) (operations : List OperationSignature) (extensions : List ResolvedParts)
    (differ : Differ (map name_in extensions)) (none : Union host operations []) (all : Union host operations extensions)
    (l u : LanguageView) (l_is : IsLanguageOf host operations [] none l) (u_is : IsLanguageOf host operations extensions all u)
    (markers : List Bool) (are : AreUnionMarkers host extensions markers) (text : List ℕ) (plain : IsPlain u markers text) where
  of_host : IsUnitedLanguage all.grammar host.extensible (lexicon_of host all.grammar) [] l
  of_host = language_in host operations [] (alone_with host operations extensions all) none l l_is.of_union

  pub both_extend : Extends l u (united_attribution (rows_of host all.grammar) []) (attributes_in host operations extensions all)
      (numbers host operations extensions differ all) markers
  both_extend = union_extends host operations extensions differ all l u of_host u_is.of_union markers are

  pub reads : ReadsAlike l u text
  reads = reads_alike l_is.language u_is.language both_extend.language text plain

  printed_there : (printed : List ℕ) → HasPrintedTree (terminals_of host []) (signatures_of host []) l text printed →
      HasPrintedTree (terminals_of host extensions) (signatures_of host extensions) u text printed
  printed_there printed has = record {
    root = has.root;
    parses = (reads.trees has.root).0 has.parses;
    value = has.value;
    shows = has.shows;
    is = has.is ∙ sym (printed_same host operations extensions all l.grammar u.grammar
        (grammar_is host operations extensions differ all l u of_host u_is.of_union markers are) u_is.of_union.grammar has.root
        has.parses.is_tree has.value has.shows);
  }

  pub stop_there : (place : ℕ) (shown : ShownStop) → StopsShown (terminals_of host []) (signatures_of host []) l text place shown →
      StopsShown (terminals_of host extensions) (signatures_of host extensions) u text place shown
  stop_there place shown has = record {
    kind = further_kind l.grammar u.grammar has.kind;
    stops = (reads.stops place has.kind).0 has.stops;
    is = has.is ∙ sym (stop_same host operations extensions all l.grammar u.grammar
        (grammar_is host operations extensions differ all l u of_host u_is.of_union markers are) u_is.of_union.grammar has.kind);
  }

  answer_in : (answer : TextAnswer) → IsAnswerIn (terminals_of host []) (signatures_of host []) l text answer →
      IsAnswerIn (terminals_of host extensions) (signatures_of host extensions) u text answer
  answer_in (a.Tree printed) (has, short) = (printed_there printed has, short)
  answer_in (a.Stopped place shown) has = stop_there place shown has
  answer_in a.TooLong has = record { printed = has.printed; has = printed_there has.printed has.has; long = has.long }

  printed_back : (printed : List ℕ) → HasPrintedTree (terminals_of host extensions) (signatures_of host extensions) u text printed →
      HasPrintedTree (terminals_of host []) (signatures_of host []) l text printed
  printed_back printed has =
      let parses = (reads.trees has.root).1 has.parses in
      record {
        root = has.root;
        parses = parses;
        value = has.value;
        shows = has.shows;
        is = has.is ∙ printed_same host operations extensions all l.grammar u.grammar
            (grammar_is host operations extensions differ all l u of_host u_is.of_union markers are) u_is.of_union.grammar has.root
            parses.is_tree has.value has.shows;
      }

  pub stop_back : (place : ℕ) (shown : ShownStop) →
      StopsShown (terminals_of host extensions) (signatures_of host extensions) u text place shown →
      StopsShown (terminals_of host []) (signatures_of host []) l text place shown
  stop_back place shown has =
      let (kind, kind_is, stops) = reads.no_others place has.kind has.stops in
      record {
        kind = kind;
        stops = stops;
        is = has.is ∙ (ap (stop_shown (terminals_of host extensions)) kind_is ∙
            stop_same host operations extensions all l.grammar u.grammar
            (grammar_is host operations extensions differ all l u of_host u_is.of_union markers are) u_is.of_union.grammar kind);
      }

  answer_out : (answer : TextAnswer) → IsAnswerIn (terminals_of host extensions) (signatures_of host extensions) u text answer →
      IsAnswerIn (terminals_of host []) (signatures_of host []) l text answer
  answer_out (a.Tree printed) (has, short) = (printed_back printed has, short)
  answer_out (a.Stopped place shown) has = stop_back place shown has
  answer_out a.TooLong has = record { printed = has.printed; has = printed_back has.printed has.has; long = has.long }

pub answer_there : (host : ResolvedParts) (operations : List OperationSignature) (extensions : List ResolvedParts) →
    Differ (map name_in extensions) → (text : List ℕ) → HasHostReading host operations extensions text → (answer : TextAnswer) →
    IsUnitedTextAnswer host operations [] text answer → IsUnitedTextAnswer host operations extensions text answer
answer_there host operations extensions differ text reading answer here = record {
  whole = reading.whole;
  language = reading.language;
  is_language = reading.is_language;
  is = answer_in host operations extensions differ here.whole reading.whole here.language reading.language here.is_language
      reading.is_language (union_markers host extensions) (λ t. (λ has. has, λ has. has)) text reading.plain answer here.is;
}

-- in each language of the host with the extensions a text has markers or none
pub plain_in : (host : ResolvedParts) (operations : List OperationSignature) (extensions : List ResolvedParts) (text : List ℕ) →
    HasHostReading host operations extensions text → (u : Union host operations extensions) (l : LanguageView) →
    IsLanguageOf host operations extensions u l → IsPlain l (union_markers host extensions) text
plain_in host operations extensions text reading u l is =
    plain_to host operations extensions extensions (λ k. k) (λ k. k) (still extensions) u reading.whole l reading.language is
    reading.is_language text reading.plain

-- the answer with extensions is the one without
pub answer_back : (host : ResolvedParts) (operations : List OperationSignature) (extensions : List ResolvedParts) →
    Differ (map name_in extensions) → (text : List ℕ) → HasHostReading host operations extensions text → HasLanguage host operations [] →
    (answer : TextAnswer) → IsUnitedTextAnswer host operations extensions text answer → IsUnitedTextAnswer host operations [] text answer
answer_back host operations extensions differ text reading alone answer there = record {
  whole = alone.whole;
  language = alone.language;
  is_language = alone.is_language;
  is = answer_out host operations extensions differ alone.whole there.whole alone.language there.language alone.is_language
      there.is_language (union_markers host extensions) (λ t. (λ has. has, λ has. has)) text
      (plain_in host operations extensions text reading there.whole there.language there.is_language) answer there.is;
}
