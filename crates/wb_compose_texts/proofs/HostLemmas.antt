-- What a text is in the language of a host by itself it is in the union of the host and no extensions.
use Rattle.std.proofs.Common.{◌≡◌, ◌<◌, ◌∙◌, [], ◌∷◌, ℕ, zero, suc, List, Some, length, take, refl, sym, ap, subst, arith}
use Rattle.std.specs.Prelude.{◌↔◌}
use Rattle.std.proofs.lemmas.List.{append-nil}
use Rattle.std.proofs.lemmas.Option.{same_Some, slice_get_within}
use Rattle.wb_base.specs.Grammar.{GrammarView}
use Rattle.wb_compose.specs.Hosts.{CertifiedView, IsCertified}
use Rattle.wb_compose.specs.Considered.{LexiconView}
use Rattle.wb_compose.specs.Lexicons.{lexicon_of}
use Rattle.wb_grammar_theory.specs.Trees.{Forest}
use Rattle.wb_scan_theory.specs.declared.stop_kind.StopKind.{StopKind}
use Rattle.wb_scan_theory.specs.Facts.{IsLanguage}
use Rattle.wb_scan_theory.specs.Languages.{LanguageView}
use Rattle.wb_scan_theory.specs.Shown.{Shows}
use Rattle.wb_scan_theory.specs.Texts.{ParsesTo, StopsAt}
use Rattle.wb_operations.specs.Operations.{OperationSignature}
use Rattle.wb_syntax_resolved.specs.declared.resolved.ResolvedParts.{ResolvedParts}
use Rattle.wb_terms.specs.Printed.{name_of, printed_tree}
use Rattle.wb_values.specs.Signature.{Signature}
use Rattle.wb_values.specs.Tree.{Tree}
use Rattle.wb_certify_shown.specs.Names.{grammar_terminals, productions_in}
use Rattle.wb_compose_theory.specs.Renamings.{Renaming}
use Rattle.wb_compose_theory_grammar.specs.Pieces.{ArePieces}
use Rattle.wb_compose.specs.Languages.{IsUnitedLanguage}
use Rattle.wb_reading.specs.OrderedAnswers.{renamed_forest}
use Rattle.wb_reading.specs.OrderLaws.{HasSameNames}
use Rattle.wb_reading.proofs.OrderedLanguageLemmas.{same_language}
use Rattle.wb_reading.proofs.OrderedPrintedLemmas.{printed_alike}
use Rattle.wb_compose.specs.Composed.{IsComposed}
use Rattle.wb_compose.specs.HostLanguage.{host_language}
use Rattle.wb_compose.specs.Joined.{AreCertifiedApart, Extended}
use Rattle.wb_compose.specs.Written.{written_in}
use Rattle.wb_compose.proofs.HostLanguageLemmas.{apart_alone, none_extended, of_none}
use Rattle.wb_compose.proofs.WrittenApart.{all_certified}
use Rattle.wb_compose_texts.specs.declared.text_answer.TextAnswer.{TextAnswer}
use Rattle.wb_compose_texts.specs.declared.text_answer.TextAnswer.TheVariants as a
use Rattle.wb_compose_texts.specs.Answers.{HasPrintedTree, IsAnswerIn, IsUnitedTextAnswer}
use Rattle.wb_compose_texts.specs.HostTexts.{HaveSameTexts, IsHostTextAnswer}
use Rattle.wb_compose_texts.specs.Names.{stop_shown, terminals_of}
use Rattle.wb_compose_texts.specs.Signatures.{grammar_signatures, signatures_of}
use Rattle.wb_compose_texts.specs.Unions.{Union}
use Rattle.wb_compose_texts.proofs.NameLemmas.{resolved_in}
use Rattle.wb_compose_texts.proofs.SameLanguage.{same_forest, still, stops_there, trees_there}

-- without extensions the names are the host's
pub names_alone : (host : ResolvedParts) → terminals_of host [] ≡ grammar_terminals host
names_alone host = append-nil (grammar_terminals host)

-- answers in one language are answers in another, with the same trees, stops and names
module _ (names others : List (List ℕ)) (named : names ≡ others) (signatures also : List Signature) (l m : LanguageView)
    (trees : (text : List ℕ) (tree : Forest) → ParsesTo l text tree → ParsesTo m text tree)
    (stops : (text : List ℕ) (place : ℕ) (kind : StopKind) → StopsAt l text place kind → StopsAt m text place kind)
    (printed : (text : List ℕ) (tree : Forest) → ParsesTo l text tree → (value : Tree) → Shows value tree
    → printed_tree signatures value ≡ printed_tree also value) (text : List ℕ) where
  tree_there : (p : List ℕ) → HasPrintedTree names signatures l text p → HasPrintedTree others also m text p
  tree_there p has = record {
    root = has.root;
    parses = trees text has.root has.parses;
    value = has.value;
    shows = has.shows;
    is = has.is ∙ printed text has.root has.parses has.value has.shows;
  }

  answer_there : (x : TextAnswer) → IsAnswerIn names signatures l text x → IsAnswerIn others also m text x
  answer_there (a.Tree p) is = (tree_there p is.0, is.1)
  answer_there (a.Stopped place shown) is =
      record { kind = is.kind; stops = stops text place is.kind is.stops; is = is.is ∙ ap (λ z. stop_shown z is.kind) named }
  answer_there a.TooLong is = record { printed = is.printed; has = tree_there is.printed is.has; long = is.long }

-- the first names of a list are those of its part
name_take : (n p : ℕ) (xs : List Signature) → p < n → name_of (take n xs) p ≡ name_of xs p
name_take zero p xs below = absurd (omega (arith, below))
name_take (suc n) p [] below = refl
name_take (suc n) zero (s ∷ xs) below = refl
name_take (suc n) (suc p) (s ∷ xs) below = name_take n p xs (omega (arith, below))

module _ (host : ResolvedParts) (g : GrammarView) (operations : List OperationSignature)
    (apart : AreCertifiedApart host g operations []) where
  abbrev plain : LanguageView
  plain = host_language host g

  abbrev own : LexiconView
  own = lexicon_of host g

  plain_is : IsUnitedLanguage g host.extensible own [] plain
  plain_is = of_none host g apart.host_resolved apart.host_start

  pieces : ArePieces g host.extensible []
  pieces = (all_certified host g operations [] apart).are_pieces

  -- productions of the grammar have the same names
  abbrev in_place : Renaming
  in_place = record { terminal = λ t. t; nonterminal = λ b. b; production = λ p. p }

  named_alike : HasSameNames in_place g host.attributes.signatures (signatures_of host [])
  named_alike p b right rule =
      let within = slice_get_within g.productions p (b, right) rule in
      let count : productions_in host.grammar ≡ length g.productions = ap productions_in apart.host_start in
      ap (λ xs. name_of xs p) (append-nil (grammar_signatures host))
      ∙ name_take (productions_in host.grammar) p host.attributes.signatures (omega (arith, within, count))

  -- so its trees are printed alike
  printed_there : (text : List ℕ) (tree : Forest) → ParsesTo plain text tree → (value : Tree) → Shows value tree
      → printed_tree host.attributes.signatures value ≡ printed_tree (signatures_of host []) value
  printed_there text tree parses value shows =
      let same : renamed_forest in_place tree ≡ tree = same_forest in_place (λ t. refl) (λ b. refl) (λ p. refl) tree in
      sym (printed_alike in_place g host.attributes.signatures (signatures_of host []) named_alike tree parses.is_tree value value shows
      (subst (Shows value) (sym same) shows))

  module _ (l : LanguageView) (is : IsUnitedLanguage g host.extensible own [] l) where
    -- a language of the union of no extensions has the trees and stops of the host's own
    pub same_alone : HaveSameTexts plain l
    same_alone = record {
      trees = λ text tree. (
        trees_there g host.extensible own [] pieces plain l plain_is is text tree,
        trees_there g host.extensible own [] pieces l plain is plain_is text tree,
      );
      stops = λ text place kind. (
        stops_there g host.extensible own [] pieces plain l plain_is is text place kind,
        stops_there g host.extensible own [] pieces l plain is plain_is text place kind,
      );
    }

    -- and texts are parsed in both or in neither
    language_alone : IsLanguage l → IsLanguage plain
    language_alone = (same_language g host.extensible own [] [] (λ k. k) (λ k. k) pieces (still []) plain l plain_is is).1

    answer_back : (text : List ℕ) (x : TextAnswer) → IsAnswerIn (terminals_of host []) (signatures_of host []) l text x
        → IsAnswerIn (grammar_terminals host) host.attributes.signatures plain text x
    answer_back = answer_there (terminals_of host []) (grammar_terminals host) (names_alone host) (signatures_of host [])
        host.attributes.signatures l plain (λ text tree. (same_alone.trees text tree).1)
        (λ text place kind. (same_alone.stops text place kind).1)
        (λ text tree parses value shows.
        sym (printed_there text tree ((same_alone.trees text tree).1 parses) value shows))

    pub host_answer : IsLanguage l → (text : List ℕ) (x : TextAnswer)
        → IsAnswerIn (terminals_of host []) (signatures_of host []) l text x → IsHostTextAnswer host g text x
    host_answer ok text x is_answer = record { language = language_alone ok; is = answer_back text x is_answer }

  -- an answer in the host's own language is one of the union
  pub united_answer : (text : List ℕ) (x : TextAnswer) → IsHostTextAnswer host g text x → IsUnitedTextAnswer host operations [] text x
  united_answer text x answer = record {
    whole = record { grammar = g; extended = []; extensions_are = refl; certified = apart };
    language = plain;
    is_language = record { of_union = plain_is; language = answer.language };
    is = answer_there (grammar_terminals host) (terminals_of host []) (sym (names_alone host)) host.attributes.signatures
        (signatures_of host []) plain plain (λ text tree parses. parses) (λ text place kind stops. stops) printed_there text x answer.is;
  }

-- nothing resolved is of no extensions
none_resolved : (xs : List Extended) → resolved_in xs ≡ [] → xs ≡ []
none_resolved [] same = refl
none_resolved (x ∷ xs) same = absurd (cc same)

-- what is composed of a host and no extensions has the trees and stops of its own language
pub same_texts : (host : CertifiedView) (g : GrammarView) (l : LanguageView) (withdrawn : List ℕ) → host.resolved.grammar ≡ Some g
    → IsComposed host [] l withdrawn → HaveSameTexts (host_language host.resolved g) l
same_texts host g l withdrawn start composed =
    subst (λ z. HaveSameTexts (host_language host.resolved z) l) grammars
    (same_alone host.resolved composed.grammar host.operations apart l language)
  where
    grammars : composed.grammar ≡ g
    grammars = same_Some composed.grammar g (sym composed.start ∙ start)

    nothing_added : composed.extended ≡ []
    nothing_added = none_extended composed.extended composed.each

    apart : AreCertifiedApart host.resolved composed.grammar host.operations []
    apart = subst (AreCertifiedApart host.resolved composed.grammar host.operations) nothing_added composed.certified

    language : IsUnitedLanguage composed.grammar host.resolved.extensible (lexicon_of host.resolved composed.grammar) [] l
    language = subst (λ xs. IsUnitedLanguage composed.grammar host.resolved.extensible (lexicon_of host.resolved composed.grammar)
        (written_in composed.grammar xs) l) nothing_added composed.language

-- an answer in the union is one in the host's own language
answer_alone : (host : ResolvedParts) (g : GrammarView) (operations : List OperationSignature) → AreCertifiedApart host g operations []
    → (text : List ℕ) (x : TextAnswer) → IsUnitedTextAnswer host operations [] text x → IsHostTextAnswer host g text x
answer_alone host g operations apart text x answer =
    host_answer host g operations apart answer.language language answer.is_language.language text x answer.is
  where
    u : Union host operations []
    u = answer.whole

    grammars : u.grammar ≡ g
    grammars = same_Some u.grammar g (sym u.certified.host_start ∙ apart.host_start)

    language : IsUnitedLanguage g host.extensible (lexicon_of host g) [] answer.language
    language = subst (λ xs. IsUnitedLanguage g host.extensible (lexicon_of host g) (written_in g xs) answer.language)
        (none_resolved u.extended u.extensions_are)
        (subst (λ z. IsUnitedLanguage z host.extensible (lexicon_of host z) (written_in z u.extended) answer.language) grammars
        answer.is_language.of_union)

-- a text has the same answers in both
pub same_answers : (host : CertifiedView) (g : GrammarView) → IsCertified host → host.resolved.grammar ≡ Some g → (text : List ℕ)
    (x : TextAnswer) → IsHostTextAnswer host.resolved g text x ↔ IsUnitedTextAnswer host.resolved host.operations [] text x
same_answers host g is start text x =
    let apart = apart_alone host g is start in (
      united_answer host.resolved g host.operations apart text x,
      answer_alone host.resolved g host.operations apart text x,
    )
