-- Two unions of one host with the same extensions are one, and their attributes are the same.
use Rattle.std.proofs.Common.{◌≡◌, ◌∙◌, [], ◌∷◌, ℕ, List, All, map, refl, sym, ap, subst}
use Rattle.std.proofs.lemmas.List.Elements.{All-head, All-tail}
use Rattle.std.proofs.lemmas.Option.{same_Some}
use Rattle.std.proofs.lemmas.Simd.{map-map}
use Rattle.wb_base.specs.Different.{Differ}
use Rattle.wb_base.specs.Grammar.{GrammarView}
use Rattle.wb_compose.specs.Attributes.{attributes_of}
use Rattle.wb_compose.proofs.LawLemmas.{is_attribution}
use Rattle.wb_compose.specs.Lexicons.{lexicon_of}
use Rattle.wb_compose.specs.Joined.{Extended}
use Rattle.wb_compose.specs.Written.{name_in, written_in}
use Rattle.wb_scan_theory.specs.Languages.{LanguageView}
use Rattle.wb_operations.specs.Operations.{OperationSignature}
use Rattle.wb_syntax_resolved.specs.Attribution.{IsAttribution}
use Rattle.wb_syntax_resolved.specs.declared.resolved.ResolvedParts.{ResolvedParts}
use Rattle.wb_eval_root.specs.Asked.{IsAskedOn}
use Rattle.wb_eval_root.proofs.PrintedNames.{one_attribute}
use Rattle.wb_compose.specs.Languages.{IsUnitedLanguage}
use Rattle.wb_compose_texts.specs.Unions.{IsLanguageOf, Union}
use Rattle.wb_compose_texts.proofs.AnswerLemmas.{Both, extended_is}
use Rattle.wb_compose_texts.specs.Roots.{HasOneRootAttribute, IsAskedIn, attributes_in}

-- extensions that are certified with the same host have one grammar each
all_extended : (host : ResolvedParts) (h : GrammarView) (operations : List OperationSignature) (xs ys : List Extended) →
    All (Both host h operations) xs → All (Both host h operations) ys →
    map (λ (e : Extended). e.resolved) xs ≡ map (λ (e : Extended). e.resolved) ys → xs ≡ ys
all_extended host h operations [] [] one two same = refl
all_extended host h operations [] (y ∷ ys) one two same =
    let whole : [] ≡ y.resolved ∷ map (λ (e : Extended). e.resolved) ys = same in absurd (cc)
all_extended host h operations (x ∷ xs) [] one two same =
    let whole : x.resolved ∷ map (λ (e : Extended). e.resolved) xs ≡ [] = same in absurd (cc)
all_extended host h operations (x ∷ xs) (y ∷ ys) one two same =
    let whole : x.resolved ∷ map (λ (e : Extended). e.resolved) xs ≡ y.resolved ∷ map (λ (e : Extended). e.resolved) ys = same in
    let first : x.resolved ≡ y.resolved = cc in
    let others : map (λ (e : Extended). e.resolved) xs ≡ map (λ (e : Extended). e.resolved) ys = cc in
    let head = extended_is host h operations x y (All-head (Both host h operations) x xs one) (All-head (Both host h operations) y ys two)
    first in
    let tail = all_extended host h operations xs ys (All-tail (Both host h operations) x xs one)
    (All-tail (Both host h operations) y ys two) others in
    λ j. head j ∷ tail j

module _ (host : ResolvedParts) (operations : List OperationSignature) (extensions : List ResolvedParts) where
  pub one_grammar : (u v : Union host operations extensions) → u.grammar ≡ v.grammar
  one_grammar u v = same_Some u.grammar v.grammar (sym u.certified.host_start ∙ v.certified.host_start)

  pub one_extended : (u v : Union host operations extensions) → u.extended ≡ v.extended
  one_extended u v =
      all_extended host u.grammar operations u.extended v.extended u.certified.each
      (subst (λ g. All (Both host g operations) v.extended) (sym (one_grammar u v)) v.certified.each)
      (u.extensions_are ∙ sym v.extensions_are)

  pub one_attribution : (u v : Union host operations extensions) →
      attributes_in host operations extensions u ≡ attributes_in host operations extensions v
  one_attribution u v = λ j. attributes_of host (one_grammar u v j) (one_extended u v j)

  pub asked_there : (u v : Union host operations extensions) (name : List ℕ) (attribute : ℕ) →
      IsAskedIn host operations extensions v name attribute → IsAskedIn host operations extensions u name attribute
  asked_there u v name attribute asked =
      subst (λ g. IsAskedOn (attributes_of host g u.extended) name g.start attribute) (sym (one_grammar u v))
      (subst (λ xs. IsAskedOn (attributes_of host v.grammar xs) name v.grammar.start attribute) (sym (one_extended u v)) asked)

  pub language_there : (u v : Union host operations extensions) (l : LanguageView) → IsLanguageOf host operations extensions v l →
      IsUnitedLanguage u.grammar host.extensible (lexicon_of host u.grammar) (written_in u.grammar u.extended) l
  language_there u v l is =
      subst (λ g. IsUnitedLanguage g host.extensible (lexicon_of host g) (written_in g u.extended) l) (sym (one_grammar u v))
      (subst (λ xs. IsUnitedLanguage v.grammar host.extensible (lexicon_of host v.grammar) (written_in v.grammar xs) l)
      (sym (one_extended u v)) is.of_union)

  module _ (differ : Differ (map name_in extensions)) where
    -- the attributes of the union are an attribution
    attributed : (u : Union host operations extensions) → IsAttribution (attributes_in host operations extensions u)
    attributed u =
        (is_attribution host u.grammar operations u.extended u.certified
        (subst Differ (ap (map name_in) (sym u.extensions_are) ∙ map-map name_in (λ (e : Extended). e.resolved) u.extended)
        differ)).attributes

    -- one attribute is asked by a name
    pub one_asked : (u v : Union host operations extensions) (name : List ℕ) (x y : ℕ) → IsAskedIn host operations extensions u name x →
        IsAskedIn host operations extensions v name y → x ≡ y
    one_asked u v name x y first second =
        one_attribute (attributes_in host operations extensions u) (attributed u) name x y first.named (asked_there u v name y second).named

    pub one_root : HasOneRootAttribute host operations extensions
    one_root = record {
      one = λ name x y first second. one_asked first.whole second.whole name x y first.asked second.asked;
      not_both = λ name x first second. second.none x (asked_there second.whole first.whole name x first.asked);
    }
