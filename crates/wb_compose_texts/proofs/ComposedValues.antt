-- What comes of a text in the language that is composed of a host and extensions.
use Rattle.std.proofs.Common.{◌≡◌, ℕ, List, Result, IfOk, subst}
use Rattle.wb_compose.specs.Kept.{ExtensionView}
use Rattle.wb_compose.specs.United.{IsOfUnion}
use Rattle.wb_compose.specs.Hosts.{CertifiedView}
use Rattle.wb_compose.specs.Composed.{IsComposed}
use Rattle.wb_scan_theory.specs.Facts.{IsLanguage}
use Rattle.wb_scan_theory.specs.Languages.{LanguageView}
use Rattle.wb_operations.specs.Operations.{OperationSignature, Operations}
use Rattle.wb_session.specs.Parses.{FitsSignatures, IsParsed}
use Rattle.wb_session.specs.parsed.Parsed.{Parsed}
use Rattle.wb_syntax_resolved.specs.declared.attribution.AttributionParts.{AttributionParts}
use Rattle.wb_syntax_resolved.specs.declared.resolved.ResolvedParts.{ResolvedParts}
use Rattle.wb_compose_texts.specs.Names.{terminals_of}
use Rattle.wb_compose_texts.specs.Unions.{IsLanguageOf, Union, all_resolved}
use Rattle.wb_compose_texts.proofs.ComposedLemmas.{union_is}
use Rattle.wb_values.specs.Tree.{Tree}
use Rattle.wb_compose_texts.specs.Inner.Parsed.{ComesOf, MayBeAsked}
use Rattle.wb_compose_texts.specs.Roots.{IsRootAttribute}
use Rattle.wb_compose_texts.specs.Values.{IsTextValue}
use Rattle.wb_compose_texts.specs.declared.value.TextValue.{TextValue}
use Rattle.wb_compose_texts.proofs.ParsedLemmas.{may_be_asked, text_came}

-- what is known of a union over these operations
record Given (host : ResolvedParts) (extensions : List ResolvedParts) (l : LanguageView) (a : AttributionParts) (name : List ℕ)
    (attribute : ℕ) (operations : List OperationSignature) : Type 0 where
  whole : Union host operations extensions
  language : IsLanguageOf host operations extensions whole l
  of_union : IsOfUnion host operations extensions a
  root : IsRootAttribute host operations extensions name attribute

module _ (host : CertifiedView) (es : List ExtensionView) (l : LanguageView) (withdrawn : List ℕ)
    (composed : IsComposed host es l withdrawn) (a : AttributionParts)
    (of_union : IsOfUnion host.resolved host.operations (all_resolved es) a) (text : List ℕ) (store : List Tree) (p : Parsed)
    (is : IsParsed l text store p) where
  -- the attribute may be asked of what was parsed
  pub asked_of_text : FitsSignatures l store p → (attribute : ℕ)
      → (name : List ℕ) × IsRootAttribute host.resolved host.operations (all_resolved es) name attribute → MayBeAsked a store attribute p
  asked_of_text fits attribute (name, root) =
      may_be_asked host.resolved host.operations (all_resolved es) a of_union (union_is host es l withdrawn composed) l
      composed.language.grammar name attribute root text store p is fits

  -- what comes of it comes of the text
  pub text_answered : {E : Type 0} (operations : Operations) → host.operations ≡ operations.signatures → IsLanguage l
      → (attribute steps : ℕ) (x : Result TextValue E)
      → IfOk x (ComesOf a operations (terminals_of host.resolved (all_resolved es)) store attribute steps p) → (name : List ℕ)
      → IsRootAttribute host.resolved host.operations (all_resolved es) name attribute
      → IfOk x (IsTextValue host.resolved operations (all_resolved es) text name steps)
  text_answered operations same ok attribute steps x comes name root =
      let here : Given host.resolved (all_resolved es) l a name attribute host.operations = record {
        whole = union_is host es l withdrawn composed;
        language = record { of_union = composed.language; language = ok };
        of_union = of_union;
        root = root;
      } in
      let given = subst (Given host.resolved (all_resolved es) l a name attribute) same here in
      text_came host.resolved operations (all_resolved es) a given.of_union given.whole l given.language text name attribute steps
      given.root
      store p is x comes
