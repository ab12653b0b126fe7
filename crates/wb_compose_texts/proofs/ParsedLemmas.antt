-- What comes of what a text was parsed to is what comes of the text.
use Rattle.std.proofs.Common.{◌≡◌, ◌∙◌, ℕ, List, Option, Some, None, MatchOption, Result, Ok, Err, IfOk, sym, ap, subst}
use Rattle.wb_flow_theory.specs.Modular.{EachProduction}
use Rattle.wb_flow_theory.specs.WellDefined.{IsWellDefinedProduction}
use Rattle.wb_base.specs.Grammar.{GrammarView}
use Rattle.wb_compose.specs.United.{IsOfUnion}
use Rattle.wb_eval_theory.specs.Evaluable.{IsAsked}
use Rattle.wb_compose.specs.Written.{written_in}
use Rattle.wb_scan_theory.specs.Languages.{LanguageView}
use Rattle.wb_scan_theory.specs.Shown.{AgreesWith}
use Rattle.wb_scan_theory.specs.Texts.{StopsAt}
use Rattle.wb_operations.specs.Operations.{OperationSignature, Operations}
use Rattle.wb_session.specs.Parses.{FitsSignatures, IsParsed}
use Rattle.wb_session.specs.parsed.Parsed.{Parsed}
use Rattle.wb_session.specs.parsed.Parsed.TheVariants as parsed
use Rattle.wb_syntax_resolved.specs.declared.attribution.AttributionParts.{AttributionParts}
use Rattle.wb_syntax_resolved.specs.declared.resolved.ResolvedParts.{ResolvedParts}
use Rattle.wb_eval_root.specs.Asked.{IsAskedOn}
use Rattle.wb_eval_root.specs.Values.{IsTreeValue}
use Rattle.wb_types.specs.Rules.{KindsOk}
use Rattle.wb_compose_theory_grammar.specs.UnitedWorlds.{united}
use Rattle.wb_compose.specs.WrittenLanguages.{pieces_of}
use Rattle.wb_compose_texts.specs.Names.{terminals_of}
use Rattle.wb_compose_texts.specs.Unions.{IsLanguageOf, Union, united_of}
use Rattle.wb_values.specs.Fits.{FitsTree}
use Rattle.wb_values.specs.Tree.{Tree}
use Rattle.wb_values.specs.ValuesIn.{tree_in}
use Rattle.wb_compose_texts.specs.Inner.Parsed.{ComesOf, MayBeAsked}
use Rattle.wb_compose_texts.specs.Roots.{HasNoRootAttribute, IsRootAttribute, attributes_in}
use Rattle.wb_compose_texts.specs.Values.{IsTextValue}
use Rattle.wb_compose_texts.specs.declared.value.TextValue.{TextValue}
use Rattle.wb_compose_texts.specs.declared.value.TextValue.TheVariants as answer
use Rattle.wb_compose_texts.proofs.OneUnion.{asked_there, one_attribution, one_extended, one_grammar}

module _ (host : ResolvedParts) (operations : List OperationSignature) (extensions : List ResolvedParts) (a : AttributionParts)
    (of_union : IsOfUnion host operations extensions a) where
  -- the union of which the attributes are
  abbrev its : Union host operations extensions
  its = record {
    grammar = of_union.grammar;
    extended = of_union.extended;
    extensions_are = of_union.extensions_are;
    certified = of_union.certified;
  }

  pub productions_here : EachProduction a (IsWellDefinedProduction a)
  productions_here =
      subst (λ b. EachProduction b (IsWellDefinedProduction b)) (sym of_union.are) of_union.of_union.well_defined.productions

  pub kinds_here : KindsOk a operations
  kinds_here = subst (λ b. KindsOk b operations) (sym of_union.are) of_union.of_union.kinds

  -- what is asked at the start of the union, and what isn't
  found : (name : List ℕ) (start : ℕ) → start ≡ of_union.grammar.start → (x : Option ℕ)
      → MatchOption x ((attribute : ℕ) → ¬ IsAskedOn a name start attribute) (IsAskedOn a name start)
      → MatchOption x (HasNoRootAttribute host operations extensions name) (IsRootAttribute host operations extensions name)
  found name start is None none = record {
    whole = its;
    none = λ attribute asked. none attribute (subst (λ b. IsAskedOn b name start attribute) (sym of_union.are)
        (subst (λ s. IsAskedOn (attributes_in host operations extensions its) name s attribute) (sym is) asked));
  }
  found name start is (Some attribute) asked = record {
    whole = its;
    asked = subst (λ s. IsAskedOn (attributes_in host operations extensions its) name s attribute) is
        (subst (λ b. IsAskedOn b name start attribute) of_union.are asked);
  }

  -- the same where memory may hinder
  pub root_found : {E : Type 0} (name : List ℕ) (start : ℕ) → ((g : GrammarView) → host.grammar ≡ Some g → start ≡ g.start)
      → (x : Result (Option ℕ) E)
      → IfOk x (λ r. MatchOption r ((attribute : ℕ) → ¬ IsAskedOn a name start attribute) (IsAskedOn a name start))
      → IfOk x (λ r. MatchOption r (HasNoRootAttribute host operations extensions name) (IsRootAttribute host operations extensions name))
  root_found name start is (Err error) asked = tt
  root_found name start is (Ok r) asked = found name start (is of_union.grammar of_union.certified.host_start) r asked

  module _ (v : Union host operations extensions) where
    -- in any union with these extensions
    is_there : a ≡ attributes_in host operations extensions v
    is_there = of_union.are ∙ one_attribution host operations extensions its v

    agrees_there : AgreesWith a.signatures (united_of host operations extensions v)
    agrees_there =
        subst (λ g. AgreesWith a.signatures (united g host.extensible (pieces_of (written_in g v.extended))))
        (one_grammar host operations extensions its v)
        (subst (λ xs. AgreesWith a.signatures (united of_union.grammar host.extensible (pieces_of (written_in of_union.grammar xs))))
        (one_extended host operations extensions its v) of_union.agrees)

    asked_of : (top : Tree) → FitsTree a.signatures top v.grammar.start → (name : List ℕ) (attribute : ℕ)
        → IsRootAttribute host operations extensions name attribute → IsAsked a top attribute
    asked_of top fits name attribute root =
        let asked : IsAskedOn a name v.grammar.start attribute =
        subst (λ b. IsAskedOn b name v.grammar.start attribute) (sym is_there)
        (asked_there host operations extensions v root.whole name attribute root.asked) in
        record { nonterminal = v.grammar.start; fits = fits; occurs = asked.occurs; needs_nothing = asked.needs_nothing }

    -- the attribute may be asked of the tree of a text
    pub may_be_asked : (l : LanguageView) → l.grammar ≡ united_of host operations extensions v → (name : List ℕ) (attribute : ℕ)
        → IsRootAttribute host operations extensions name attribute → (text : List ℕ) (store : List Tree) (p : Parsed)
        → IsParsed l text store p → FitsSignatures l store p → MayBeAsked a store attribute p
    may_be_asked l is name attribute root text store (parsed.Stopped at kind) was fits = tt
    may_be_asked l is name attribute root text store (parsed.Tree id) was fits =
        let agrees = subst (AgreesWith a.signatures) (sym is) agrees_there in
        let start : l.grammar.start ≡ v.grammar.start = ap (λ (g : GrammarView). g.start) is in (
          was.held,
          asked_of (tree_in store id.0)
              (subst (FitsTree a.signatures (tree_in store id.0)) start (fits a.signatures agrees)) name attribute root,
        )

module _ (host : ResolvedParts) (operations : Operations) (extensions : List ResolvedParts) (a : AttributionParts)
    (of_union : IsOfUnion host operations.signatures extensions a) (v : Union host operations.signatures extensions) (l : LanguageView)
    (language : IsLanguageOf host operations.signatures extensions v l) (text name : List ℕ) (attribute steps : ℕ)
    (root : IsRootAttribute host operations.signatures extensions name attribute) (store : List Tree) where
  came : (p : Parsed) → IsParsed l text store p → (x : TextValue)
      → ComesOf a operations (terminals_of host extensions) store attribute steps p x
      → IsTextValue host operations extensions text name steps x
  came (parsed.Tree id) is (answer.Tree value) comes = record {
    whole = v;
    language = l;
    is_language = language;
    is = record {
      root = is.tree;
      parses = is.parses;
      top = tree_in store id.0;
      shows = is.shows;
      attribute = attribute;
      asked = asked_there host operations.signatures extensions v root.whole name attribute root.asked;
      is = subst (λ (b : AttributionParts). IsTreeValue b operations (tree_in store id.0) attribute steps value)
          (is_there host operations.signatures extensions a of_union v) comes;
    };
  }
  came (parsed.Tree id) is (answer.Stopped place shown) comes = absurd comes
  came (parsed.Stopped at kind) is (answer.Tree value) comes = absurd comes
  came (parsed.Stopped at kind) is (answer.Stopped place shown) comes = record {
    whole = v;
    language = l;
    is_language = language;
    is = record { kind = kind; stops = subst (λ z. StopsAt l text z kind) (sym comes.0) is; is = comes.1 };
  }

  -- what comes of it, where memory may hinder
  pub text_came : {E : Type 0} (p : Parsed) → IsParsed l text store p → (x : Result TextValue E)
      → IfOk x (ComesOf a operations (terminals_of host extensions) store attribute steps p)
      → IfOk x (IsTextValue host operations extensions text name steps)
  text_came p is (Err error) comes = tt
  text_came p is (Ok x) comes = came p is x comes
