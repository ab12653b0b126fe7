-- The sample is an attribution, and a host with it is resolved.
use Rattle.std.proofs.Common.{◌≡◌, ◌<◌, ◌++◌, ℕ, zero, suc, List, [], ◌∷◌, Option, None, Some, All, map, slice_get, get_or, refl, sym, ap}
use Rattle.std.proofs.Common.{subst, ◌∙◌, inl, inr, arith}
use Rattle.std.specs.Prelude.{◌≢◌, IfSome, codes}
use Rattle.std.proofs.lemmas.List.Elements.{All-nil, All-cons}
use Rattle.wb_base.specs.Different.{Differ}
use Rattle.wb_base.specs.Grammar.{GrammarView}
use Rattle.wb_base.specs.Identifiers.{IsName}
use Rattle.wb_syntax_expressions.specs.declared.node.Node.TheVariants as n
use Rattle.wb_syntax_expressions.specs.Expression as x
use Rattle.wb_syntax_expressions.specs.Expression.{IsWhole}
use Rattle.wb_lemmas.proofs.Members.{contains_first}
use Rattle.wb_lemmas.proofs.Places.{at_one}
use Rattle.wb_syntax_resolved.specs.declared.attributes.Attribute.{Attribute}
use Rattle.wb_syntax_resolved.specs.declared.attributes.Direction.TheVariants.{Synthesized, Inherited}
use Rattle.wb_syntax_resolved.specs.declared.attributes.Nonterminal.{Nonterminal}
use Rattle.wb_syntax_resolved.specs.declared.attribution.AttributionParts.{AttributionParts}
use Rattle.wb_syntax_resolved.specs.declared.production.Production.{Production}
use Rattle.wb_syntax_resolved.specs.declared.production.ProductionRole.TheVariants.{Concrete}
use Rattle.wb_syntax_resolved.specs.declared.resolved.ResolvedParts.{ResolvedParts}
use Rattle.wb_syntax_resolved.specs.declared.terminal.Terminal.{Terminal}
use Rattle.wb_syntax_resolved.specs.declared.terminal.TerminalKind.TheVariants.{Ignore}
use Rattle.wb_syntax_resolved.specs.Attribution.{IsAttribution}
use Rattle.wb_syntax_resolved.specs.Expression.{Node}
use Rattle.wb_syntax_resolved.specs.Grammar.{IsOfGrammar, IsGrammarOf}
use Rattle.wb_syntax_resolved.specs.Named.{IsNamed, IsNamedNode, IsNamedExpression, IsNamedEquation, IsNamedChild, IsNamedLocal}
use Rattle.wb_syntax_resolved.specs.Named.{IsNamedProduction}
use Rattle.wb_syntax_resolved.specs.Named.{IsNamedNonterminal, IsNamedAttribute, IsNamedOccurrence}
use Rattle.wb_syntax_resolved.specs.Numbered.{IsNumbered, IsGrouped}
use Rattle.wb_syntax_resolved.specs.Once.{Entry, NamesDiffer, IsOnce, IsOnceIn, OccursOnce, symbol_names}
use Rattle.wb_syntax_resolved.specs.Owned.{IsOwned, IsOwnOccurrence, IsOpenTo, IsOwnEquation}
use Rattle.wb_syntax_resolved.specs.Resolved.{IsNamedTerminal, IsNamedPreference, HasGrammarTerminals, IsResolved}
use Rattle.wb_syntax_resolved.specs.Visible.{SeesNonterminal, SeesAttribute, SeesOccurrence}
use Rattle.wb_tests_values.specs.Inner.Empty.{no_parts}
use Rattle.wb_tests_values.specs.Inner.Sample.{nonterminal_n, attribute_v, v_on_n, equation_of, production_p, sample}
use Rattle.wb_tests_values.specs.Inner.Sample.{IsSampleNode}
use Rattle.wb_tests_values.proofs.NameLemmas.{n_name, v_name, p_name, frob_name}

-- one element is alone
one_differs : {X : Type 0} (y : X) → Differ (y ∷ [])
one_differs y z i j at there = (at_one y z i at).0 ∙ sym (at_one y z j there).0

one_grouped : {X : Type 0} (owner_of : X → ℕ) (IsLeading : ℕ → X → Type 0) (y : X) → IsGrouped owner_of IsLeading (y ∷ [])
one_grouped owner_of IsLeading y i j a b lt at there =
    let first = (at_one y a i at).0 in
    let second = (at_one y b j there).0 in
    absurd (omega (arith, lt, first, second))

one_all : {X : Type 0} (P : X → Type 0) (y : X) → P y → All P (y ∷ [])
one_all P y holds = All-cons P y [] holds (All-nil P)

-- the name of an entry that was read
name_of : (entry : Entry) (owner : ℕ) (name : List ℕ) → Some entry ≡ Some (owner, name) → entry.1 ≡ name
name_of entry owner name e = let same : entry ≡ (owner, name) = cc in ap (λ (z : Entry). z.1) same

-- the two names aren't one
n_isnt_p : (name : List ℕ) → codes "N" ≡ name → codes "p" ≡ name → ⊥
n_isnt_p name a b = let h : 78 ≡ 112 = ap (λ (z : List ℕ). get_or z 0 0) (a ∙ sym b) in omega (arith, h)

-- the names of the sample differ
names_differ : NamesDiffer ((0, codes "N") ∷ (0, codes "p") ∷ [])
names_differ zero zero owner other name at there sees = refl
names_differ zero (suc zero) owner other name at there sees =
    absurd (n_isnt_p name (name_of (0, codes "N") owner name at) (name_of (0, codes "p") other name there))
names_differ zero (suc (suc j)) owner other name at there sees = absurd (cc there)
names_differ (suc zero) zero owner other name at there sees =
    absurd (n_isnt_p name (name_of (0, codes "N") other name there) (name_of (0, codes "p") owner name at))
names_differ (suc zero) (suc zero) owner other name at there sees = refl
names_differ (suc zero) (suc (suc j)) owner other name at there sees = absurd (cc there)
names_differ (suc (suc i)) j owner other name at there sees = absurd (cc at)

one_name_differs : (name : List ℕ) → NamesDiffer ((0, name) ∷ [])
one_name_differs name i j owner other z at there sees = (at_one (0, name) (owner, z) i at).0 ∙ sym (at_one (0, name) (other, z) j there).0

module _ (node : Node) (is : IsSampleNode node) where
  -- v occurs on N and is synthesized
  v_seen : SeesOccurrence (sample node) 0 Synthesized 0 0
  v_seen = record {
    attribute = record { attribute = attribute_v; is = refl; goes = refl; seen = inl refl };
    occurrence = v_on_n;
    listed = contains_first v_on_n [];
    of_attribute = refl;
    on_nonterminal = refl;
    seen = inl refl;
  }

  n_seen : SeesNonterminal (sample node) 0 0
  n_seen = record { nonterminal = nonterminal_n; is = refl; seen = inl refl }

  named_node : IsNamedNode (sample node) (production_p node) 0 node
  named_node = named node is where
    named : (z : Node) → IsSampleNode z → IsNamedNode (sample node) (production_p node) 0 z
    named (n.Int z) ok = tt
    named (n.Bool truth) ok = tt
    named (n.Call operation arguments) ok = subst IsName (sym ok.1) frob_name
    named (n.Text text) ok = absurd ok
    named (n.Label label) ok = absurd ok
    named (n.Read label attribute) ok = absurd ok
    named (n.Lexeme label) ok = absurd ok
    named (n.Top attribute) ok = absurd ok
    named (n.Forward attribute) ok = absurd ok
    named (n.Build number children) ok = absurd ok
    named (n.If condition holds fails) ok = absurd ok

  whole_node : IsWhole (node ∷ [])
  whole_node = whole node is where
    whole : (z : Node) → IsSampleNode z → IsWhole (z ∷ [])
    whole (n.Int z) ok = (x.Int z, refl)
    whole (n.Bool truth) ok = (x.Truth truth, refl)
    whole (n.Call operation arguments) ok = (x.Call operation x.none, ap (λ z. n.Call operation z ∷ []) ok.0)
    whole (n.Text text) ok = absurd ok
    whole (n.Label label) ok = absurd ok
    whole (n.Read label attribute) ok = absurd ok
    whole (n.Lexeme label) ok = absurd ok
    whole (n.Top attribute) ok = absurd ok
    whole (n.Forward attribute) ok = absurd ok
    whole (n.Build number children) ok = absurd ok
    whole (n.If condition holds fails) ok = absurd ok

  named_equation : IsNamedEquation (sample node) (production_p node) (equation_of node)
  named_equation = record {
    owner = omega arith;
    there = inl refl;
    target = v_seen;
    value = record { whole = whole_node; named = one_all (IsNamedNode (sample node) (production_p node) 0) node named_node };
  }

  named_production : IsNamedProduction (sample node) (production_p node)
  named_production = record {
    owner = omega arith;
    name = p_name;
    left = n_seen;
    children = All-nil (IsNamedChild (sample node) (production_p node));
    locals = All-nil (IsNamedLocal (sample node) (production_p node));
    forward = tt;
    equations = one_all (IsNamedEquation (sample node) (production_p node)) (equation_of node) named_equation;
  }

  named_nonterminal : (k : ℕ) (r : Nonterminal) → slice_get (nonterminal_n ∷ []) k ≡ Some r → IsNamedNonterminal (sample node) k r
  named_nonterminal k r at = subst (IsNamedNonterminal (sample node) k) (at_one nonterminal_n r k at).1
      (record { owner = omega arith; name = n_name; needs = All-nil (λ i. SeesOccurrence (sample node) 0 Inherited i k) })

  pub is_sample : IsAttribution (sample node)
  is_sample = record {
    named = record {
      extensions = All-nil IsName;
      nonterminals = named_nonterminal;
      attributes = one_all (IsNamedAttribute (sample node)) attribute_v (record { owner = omega arith; name = v_name; is_kind = tt });
      occurrences = one_all (IsNamedOccurrence (sample node)) v_on_n (record {
        owner = omega arith;
        direction = Synthesized;
        attribute = v_seen.attribute;
        nonterminal = n_seen;
        needs = All-nil (λ i. SeesOccurrence (sample node) 0 Inherited i 0);
        inherited = λ e. refl;
      });
      productions = one_all (IsNamedProduction (sample node)) (production_p node) named_production;
    };
    owned = record {
      occurrences = one_all (IsOwnOccurrence (sample node)) v_on_n (inl refl);
      open_to = one_all (IsOpenTo (sample node)) v_on_n (λ shut. refl);
      equations = one_all (λ (p : Production). All (IsOwnEquation (sample node) p) p.equations) (production_p node)
          (one_all (IsOwnEquation (sample node) (production_p node)) (equation_of node) (inl refl));
    };
    once = record {
      extensions = λ z i j at there. absurd (cc at);
      symbols = names_differ;
      attributes = one_name_differs (codes "v");
      occurrences = λ i j r s at there e f. (at_one v_on_n r i at).0 ∙ sym (at_one v_on_n s j there).0;
      productions = one_all IsOnceIn (production_p node) (record {
        labels = λ i j owner other name at there sees. absurd (cc at);
        targets = one_differs (equation_of node).target;
      });
    };
    numbered = record {
      signatures = refl;
      productions = one_grouped (λ (r : Production). r.owner) (λ p r. r.role ≡ Concrete) (production_p node);
      attributes = one_grouped (λ (r : Attribute). r.owner) (λ p r. Unit {0}) attribute_v;
    };
  }

-- so attributes that are the sample's are an attribution
pub is_sampled : (a : AttributionParts) (node : Node) → IsSampleNode node → a ≡ sample node → IsAttribution a
is_sampled a node is same = subst IsAttribution (sym same) (is_sample node is)

-- attributes that declare nothing are an attribution
pub is_nothing : (a : AttributionParts) → a ≡ no_parts → IsAttribution a
is_nothing a same = subst IsAttribution (sym same) (record {
  named = record {
    extensions = All-nil IsName;
    nonterminals = λ k r at. absurd (cc at);
    attributes = All-nil (IsNamedAttribute no_parts);
    occurrences = All-nil (IsNamedOccurrence no_parts);
    productions = All-nil (IsNamedProduction no_parts);
  };
  owned = record {
    occurrences = All-nil (IsOwnOccurrence no_parts);
    open_to = All-nil (IsOpenTo no_parts);
    equations = All-nil (λ (p : Production). All (IsOwnEquation no_parts p) p.equations);
  };
  once = record {
    extensions = λ z i j at there. absurd (cc at);
    symbols = λ i j owner other name at there sees. absurd (cc at);
    attributes = λ i j owner other name at there sees. absurd (cc at);
    occurrences = λ i j r s at there e f. absurd (cc at);
    productions = All-nil IsOnceIn;
  };
  numbered = record {
    signatures = refl;
    productions = λ i j z y lt at there. absurd (cc at);
    attributes = λ i j z y lt at there. absurd (cc at);
  };
})

-- a list without elements has none
none_all : {X : Type 0} (P : X → Type 0) (xs : List X) → xs ≡ [] → All P xs
none_all P xs e = subst (All P) (sym e) (All-nil P)

none_differ : {X : Type 0} (xs : List X) → xs ≡ [] → Differ xs
none_differ xs e = subst Differ (sym e) (λ z i j at there. absurd (cc at))

none_grouped : {X : Type 0} (owner_of : X → ℕ) (IsLeading : ℕ → X → Type 0) (xs : List X) → xs ≡ [] → IsGrouped owner_of IsLeading xs
none_grouped owner_of IsLeading xs e = subst (IsGrouped owner_of IsLeading) (sym e) (λ i j z y lt at there. absurd (cc at))

-- what a host without terminals and start needs besides its attributes
pub record IsBare (r : ResolvedParts) : Type 0 where
  pub host : IsName r.host
  pub grammar : r.grammar ≡ None
  pub terminals : r.terminals ≡ []
  pub preferences : r.preferences ≡ []
  pub extensible : r.extensible ≡ []

module _ (r : ResolvedParts) (bare : IsBare r) (attributes : IsAttribution r.attributes) where
  bare_resolved : All (HasGrammarTerminals r) r.attributes.productions → NamesDiffer (symbol_names r.attributes)
      → IsGrouped (λ (m : Nonterminal). m.owner) (λ k m. IsOfGrammar r k) r.attributes.nonterminals → IsResolved r
  bare_resolved children symbols grouped = record {
    attributes = attributes;
    host = bare.host;
    terminals = none_all (IsNamedTerminal r) r.terminals bare.terminals;
    preferences = none_all (IsNamedPreference r) r.preferences bare.preferences;
    start = subst (λ (o : Option GrammarView). IfSome o (λ g. SeesNonterminal r.attributes 0 g.start)) (sym bare.grammar) tt;
    extensible = none_all (SeesNonterminal r.attributes 0) r.extensible bare.extensible;
    children = children;
    once = record {
      symbols = subst (λ (zs : List Terminal). NamesDiffer (map (λ (t : Terminal). (t.owner, t.name)) zs ++ symbol_names r.attributes))
          (sym bare.terminals) symbols;
      preferences = none_differ r.preferences bare.preferences;
      extensible = none_differ r.extensible bare.extensible;
    };
    numbered = record {
      terminals = none_grouped (λ (t : Terminal). t.owner) (λ k t. t.kind ≢ Ignore) r.terminals bare.terminals;
      nonterminals = grouped;
      grammar = subst (λ (o : Option GrammarView). IfSome o (IsGrammarOf r)) (sym bare.grammar) tt;
    };
  }

  -- a host that declares nothing is resolved
  pub nothing_resolved : r.attributes ≡ no_parts → IsResolved r
  nothing_resolved none =
      let ns = ap (λ (z : AttributionParts). z.nonterminals) none in
      let symbols : symbol_names r.attributes ≡ [] = ap symbol_names none in
      bare_resolved (none_all (HasGrammarTerminals r) r.attributes.productions (ap (λ (z : AttributionParts). z.productions) none))
      (subst NamesDiffer (sym symbols) (λ i j owner other name at there sees. absurd (cc at)))
      (none_grouped (λ (m : Nonterminal). m.owner) (λ k m. IsOfGrammar r k) r.attributes.nonterminals ns)

  -- and so is one with the sample's attributes
  pub sample_resolved : (node : Node) → r.attributes ≡ sample node → IsResolved r
  sample_resolved node same =
      bare_resolved
      (subst (λ (ps : List Production). All (HasGrammarTerminals r) ps) (sym (ap (λ (z : AttributionParts). z.productions) same))
      (one_all (HasGrammarTerminals r) (production_p node) (All-nil _)))
      (subst NamesDiffer (sym (ap symbol_names same)) names_differ)
      (subst (IsGrouped (λ (m : Nonterminal). m.owner) (λ k m. IsOfGrammar r k)) (sym (ap (λ (z : AttributionParts). z.nonterminals) same))
      (one_grouped (λ (m : Nonterminal). m.owner) (λ k m. IsOfGrammar r k) nonterminal_n))
