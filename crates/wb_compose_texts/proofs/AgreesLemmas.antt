-- The signatures of a union agree with its productions.
use Rattle.std.proofs.Common.{◌≡◌, ◌+◌, ◌-◌, ◌++◌, ◌∷◌, ◌∙◌, inl, inr, [], ℕ, List, Some, All, drop, length, map, slice_get, ap, refl, sym}
use Rattle.std.proofs.Common.{subst, arith}
use Rattle.std.proofs.lemmas.List.{length-drop, length-map, length-append}
use Rattle.std.proofs.lemmas.List.Elements.{All-head, All-tail}
use Rattle.std.proofs.lemmas.Option.{same_Some, slice_get_within}
use Rattle.std.specs.Prelude.{IfSome}
use Rattle.wb_base.specs.declared.symbol.Kind.TheVariants as kind
use Rattle.wb_base.specs.declared.symbol.Symbol.{Symbol}
use Rattle.wb_base.specs.declared.symbol.Symbol.TheVariants as symbol
use Rattle.wb_base.specs.Grammar.{GrammarView, Production}
use Rattle.wb_compose.specs.Kept.{AreCertifiedBoth}
use Rattle.wb_compose.specs.Joined.{Extended}
use Rattle.wb_compose.specs.Written.{written_in}
use Rattle.wb_scan_theory.specs.Shown.{AgreesWith, kind_of}
use Rattle.wb_lemmas.proofs.Places.{append_after, append_keeps, at_append, at_take, at_within}
use Rattle.wb_operations.specs.Operations.{OperationSignature}
use Rattle.wb_syntax_resolved.specs.declared.production.Child.{Child}
use Rattle.wb_syntax_resolved.specs.declared.production.ChildKind.{ChildKind}
use Rattle.wb_syntax_resolved.specs.declared.production.ChildKind.TheVariants as child
use Rattle.wb_syntax_resolved.specs.declared.resolved.ResolvedParts.{ResolvedParts}
use Rattle.wb_syntax_resolved.specs.Grammar.{IsGrammarOf, symbol_of}
use Rattle.wb_syntax_resolved.specs.Numbered.{signature_of, value_kind}
use Rattle.wb_syntax_resolved.specs.Resolved.{IsResolved}
use Rattle.wb_certify_shown.specs.Names.{productions_in}
use Rattle.wb_compose_theory.specs.Blocks.{lift}
use Rattle.wb_compose_theory.specs.Renamings.{Renaming, renamed}
use Rattle.wb_compose_theory_grammar.specs.Unions.{added_nonterminals, added_terminals, lifted_by, own_productions, productions_after}
use Rattle.wb_compose_theory_grammar.specs.Unions.{renamed_production}
use Rattle.wb_compose_theory_grammar.specs.UnitedWorlds.{grammars_of}
use Rattle.wb_compose_theory_grammar.proofs.FactLemmas.{at_map, map_at}
use Rattle.wb_compose_theory_grammar.proofs.ProductionLemmas.{drop_at}
use Rattle.wb_compose.specs.WrittenLanguages.{pieces_of}
use Rattle.wb_values.specs.Signature.{Signature}
use Rattle.wb_compose_texts.specs.Signatures.{added_count, added_signatures, grammar_signatures, kind_by, nonterminals_in, signature_by}
use Rattle.wb_compose_texts.specs.Signatures.{signatures_after, signatures_of}
use Rattle.wb_compose_texts.specs.Unions.{Union, united_of}
use Rattle.wb_compose_texts.proofs.NameLemmas.{resolved_in}
use Rattle.wb_compose_texts.proofs.TableLemmas.{signatures_len}

-- the signature is that of the production
record IsOf (s : Signature) (rule : Production) : Type 0 where
  left : s.left ≡ rule.0
  children : s.children ≡ map kind_of rule.1

-- there are as many, each of its production
record AreOf (ss : List Signature) (rules : List Production) : Type 0 where
  len : length ss ≡ length rules
  each : (p : ℕ) (rule : Production) → slice_get rules p ≡ Some rule → (s : Signature) × (slice_get ss p ≡ Some s) × IsOf s rule

of_none : AreOf [] []
of_none = record { len = refl; each = λ p rule at. absurd (let w = slice_get_within [] p rule at in omega (arith, w)) }

of_both : (ss us : List Signature) (rules others : List Production) → AreOf ss rules → AreOf us others →
    AreOf (ss ++ us) (rules ++ others)
of_both ss us rules others one two = record {
  len = length-append ss us ∙ ((λ z. one.len z + two.len z) ∙ sym (length-append rules others));
  each = λ p rule at. elim (at_append rules others rule p at) [
    | inl first ↦ let (s, there, is) = one.each p rule first in (s, append_keeps ss us p s there, is)
    | inr (j, place, second) ↦ let (s, there, is) = two.each j rule second in
        let len = one.len in
        let here : p ≡ length ss + j = omega (arith, place, len) in
        (s, ap (slice_get (ss ++ us)) here ∙ (append_after ss us j ∙ there), is)
  ];
}

of_rest : (n : ℕ) (ss : List Signature) (rules : List Production) → AreOf ss rules → AreOf (drop n ss) (drop n rules)
of_rest n ss rules all = record {
  len = length-drop n ss ∙ (ap (λ z. z - n) all.len ∙ sym (length-drop n rules));
  each = λ p rule at. let (s, there, is) = all.each (n + p) rule (sym (drop_at n p rules) ∙ at) in (s, drop_at n p ss ∙ there, is);
}

-- in new numbers
kind_there : (r : Renaming) (x : Symbol) → kind_by r.nonterminal (kind_of x) ≡ kind_of (renamed r x)
kind_there r (symbol.Terminal t) = refl
kind_there r (symbol.Nonterminal a) = refl

kinds_there : (r : Renaming) (xs : List Symbol) → map (kind_by r.nonterminal) (map kind_of xs) ≡ map kind_of (map (renamed r) xs)
kinds_there r [] = refl
kinds_there r (x ∷ xs) = λ z. kind_there r x z ∷ kinds_there r xs z

of_renamed : (r : Renaming) (ss : List Signature) (rules : List Production) → AreOf ss rules →
    AreOf (map (signature_by r.nonterminal) ss) (map (renamed_production r) rules)
of_renamed r ss rules all = record {
  len = length-map ss (signature_by r.nonterminal) ∙ (all.len ∙ sym (length-map rules (renamed_production r)));
  each = λ p rule at.
      let (plain, plain_at, rule_is) = map_at (renamed_production r) rules p rule at in
      let (s, there, is) = all.each p plain plain_at in (
        signature_by r.nonterminal s,
        at_map (signature_by r.nonterminal) ss p s there,
        record {
          left = ap r.nonterminal is.left ∙ sym (ap (λ (z : Production). z.0) rule_is);
          children = ap (map (kind_by r.nonterminal)) is.children ∙
              (kinds_there r plain.1 ∙ sym (ap (λ (z : Production). map kind_of z.1) rule_is));
        },
      );
}

-- the kinds of children are those of their symbols
kind_is : (k : ChildKind) (x : Symbol) → symbol_of k ≡ Some x → value_kind k ≡ kind_of x
kind_is (child.Terminal t) x e = ap kind_of (same_Some (symbol.Terminal t) x e)
kind_is (child.Value kind.Int) x e = absurd (cc e)
kind_is (child.Value kind.Bool) x e = absurd (cc e)
kind_is (child.Value kind.Text) x e = absurd (cc e)
kind_is (child.Value (kind.Tree a)) x e = ap kind_of (same_Some (symbol.Nonterminal a) x e)

kinds_are : (right : List Symbol) (children : List Child) →
    map (λ (s : Symbol). Some s) right ≡ map (λ (c : Child). symbol_of c.kind) children →
    map (λ (c : Child). value_kind c.kind) children ≡ map kind_of right
kinds_are [] [] e = refl
kinds_are [] (c ∷ children) e = absurd (cc e)
kinds_are (x ∷ right) [] e = absurd (cc e)
kinds_are (x ∷ right) (c ∷ children) e =
    let head : symbol_of c.kind ≡ Some x = cc in
    let rest : map (λ (s : Symbol). Some s) right ≡ map (λ (c : Child). symbol_of c.kind) children = cc in
    λ z. kind_is c.kind x head z ∷ kinds_are right children rest z

-- those of a grammar
of_grammar : (r : ResolvedParts) (g : GrammarView) → IsResolved r → r.grammar ≡ Some g → AreOf (grammar_signatures r) g.productions
of_grammar r g whole start = record { len = count; each = one }
  where
    count : length (grammar_signatures r) ≡ length g.productions
    count = signatures_len r whole ∙ ap productions_in start

    its : IsGrammarOf r g
    its = subst (λ k. IfSome k (IsGrammarOf r)) start whole.numbered.grammar

    one : (p : ℕ) (rule : Production) → slice_get g.productions p ≡ Some rule →
        (s : Signature) × (slice_get (grammar_signatures r) p ≡ Some s) × IsOf s rule
    one p rule at =
        let within = slice_get_within g.productions p rule at in
        let few = its.productions_len in
        let (row, row_at) = at_within r.attributes.productions p (omega (arith, within, few)) in
        let row_is = its.productions_are p row rule row_at at in
        let (s, there) = at_within (grammar_signatures r) p (omega (arith, within, count)) in
        let known : slice_get r.attributes.signatures p ≡ Some (signature_of r.attributes.extensions row) =
        ap (λ z. slice_get z p) whole.attributes.numbered.signatures ∙
        at_map (signature_of r.attributes.extensions) r.attributes.productions p row row_at in
        let same : s ≡ signature_of r.attributes.extensions row = same_Some s (signature_of r.attributes.extensions row)
        (sym (at_take r.attributes.signatures (productions_in r.grammar) p s there).1 ∙ known) in (
          s,
          there,
          record {
            left = ap (λ (z : Signature). z.left) same ∙ sym row_is.left;
            children = ap (λ (z : Signature). z.children) same ∙ kinds_are rule.1 row.children row_is.right;
          },
        )

module _ (host : ResolvedParts) (h : GrammarView) (operations : List OperationSignature) (start : host.grammar ≡ Some h) where
  abbrev Both : Extended → Type 0
  Both e = AreCertifiedBoth host e.resolved h e.grammar operations

  own_is : nonterminals_in host.grammar ≡ h.nonterminals
  own_is = ap nonterminals_in start

  first_is : productions_in host.grammar ≡ length h.productions
  first_is = ap productions_in start

  -- those that extensions add
  of_extensions : (t a : ℕ) (xs : List Extended) → All Both xs →
      AreOf (signatures_after host a (resolved_in xs))
      (productions_after h t a (grammars_of h host.extensible (pieces_of (written_in h xs))))
  of_extensions t a [] each = of_none
  of_extensions t a (e ∷ xs) each =
      let both = All-head Both e xs each in
      let own : AreOf (drop (length h.productions) (grammar_signatures e.resolved)) (own_productions h e.grammar) =
      of_rest (length h.productions) (grammar_signatures e.resolved) e.grammar.productions
      (of_grammar e.resolved e.grammar both.resolved both.start) in
      let mine = of_renamed (lifted_by h t a 0) (drop (length h.productions) (grammar_signatures e.resolved)) (own_productions h e.grammar)
      own in
      let there : map (signature_by (lift h.nonterminals a)) (drop (length h.productions) (grammar_signatures e.resolved))
      ≡ map (signature_by (lift (nonterminals_in host.grammar) a)) (added_signatures host e.resolved) =
      λ z. map (signature_by (lift (sym own_is z) a)) (drop (sym first_is z) (grammar_signatures e.resolved)) in
      let more : a + added_nonterminals h e.grammar ≡ a + added_count host e.resolved =
      λ z. a + (ap nonterminals_in (sym both.start) z - sym own_is z) in
      let rest = of_extensions (t + added_terminals h e.grammar) (a + added_nonterminals h e.grammar) xs (All-tail Both e xs each) in
      let rules = productions_after h (t + added_terminals h e.grammar) (a + added_nonterminals h e.grammar)
      (grammars_of h host.extensible (pieces_of (written_in h xs))) in
      of_both (map (signature_by (lift (nonterminals_in host.grammar) a)) (added_signatures host e.resolved))
      (signatures_after host (a + added_count host e.resolved) (resolved_in xs))
      (map (renamed_production (lifted_by h t a 0)) (own_productions h e.grammar)) rules
      (subst (λ ss. AreOf ss (map (renamed_production (lifted_by h t a 0)) (own_productions h e.grammar))) there mine)
      (subst (λ b. AreOf (signatures_after host b (resolved_in xs)) rules) more rest)

pub agrees : (host : ResolvedParts) (operations : List OperationSignature) (extensions : List ResolvedParts)
    (u : Union host operations extensions) → AgreesWith (signatures_of host extensions) (united_of host operations extensions u)
agrees host operations extensions u p a right rule =
    let all : AreOf (signatures_of host (resolved_in u.extended)) (united_of host operations extensions u).productions =
    of_both (grammar_signatures host) (signatures_after host 0 (resolved_in u.extended)) u.grammar.productions
    (productions_after u.grammar 0 0 (grammars_of u.grammar host.extensible (pieces_of (written_in u.grammar u.extended))))
    (of_grammar host u.grammar u.certified.host_resolved u.certified.host_start)
    (of_extensions host u.grammar operations u.certified.host_start 0 0 u.extended u.certified.each) in
    let (s, at, is) = all.each p (a, right) rule in
    (s, ap (λ rs. slice_get (signatures_of host rs) p) (sym u.extensions_are) ∙ at, is.left, is.children)
