-- Grammars of a certified host and of certified extensions are those of their rows, so the united signatures agree with the united grammar.
use Rattle.std.proofs.Common.{◌≡◌, ◌∷◌, [], ℕ, zero, suc, List, Some, All, drop, take, length, map, slice_get, ap, refl, sym, arith}
use Rattle.std.specs.List.{AllZip}
use Rattle.std.proofs.lemmas.List.{length-drop, length-take-le}
use Rattle.std.proofs.lemmas.List.Elements.{All-head, All-tail}
use Rattle.wb_compose_theory_lists.specs.Hosts.{rows_of}
use Rattle.wb_base.specs.declared.symbol.Symbol.{Symbol}
use Rattle.wb_base.specs.declared.symbol.Symbol.TheVariants as symbol
use Rattle.wb_base.specs.Grammar.{GrammarView}
use Rattle.wb_certify.specs.Kept.{AreCertifiedBoth}
use Rattle.wb_compose.specs.Joined.{AreCertifiedApart, Extended}
use Rattle.wb_compose.specs.Written.{written_in}
use Rattle.wb_certify.proofs.InRange.{child_terminal, child_tree, grammar_of, in_range}
use Rattle.wb_compose.proofs.JoinedLemmas.{is_piece}
use Rattle.wb_scan_theory.specs.Shown.{AgreesWith, kind_of}
use Rattle.wb_lemmas.proofs.Places.{append_keeps, at_take}
use Rattle.wb_lemmas.proofs.Zips.{beside}
use Rattle.wb_compose_theory_lists.specs.Additions.{Addition, Rows}
use Rattle.wb_compose_theory_lists.specs.Grammars.{IsAddedGrammar, IsHostGrammar, IsUnionGrammar, leading_productions}
use Rattle.wb_compose_theory_lists.specs.United.{united_attribution, united_productions}
use Rattle.wb_compose_theory_lists.proofs.GrammarLemmas.{has_union_grammar}
use Rattle.wb_operations.specs.Operations.{OperationSignature}
use Rattle.wb_syntax_resolved.specs.declared.production.Child.{Child}
use Rattle.wb_syntax_resolved.specs.declared.production.ChildKind.{ChildKind}
use Rattle.wb_syntax_resolved.specs.declared.resolved.ResolvedParts.{ResolvedParts}
use Rattle.wb_syntax_resolved.specs.Grammar.{IsGrammarProduction, symbol_of}
use Rattle.wb_syntax_resolved.specs.Numbered.{signature_of, value_kind}
use Rattle.wb_syntax_resolved.specs.Resolved.{IsResolved}
use Rattle.wb_compose_theory_grammar.specs.UnitedWorlds.{grammars_of}
use Rattle.wb_compose_theory_grammar.proofs.FactLemmas.{at_map}
use Rattle.wb_compose_theory_language.specs.Written.{pieces_of}
use Rattle.wb_compose.specs.Agreement.{united_grammar}
use Rattle.wb_compose.specs.Attributes.{addition_of, additions_of, attributes_of}

-- lists of one length that are related place by place
zip_from : {A B : Type 0} (R : A → B → Type 0) (xs : List A) (ys : List B) → length xs ≡ length ys
    → ((i : ℕ) (x : A) (y : B) → slice_get xs i ≡ Some x → slice_get ys i ≡ Some y → R x y) → AllZip R xs ys
zip_from R [] [] long each = tt
zip_from R [] (y ∷ ys) long each = absurd (omega (arith, long))
zip_from R (x ∷ xs) [] long each = absurd (omega (arith, long))
zip_from R (x ∷ xs) (y ∷ ys) long each = (each 0 x y refl refl, zip_from R xs ys (omega (arith, long)) (λ i. each (suc i)))

-- what comes after so many of both
zip_rest : {A B : Type 0} (R : A → B → Type 0) (n : ℕ) (xs : List A) (ys : List B) → AllZip R xs ys → AllZip R (drop n xs) (drop n ys)
zip_rest R zero xs ys all = all
zip_rest R (suc n) [] [] all = tt
zip_rest R (suc n) [] (y ∷ ys) all = absurd all
zip_rest R (suc n) (x ∷ xs) [] all = absurd all
zip_rest R (suc n) (x ∷ xs) (y ∷ ys) all = zip_rest R n xs ys all.1

-- the kinds of children are those of their symbols
kind_is : (k : ChildKind) (x : Symbol) → symbol_of k ≡ Some x → value_kind k ≡ kind_of x
kind_is k (symbol.Terminal t) e = ap value_kind (child_terminal k t e)
kind_is k (symbol.Nonterminal a) e = ap value_kind (child_tree k a e)

kinds_are : (right : List Symbol) (children : List Child) →
    map (λ (s : Symbol). Some s) right ≡ map (λ (c : Child). symbol_of c.kind) children →
    map (λ (c : Child). value_kind c.kind) children ≡ map kind_of right
kinds_are [] [] e = refl
kinds_are [] (c ∷ children) e = absurd (cc e)
kinds_are (x ∷ right) [] e = absurd (cc e)
kinds_are (x ∷ right) (c ∷ children) e =
    let head : symbol_of c.kind ≡ Some x = cc in
    let rest : map (λ (s : Symbol). Some s) right ≡ map (λ (c : Child). symbol_of c.kind) children = cc in
    λ z. kind_is c.kind x head z ∷ kinds_are right children rest z

-- the grammar's productions lead in the union, so their signatures agree with it
signatures_agree : (host : Rows) (all : List Addition) (g : GrammarView) → IsUnionGrammar host all g →
    AgreesWith (united_attribution host all).signatures g
signatures_agree host all g is p a right rule =
    let found = beside IsGrammarProduction (leading_productions host all) g.productions p (a, right) is.productions rule in
    let at : slice_get (united_productions host all) p ≡ Some found.other =
    append_keeps _ _ p found.other (append_keeps (leading_productions host all) _ p found.other found.at) in
    let names = map (λ (x : Addition). x.name) all in (
      signature_of names found.other,
      at_map (signature_of names) (united_productions host all) p found.other at,
      sym found.related.left,
      kinds_are right found.other.children found.related.right,
    )

module _ (r : ResolvedParts) (k : GrammarView) (whole : IsResolved r) (start : r.grammar ≡ Some k) where
  -- the productions of a grammar lead in the attributes, and so do its nonterminals
  productions_lead : AllZip IsGrammarProduction (take (length k.productions) r.attributes.productions) k.productions
  productions_lead =
      let is = grammar_of r k whole start in
      zip_from IsGrammarProduction (take (length k.productions) r.attributes.productions) k.productions
      (length-take-le (length k.productions) r.attributes.productions is.productions_len) (λ p x y at there.
      is.productions_are p x y (at_take r.attributes.productions (length k.productions) p x at).1 there)

  nonterminals_lead : length (take k.nonterminals r.attributes.nonterminals) ≡ k.nonterminals
  nonterminals_lead =
      length-take-le k.nonterminals r.attributes.nonterminals (grammar_of r k whole start).nonterminals_len

module _ (host : ResolvedParts) (g : GrammarView) (operations : List OperationSignature) where
  abbrev Both : Extended → Type 0
  Both e = AreCertifiedBoth host e.resolved g e.grammar operations

  -- the grammar of the host
  of_host : IsResolved host → host.grammar ≡ Some g → IsHostGrammar (rows_of host g) g
  of_host whole start = record {
    is_grammar = in_range host g whole start;
    terminals = refl;
    nonterminals = sym (nonterminals_lead host g whole start);
    productions = productions_lead host g whole start;
  }

  -- that of the host with an extension
  of_extension : (e : Extended) → Both e → IsAddedGrammar g (addition_of host g e) e.grammar
  of_extension e both =
      let more = (is_piece host e.resolved g e.grammar operations both).extends in
      record {
        is_grammar = in_range e.resolved e.grammar both.resolved both.start;
        terminals = let le = more.terminals in omega (arith, le);
        nonterminals =
            let le = more.nonterminals in
            let lead = nonterminals_lead e.resolved e.grammar both.resolved both.start in
            let rest = length-drop g.nonterminals (take e.grammar.nonterminals e.resolved.attributes.nonterminals) in
            omega (arith, le, lead, rest);
        productions = zip_rest IsGrammarProduction (length g.productions)
            (take (length e.grammar.productions) e.resolved.attributes.productions) e.grammar.productions
            (productions_lead e.resolved e.grammar both.resolved both.start);
      }

  of_extensions : (extended : List Extended) → All Both extended →
      AllZip (IsAddedGrammar g) (additions_of host g extended) (grammars_of g host.extensible (pieces_of (written_in g extended)))
  of_extensions [] each = tt
  of_extensions (e ∷ rest) each = (of_extension e (All-head Both e rest each), of_extensions rest (All-tail Both e rest each))

  -- so the union's grammar is that of the rows
  pub has_united_grammar : (extended : List Extended) → AreCertifiedApart host g operations extended →
      IsUnionGrammar (rows_of host g) (additions_of host g extended) (united_grammar host g extended)
  has_united_grammar extended apart =
      has_union_grammar (rows_of host g) g (additions_of host g extended)
      (grammars_of g host.extensible (pieces_of (written_in g extended))) record { of_host = of_host apart.host_resolved apart.host_start; each = of_extensions extended apart.each }

  pub agrees : (extended : List Extended) → AreCertifiedApart host g operations extended →
      AgreesWith (attributes_of host g extended).signatures (united_grammar host g extended)
  agrees extended apart =
      signatures_agree (rows_of host g) (additions_of host g extended) (united_grammar host g extended) (has_united_grammar extended apart)
