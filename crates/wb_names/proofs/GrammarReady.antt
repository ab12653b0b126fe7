-- Where a file's rows have a start, the first rows are those of a grammar.
use Rattle.std.proofs.Common.{◌≡◌, ◌<◌, ◌≤◌, ◌++◌, inl, inr, ℕ, Option, Some, None, All, Contains, length, map, take}
use Rattle.std.proofs.Common.{ap, refl, subst, arith, length-append}
use Rattle.std.specs.Prelude.{IfSome, IsSome, option_map}
use Rattle.wb_lemmas.proofs.Elements.{all_contained, all_from_contained, all_from_places}
use Rattle.std.proofs.lemmas.Slice.Zip.{AllZip-long}
use Rattle.wb_base.specs.declared.symbol.Kind.TheVariants as kind
use Rattle.wb_base.specs.declared.symbol.Symbol.TheVariants as symbol
use Rattle.wb_base.specs.Grammar.{GrammarView}
use Rattle.wb_syntax_resolved.specs.declared.production.Child.{Child}
use Rattle.wb_syntax_resolved.specs.declared.production.ChildKind.{ChildKind}
use Rattle.wb_syntax_resolved.specs.declared.production.ChildKind.TheVariants as child
use Rattle.wb_syntax_resolved.specs.declared.production.Production.{Production}
use Rattle.wb_syntax_resolved.specs.declared.resolved.ResolvedParts.{ResolvedParts}
use Rattle.wb_syntax_resolved.specs.Grammar.{symbol_of, IsGrammarOf, IsIn}
use Rattle.wb_syntax_resolved.specs.Resolved.{HasGrammarTerminals, IsResolved, IsTerminalChild}
use Rattle.wb_names_theory.specs.Hold.{NamesHold}
use Rattle.wb_names_numbers_theory.specs.Files.{File}
use Rattle.wb_names_numbers_theory.specs.Given.{IsFile}
use Rattle.wb_names_numbers_theory.proofs.AllResolved.{gives_resolved}
use Rattle.wb_names_numbers_theory.proofs.RowLemmas.{map_contains}
use Rattle.wb_names_rows.specs.Grammars.{IsGrammarLike, IsSymbolChild}
use Rattle.wb_names.specs.Resolving.{file_scope}
use Rattle.wb_names.specs.Inner.Joined.{Rows}
use Rattle.wb_names.specs.Inner.Now.{IsProductionNow}
use Rattle.wb_names.specs.Inner.Value.{AreRows, HasGrammar, value_of}
use Rattle.wb_names.proofs.GrammarRows.{IsConcreteRow, IsSymbol, concrete_row, plain_for, plain_grammar}
use Rattle.wb_names.proofs.RowsResolve.{rows_resolve}

-- a child that is a symbol, whose number is below the counts
symbol_child : (t u : ℕ) (c : Child) (is : ChildKind) → c.kind ≡ is → IsSome (symbol_of is)
    → ((number : ℕ) → is ≡ child.Terminal number → number < t) → ((number : ℕ) → is ≡ child.Value (kind.Tree number) → number < u)
    → IsSymbolChild t u c
symbol_child t u c (child.Terminal number) e some a b =
    record { symbol = symbol.Terminal number; is = ap symbol_of e; below = a number refl }
symbol_child t u c (child.Value (kind.Tree number)) e some a b =
    record { symbol = symbol.Nonterminal number; is = ap symbol_of e; below = b number refl }
symbol_child t u c (child.Value kind.Int) e some a b = absurd (cc some)
symbol_child t u c (child.Value kind.Bool) e some a b = absurd (cc some)
symbol_child t u c (child.Value kind.Text) e some a b = absurd (cc some)

module _ (file : File) (given : IsFile file) {format : ℕ} (hold : NamesHold (file_scope format file)) (rows : Rows)
    (are : AreRows file rows) where
  symbols : All (λ (p : Production). All IsSymbol p.children) (take rows.concrete rows.productions)
  symbols = all_from_places (λ (p : Production). All IsSymbol p.children) (take rows.concrete rows.productions)
      (λ i p at. (concrete_row file given hold rows are i p at).symbols)

  abbrev r : ResolvedParts
  r = value_of file rows (option_map (plain_grammar rows) rows.rest.start)

  -- with this grammar the value is resolved
  pub plain_resolved : IsResolved r
  plain_resolved =
      gives_resolved file r given format hold
      (rows_resolve file given hold rows are (option_map (plain_grammar rows) rows.rest.start) (plain_for rows symbols))

  module _ (start : ℕ) (begins : rows.rest.start ≡ Some start) where
    abbrev g : GrammarView
    g = plain_grammar rows start

    grammar_is : r.grammar ≡ Some g
    grammar_is = ap (option_map (plain_grammar rows)) begins

    of : IsGrammarOf r g
    of = subst (λ (o : Option GrammarView). IfSome o (IsGrammarOf r)) grammar_is plain_resolved.numbered.grammar

    -- nonterminals in concrete rows, and terminals
    below : (p : Production) → IsConcreteRow file given hold rows are p → (k : ℕ) → IsIn p k → k < rows.of_grammar
    below p is k inside =
        (of.nonterminals k).1 (inr (inr (record { production = p; listed = is.listed; concrete = is.role; occurs = inside })))

    scanned : (p : Production) → IsConcreteRow file given hold rows are p → (c : Child) → Contains p.children c → (number : ℕ)
        → c.kind ≡ child.Terminal number → number < rows.scanned
    scanned p is c has number e =
        let all = all_contained (HasGrammarTerminals r) r.attributes.productions p plain_resolved.children is.listed in
        let one = all_contained (λ (x : Child). (j : ℕ) → x.kind ≡ child.Terminal j → IsTerminalChild r p.owner j) p.children c all has
        number
        e in
        (of.terminals number one.terminal one.is).1 one.plain

    like : (p : Production) → IsConcreteRow file given hold rows are p → IsGrammarLike rows.scanned rows.of_grammar p
    like p is = record {
      left = below p is p.left (inl refl);
      children = all_from_contained (IsSymbolChild rows.scanned rows.of_grammar) p.children (λ c has.
          symbol_child rows.scanned rows.of_grammar c c.kind refl (all_contained IsSymbol p.children c is.symbols has)
          (λ number e. scanned p is c has number e)
          (λ number e. below p is number (inr (subst (Contains (map (λ (x : Child). x.kind) p.children)) e
          (map_contains (λ (x : Child). x.kind) p.children c has)))));
    }

    concrete_fits : rows.concrete ≤ length rows.productions
    concrete_fits =
        let grouped = are.written.productions.0 in
        let a = AllZip-long (IsProductionNow file are.scope are.moves) (grouped.leading ++ grouped.following)
        rows.productions grouped.are_rows in
        let b = length-append grouped.leading grouped.following in
        omega (arith, a, b, are.written.productions.1)

    has_grammar : HasGrammar rows.scanned rows.of_grammar rows.concrete rows.productions start
    has_grammar = record {
      begins = (of.nonterminals start).1 (inl (ap (option_map (λ (x : GrammarView). x.start)) grammar_is));
      concrete = concrete_fits;
      productions = all_from_places (IsGrammarLike rows.scanned rows.of_grammar) (take rows.concrete rows.productions)
          (λ i p at. like p (concrete_row file given hold rows are i p at));
    }

  -- where there is a start
  pub grammar_ready : (o : Option ℕ) → rows.rest.start ≡ o
      → IfSome o (HasGrammar rows.scanned rows.of_grammar rows.concrete rows.productions)
  grammar_ready None e = tt
  grammar_ready (Some start) e = has_grammar start e
