-- What belongs to the grammar has the first numbers, and the grammar is that of its rows.
use Rattle.std.proofs.Common.{◌≡◌, ◌≢◌, ◌≤◌, ◌<◌, ◌++◌, ◌∷◌, ◌⊎◌, ◌↔◌, inl, inr, [], ℕ, suc, List, Option, Some}
use Rattle.std.proofs.Common.{None}
use Rattle.std.proofs.Common.{Contains, take, length, slice_get, ap, sym, refl, subst, ◌∙◌, arith, length-append}
use Rattle.std.specs.Prelude.{IfSome}
use Rattle.std.specs.List.{AllZip}
use Rattle.std.proofs.lemmas.List.{length-take-le}
use Rattle.wb_lemmas.proofs.Members.{contains_at}
use Rattle.wb_lemmas.proofs.Places.{at_once, at_take, at_within}
use Rattle.wb_lemmas.proofs.Zips.{beside}
use Rattle.wb_base.specs.Grammar.{GrammarView}
use Rattle.wb_syntax_resolved.specs.declared.attributes.Nonterminal.{Nonterminal}
use Rattle.wb_syntax_resolved.specs.declared.attribution.AttributionParts.{AttributionParts}
use Rattle.wb_syntax_resolved.specs.declared.production.Production.{Production}
use Rattle.wb_syntax_resolved.specs.declared.production.ProductionRole.TheVariants.{Concrete}
use Rattle.wb_syntax_resolved.specs.declared.resolved.ResolvedParts.{ResolvedParts}
use Rattle.wb_syntax_resolved.specs.declared.terminal.Terminal.{Terminal}
use Rattle.wb_syntax_resolved.specs.declared.terminal.TerminalKind.TheVariants as t
use Rattle.wb_syntax_resolved.specs.Grammar.{IsOfGrammar, IsGrammarOf, IsGrammarProduction}
use Rattle.wb_names_theory.specs.Declarations.{LexicalDeclaration, lexicals}
use Rattle.wb_names_theory.specs.Declarations.{nonterminals, productions}
use Rattle.wb_names_numbers_theory.specs.Files.{File, IsInGrammar}
use Rattle.wb_names_numbers_theory.specs.Given.{IsFile}
use Rattle.wb_names_numbers_theory.specs.Numbering.{Numbering, numbering_of, IsNumber}
use Rattle.wb_names_numbers_theory.specs.Resolves.{IsTerminal, IsNonterminal, IsProduction}
use Rattle.wb_names_numbers_theory.specs.Resolves.{IsScanned, IsInGrammarOf, IsConcrete, IsGrammarRow}
use Rattle.wb_names_numbers_theory.specs.Sources.{sources, AreGrouped}
use Rattle.wb_names_numbers_theory.proofs.Carrying.{row_at, name_at}
use Rattle.wb_names_numbers_theory.proofs.GrammarFound.{grammar_number, name_grammar}
use Rattle.wb_names_numbers_theory.proofs.Ground.{Ground}
use Rattle.wb_names_numbers_theory.proofs.Grouped.{leads_below, both_at}
use Rattle.wb_names_numbers_theory.proofs.OwnNamed.{Known}
use Rattle.wb_names_numbers_theory.proofs.RowLemmas.{source_before}
use Rattle.wb_names_numbers_theory.proofs.RowLemmas.{contains_split}
use Rattle.wb_names_numbers_theory.proofs.TargetsOnce.{number_name}
use Rattle.wb_names_numbers_theory.proofs.Attributed.{production_leads}
use Rattle.wb_names_numbers_theory.proofs.Attributed.{nonterminal_owner, terminal_owner}

module _ (file : File) (r : ResolvedParts) (given : IsFile file) (k : Known file r) where
  abbrev n : Numbering
  n = numbering_of r

  abbrev a : AttributionParts
  a = r.attributes

  abbrev b : AttributionParts
  b = file.base.attributes

  abbrev ground : Ground file r
  ground = k.ground

  -- terminals and nonterminals are grouped
  pub terminal_leads : (j : ℕ) (x : Terminal ⊎ LexicalDeclaration) (row : Terminal) → Contains (sources file.base.terminals (lexicals
      file.items)) x
      → slice_get r.terminals j ≡ Some row → IsTerminal file n x row → (row.kind ≢ t.Ignore → IsScanned x) × (IsScanned x
      → row.kind ≢ t.Ignore)
  terminal_leads j (inl y) row has at e = (λ some q. some (e.kind ∙ q), λ some q. some (sym e.kind ∙ q))
  terminal_leads j (inr y) row has at e = (λ some q. some (e.kind ∙ q), λ some q. some (sym e.kind ∙ q))

  pub owner_of_terminal : (x : Terminal ⊎ LexicalDeclaration) (row : Terminal) → Contains (sources file.base.terminals (lexicals file.items)) x
      → IsTerminal file n x row → row.owner ≡ terminal_owner file.owner x
  owner_of_terminal (inl y) row has e = e.owner
  owner_of_terminal (inr y) row has e = e.owner_is

  -- the number of a row of nonterminals, by its name
  nonterminal_number : (j : ℕ) (x : Nonterminal ⊎ List ℕ) (row : Nonterminal) → Contains (sources b.nonterminals (nonterminals file.items))
      x
      → slice_get a.nonterminals j ≡ Some row → IsNonterminal file n x row → IsNumber n.nonterminals file.owner row.name j
  nonterminal_number j (inl y) row has at e = record {
    other = row.owner;
    is = name_at (λ (z : Nonterminal). (z.owner, z.name)) a.nonterminals j row at;
    seen = inl (e.owner ∙ ground.host.nonterminals y (source_before b.nonterminals (nonterminals file.items) y has));
  }
  nonterminal_number j (inr y) row has at e = record {
    other = row.owner;
    is = name_at (λ (z : Nonterminal). (z.owner, z.name)) a.nonterminals j row at;
    seen = inr e.owner_is;
  }

  -- of its grammar exactly where its name is
  of_grammar : (j : ℕ) (name : List ℕ) → IsNumber n.nonterminals file.owner name j → IsOfGrammar r j → IsInGrammar file name
  of_grammar j name is q =
      let h = grammar_number file r ground j q in
      subst (IsInGrammar file) (number_name n.nonterminals file.owner h.name name j h.number is) h.of_grammar

  pub nonterminal_leads : (j : ℕ) (x : Nonterminal ⊎ List ℕ) (row : Nonterminal) → Contains (sources b.nonterminals (nonterminals file.items)) x
      → slice_get a.nonterminals j ≡ Some row → IsNonterminal file n x row
      → (IsOfGrammar r j → IsInGrammarOf file x) × (IsInGrammarOf file x → IsOfGrammar r j)
  nonterminal_leads j (inl y) row has at e =
      let number = subst (λ z. IsNumber n.nonterminals file.owner z j) e.name (nonterminal_number j (inl y) row has at e) in
      (λ q. of_grammar j y.name number q, λ q. name_grammar file r ground y.name j number q)
  nonterminal_leads j (inr y) row has at e =
      let number = subst (λ z. IsNumber n.nonterminals file.owner z j) e.name_is (nonterminal_number j (inr y) row has at e) in
      (λ q. of_grammar j y number q, λ q. name_grammar file r ground y j number q)

  pub owner_of_nonterminal : (x : Nonterminal ⊎ List ℕ) (row : Nonterminal) → Contains (sources b.nonterminals (nonterminals file.items)) x
      → IsNonterminal file n x row → row.owner ≡ nonterminal_owner file.owner x
  owner_of_nonterminal (inl y) row has e = e.owner
  owner_of_nonterminal (inr y) row has e = e.owner_is

  -- as many rows as elements
  zip_len : {X Y : Type 0} (R : X → Y → Type 0) (xs : List X) (ys : List Y) → AllZip R xs ys → length ys ≡ length xs
  zip_len R [] [] all = refl
  zip_len R [] (y ∷ ys) all = absurd all
  zip_len R (x ∷ xs) [] all = absurd all
  zip_len R (x ∷ xs) (y ∷ ys) all = ap suc (zip_len R xs ys all.1)

  module _ (g : GrammarView) (e : IsGrammarRow (length ground.resolves.terminals.leading) (length ground.resolves.nonterminals.leading)
      (length ground.resolves.productions.leading) a.productions g) where
    abbrev tg : AreGrouped IsScanned (IsTerminal file n) (sources file.base.terminals (lexicals file.items)) r.terminals
    tg = ground.resolves.terminals

    abbrev ng : AreGrouped (IsInGrammarOf file) (IsNonterminal file n) (sources b.nonterminals (nonterminals file.items)) a.nonterminals
    ng = ground.resolves.nonterminals

    abbrev pg : AreGrouped IsConcrete (IsProduction file n) (sources b.productions (productions file.items)) a.productions
    pg = ground.resolves.productions

    count_terminals : length tg.leading ≤ length r.terminals
    count_terminals =
        let z = zip_len (IsTerminal file n) (tg.leading ++ tg.following) r.terminals tg.are_rows in
        let l = length-append tg.leading tg.following in
        omega (arith, z, l)

    count_nonterminals : length ng.leading ≤ length a.nonterminals
    count_nonterminals =
        let z = zip_len (IsNonterminal file n) (ng.leading ++ ng.following) a.nonterminals ng.are_rows in
        let l = length-append ng.leading ng.following in
        omega (arith, z, l)

    count_productions : length pg.leading ≤ length a.productions
    count_productions =
        let z = zip_len (IsProduction file n) (pg.leading ++ pg.following) a.productions pg.are_rows in
        let l = length-append pg.leading pg.following in
        omega (arith, z, l)

    plain_count : length g.productions ≡ length pg.leading
    plain_count = zip_len IsGrammarProduction (take (length pg.leading) a.productions) g.productions e.productions_are
        ∙ length-take-le (length pg.leading) a.productions count_productions

    -- a row leads exactly where it is among the first
    terminal_iff : (j : ℕ) (row : Terminal) → slice_get r.terminals j ≡ Some row → (j < g.terminals) ↔ (row.kind ≢ t.Ignore)
    terminal_iff j row at =
        let s = both_at IsScanned (IsTerminal file n) _ r.terminals tg j row at in
        let lead = terminal_leads j s.source row
        (contains_split IsScanned _ tg.leading tg.following tg.splits s.source (contains_at (tg.leading ++ tg.following) s.source j s.at))
        at s.is_row in
        let below = leads_below IsScanned _ tg.leading tg.following tg.splits j s.source s.at in (
          λ lt. lead.1 (below.0 (subst (λ z. j < z) e.terminals_are lt)),
          λ q. subst (λ z. j < z) (sym e.terminals_are) (below.1 (lead.0 q)),
        )

    nonterminal_iff : (j : ℕ) (row : Nonterminal) → slice_get a.nonterminals j ≡ Some row → (j < g.nonterminals) ↔ IsOfGrammar r j
    nonterminal_iff j row at =
        let s = both_at (IsInGrammarOf file) (IsNonterminal file n) _ a.nonterminals ng j row at in
        let lead = nonterminal_leads j s.source row (contains_split (IsInGrammarOf file) _ ng.leading ng.following ng.splits s.source
        (contains_at (ng.leading ++ ng.following) s.source j s.at)) at s.is_row in
        let below = leads_below (IsInGrammarOf file) _ ng.leading ng.following ng.splits j s.source s.at in (
          λ lt. lead.1 (below.0 (subst (λ z. j < z) e.nonterminals_are lt)),
          λ q. subst (λ z. j < z) (sym e.nonterminals_are) (below.1 (lead.0 q)),
        )

    production_iff : (j : ℕ) (row : Production) → slice_get a.productions j ≡ Some row → (j < length g.productions) ↔ (row.role ≡ Concrete)
    production_iff j row at =
        let s = both_at IsConcrete (IsProduction file n) _ a.productions pg j row at in
        let lead = (production_leads file r given k) j s.source row
        (contains_split IsConcrete _ pg.leading pg.following pg.splits s.source (contains_at (pg.leading ++ pg.following) s.source j s.at))
        at s.is_row in
        let below = leads_below IsConcrete _ pg.leading pg.following pg.splits j s.source s.at in (
          λ lt. lead.1 (below.0 (subst (λ z. j < z) plain_count lt)),
          λ q. subst (λ z. j < z) (sym plain_count) (below.1 (lead.0 q)),
        )

    grammar_of : IsGrammarOf r g
    grammar_of = record {
      terminals_len = subst (λ z. z ≤ length r.terminals) (sym e.terminals_are) count_terminals;
      terminals = terminal_iff;
      nonterminals_len = subst (λ z. z ≤ length a.nonterminals) (sym e.nonterminals_are) count_nonterminals;
      nonterminals = λ j. (
        λ lt.
            let some : j < length a.nonterminals = omega (arith, lt, e.nonterminals_are, count_nonterminals) in
            let (row, at) = at_within a.nonterminals j some in
            (nonterminal_iff j row at).0 lt,
        λ q.
            let h = grammar_number file r ground j q in
            let row = row_at (λ (z : Nonterminal). (z.owner, z.name)) a.nonterminals j h.number.other h.name h.number.is in
            (nonterminal_iff j row.row row.is).1 q,
      );
      productions_len = subst (λ z. z ≤ length a.productions) (sym plain_count) count_productions;
      productions = production_iff;
      productions_are = λ j row plain at there.
          let other = beside IsGrammarProduction (take (length pg.leading) a.productions) g.productions j plain e.productions_are there in
          let taken = at_take a.productions (length pg.leading) j other.other other.at in
          subst (λ z. IsGrammarProduction z plain) (at_once a.productions j other.other row taken.1 at) other.related;
    }

  pub grammar_if : (o : Option GrammarView) → IfSome o (IsGrammarRow (length ground.resolves.terminals.leading)
      (length ground.resolves.nonterminals.leading) (length ground.resolves.productions.leading) a.productions) → IfSome o (IsGrammarOf r)
  grammar_if None e = tt
  grammar_if (Some g) e = grammar_of g e
