-- A nonterminal of a value is of its grammar exactly where base and items say so of its name.
use Rattle.std.proofs.Common.{◌≡◌, ◌++◌, ◌⊎◌, inl, inr, [], ℕ, List, Option, Some, None, Contains, map, ap, sym, refl}
use Rattle.std.proofs.Common.{subst, ◌∙◌}
use Rattle.std.specs.Prelude.{option_map, option_to_list, flat_map}
use Rattle.std.specs.List.{AllZip}
use Rattle.wb_lemmas.proofs.Members.{contains_at, place_of, contains_first, contains_later, contains_cases, contains_append}
use Rattle.wb_lemmas.proofs.Members.{append_contains_left}
use Rattle.wb_lemmas.proofs.Members.{append_contains_right, nothing_in}
use Rattle.wb_lemmas.proofs.Zips.{zip_at, beside}
use Rattle.wb_base.specs.declared.symbol.Kind.TheVariants as kind
use Rattle.wb_base.specs.Grammar.{GrammarView}
use Rattle.wb_syntax_resolved.specs.declared.attributes.Nonterminal.{Nonterminal}
use Rattle.wb_syntax_resolved.specs.declared.attribution.AttributionParts.{AttributionParts}
use Rattle.wb_syntax_resolved.specs.declared.production.Child.{Child}
use Rattle.wb_syntax_resolved.specs.declared.production.ChildKind.{ChildKind}
use Rattle.wb_syntax_resolved.specs.declared.production.ChildKind.TheVariants as child
use Rattle.wb_syntax_resolved.specs.declared.production.Production.{Production}
use Rattle.wb_syntax_resolved.specs.declared.production.ProductionRole.TheVariants as role
use Rattle.wb_syntax_resolved.specs.declared.resolved.ResolvedParts.{ResolvedParts}
use Rattle.wb_syntax_resolved.specs.Grammar.{IsOfGrammar, IsInConcrete, IsIn}
use Rattle.wb_syntax.specs.declared.production.Child as named
use Rattle.wb_syntax.specs.declared.production.NamedKind.{NamedKind}
use Rattle.wb_syntax.specs.declared.production.NamedKind.TheVariants as kinds
use Rattle.wb_syntax.specs.declared.production.ProductionRole as written_role
use Rattle.wb_syntax.specs.declared.production.ProductionRole.TheVariants as w
use Rattle.wb_syntax.specs.Names.{kind_names}
use Rattle.wb_names_theory.specs.Declarations.{ProductionDeclaration, productions, starts, extensibles}
use Rattle.wb_names_theory.specs.Declares.{nonterminal_name, name_in}
use Rattle.wb_names_numbers_theory.specs.Files.{File, IsInGrammar, grammar_names, names_in_concrete}
use Rattle.wb_names_numbers_theory.specs.Moved.{IsMovedNonterminalNumber, IsMovedChild, IsMovedChildKind}
use Rattle.wb_names_numbers_theory.specs.Numbering.{Numbering, numbering_of, IsNumber}
use Rattle.wb_names_numbers_theory.specs.Resolves.{move_of, starts_of, IsNonterminalNumber, IsProduction, IsConcrete}
use Rattle.wb_names_numbers_theory.specs.Rows.{IsProductionRow, IsExtendedProduction, production_role}
use Rattle.wb_names_numbers_theory.specs.Sources.{sources}
use Rattle.wb_names_numbers_theory.specs.Written.{IsWrittenChild, IsWrittenChildKind}
use Rattle.wb_names_numbers_theory.proofs.Carrying.{row_at}
use Rattle.wb_names_numbers_theory.proofs.Found.{moved_nonterminal}
use Rattle.wb_names_numbers_theory.proofs.Ground.{Ground}
use Rattle.wb_names_numbers_theory.proofs.NumberLemmas.{one_number}
use Rattle.wb_names_numbers_theory.proofs.OneRow.{nonterminals_differ, not_both}
use Rattle.wb_names_numbers_theory.proofs.OwnDeclared.{contains_flat_map, flat_map_contains}
use Rattle.wb_names_numbers_theory.proofs.RowLemmas.{row_of, row_of_zip, source_of, source_of_zip, source_before, source_declared}
use Rattle.wb_names_numbers_theory.proofs.RowLemmas.{there_before}
use Rattle.wb_names_numbers_theory.proofs.RowLemmas.{there_declared}
use Rattle.wb_names_numbers_theory.proofs.RowLemmas.{contains_map, map_contains}

-- the start, as an option and as a list
listed_start : (o : Option ℕ) (k : ℕ) → o ≡ Some k → Contains (option_to_list o) k
listed_start o k e = subst (λ z. Contains (option_to_list z) k) (sym e) (contains_first k [])

pub start_listed : (o : Option ℕ) (k : ℕ) → Contains (option_to_list o) k → o ≡ Some k
start_listed None k has = absurd (nothing_in k has)
start_listed (Some j) k has =
    elim (contains_cases j k [] has) [ inl is ↦ ap Some is | inr more ↦ absurd (nothing_in k more) ]

concrete_role : (r : written_role.ProductionRole) → production_role r ≡ role.Concrete → r ≡ w.Concrete
concrete_role w.Concrete e = refl
concrete_role w.Abstract e = absurd (cc e)

-- a number of a name of the grammar
pub record GrammarNumber (file : File) (n : Numbering) (k : ℕ) : Type 0 where
  pub name : List ℕ
  pub number : IsNumber n.nonterminals file.owner name k
  pub of_grammar : IsInGrammar file name

module _ (file : File) (r : ResolvedParts) (ground : Ground file r) where
  abbrev n : Numbering
  n = numbering_of r

  abbrev a : AttributionParts
  a = r.attributes

  abbrev b : AttributionParts
  b = file.base.attributes

  -- what the base has in its grammar
  from_base : (j k : ℕ) → IsMovedNonterminalNumber (move_of file n) j k → IsOfGrammar file.base j → GrammarNumber file n k
  from_base j k m is =
      let row = row_at (λ (x : Nonterminal). (x.owner, x.name)) b.nonterminals j m.owner m.name m.before in
      record {
        name = nonterminal_name file.base j;
        number = moved_nonterminal file r ground j k m;
        of_grammar = inl (record {
          number = j;
          nonterminal = row.row;
          listed = row.is;
          named = sym (ap (name_in (λ (x : Nonterminal). x.name)) row.is);
          of_grammar = is;
        });
      }

  -- what items say of it
  from_items : (name : List ℕ) (k : ℕ) → IsNumber n.nonterminals file.owner name k → Contains (grammar_names file.items) name
      → GrammarNumber file n k
  from_items name k number has = record { name = name; number = number; of_grammar = inr has }

  abbrev concrete_names : List (List ℕ)
  concrete_names = flat_map (λ (d : ProductionDeclaration). names_in_concrete d.role d.production) (productions file.items)

  in_starts : (name : List ℕ) → Contains (starts file.items) name → Contains (grammar_names file.items) name
  in_starts name has =
      append_contains_left (starts file.items ++ extensibles file.items) concrete_names name
      (append_contains_left (starts file.items) (extensibles file.items) name has)

  in_extensibles : (name : List ℕ) → Contains (extensibles file.items) name → Contains (grammar_names file.items) name
  in_extensibles name has =
      append_contains_left (starts file.items ++ extensibles file.items) concrete_names name
      (append_contains_right (starts file.items) (extensibles file.items) name has)

  in_concrete : (x : ProductionDeclaration) (name : List ℕ) → Contains (productions file.items) x
      → Contains (names_in_concrete x.role x.production) name → Contains (grammar_names file.items) name
  in_concrete x name has inside =
      append_contains_right (starts file.items ++ extensibles file.items) concrete_names name
      (flat_map_contains (λ (d : ProductionDeclaration). names_in_concrete d.role d.production) (productions file.items) x name has inside)

  by_number : (before : List ℕ) (declared : List (List ℕ)) (numbers : List ℕ)
      → AllZip (IsNonterminalNumber file n) (sources before declared) numbers → ((j : ℕ) → Contains before j → IsOfGrammar file.base j)
      → ((name : List ℕ) → Contains declared name → Contains (grammar_names file.items) name) → (k : ℕ) → Contains numbers k
      → GrammarNumber file n k
  by_number before declared numbers all host own k has =
      let (i, at) = place_of numbers k has in
      let s = source_of_zip (IsNonterminalNumber file n) (sources before declared) numbers all i k at in
      from s.source s.listed s.is_row where
        from : (x : ℕ ⊎ List ℕ) → Contains (sources before declared) x → IsNonterminalNumber file n x k → GrammarNumber file n k
        from (inl j) listed m = from_base j k m (host j (source_before before declared j listed))
        from (inr name) listed m = from_items name k m (own name (source_declared before declared name listed))

  -- the nonterminals in concrete productions
  moved_tree : (from : ChildKind) (k : ℕ) → IsMovedChildKind (move_of file n) from (child.Value (kind.Tree k))
      → (j : ℕ) × (from ≡ child.Value (kind.Tree j)) × IsMovedNonterminalNumber (move_of file n) j k
  moved_tree (child.Terminal number) k m = absurd (cc m.2)
  moved_tree (child.Value kind.Int) k m = let e : child.Value (kind.Tree k) ≡ child.Value kind.Int = m.2 ∙ ap child.Value m.1 in absurd (cc
      e)
  moved_tree (child.Value kind.Bool) k m = let e : child.Value (kind.Tree k) ≡ child.Value kind.Bool = m.2 ∙ ap child.Value m.1 in absurd
      (cc e)
  moved_tree (child.Value kind.Text) k m = let e : child.Value (kind.Tree k) ≡ child.Value kind.Text = m.2 ∙ ap child.Value m.1 in absurd
      (cc e)
  moved_tree (child.Value (kind.Tree j)) k m =
      let e : child.Value (kind.Tree k) ≡ child.Value (kind.Tree m.1.0) = m.2 ∙ ap child.Value m.1.2 in
      let same : m.1.0 ≡ k = cc in
      (j, refl, subst (IsMovedNonterminalNumber (move_of file n) j) same m.1.1)

  written_tree : (from : NamedKind) (k : ℕ) → IsWrittenChildKind n file.owner from (child.Value (kind.Tree k))
      → (name : List ℕ) × (from ≡ kinds.Name name) × IsNumber n.nonterminals file.owner name k
  written_tree kinds.Int j e = absurd (cc e)
  written_tree kinds.Bool j e = absurd (cc e)
  written_tree kinds.Text j e = absurd (cc e)
  written_tree (kinds.Name name) j e =
      let same : e.0 ≡ j = cc in (name, refl, subst (IsNumber n.nonterminals file.owner name) same e.1)

  in_row : (x : Production ⊎ ProductionDeclaration) (row : Production) → Contains (sources b.productions (productions file.items)) x
      → IsProduction file n x row → row.role ≡ role.Concrete → (k : ℕ) → IsIn row k → GrammarNumber file n k
  in_row (inl p) row has e concrete k (inl left) =
      let inside = source_before b.productions (productions file.items) p has in
      from_base p.left k (subst (IsMovedNonterminalNumber (move_of file n) p.left) left e.left)
      (inr (inr (record { production = p; listed = inside; concrete = sym e.role ∙ concrete; occurs = inl refl })))
  in_row (inl p) row has e concrete k (inr listed) =
      let inside = source_before b.productions (productions file.items) p has in
      let c = contains_map (λ (c : Child). c.kind) row.children (child.Value (kind.Tree k)) listed in
      let (i, at) = place_of row.children c.0 c.1 in
      let old = beside (IsMovedChild (move_of file n)) p.children row.children i c.0 e.children at in
      let t = moved_tree old.other.kind k (subst (IsMovedChildKind (move_of file n) old.other.kind) c.2 old.related.is_kind) in
      from_base t.0 k t.2 (inr (inr (record {
        production = p;
        listed = inside;
        concrete = sym e.role ∙ concrete;
        occurs = inr (subst (Contains (map (λ (c : Child). c.kind) p.children)) t.1
            (map_contains (λ (c : Child). c.kind) p.children old.other (contains_at p.children old.other i old.at)));
      })))
  in_row (inr x) row has e concrete k (inl left) =
      let inside = source_declared b.productions (productions file.items) x has in
      let written : x.role ≡ w.Concrete = concrete_role x.role (sym e.role ∙ concrete) in
      from_items x.production.left k (subst (IsNumber n.nonterminals file.owner x.production.left) left e.left)
      (in_concrete x x.production.left inside (subst (λ z. Contains (names_in_concrete z x.production) x.production.left) (sym written)
      (contains_first x.production.left (flat_map (λ (c : named.Child). kind_names c.kind) x.production.children))))
  in_row (inr x) row has e concrete k (inr listed) =
      let inside = source_declared b.productions (productions file.items) x has in
      let written : x.role ≡ w.Concrete = concrete_role x.role (sym e.role ∙ concrete) in
      let c = contains_map (λ (c : Child). c.kind) row.children (child.Value (kind.Tree k)) listed in
      let (i, at) = place_of row.children c.0 c.1 in
      let old = beside (IsWrittenChild n file.owner) x.production.children row.children i c.0 e.children at in
      let t = written_tree old.other.kind k (subst (IsWrittenChildKind n file.owner old.other.kind) c.2 old.related.is_kind) in
      let inner : Contains (flat_map (λ (c : named.Child). kind_names c.kind) x.production.children) t.0 =
      flat_map_contains (λ (c : named.Child). kind_names c.kind) x.production.children old.other t.0
      (contains_at x.production.children old.other i old.at) (subst (λ z. Contains (kind_names z) t.0) (sym t.1) (contains_first t.0 [])) in
      from_items t.0 k t.2 (in_concrete x t.0 inside (subst (λ z. Contains (names_in_concrete z x.production) t.0) (sym written)
      (contains_later x.production.left t.0 (flat_map (λ (c : named.Child). kind_names c.kind) x.production.children) inner)))

  -- a number of the grammar has such a name
  pub grammar_number : (k : ℕ) → IsOfGrammar r k → GrammarNumber file n k
  grammar_number k (inl start) =
      by_number (starts_of file.base) (starts file.items) (starts_of r) ground.resolves.start
      (λ j has. inl (start_listed (option_map (λ (g : GrammarView). g.start) file.base.grammar) j has)) in_starts k
      (listed_start (option_map (λ (g : GrammarView). g.start) r.grammar) k start)
  grammar_number k (inr (inl has)) =
      by_number file.base.extensible (extensibles file.items) r.extensible ground.resolves.extensible (λ j is. inr (inl is)) in_extensibles
      k has
  grammar_number k (inr (inr c)) =
      let (i, at) = place_of a.productions c.production c.listed in
      let s = source_of IsConcrete (IsProduction file n) (sources b.productions (productions file.items)) a.productions
      ground.resolves.productions i c.production at in
      in_row s.source c.production s.listed s.is_row c.concrete k c.occurs

  -- and a name of the grammar has such a number
  same_number : (name : List ℕ) (j k : ℕ) → IsNumber n.nonterminals file.owner name j → IsNumber n.nonterminals file.owner name k → j ≡ k
  same_number = λ name j k. one_number n.nonterminals (nonterminals_differ n ground.distinct) file.owner name j k

  base_place : (before : List ℕ) (declared : List (List ℕ)) (numbers : List ℕ)
      → AllZip (IsNonterminalNumber file n) (sources before declared) numbers → (j : ℕ) → Contains before j → (name : List ℕ)
      → nonterminal_name file.base j ≡ name → (k : ℕ) → IsNumber n.nonterminals file.owner name k → Contains numbers k
  base_place before declared numbers all j has name same k is =
      let h = row_of_zip (IsNonterminalNumber file n) (sources before declared) numbers all (inl j) (there_before before declared j has) in
      let number = subst (λ z. IsNumber n.nonterminals file.owner z h.row) same (moved_nonterminal file r ground j h.row h.is_row) in
      subst (Contains numbers) (same_number name h.row k number is) (contains_at numbers h.row h.place h.at)

  own_place : (before : List ℕ) (declared : List (List ℕ)) (numbers : List ℕ)
      → AllZip (IsNonterminalNumber file n) (sources before declared) numbers → (name : List ℕ) → Contains declared name → (k : ℕ)
      → IsNumber n.nonterminals file.owner name k → Contains numbers k
  own_place before declared numbers all name has k is =
      let h = row_of_zip (IsNonterminalNumber file n) (sources before declared) numbers all (inr name) (there_declared before declared name
      has) in
      subst (Contains numbers) (same_number name h.row k h.is_row is) (contains_at numbers h.row h.place h.at)

  tree_moved : (from to : ChildKind) (j : ℕ) → from ≡ child.Value (kind.Tree j) → IsMovedChildKind (move_of file n) from to
      → (i : ℕ) × (to ≡ child.Value (kind.Tree i)) × IsMovedNonterminalNumber (move_of file n) j i
  tree_moved from to j same m =
      let t : IsMovedChildKind (move_of file n) (child.Value (kind.Tree j)) to = subst (λ z. IsMovedChildKind (move_of file n) z to) same m
      in
      (t.1.0, t.2 ∙ ap child.Value t.1.2, t.1.1)

  base_concrete : (j : ℕ) → IsInConcrete b j → (name : List ℕ) → nonterminal_name file.base j ≡ name → (k : ℕ)
      → IsNumber n.nonterminals file.owner name k → IsInConcrete a k
  base_concrete j c name same k is =
      let h = row_of IsConcrete (IsProduction file n) (sources b.productions (productions file.items)) a.productions
      ground.resolves.productions
      (inl c.production) (there_before b.productions (productions file.items) c.production c.listed) in
      record {
        production = h.row;
        listed = contains_at a.productions h.row h.place h.at;
        concrete = h.is_row.role ∙ c.concrete;
        occurs = by_side h.row h.is_row c.occurs;
      } where
        number_of : (i : ℕ) → IsMovedNonterminalNumber (move_of file n) j i → i ≡ k
        number_of i m = same_number name i k (subst (λ z. IsNumber n.nonterminals file.owner z i) same (moved_nonterminal file r ground j i
            m)) is

        by_side : (row : Production) → IsExtendedProduction n file.owner file.items (move_of file n) c.production row
            → IsIn c.production j → IsIn row k
        by_side row e (inl left) = inl (number_of row.left (subst (λ z. IsMovedNonterminalNumber (move_of file n) z row.left) left e.left))
        by_side row e (inr listed) =
            let y = contains_map (λ (z : Child). z.kind) c.production.children (child.Value (kind.Tree j)) listed in
            let (i, at) = place_of c.production.children y.0 y.1 in
            let new = zip_at (IsMovedChild (move_of file n)) c.production.children row.children i y.0 e.children at in
            let t = tree_moved y.0.kind new.other.kind j y.2 new.related.is_kind in
            inr (subst (Contains (map (λ (z : Child). z.kind) row.children))
            (t.1 ∙ ap (λ (z : ℕ). child.Value (kind.Tree z)) (number_of t.0 t.2))
            (map_contains (λ (z : Child). z.kind) row.children new.other (contains_at row.children new.other i new.there)))

  own_concrete : (x : ProductionDeclaration) → Contains (productions file.items) x → (name : List ℕ)
      → Contains (names_in_concrete x.role x.production) name → (k : ℕ) → IsNumber n.nonterminals file.owner name k → IsInConcrete a k
  own_concrete x has name inside k is =
      let h = row_of IsConcrete (IsProduction file n) (sources b.productions (productions file.items)) a.productions
      ground.resolves.productions
      (inr x) (there_declared b.productions (productions file.items) x has) in
      by_role x.role refl h.row (contains_at a.productions h.row h.place h.at) h.is_row inside where
        by_kind : (from : NamedKind) (to : ChildKind) → IsWrittenChildKind n file.owner from to → Contains (kind_names from) name
            → to ≡ child.Value (kind.Tree k)
        by_kind kinds.Int to t listed = absurd (nothing_in name listed)
        by_kind kinds.Bool to t listed = absurd (nothing_in name listed)
        by_kind kinds.Text to t listed = absurd (nothing_in name listed)
        by_kind (kinds.Name other) (child.Terminal number) t listed =
            elim (contains_cases other name [] listed) [
              | inl same ↦ absurd (not_both n ground.distinct file.owner name number k (subst (λ z. IsNumber n.terminals file.owner z
                  number) same t) is)
              | inr more ↦ absurd (nothing_in name more)
            ]
        by_kind (kinds.Name other) (child.Value to) t listed =
            elim (contains_cases other name [] listed) [
              | inl same ↦ ap child.Value (t.2 ∙ ap kind.Tree
                  (same_number name t.0 k (subst (λ z. IsNumber n.nonterminals file.owner z t.0) same t.1) is))
              | inr more ↦ absurd (nothing_in name more)
            ]

        by_side : (row : Production) → IsProductionRow n file.owner file.items x row
            → (x.production.left ≡ name) ⊎ Contains (flat_map (λ (c : named.Child). kind_names c.kind) x.production.children) name
            → IsIn row k
        by_side row e (inl left) = inl (same_number name row.left k (subst (λ z. IsNumber n.nonterminals file.owner z row.left) left e.left)
            is)
        by_side row e (inr listed) =
            let y = contains_flat_map (λ (c : named.Child). kind_names c.kind) x.production.children name listed in
            let (i, at) = place_of x.production.children y.0 y.1 in
            let new = zip_at (IsWrittenChild n file.owner) x.production.children row.children i y.0 e.children at in
            inr (subst (Contains (map (λ (z : Child). z.kind) row.children)) (by_kind y.0.kind new.other.kind new.related.is_kind y.2)
            (map_contains (λ (z : Child). z.kind) row.children new.other (contains_at row.children new.other i new.there)))

        by_role : (of : written_role.ProductionRole) → x.role ≡ of → (row : Production) → Contains a.productions row
            → IsProductionRow n file.owner file.items x row → Contains (names_in_concrete x.role x.production) name → IsInConcrete a k
        by_role w.Concrete same row there e listed =
            let here : Contains (names_in_concrete w.Concrete x.production) name =
            subst (λ z. Contains (names_in_concrete z x.production) name) same listed in
            record {
              production = row;
              listed = there;
              concrete = e.role ∙ ap production_role same;
              occurs = by_side row e (contains_cases x.production.left name
                  (flat_map (λ (c : named.Child). kind_names c.kind) x.production.children) here);
            }
        by_role w.Abstract same row there e listed =
            let here : Contains (names_in_concrete w.Abstract x.production) name =
            subst (λ z. Contains (names_in_concrete z x.production) name) same listed in
            absurd (nothing_in name here)

  pub name_grammar : (name : List ℕ) (k : ℕ) → IsNumber n.nonterminals file.owner name k → IsInGrammar file name → IsOfGrammar r k
  name_grammar name k is (inl h) =
      let same : nonterminal_name file.base h.number ≡ name = ap (name_in (λ (x : Nonterminal). x.name)) h.listed ∙ h.named in
      by_base h.number same h.of_grammar where
        by_base : (j : ℕ) → nonterminal_name file.base j ≡ name → IsOfGrammar file.base j → IsOfGrammar r k
        by_base j same (inl start) =
            inl (start_listed (option_map (λ (g : GrammarView). g.start) r.grammar) k (base_place (starts_of file.base) (starts file.items)
            (starts_of r)
            ground.resolves.start j (listed_start (option_map (λ (g : GrammarView). g.start) file.base.grammar) j start) name same k is))
        by_base j same (inr (inl has)) =
            inr (inl (base_place file.base.extensible (extensibles file.items) r.extensible ground.resolves.extensible j has name same k
            is))
        by_base j same (inr (inr c)) = inr (inr (base_concrete j c name same k is))
  name_grammar name k is (inr has) =
      elim (contains_append (starts file.items ++ extensibles file.items) concrete_names name has) [
        | inl some ↦ elim (contains_append (starts file.items) (extensibles file.items) name some) [
          | inl start ↦ inl (start_listed (option_map (λ (g : GrammarView). g.start) r.grammar) k
              (own_place (starts_of file.base) (starts file.items) (starts_of r) ground.resolves.start name start k is))
          | inr extensible ↦
              inr (inl (own_place file.base.extensible (extensibles file.items) r.extensible ground.resolves.extensible name extensible k
              is))
        ]
        | inr concrete ↦
            let y = contains_flat_map (λ (d : ProductionDeclaration). names_in_concrete d.role d.production) (productions file.items) name
            concrete in
            inr (inr (own_concrete y.0 y.1 name y.2 k is))
      ]
