-- Flags of a base and names that items say are of the grammar tell which nonterminals are of the grammar.
use Rattle.std.proofs.Common.{◌≡◌, ◌<◌, ◌++◌, ◌⊎◌, inl, inr, [], ℕ, Bool, List, Some, Contains, length, map, slice_get, ap, sym, refl}
use Rattle.std.proofs.Common.{subst, ◌∙◌}
use Rattle.std.specs.Prelude.{◌↔◌, flat_map, option_map}
use Rattle.std.proofs.lemmas.Option.{slice_get_within, slice_get-map}
use Rattle.wb_lemmas.proofs.Members.{contains_at, append_contains_left, append_contains_right}
use Rattle.wb_syntax_resolved.specs.declared.attributes.Attribute.{Attribute}
use Rattle.wb_syntax_resolved.specs.declared.attributes.Nonterminal.{Nonterminal}
use Rattle.wb_syntax_resolved.specs.declared.attributes.Occurrence.{Occurrence}
use Rattle.wb_syntax_resolved.specs.declared.production.Production.{Production}
use Rattle.wb_syntax_resolved.specs.declared.resolved.ResolvedParts.{ResolvedParts}
use Rattle.wb_syntax_resolved.specs.declared.terminal.Terminal.{Terminal}
use Rattle.wb_syntax_resolved.specs.Grammar.{IsOfGrammar}
use Rattle.wb_syntax_resolved.specs.Once.{Entry, NamesDiffer}
use Rattle.wb_syntax_resolved.specs.Resolved.{IsResolved}
use Rattle.wb_names_theory.specs.declared.declaration.Declaration.TheVariants as d
use Rattle.wb_names_theory.specs.declared.declaration.Sort.TheVariants as sort
use Rattle.wb_names_theory.specs.Declarations.{Items}
use Rattle.wb_names_theory.specs.Declares.{base_declarations, item_declarations, terminal_sort, declarations, attribute_name}
use Rattle.wb_names_theory.specs.Declares.{nonterminal_name}
use Rattle.wb_names_theory.specs.Declares.{production_declarations}
use Rattle.wb_names_theory.specs.Duplicate.{AreSame}
use Rattle.wb_names_theory.specs.Duplicate.AreSame.{symbol}
use Rattle.wb_names_theory.specs.Hold.{AreOnce}
use Rattle.wb_names_numbers_theory.specs.Files.{File, IsInBaseGrammar, IsInGrammar, grammar_names}
use Rattle.wb_names_numbers_theory.proofs.Ground.{hosts}
use Rattle.wb_names_numbers_theory.proofs.NumberLemmas.{differ_left}
use Rattle.wb_names_numbers_theory.proofs.RowLemmas.{map_contains}
use Rattle.wb_names_rows.specs.Marks.{IsMarked}
use Rattle.wb_names_symbols.specs.Inner.Nonterminals.{AreFlags}
use Rattle.wb_names_symbols.proofs.OnceNames.{once_apart}

abbrev entry : Nonterminal → Entry
entry x = (x.owner, x.name)

-- flags by number are flags by name, since a base has no name twice
pub flags_agree : (base : ResolvedParts) → IsResolved base → base.attributes.extensions ≡ [] → (flags : List Bool)
    → ((k : ℕ) → k < length base.attributes.nonterminals → IsMarked flags k ↔ IsOfGrammar base k) → AreFlags base flags
flags_agree base is alone flags exact k x at =
    let rows = base.attributes.nonterminals in
    let within = slice_get_within rows k x at in
    let host = hosts base is alone in
    let differ : NamesDiffer (map entry rows) =
    differ_left (map entry rows) (map (λ (p : Production). (p.owner, p.name)) base.attributes.productions) is.attributes.once.symbols in (
      λ marked. record { number = k; nonterminal = x; listed = at; named = refl; of_grammar = (exact k within).0 marked },
      λ (g : IsInBaseGrammar base x.name).
          let first : slice_get (map entry rows) k ≡ Some (x.owner, x.name) = slice_get-map entry rows k ∙ ap (option_map entry) at in
          let second : slice_get (map entry rows) g.number ≡ Some (g.nonterminal.owner, x.name) =
          slice_get-map entry rows g.number ∙ (ap (option_map entry) g.listed
          ∙ ap (λ (n : List ℕ). Some (g.nonterminal.owner, n)) g.named) in
          let number : k ≡ g.number =
          differ k g.number x.owner g.nonterminal.owner x.name first second
          (inl (host.nonterminals g.nonterminal (contains_at rows g.nonterminal g.number g.listed))) in
          (exact k within).1 (subst (IsOfGrammar base) (sym number) g.of_grammar),
    )

-- a flag or a name says that a nonterminal of the base is of the grammar
module _ (file : File) (flags : List Bool) (are : AreFlags file.base flags) (names : List (List ℕ)) (is : names ≡ grammar_names file.items)
    (k : ℕ) (x : Nonterminal) (at : slice_get file.base.attributes.nonterminals k ≡ Some x) where
  pub told : IsMarked flags k ⊎ Contains names x.name → IsInGrammar file x.name
  told (inl marked) = inl ((are k x at).0 marked)
  told (inr has) = inr (subst (λ z. Contains z x.name) is has)

  pub told_back : IsInGrammar file x.name → IsMarked flags k ⊎ Contains names x.name
  told_back (inl g) = inl ((are k x at).1 g)
  told_back (inr has) = inr (subst (λ z. Contains z x.name) (sym is) has)

-- a nonterminal of the base is declared there
base_declares : (base : ResolvedParts) (x : Nonterminal) → Contains base.attributes.nonterminals x
    → Contains (base_declarations base) (d.Symbol x.name sort.Nonterminal)
base_declares base x has =
    let it = d.Symbol x.name sort.Nonterminal in
    let terminals = map (λ (t : Terminal). d.Symbol t.name (terminal_sort t.kind)) base.terminals in
    let rows = map (λ (y : Nonterminal). d.Symbol y.name sort.Nonterminal) base.attributes.nonterminals in
    let attributes = map (λ (a : Attribute). d.Attribute a.name a.direction) base.attributes.attributes in
    let occurrences = map (λ (o : Occurrence). d.Occurrence (attribute_name base o.attribute) (nonterminal_name base o.nonterminal))
    base.attributes.occurrences in
    append_contains_left (terminals ++ rows ++ attributes ++ occurrences)
    (flat_map (production_declarations base) base.attributes.productions) it
    (append_contains_left (terminals ++ rows ++ attributes) occurrences it
    (append_contains_left (terminals ++ rows) attributes it
    (append_contains_right terminals rows it
    (map_contains (λ (y : Nonterminal). d.Symbol y.name sort.Nonterminal) base.attributes.nonterminals x has))))

-- a nonterminal that items declare isn't one of the base's
pub not_base : (base : ResolvedParts) (items : Items) → AreOnce (declarations base items) → (name : List ℕ)
    → Contains (item_declarations items) (d.Symbol name sort.Nonterminal) → ¬ IsInBaseGrammar base name
not_base base items once name has g =
    let there = base_declares base g.nonterminal (contains_at base.attributes.nonterminals g.nonterminal g.number g.listed) in
    once_apart (base_declarations base) (item_declarations items) (d.Symbol g.nonterminal.name sort.Nonterminal)
    (d.Symbol name sort.Nonterminal)
    once (subst (λ z. AreSame (d.Symbol z sort.Nonterminal) (d.Symbol name sort.Nonterminal)) (sym g.named) symbol) there has
