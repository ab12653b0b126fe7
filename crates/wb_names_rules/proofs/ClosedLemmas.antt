-- A name is that of a base's closed nonterminal exactly where a closed row is declared at its place.
use Rattle.std.proofs.Common.{◌≡◌, ◌+◌, ◌++◌, ◌∷◌, [], ℕ, Bool, true, false, List, Option, Some, None, cond, length, map, slice_get}
use Rattle.std.proofs.Common.{Contains, inl, inr, refl, sym, ap, subst, ◌∙◌}
use Rattle.std.specs.Prelude.{IsTrue, ◌↔◌, filter_map, flat_map, option_map}
use Rattle.std.specs.List.{cons_option}
use Rattle.std.proofs.lemmas.List.{length-map}
use Rattle.std.proofs.lemmas.Option.{same_Some, slice_get-map}
use Rattle.wb_lemmas.proofs.Members.{contains_at, contains_cases, contains_first, contains_later, nothing_in, place_of}
use Rattle.wb_lemmas.proofs.Places.{append_after, append_keeps, at_once, at_take}
use Rattle.wb_syntax_resolved.specs.declared.attributes.Attribute.{Attribute}
use Rattle.wb_syntax_resolved.specs.declared.attributes.Nonterminal.{Nonterminal}
use Rattle.wb_syntax_resolved.specs.declared.attributes.Occurrence.{Occurrence}
use Rattle.wb_syntax_resolved.specs.declared.resolved.ResolvedParts.{ResolvedParts}
use Rattle.wb_syntax_resolved.specs.declared.terminal.Terminal.{Terminal}
use Rattle.wb_names_theory.specs.declared.declaration.Declaration.{Declaration}
use Rattle.wb_names_theory.specs.declared.declaration.Declaration.TheVariants as d
use Rattle.wb_names_theory.specs.declared.declaration.Sort.{Sort}
use Rattle.wb_names_theory.specs.declared.declaration.Sort.TheVariants as sort
use Rattle.wb_names_theory.specs.Declares.{base_declarations, base_names, closed_name, closed_names, terminal_sort, production_declarations}
use Rattle.wb_names_theory.specs.Declares.{attribute_name, nonterminal_name}
use Rattle.wb_names_theory.specs.Duplicate as s
use Rattle.wb_names_theory.specs.Meaning.{IsSymbol}
use Rattle.wb_names_rules.specs.Index.{CountOnce}
use Rattle.wb_names_rules.specs.Inner.Closed.{IsOver, HasClosed, IsClosedAt}

-- what is kept of a list comes from an element
kept_from : {X Y : Type 0} (g : X → Option Y) (xs : List X) (y : Y) → Contains (filter_map g xs) y
    → (x : X) × Contains xs x × (g x ≡ Some y)
kept_from {X} {Y} g [] y has = absurd (nothing_in y has)
kept_from {X} {Y} g (z ∷ xs) y has = from (g z) refl (λ more. kept_from g xs y more) where
  from : (o : Option Y) → g z ≡ o → (Contains (filter_map g xs) y → (x : X) × Contains xs x × (g x ≡ Some y))
      → (x : X) × Contains (z ∷ xs) x × (g x ≡ Some y)
  from None e rest =
      let more = rest (subst (λ k. Contains k y) (ap (λ o. cons_option o (filter_map g xs)) e) has) in
      (more.0, contains_later z more.0 xs more.1, more.2)
  from (Some w) e rest =
      elim (contains_cases w y (filter_map g xs) (subst (λ k. Contains k y) (ap (λ o. cons_option o (filter_map g xs)) e) has)) [
        | inl same ↦ (z, contains_first z xs, e ∙ ap Some same)
        | inr more ↦ let found = rest more in (found.0, contains_later z found.0 xs found.1, found.2)
      ]

-- what an element gives is kept
kept_there : {X Y : Type 0} (g : X → Option Y) (xs : List X) (x : X) (y : Y) → Contains xs x → g x ≡ Some y → Contains (filter_map g xs) y
kept_there {X} {Y} g [] x y has e = absurd (nothing_in x has)
kept_there {X} {Y} g (z ∷ xs) x y has e = elim (contains_cases z x xs has) [
  | inl same ↦ subst (λ k. Contains k y) (sym (ap (λ o. cons_option o (filter_map g xs)) (ap g same ∙ e)))
      (contains_first y (filter_map g xs))
  | inr more ↦ later (g z) refl (kept_there g xs x y more e)
] where
  later : (o : Option Y) → g z ≡ o → Contains (filter_map g xs) y → Contains (filter_map g (z ∷ xs)) y
  later None f there = subst (λ k. Contains k y) (sym (ap (λ o. cons_option o (filter_map g xs)) f)) there
  later (Some w) f there =
      subst (λ k. Contains k y) (sym (ap (λ o. cons_option o (filter_map g xs)) f)) (contains_later w y (filter_map g xs) there)

-- a nonterminal's name is one of closed ones exactly where it is closed
closed_is : (b : Bool) (own name : List ℕ) → cond b (Some own) None ≡ Some name → (b ≡ true) × (own ≡ name)
closed_is true own name e = (refl, same_Some own name e)
closed_is false own name e = absurd (cc)

is_closed_name : (x : Nonterminal) → x.closed ≡ true → closed_name x ≡ Some x.name
is_closed_name x e = ap (λ (b : Bool). cond b (Some x.name) None) e

-- the closed row of a number
closed_row : (rows : List Nonterminal) (number : ℕ) → HasClosed rows number
    → (row : Nonterminal) × (slice_get rows number ≡ Some row) × (row.closed ≡ true)
closed_row rows number has = from (slice_get rows number) refl has where
  from : (o : Option Nonterminal) → slice_get rows number ≡ o → option_map (λ (r : Nonterminal). r.closed) o ≡ Some true
      → (row : Nonterminal) × (slice_get rows number ≡ Some row) × (row.closed ≡ true)
  from None at e = absurd (cc)
  from (Some row) at e = (row, at, same_Some row.closed true e)

module _ (base : ResolvedParts) (declared : List Declaration) (over : IsOver base declared) where
  -- a nonterminal is declared after the terminals, in the order of the rows
  declared_at : (number : ℕ) (row : Nonterminal) → slice_get base.attributes.nonterminals number ≡ Some row
      → slice_get declared (length base.terminals + number) ≡ Some (d.Symbol row.name sort.Nonterminal)
  declared_at number row at =
      let terminals = map (λ (x : Terminal). d.Symbol x.name (terminal_sort x.kind)) base.terminals in
      let named = λ (x : Nonterminal). d.Symbol x.name sort.Nonterminal in
      let nonterminals = map named base.attributes.nonterminals in
      let attributes = map (λ (x : Attribute). d.Attribute x.name x.direction) base.attributes.attributes in
      let occurrences =
      map (λ (x : Occurrence). d.Occurrence (attribute_name base x.attribute) (nonterminal_name base x.nonterminal))
      base.attributes.occurrences in
      let productions = flat_map (production_declarations base) base.attributes.productions in
      let one = d.Symbol row.name sort.Nonterminal in
      let place = length base.terminals + number in
      let first : slice_get (terminals ++ nonterminals) place ≡ Some one =
      ap (λ (n : ℕ). slice_get (terminals ++ nonterminals) (n + number))
      (sym (length-map base.terminals (λ (x : Terminal). d.Symbol x.name (terminal_sort x.kind))))
      ∙ append_after terminals nonterminals number
      ∙ slice_get-map named base.attributes.nonterminals number ∙ ap (option_map named) at in
      let there : slice_get (base_declarations base) place ≡ Some one =
      append_keeps (base_names base ++ occurrences) productions place one
      (append_keeps (base_names base) occurrences place one (append_keeps (terminals ++ nonterminals) attributes place one first)) in
      (at_take declared (length (base_declarations base)) place one
      (ap (λ (l : List Declaration). slice_get l place) over ∙ there)).1

  -- a closed name is that of a closed row, and is declared
  closed_there : (name : List ℕ) → Contains (closed_names base) name
      → (number : ℕ) × HasClosed base.attributes.nonterminals number
      × (slice_get declared (length base.terminals + number) ≡ Some (d.Symbol name sort.Nonterminal))
  closed_there name has =
      let (row, is_row, gives) = kept_from closed_name base.attributes.nonterminals name has in
      let (closed, same) = closed_is row.closed row.name name gives in
      let (number, at) = place_of base.attributes.nonterminals row is_row in (
        number,
        ap (option_map (λ (r : Nonterminal). r.closed)) at ∙ ap Some closed,
        declared_at number row at ∙ ap (λ (n : List ℕ). Some (d.Symbol n sort.Nonterminal)) same,
      )

  -- what isn't declared isn't closed
  pub none_closed : (name : List ℕ) → ((is : Sort) → ¬ IsSymbol declared name is) → ¬ Contains (closed_names base) name
  none_closed name none has =
      let (number, closed, at) = closed_there name has in
      none sort.Nonterminal (contains_at declared (d.Symbol name sort.Nonterminal) (length base.terminals + number) at)

  -- what is declared at a place is closed exactly where a closed row is there
  pub closed_test : CountOnce declared → (place : ℕ) (name : List ℕ) (is : Sort) (b : Bool)
      → slice_get declared place ≡ Some (d.Symbol name is) → (IsTrue b ↔ IsClosedAt base place) → IsTrue b ↔ Contains (closed_names base) name
  closed_test once place name is b there test = (
    λ h. let k = test.0 h in
        let (row, at, closed) = closed_row base.attributes.nonterminals k.number k.closed in
        let same : d.Symbol row.name sort.Nonterminal ≡ d.Symbol name is =
        at_once declared place (d.Symbol row.name sort.Nonterminal) (d.Symbol name is)
        (ap (slice_get declared) k.is_place ∙ declared_at k.number row at) there in
        let names : row.name ≡ name = cc in
        kept_there closed_name base.attributes.nonterminals row name (contains_at base.attributes.nonterminals row k.number at)
        (is_closed_name row closed ∙ ap Some names),
    λ has. let (number, closed, at) = closed_there name has in
        let e : place ≡ length base.terminals + number =
        once place (length base.terminals + number) (d.Symbol name is) (d.Symbol name sort.Nonterminal) there at tt s.symbol in
        test.1 (record { number = number; is_place = e; closed = closed }),
  )
