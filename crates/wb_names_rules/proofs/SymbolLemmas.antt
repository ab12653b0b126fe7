-- What a table knows of symbols once all of them were passed over.
use Rattle.std.proofs.Common.{◌≡◌, ◌<◌, ◌≤◌, ◌∷◌, ℕ, true, false, List, Some, length, get_or, slice_get, Contains, inl, refl, sym, ap, ◌∙◌}
use Rattle.std.proofs.Common.{subst, arith}
use Rattle.std.specs.Prelude.{◌↔◌}
use Rattle.std.proofs.lemmas.Option.{same_Some, slice_get-get_or, slice_get_within}
use Rattle.wb_lemmas.proofs.Members.{contains_at, place_of}
use Rattle.wb_lemmas.proofs.Places.{at_once}
use Rattle.wb_names_theory.specs.declared.declaration.Declaration.{Declaration}
use Rattle.wb_names_theory.specs.declared.declaration.Declaration.TheVariants as d
use Rattle.wb_names_theory.specs.declared.declaration.Sort.{Sort}
use Rattle.wb_names_theory.specs.declared.declaration.Sort.TheVariants as sort
use Rattle.wb_names_theory.specs.Duplicate.{AreSame, Counts, IsSymbolOnce, IsProductionOnce}
use Rattle.wb_names_theory.specs.Duplicate as s
use Rattle.wb_names_theory.specs.Meaning.{IsSymbol}
use Rattle.wb_names_rules.specs.declared.table.Pass.{Pass}
use Rattle.wb_names_rules.specs.declared.table.Pass.TheVariants.{Symbols, Others}
use Rattle.wb_names_rules.specs.Keys.{key_of}
use Rattle.wb_names_rules.specs.Indexed.{IsIndexed, IsKept, is_symbol}
use Rattle.wb_names_rules.specs.Inner.Indexed.{IsIn, KnowsSymbols, IsProductionAt}
use Rattle.wb_names_rules.proofs.KeyLemmas.{key_apart, rest}

-- symbols count
symbol_counts : (declared : List Declaration) (one : Declaration) → is_symbol one ≡ true → Counts declared one
symbol_counts declared (d.Symbol a b) is = tt
symbol_counts declared (d.Attribute a b) is = tt
symbol_counts declared (d.Occurrence a b) is = tt
symbol_counts declared (d.Left a b) is = tt
symbol_counts declared (d.Label a b c) is = absurd (cc)
symbol_counts declared (d.Equation a b c) is = tt
symbol_counts declared (d.Forward a) is = tt
symbol_counts declared (d.Start a) is = tt
symbol_counts declared (d.Extensible a) is = tt
symbol_counts declared (d.Closed a) is = tt
symbol_counts declared (d.ForwardNeeds a) is = tt
symbol_counts declared (d.Preference a b) is = tt

-- of two declarations of the same thing both are of symbols or none is
pub same_symbols : {one other : Declaration} → AreSame one other → is_symbol one ≡ is_symbol other
same_symbols s.symbol = refl
same_symbols s.attribute = refl
same_symbols s.occurrence = refl
same_symbols s.left = refl
same_symbols s.label = refl
same_symbols s.equation = refl
same_symbols s.forward = refl
same_symbols s.start = refl
same_symbols s.extensible = refl
same_symbols s.closed = refl
same_symbols s.forward_needs = refl
same_symbols s.preference = refl

module _ (declared : List Declaration) where
  -- what the second pass knows of symbols
  pub knows : (keys : List (List ℕ)) (places : List ℕ) (pass : Pass) (upto : ℕ) (here : Declaration)
      → IsIndexed declared keys places pass upto → IsIn pass here → is_symbol here ≡ false → KnowsSymbols declared keys places
  knows keys places Symbols upto here known within is = absurd (let e : true ≡ false = sym within ∙ is in cc)
  knows keys places Others upto here known within is = record {
    len = known.len;
    sound = λ key place kept. let has = known.sound key place kept in (has.declaration, has.at, has.is_key);
    complete = λ at one there symbol. known.complete at one there (inl symbol) (symbol_counts declared one symbol);
    once = λ i j one other at_one at_other symbol same.
        known.once i j one other at_one at_other (inl symbol) (inl (sym (same_symbols same) ∙ symbol))
        (symbol_counts declared one symbol) same;
  }

  -- so a name is declared as a symbol once
  symbol_once : (keys : List (List ℕ)) (places : List ℕ) (name : List ℕ) → KnowsSymbols declared keys places → IsSymbolOnce declared name
  symbol_once keys places name known first second is other at_first at_second =
      known.once first second (d.Symbol name is) (d.Symbol name other) at_first at_second refl s.symbol

  -- and so is the production in which a declaration of a pass stands
  pub production_once : (keys : List (List ℕ)) (places : List ℕ) (pass : Pass) (upto : ℕ) (here : Declaration)
      → IsIndexed declared keys places pass upto → IsIn pass here → IsProductionOnce declared here
  production_once keys places pass upto (d.Symbol a b) known within = tt
  production_once keys places pass upto (d.Attribute a b) known within = tt
  production_once keys places pass upto (d.Occurrence a b) known within = tt
  production_once keys places pass upto (d.Left a b) known within = tt
  production_once keys places pass upto (d.Label p l is) known within =
      symbol_once keys places p (knows keys places pass upto (d.Label p l is) known within refl)
  production_once keys places pass upto (d.Equation p a at) known within =
      symbol_once keys places p (knows keys places pass upto (d.Equation p a at) known within refl)
  production_once keys places pass upto (d.Forward p) known within =
      symbol_once keys places p (knows keys places pass upto (d.Forward p) known within refl)
  production_once keys places pass upto (d.Start a) known within = tt
  production_once keys places pass upto (d.Extensible a) known within = tt
  production_once keys places pass upto (d.Closed a) known within = tt
  production_once keys places pass upto (d.ForwardNeeds a) known within = tt
  production_once keys places pass upto (d.Preference a b) known within = tt

  -- a name without a key is no production's
  pub production_none : (keys : List (List ℕ)) (places : List ℕ) (name : List ℕ) → KnowsSymbols declared keys places
      → ¬ Contains keys (0 ∷ name) → ¬ IsSymbol declared name sort.Production
  production_none keys places name known absent is =
      let (at, there) = place_of declared (d.Symbol name sort.Production) is in
      absent (known.complete at (d.Symbol name sort.Production) there refl)

  -- what is kept for the key of a name is a production exactly where the name is one's
  pub production_found : (keys : List (List ℕ)) (places : List ℕ) (name : List ℕ) (place : ℕ) → KnowsSymbols declared keys places
      → IsKept keys places (0 ∷ name) place → IsProductionAt declared place ↔ IsSymbol declared name sort.Production
  production_found keys places name place known kept =
      let (one, there, key) = known.sound (0 ∷ name) place kept in (
        λ (other, is). let e : one ≡ d.Symbol other sort.Production =
            at_once declared place one (d.Symbol other sort.Production) there is in
            let f : 0 ∷ name ≡ 0 ∷ other = key ∙ ap key_of e in
            contains_at declared (d.Symbol name sort.Production) place
            (is ∙ ap (λ (z : List ℕ). Some (d.Symbol z sort.Production)) (sym (rest f))),
        λ is. let (at, at_is) = place_of declared (d.Symbol name sort.Production) is in
            let e : at ≡ place = known.once at place (d.Symbol name sort.Production) one at_is there refl
            (key_apart (d.Symbol name sort.Production) one key) in
            (name, subst (λ (z : ℕ). slice_get declared z ≡ Some (d.Symbol name sort.Production)) e at_is),
      )

-- what is read at a place is the declaration of a production, or isn't
module _ (declared : List Declaration) (place : ℕ) (here : Declaration) (within : place < length declared)
    (read : here ≡ get_or declared place here) where
  there : slice_get declared place ≡ Some here
  there = slice_get-get_or declared place here within ∙ ap Some (sym read)

  -- a symbol that is read is a production's where its sort is
  pub is_production_there : (name : List ℕ) (is : Sort) → here ≡ d.Symbol name is → is ≡ sort.Production → IsProductionAt declared place
  is_production_there name is same e = (name, there ∙ ap Some same ∙ ap (λ (z : Sort). Some (d.Symbol name z)) e)

  pub other_sort_there : (name : List ℕ) (is : Sort) → here ≡ d.Symbol name is → (is ≡ sort.Production → ⊥)
      → ¬ IsProductionAt declared place
  other_sort_there name is same other (x, at) =
      let e : d.Symbol name is ≡ d.Symbol x sort.Production = sym same ∙ same_Some here (d.Symbol x sort.Production) (sym there ∙ at) in
      let sorts : is ≡ sort.Production = cc in
      other sorts

  -- what is no symbol isn't one's
  pub other_there : ((name : List ℕ) (is : Sort) → here ≡ d.Symbol name is → ⊥) → ¬ IsProductionAt declared place
  other_there other (x, at) = other x sort.Production (same_Some here (d.Symbol x sort.Production) (sym there ∙ at))

-- past the last there is none
pub nothing_there : (declared : List Declaration) (place : ℕ) → length declared ≤ place → ¬ IsProductionAt declared place
nothing_there declared place past (x, at) =
    let within = slice_get_within declared place (d.Symbol x sort.Production) at in
    absurd (omega (arith, within, past))
