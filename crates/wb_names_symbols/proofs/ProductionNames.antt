-- Names of concrete productions, and after them those of abstract ones, are grouped names.
use Rattle.std.proofs.Common.{◌≡◌, ◌≢◌, ◌++◌, ◌⊎◌, inl, inr, ℕ, Bool, true, false, not, List, sym, refl, subst, ◌∙◌}
use Rattle.std.specs.Prelude.{filter, flat_map}
use Rattle.std.specs.List.{AllZip}
use Rattle.wb_lemmas.proofs.Parts.{append_assoc}
use Rattle.wb_lemmas.proofs.Zips.{zip_weaker}
use Rattle.wb_syntax_resolved.specs.declared.production.Production.{Production}
use Rattle.wb_syntax_resolved.specs.declared.production.ProductionRole.{ProductionRole}
use Rattle.wb_syntax_resolved.specs.declared.production.ProductionRole.TheVariants.{Concrete, Abstract}
use Rattle.wb_syntax.specs.declared.item.Item.{Item}
use Rattle.wb_syntax.specs.declared.pattern.Pattern.{Pattern}
use Rattle.wb_names_theory.specs.Declarations.{Items, ProductionDeclaration, productions}
use Rattle.wb_names_numbers_theory.specs.Resolves.{IsConcrete}
use Rattle.wb_names_numbers_theory.specs.Rows.{production_role}
use Rattle.wb_names_numbers_theory.specs.Sources.{sources, IsFrom, AreGrouped}
use Rattle.wb_names_rows.proofs.GroupLemmas.{grouped}
use Rattle.wb_names_symbols.specs.Symbols.{IsNameOf}
use Rattle.wb_names_symbols.specs.Inner.Names.{has_role, row_names, form_productions}
use Rattle.wb_names_symbols.proofs.NamesFlat.{wanted_zip, productions_flat}

-- what is concrete, and what isn't
concrete : (role : ProductionRole) → has_role true role ≡ true → role ≡ Concrete
concrete Concrete is = refl
concrete Abstract is = absurd (cc is)

abstract : (role : ProductionRole) → has_role true role ≡ false → role ≢ Concrete
abstract Concrete is = absurd (cc is)
abstract Abstract is = λ e. cc e

otherwise : (role : ProductionRole) → has_role false role ≡ not (has_role true role)
otherwise Concrete = refl
otherwise Abstract = refl

abbrev test : Production ⊎ ProductionDeclaration → Bool
test (inl p) = has_role true p.role
test (inr d) = has_role true (production_role d.role)

lead : (x : Production ⊎ ProductionDeclaration) → test x ≡ true → IsConcrete x
lead (inl p) is = concrete p.role is
lead (inr d) is = concrete (production_role d.role) is

others : (x : Production ⊎ ProductionDeclaration) → test x ≡ false → ¬ IsConcrete x
others (inl p) is = abstract p.role is
others (inr d) is = abstract (production_role d.role) is

abbrev IsRowName : Production → List ℕ → Type 0
IsRowName p name = name ≡ p.name

abbrev IsDeclaredName : ProductionDeclaration → List ℕ → Type 0
IsDeclaredName d name = name ≡ d.production.name

either : (x : Production ⊎ ProductionDeclaration) (name : List ℕ) → IsFrom IsRowName IsDeclaredName x name → IsNameOf x name
either (inl p) name is = is
either (inr d) name is = is

module _ (rows : List Production) (items : Items) where
  abbrev base : Bool → List (List ℕ)
  base concrete = flat_map (λ (p : Production). row_names concrete p) rows

  abbrev own : Bool → List (List ℕ)
  own concrete = flat_map (λ (item : Item Pattern). form_productions concrete item.form) items

  rows_first : AllZip IsRowName (filter (λ (p : Production). has_role true p.role) rows) (base true)
  rows_first = wanted_zip (λ (p : Production). p.name) (λ p. has_role true p.role) (λ p. has_role true p.role) (λ p. refl) rows

  rows_after : AllZip IsRowName (filter (λ (p : Production). not (has_role true p.role)) rows) (base false)
  rows_after =
      wanted_zip (λ (p : Production). p.name) (λ p. not (has_role true p.role)) (λ p. has_role false p.role) (λ p. otherwise p.role) rows

  own_first : AllZip IsDeclaredName (filter (λ (d : ProductionDeclaration). has_role true (production_role d.role)) (productions items))
      (own true)
  own_first =
      subst (AllZip IsDeclaredName (filter (λ (d : ProductionDeclaration). has_role true (production_role d.role)) (productions items)))
      (productions_flat true items)
      (wanted_zip (λ (d : ProductionDeclaration). d.production.name) (λ d. has_role true (production_role d.role))
      (λ d. has_role true (production_role d.role)) (λ d. refl) (productions items))

  own_after : AllZip IsDeclaredName (filter (λ (d : ProductionDeclaration). not (has_role true (production_role d.role)))
      (productions items))
      (own false)
  own_after =
      subst (AllZip IsDeclaredName (filter (λ (d : ProductionDeclaration). not (has_role true (production_role d.role)))
      (productions items)))
      (productions_flat false items)
      (wanted_zip (λ (d : ProductionDeclaration). d.production.name) (λ d. not (has_role true (production_role d.role)))
      (λ d. has_role false (production_role d.role)) (λ d. otherwise (production_role d.role)) (productions items))

  pub production_names : (names : List (List ℕ)) → names ≡ ((base true ++ own true) ++ base false) ++ own false
      → AreGrouped IsConcrete IsNameOf (sources rows (productions items)) names
  production_names names are =
      let g = grouped IsRowName IsDeclaredName IsConcrete test lead others rows (productions items) (base true) (own true) (base false)
      (own false) rows_first own_first rows_after own_after in
      subst (AreGrouped IsConcrete IsNameOf (sources rows (productions items)))
      (sym (are ∙ append_assoc (base true ++ own true) (base false) (own false)))
      (record {
        leading = g.leading;
        following = g.following;
        splits = g.splits;
        are_rows = zip_weaker (IsFrom IsRowName IsDeclaredName) IsNameOf either (g.leading ++ g.following)
            ((base true ++ own true) ++ (base false ++ own false)) g.are_rows;
      })
