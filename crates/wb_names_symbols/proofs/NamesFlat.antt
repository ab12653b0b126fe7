-- Names that are gathered item by item are those of what the items declare.
use Rattle.std.proofs.Common.{◌≡◌, ◌<◌, ◌+◌, ◌++◌, ◌∷◌, [], ℕ, Bool, true, false, List, Option, Some, None, cond, length, map, take}
use Rattle.std.proofs.Common.{get_or, ap, sym, refl}
use Rattle.std.proofs.Common.{◌∙◌, subst}
use Rattle.std.specs.Prelude.{filter, filter_map, flat_map, option_to_list}
use Rattle.std.specs.List.{AllZip, cons_option}
use Rattle.std.proofs.lemmas.List.{take_more}
use Rattle.std.proofs.lemmas.List.Elements.{filter_map-append}
use Rattle.wb_syntax.specs.declared.item.Item.{Item}
use Rattle.wb_syntax.specs.declared.item.ItemForm.{ItemForm}
use Rattle.wb_syntax.specs.declared.item.ItemForm.TheVariants as f
use Rattle.wb_syntax.specs.declared.item.PlainForm.{PlainForm}
use Rattle.wb_syntax.specs.declared.item.PlainForm.TheVariants as i
use Rattle.wb_syntax.specs.declared.pattern.Pattern.{Pattern}
use Rattle.wb_names_theory.specs.Declarations.{Items, AttributeDeclaration, ProductionDeclaration, attribute_of, attributes, nonterminal_of}
use Rattle.wb_names_theory.specs.Declarations.{closed_of, closeds, nonterminals}
use Rattle.wb_names_theory.specs.Declarations.{plain_of, plain_items, production_of, productions}
use Rattle.wb_names_numbers_theory.specs.Rows.{production_role}
use Rattle.wb_names_symbols.specs.Inner.Names.{form_attributes, plain_attributes, form_closeds, form_productions, has_role, wanted_name}
use Rattle.wb_names_symbols.specs.Inner.Nonterminals.{form_nonterminals}

-- attributes
abbrev attribute_name : AttributeDeclaration → List ℕ
attribute_name d = d.name

plain_step : (plain : PlainForm) (xs : List AttributeDeclaration)
    → map attribute_name (cons_option (attribute_of plain) xs) ≡ plain_attributes plain ++ map attribute_name xs
plain_step (i.Synthesized z kind) xs = refl
plain_step (i.Inherited z kind) xs = refl
plain_step (i.ForwardOn nonterminal needs) xs = refl
plain_step (i.Prefer first second) xs = refl
plain_step (i.Nonterminal z) xs = refl
plain_step (i.Start z) xs = refl
plain_step (i.Extensible z) xs = refl
plain_step (i.Closed z) xs = refl
plain_step (i.Occurs attribute nonterminal needs) xs = refl

attribute_step : (form : ItemForm Pattern) (rest : List PlainForm) (tail : List (List ℕ))
    → map attribute_name (filter_map attribute_of rest) ≡ tail
    → map attribute_name (filter_map attribute_of (cons_option (plain_of form) rest)) ≡ form_attributes form ++ tail
attribute_step (f.Plain plain) rest tail e = plain_step plain (filter_map attribute_of rest) ∙ ap (λ z. plain_attributes plain ++ z) e
attribute_step (f.Lexical role name pattern) rest tail e = e
attribute_step (f.Production role production) rest tail e = e
attribute_step (f.Aspect name equations) rest tail e = e

pub attributes_flat : (items : Items)
    → map attribute_name (attributes items) ≡ flat_map (λ (item : Item Pattern). form_attributes item.form) items
attributes_flat [] = refl
attributes_flat (item ∷ items) =
    attribute_step item.form (plain_items items) (flat_map (λ (x : Item Pattern). form_attributes x.form) items) (attributes_flat items)

-- nonterminals, one item more
one_form : (form : ItemForm Pattern) → filter_map nonterminal_of (cons_option (plain_of form) []) ≡ form_nonterminals form
one_form (f.Plain plain) = kept (nonterminal_of plain) where
  kept : (o : Option (List ℕ)) → cons_option o [] ≡ option_to_list o
  kept None = refl
  kept (Some x) = refl
one_form (f.Lexical role name pattern) = refl
one_form (f.Production role production) = refl
one_form (f.Aspect name equations) = refl

pub nonterminals_more : (items : Items) (k : ℕ) (item : Item Pattern) → k < length items → item ≡ get_or items k item
    → nonterminals (take (k + 1) items) ≡ nonterminals (take k items) ++ form_nonterminals item.form
nonterminals_more items k item within is =
    ap nonterminals (take_more items k item within ∙ ap (λ z. take k items ++ z ∷ []) (sym is))
    ∙ (ap (λ z. filter_map nonterminal_of z) (filter_map-append (λ (x : Item Pattern). plain_of x.form) (take k items) (item ∷ []))
    ∙ (filter_map-append nonterminal_of (plain_items (take k items)) (plain_items (item ∷ []))
    ∙ ap (λ z. nonterminals (take k items) ++ z) (one_form item.form)))

-- closed nonterminals
closed_first : (o : Option (List ℕ)) (rest : List (List ℕ)) → cons_option o rest ≡ option_to_list o ++ rest
closed_first None rest = refl
closed_first (Some x) rest = refl

closed_step : (form : ItemForm Pattern) (rest : List PlainForm) (tail : List (List ℕ)) → filter_map closed_of rest ≡ tail
    → filter_map closed_of (cons_option (plain_of form) rest) ≡ form_closeds form ++ tail
closed_step (f.Plain plain) rest tail e =
    closed_first (closed_of plain) (filter_map closed_of rest) ∙ ap (λ z. option_to_list (closed_of plain) ++ z) e
closed_step (f.Lexical role name pattern) rest tail e = e
closed_step (f.Production role production) rest tail e = e
closed_step (f.Aspect name equations) rest tail e = e

pub closeds_flat : (items : Items) → closeds items ≡ flat_map (λ (item : Item Pattern). form_closeds item.form) items
closeds_flat [] = refl
closeds_flat (item ∷ items) =
    closed_step item.form (plain_items items) (flat_map (λ (x : Item Pattern). form_closeds x.form) items) (closeds_flat items)

-- names of those that are wanted
module _ {X : Type 0} (name : X → List ℕ) (test other : X → Bool) (same : (x : X) → other x ≡ test x) where
  wanted_step : (x : X) (b : Bool) (xs : List X) (names : List (List ℕ)) → AllZip (λ y n. n ≡ name y) xs names
      → AllZip (λ y n. n ≡ name y) (cond b (x ∷ xs) xs) (wanted_name b (name x) ++ names)
  wanted_step x true xs names all = (refl, all)
  wanted_step x false xs names all = all

  pub wanted_zip : (xs : List X) → AllZip (λ y n. n ≡ name y) (filter test xs) (flat_map (λ x. wanted_name (other x) (name x)) xs)
  wanted_zip [] = tt
  wanted_zip (x ∷ xs) =
      let rest = flat_map (λ y. wanted_name (other y) (name y)) xs in
      subst (λ b. AllZip (λ y n. n ≡ name y) (filter test (x ∷ xs)) (wanted_name b (name x) ++ rest)) (sym (same x))
      (wanted_step x (test x) (filter test xs) rest (wanted_zip xs))

-- productions that items declare
abbrev pub declared_names : Bool → ProductionDeclaration → List (List ℕ)
declared_names concrete d = wanted_name (has_role concrete (production_role d.role)) d.production.name

production_step : (concrete : Bool) (form : ItemForm Pattern) (rest : List ProductionDeclaration) (tail : List (List ℕ))
    → flat_map (λ d. declared_names concrete d) rest ≡ tail
    → flat_map (λ d. declared_names concrete d) (cons_option (production_of form) rest) ≡ form_productions concrete form ++ tail
production_step concrete (f.Production role p) rest tail e = ap (λ z. wanted_name (has_role concrete (production_role role)) p.name ++ z) e
production_step concrete (f.Plain plain) rest tail e = e
production_step concrete (f.Lexical role name pattern) rest tail e = e
production_step concrete (f.Aspect name equations) rest tail e = e

pub productions_flat : (concrete : Bool) (items : Items)
    → flat_map (λ d. declared_names concrete d) (productions items)
    ≡ flat_map (λ (item : Item Pattern). form_productions concrete item.form) items
productions_flat concrete [] = refl
productions_flat concrete (item ∷ items) =
    production_step concrete item.form (productions items) (flat_map (λ (x : Item Pattern). form_productions concrete x.form) items)
    (productions_flat concrete items)

-- an item that declares no nonterminal
pub not_nonterminal : (plain : PlainForm) → ((x : List ℕ) → plain ≡ i.Nonterminal x → ⊥) → option_to_list (nonterminal_of plain) ≡ []
not_nonterminal (i.Nonterminal z) other = absurd (other z refl)
not_nonterminal (i.Prefer first second) other = refl
not_nonterminal (i.Start z) other = refl
not_nonterminal (i.Extensible z) other = refl
not_nonterminal (i.Closed z) other = refl
not_nonterminal (i.Synthesized z kind) other = refl
not_nonterminal (i.Inherited z kind) other = refl
not_nonterminal (i.Occurs a n needs) other = refl
not_nonterminal (i.ForwardOn n needs) other = refl

pub not_plain : (form : ItemForm Pattern) → ((x : PlainForm) → form ≡ f.Plain x → ⊥) → form_nonterminals form ≡ []
not_plain (f.Plain plain) other = absurd (other plain refl)
not_plain (f.Lexical role name pattern) other = refl
not_plain (f.Production role production) other = refl
not_plain (f.Aspect name equations) other = refl
