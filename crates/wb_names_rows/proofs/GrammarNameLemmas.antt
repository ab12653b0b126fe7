-- What items say is of the grammar, item by item.
use Rattle.std.proofs.Common.{◌≡◌, ◌∷◌, ◌++◌, [], ℕ, List, Option, Some, None, refl, ap, ◌∙◌, sym, append_assoc}
use Rattle.std.specs.List.{flat_map, filter_map, cons_option}
use Rattle.std.specs.Prelude.{option_to_list}
use Rattle.wb_syntax.specs.declared.item.Item.{Item}
use Rattle.wb_syntax.specs.declared.item.ItemForm.{ItemForm}
use Rattle.wb_syntax.specs.declared.item.ItemForm.TheVariants as f
use Rattle.wb_syntax.specs.declared.item.PlainForm.{PlainForm}
use Rattle.wb_syntax.specs.declared.pattern.Pattern.{Pattern}
use Rattle.wb_names_theory.specs.Declarations.{Items, ProductionDeclaration, starts, extensibles, productions, plain_items, plain_of}
use Rattle.wb_names_theory.specs.Declarations.{start_of}
use Rattle.wb_names_theory.specs.Declarations.{extensible_of, production_of}
use Rattle.wb_names_numbers_theory.specs.Files.{grammar_names, names_in_concrete}
use Rattle.wb_names_rows.specs.GrammarNames.{form_starts, form_extensibles}
use Rattle.wb_names_rows.specs.Inner.GrammarNames.{form_concretes}

-- what is there before others, as a list
cons_list : {X : Type 0} (o : Option X) (xs : List X) → cons_option o xs ≡ option_to_list o ++ xs
cons_list None xs = refl
cons_list (Some x) xs = refl

-- one form more
starts_step : (form : ItemForm Pattern) (rest : List PlainForm) (tail : List (List ℕ)) → filter_map start_of rest ≡ tail
    → filter_map start_of (cons_option (plain_of form) rest) ≡ form_starts form ++ tail
starts_step (f.Plain plain) rest tail e =
    cons_list (start_of plain) (filter_map start_of rest) ∙ ap (λ (l : List (List ℕ)). option_to_list (start_of plain) ++ l) e
starts_step (f.Lexical role name pattern) rest tail e = e
starts_step (f.Production role production) rest tail e = e
starts_step (f.Aspect name equations) rest tail e = e

extensibles_step : (form : ItemForm Pattern) (rest : List PlainForm) (tail : List (List ℕ)) → filter_map extensible_of rest ≡ tail
    → filter_map extensible_of (cons_option (plain_of form) rest) ≡ form_extensibles form ++ tail
extensibles_step (f.Plain plain) rest tail e =
    cons_list (extensible_of plain) (filter_map extensible_of rest)
    ∙ ap (λ (l : List (List ℕ)). option_to_list (extensible_of plain) ++ l) e
extensibles_step (f.Lexical role name pattern) rest tail e = e
extensibles_step (f.Production role production) rest tail e = e
extensibles_step (f.Aspect name equations) rest tail e = e

concretes_step : (form : ItemForm Pattern) (rest : List ProductionDeclaration) (tail : List (List ℕ))
    → flat_map (λ (d : ProductionDeclaration). names_in_concrete d.role d.production) rest ≡ tail
    → flat_map (λ (d : ProductionDeclaration). names_in_concrete d.role d.production) (cons_option (production_of form) rest)
    ≡ form_concretes form ++ tail
concretes_step (f.Production role production) rest tail e = ap (λ (l : List (List ℕ)). names_in_concrete role production ++ l) e
concretes_step (f.Plain plain) rest tail e = e
concretes_step (f.Lexical role name pattern) rest tail e = e
concretes_step (f.Aspect name equations) rest tail e = e

-- starts, extensible nonterminals, and names in concrete productions
pub starts_flat : (items : Items) → starts items ≡ flat_map (λ (item : Item Pattern). form_starts item.form) items
starts_flat [] = refl
starts_flat (item ∷ items) =
    starts_step item.form (plain_items items) (flat_map (λ (item : Item Pattern). form_starts item.form) items) (starts_flat items)

pub extensibles_flat : (items : Items) → extensibles items ≡ flat_map (λ (item : Item Pattern). form_extensibles item.form) items
extensibles_flat [] = refl
extensibles_flat (item ∷ items) =
    extensibles_step item.form (plain_items items) (flat_map (λ (item : Item Pattern). form_extensibles item.form) items)
    (extensibles_flat items)

pub concretes_flat : (items : Items) → flat_map (λ (d : ProductionDeclaration). names_in_concrete d.role d.production) (productions items)
    ≡ flat_map (λ (item : Item Pattern). form_concretes item.form) items
concretes_flat [] = refl
concretes_flat (item ∷ items) =
    concretes_step item.form (productions items) (flat_map (λ (item : Item Pattern). form_concretes item.form) items) (concretes_flat items)

-- all names, part by part
pub names_flat : (items : Items)
    → (flat_map (λ (item : Item Pattern). form_starts item.form) items
    ++ flat_map (λ (item : Item Pattern). form_extensibles item.form) items)
    ++ flat_map (λ (item : Item Pattern). form_concretes item.form) items ≡ grammar_names items
names_flat items =
    sym (ap (λ (l : List (List ℕ)). (l ++ extensibles items)
    ++ flat_map (λ (d : ProductionDeclaration). names_in_concrete d.role d.production) (productions items)) (starts_flat items)
    ∙ ap (λ (l : List (List ℕ)). (flat_map (λ (item : Item Pattern). form_starts item.form) items ++ l)
    ++ flat_map (λ (d : ProductionDeclaration). names_in_concrete d.role d.production) (productions items)) (extensibles_flat items)
    ∙ ap (λ (l : List (List ℕ)). (flat_map (λ (item : Item Pattern). form_starts item.form) items
    ++ flat_map (λ (item : Item Pattern). form_extensibles item.form) items) ++ l) (concretes_flat items))

-- the same after others
pub names_more : (items : Items) (old one two new : List (List ℕ))
    → one ≡ old ++ flat_map (λ (item : Item Pattern). form_starts item.form) items
    → two ≡ one ++ flat_map (λ (item : Item Pattern). form_extensibles item.form) items
    → new ≡ two ++ flat_map (λ (item : Item Pattern). form_concretes item.form) items → new ≡ old ++ grammar_names items
names_more items old one two new first second third =
    let s = flat_map (λ (item : Item Pattern). form_starts item.form) items in
    let e = flat_map (λ (item : Item Pattern). form_extensibles item.form) items in
    let c = flat_map (λ (item : Item Pattern). form_concretes item.form) items in
    third ∙ (ap (λ z. z ++ c) (second ∙ (ap (λ z. z ++ e) first ∙ append_assoc old s e))
    ∙ (append_assoc old (s ++ e) c ∙ ap (λ z. old ++ z) (names_flat items)))
