-- The equations that items write on a production, item by item.
use Rattle.std.proofs.Common.{◌≡◌, ◌≢◌, ◌++◌, ◌∷◌, [], ℕ, Bool, true, false, List, Option, Some, None, cond, slice_get, ap, sym, refl}
use Rattle.std.proofs.Common.{◌∙◌, append_assoc}
use Rattle.std.specs.Prelude.{filter, filter_map, flat_map, option_to_list}
use Rattle.std.specs.Str.{bytes_eq}
use Rattle.std.proofs.lemmas.List.{append-nil}
use Rattle.std.proofs.lemmas.List.Elements.{filter-append, filter_map-append}
use Rattle.wb_syntax.specs.declared.expression.Equation.{Equation}
use Rattle.wb_syntax.specs.declared.item.Item.{Item}
use Rattle.wb_syntax.specs.declared.item.ItemForm.{ItemForm}
use Rattle.wb_syntax.specs.declared.item.ItemForm.TheVariants as f
use Rattle.wb_syntax.specs.declared.pattern.Pattern.{Pattern}
use Rattle.wb_syntax.specs.Equations.{equations_of}
use Rattle.wb_names_theory.specs.Declarations.{Items}
use Rattle.wb_names_numbers_theory.specs.Files.{Block, block_of, blocks, equations_on}
use Rattle.wb_names_numbers_theory.proofs.Selected.{same_bytes, bytes_same}
use Rattle.wb_names_rows.specs.Blocks.{equations_in, equations_at}

-- lists of lists, one after the other
pub flat_map_append : {X Y : Type 0} (g : X → List Y) (xs ys : List X) → flat_map g (xs ++ ys) ≡ flat_map g xs ++ flat_map g ys
flat_map_append g [] ys = refl
flat_map_append g (x ∷ xs) ys = ap (λ z. g x ++ z) (flat_map_append g xs ys) ∙ sym (append_assoc (g x) (flat_map g xs) (flat_map g ys))

pub flat_map_push : {X Y : Type 0} (g : X → List Y) (xs : List X) (x : X) → flat_map g (xs ++ x ∷ []) ≡ flat_map g xs ++ g x
flat_map_push g xs x = flat_map_append g xs (x ∷ []) ∙ ap (λ z. flat_map g xs ++ z) (append-nil (g x))

-- the equations of a block, where it is on the production of this name
abbrev pub block_on : List ℕ → Option Block → List Equation
block_on name o = flat_map (λ (b : Block). b.equations) (filter (λ (b : Block). bytes_eq b.name name) (option_to_list o))

kept : (o : Option Block) → filter_map (λ (x : Option Block). x) (o ∷ []) ≡ option_to_list o
kept None = refl
kept (Some x) = refl

-- two lists of items, one after the other
pub on_append : (name : List ℕ) (first more : Items) → equations_on name (first ++ more) ≡ equations_on name first ++ equations_on name more
on_append name first more =
    let on : Block → Bool = λ b. bytes_eq b.name name in
    let equations : Block → List Equation = λ b. b.equations in
    ap (λ z. flat_map equations (filter on z)) (filter_map-append (λ (x : Item Pattern). block_of x.form) first more)
    ∙ (ap (flat_map equations) (filter-append on (blocks first) (blocks more))
    ∙ flat_map_append equations (filter on (blocks first)) (filter on (blocks more)))

-- one item
pub on_one : (name : List ℕ) (item : Item Pattern) → equations_on name (item ∷ []) ≡ block_on name (block_of item.form)
on_one name item =
    ap (λ z. flat_map (λ (b : Block). b.equations) (filter (λ (b : Block). bytes_eq b.name name) z)) (kept (block_of item.form))

pub on_push : (name : List ℕ) (first : Items) (item : Item Pattern)
    → equations_on name (first ++ item ∷ []) ≡ equations_on name first ++ block_on name (block_of item.form)
on_push name first item =
    on_append name first (item ∷ []) ∙ ap (λ z. equations_on name first ++ z) (on_one name item)

-- a block on this production, and one on another
pub block_where : (name : List ℕ) (b : Block) (is : Bool) → bytes_eq b.name name ≡ is
    → block_on name (Some b) ≡ flat_map (λ (b : Block). b.equations) (cond is (b ∷ []) [])
block_where name b is e = ap (λ z. flat_map (λ (b : Block). b.equations) (cond z (b ∷ []) [])) e

pub block_same : (name : List ℕ) (b : Block) → b.name ≡ name → block_on name (Some b) ≡ b.equations
block_same name b e = block_where name b true (bytes_same b.name name e) ∙ append-nil b.equations

differs : (a b : List ℕ) → a ≢ b → (is : Bool) → bytes_eq a b ≡ is → bytes_eq a b ≡ false
differs a b other true e = absurd (other (same_bytes a b e))
differs a b other false e = e

pub block_other : (name : List ℕ) (b : Block) → b.name ≢ name → block_on name (Some b) ≡ []
block_other name b other = block_where name b false (differs b.name name other (bytes_eq b.name name) refl)

-- the equations of a block are those of its item
pub equations_of_form : (form : ItemForm Pattern) (b : Block) → block_of form ≡ Some b → equations_of form ≡ b.equations
equations_of_form (f.Lexical role name pattern) b e = absurd (cc e)
equations_of_form (f.Plain plain) b e = absurd (cc e)
equations_of_form (f.Production role p) b e =
    let is : record { name = p.name; equations = p.equations } ≡ b = cc in ap (λ (z : Block). z.equations) is
equations_of_form (f.Aspect name es) b e =
    let is : record { name = name; equations = es } ≡ b = cc in ap (λ (z : Block). z.equations) is

-- the equations at one more place
pub at_push : (items : Items) (places : List ℕ) (place : ℕ) (item : Item Pattern) → slice_get items place ≡ Some item
    → equations_at items (places ++ place ∷ []) ≡ equations_at items places ++ equations_of item.form
at_push items places place item at =
    flat_map_push (λ (z : ℕ). equations_in (slice_get items z)) places place ∙ ap (λ z. equations_at items places ++ equations_in z) at
