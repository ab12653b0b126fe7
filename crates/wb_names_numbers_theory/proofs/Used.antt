-- What items use, from their parts.
use Rattle.std.proofs.Common.{◌≡◌, ℕ, List, Some, Contains, All, sym, refl, subst}
use Rattle.std.specs.Prelude.{flat_map}
use Rattle.wb_lemmas.proofs.Members.{contains_later, append_contains_left, append_contains_right}
use Rattle.wb_lemmas.proofs.Elements.{all_contained}
use Rattle.wb_base.specs.Identifiers.{IsName}
use Rattle.wb_syntax_expressions.specs.Expression.{IsWhole}
use Rattle.wb_syntax.specs.declared.expression.Equation as written
use Rattle.wb_syntax.specs.declared.item.Item.{Item}
use Rattle.wb_syntax.specs.declared.item.ItemForm.{ItemForm}
use Rattle.wb_syntax.specs.declared.item.ItemForm.TheVariants as f
use Rattle.wb_syntax.specs.declared.item.PlainForm.{PlainForm}
use Rattle.wb_syntax.specs.declared.pattern.Pattern.{Pattern}
use Rattle.wb_syntax.specs.declared.production.Child.{Child}
use Rattle.wb_syntax.specs.Equations.{HasWholeEquations, equations_of}
use Rattle.wb_syntax.specs.Expression.{Node}
use Rattle.wb_syntax.specs.Names.{FormHasNames, EquationHasNames, ProductionHasNames, plain_names}
use Rattle.wb_names_theory.specs.declared.usage.Usage.{Usage}
use Rattle.wb_names_theory.specs.declared.usage.Usage.TheVariants as u
use Rattle.wb_names_theory.specs.declared.usage.Wanted.TheVariants as w
use Rattle.wb_names_theory.specs.Declarations.{Items, ProductionDeclaration, LexicalDeclaration, productions, plain_items, lexicals}
use Rattle.wb_names_theory.specs.Declarations.{production_of, plain_of}
use Rattle.wb_names_theory.specs.Declarations.{lexical_of}
use Rattle.wb_names_theory.specs.Uses.{uses, form_uses, plain_uses, production_uses, equation_uses, target_uses, node_uses, kind_uses}
use Rattle.wb_names_theory.specs.Uses.{child_wanted}
use Rattle.wb_names_numbers_theory.specs.Files.{Block, blocks, block_of}
use Rattle.wb_names_numbers_theory.proofs.OwnDeclared.{flat_map_contains}
use Rattle.wb_names_numbers_theory.proofs.Selected.{kept_from}

-- what an item uses is used
from_item : (items : Items) (item : Item Pattern) → Contains items item → (form : ItemForm Pattern) → item.form ≡ form → (it : Usage)
    → Contains (form_uses form) it → Contains (uses items) it
from_item items item has form e it more =
    flat_map_contains (λ (x : Item Pattern). form_uses x.form) items item it has (subst (λ z. Contains (form_uses z) it) (sym e) more)

-- a production, an item of names alone, and an equation
pub production_used : (items : Items) (x : ProductionDeclaration) → Contains (productions items) x → (it : Usage)
    → Contains (production_uses x.role x.production) it → Contains (uses items) it
production_used items x has it more =
    let k = kept_from (λ (x : Item Pattern). production_of x.form) items x has in
    from k.0 k.1 k.0.form refl k.2 where
      from : (item : Item Pattern) → Contains items item → (form : ItemForm Pattern) → item.form ≡ form → production_of form ≡ Some x
          → Contains (uses items) it
      from item there (f.Lexical role name pattern) e o = absurd (cc o)
      from item there (f.Plain plain) e o = absurd (cc o)
      from item there (f.Aspect name es) e o = absurd (cc o)
      from item there (f.Production role p) e o =
          let same : record { role = role; production = p } ≡ x = cc in
          from_item items item there (f.Production role p) e it
          (subst (λ (z : ProductionDeclaration). Contains (production_uses z.role z.production) it) (sym same) more)

pub plain_used : (items : Items) (x : PlainForm) → Contains (plain_items items) x → (it : Usage) → Contains (plain_uses x) it
    → Contains (uses items) it
plain_used items x has it more =
    let k = kept_from (λ (x : Item Pattern). plain_of x.form) items x has in
    from k.0 k.1 k.0.form refl k.2 where
      from : (item : Item Pattern) → Contains items item → (form : ItemForm Pattern) → item.form ≡ form → plain_of form ≡ Some x
          → Contains (uses items) it
      from item there (f.Lexical role name pattern) e o = absurd (cc o)
      from item there (f.Production role p) e o = absurd (cc o)
      from item there (f.Aspect name es) e o = absurd (cc o)
      from item there (f.Plain plain) e o =
          let same : plain ≡ x = cc in
          from_item items item there (f.Plain plain) e it (subst (λ z. Contains (plain_uses z) it) (sym same) more)

pub equation_used : (items : Items) (b : Block) → Contains (blocks items) b → (q : written.Equation) → Contains b.equations q → (it : Usage)
    → Contains (equation_uses b.name q) it → Contains (uses items) it
equation_used items b has q inside it more =
    let k = kept_from (λ (x : Item Pattern). block_of x.form) items b has in
    from k.0 k.1 k.0.form refl k.2 where
      from : (item : Item Pattern) → Contains items item → (form : ItemForm Pattern) → item.form ≡ form → block_of form ≡ Some b
          → Contains (uses items) it
      from item there (f.Lexical role name pattern) e o = absurd (cc o)
      from item there (f.Plain plain) e o = absurd (cc o)
      from item there (f.Production role p) e o =
          let same : record { name = p.name; equations = p.equations } ≡ b = cc in
          let here : Contains (flat_map (equation_uses p.name) p.equations) it =
          flat_map_contains (equation_uses p.name) p.equations q it
          (subst (λ (z : Block). Contains z.equations q) (sym same) inside)
          (subst (λ (z : Block). Contains (equation_uses z.name q) it) (sym same) more) in
          from_item items item there (f.Production role p) e it
          (contains_later (u.Name p.left w.Nonterminal) it _
          (append_contains_right (flat_map (λ (c : Child). kind_uses (child_wanted role) c.kind) p.children)
          (flat_map (equation_uses p.name) p.equations) it here))
      from item there (f.Aspect name es) e o =
          let same : record { name = name; equations = es } ≡ b = cc in
          let here : Contains (flat_map (equation_uses name) es) it =
          flat_map_contains (equation_uses name) es q it (subst (λ (z : Block). Contains z.equations q) (sym same) inside)
          (subst (λ (z : Block). Contains (equation_uses z.name q) it) (sym same) more) in
          from_item items item there (f.Aspect name es) e it (contains_later (u.Name name w.Production) it (flat_map (equation_uses name)
          es) here)

-- what the nodes of an equation use, and what its target does
pub node_used : (production : List ℕ) (q : written.Equation) (node : Node) → Contains q.nodes node → (it : Usage)
    → Contains (node_uses production node) it → Contains (equation_uses production q) it
node_used production q node has it more =
    append_contains_right (target_uses production q.target) (flat_map (node_uses production) q.nodes) it
    (flat_map_contains (node_uses production) q.nodes node it has more)

pub target_used : (production : List ℕ) (q : written.Equation) (it : Usage) → Contains (target_uses production q.target) it
    → Contains (equation_uses production q) it
target_used production q it more = append_contains_left (target_uses production q.target) (flat_map (node_uses production) q.nodes) it more

-- the names in an equation are names, and its nodes a whole
pub equation_names : (items : Items) → All (λ (x : Item Pattern). FormHasNames x.form) items → (b : Block) → Contains (blocks items) b
    → (q : written.Equation) → Contains b.equations q → EquationHasNames q
equation_names items names b has q inside =
    let k = kept_from (λ (x : Item Pattern). block_of x.form) items b has in
    from k.0.form k.2 (all_contained (λ (x : Item Pattern). FormHasNames x.form) items k.0 names k.1) where
      from : (form : ItemForm Pattern) → block_of form ≡ Some b → FormHasNames form → EquationHasNames q
      from (f.Lexical role name pattern) o h = absurd (cc o)
      from (f.Plain plain) o h = absurd (cc o)
      from (f.Production role p) o h =
          let same : record { name = p.name; equations = p.equations } ≡ b = cc in
          all_contained EquationHasNames p.equations q h.equations (subst (λ (z : Block). Contains z.equations q) (sym same) inside)
      from (f.Aspect name es) o h =
          let same : record { name = name; equations = es } ≡ b = cc in
          all_contained EquationHasNames es q h.1 (subst (λ (z : Block). Contains z.equations q) (sym same) inside)

pub equation_whole : (items : Items) → All HasWholeEquations items → (b : Block) → Contains (blocks items) b → (q : written.Equation)
    → Contains b.equations q → IsWhole q.nodes
equation_whole items whole b has q inside =
    let k = kept_from (λ (x : Item Pattern). block_of x.form) items b has in
    from k.0.form k.2 (all_contained HasWholeEquations items k.0 whole k.1) where
      from : (form : ItemForm Pattern) → block_of form ≡ Some b → All (λ (e : written.Equation). IsWhole e.nodes) (equations_of form)
          → IsWhole q.nodes
      from (f.Lexical role name pattern) o h = absurd (cc o)
      from (f.Plain plain) o h = absurd (cc o)
      from (f.Production role p) o h =
          let same : record { name = p.name; equations = p.equations } ≡ b = cc in
          all_contained (λ (e : written.Equation). IsWhole e.nodes) p.equations q h (subst (λ (z : Block). Contains z.equations q) (sym
          same) inside)
      from (f.Aspect name es) o h =
          let same : record { name = name; equations = es } ≡ b = cc in
          all_contained (λ (e : written.Equation). IsWhole e.nodes) es q h (subst (λ (z : Block). Contains z.equations q) (sym same) inside)

-- the names in a production, in a terminal's item and in an item of names alone
pub production_names : (items : Items) → All (λ (x : Item Pattern). FormHasNames x.form) items → (x : ProductionDeclaration)
    → Contains (productions items) x → ProductionHasNames x.production
production_names items names x has =
    let k = kept_from (λ (x : Item Pattern). production_of x.form) items x has in
    from k.0.form k.2 (all_contained (λ (x : Item Pattern). FormHasNames x.form) items k.0 names k.1) where
      from : (form : ItemForm Pattern) → production_of form ≡ Some x → FormHasNames form → ProductionHasNames x.production
      from (f.Lexical role name pattern) o h = absurd (cc o)
      from (f.Plain plain) o h = absurd (cc o)
      from (f.Aspect name es) o h = absurd (cc o)
      from (f.Production role p) o h =
          let same : record { role = role; production = p } ≡ x = cc in subst (λ (z : ProductionDeclaration). ProductionHasNames
          z.production) same h

pub lexical_name : (items : Items) → All (λ (x : Item Pattern). FormHasNames x.form) items → (x : LexicalDeclaration)
    → Contains (lexicals items) x → IsName x.name
lexical_name items names x has =
    let k = kept_from (λ (x : Item Pattern). lexical_of x.form) items x has in
    from k.0.form k.2 (all_contained (λ (x : Item Pattern). FormHasNames x.form) items k.0 names k.1) where
      from : (form : ItemForm Pattern) → lexical_of form ≡ Some x → FormHasNames form → IsName x.name
      from (f.Production role p) o h = absurd (cc o)
      from (f.Plain plain) o h = absurd (cc o)
      from (f.Aspect name es) o h = absurd (cc o)
      from (f.Lexical role name pattern) o h =
          let same : record { role = role; name = name; pattern = pattern } ≡ x = cc in subst (λ (z : LexicalDeclaration). IsName z.name)
          same h

pub plain_item_names : (items : Items) → All (λ (x : Item Pattern). FormHasNames x.form) items → (x : PlainForm)
    → Contains (plain_items items) x → All IsName (plain_names x)
plain_item_names items names x has =
    let k = kept_from (λ (x : Item Pattern). plain_of x.form) items x has in
    from k.0.form k.2 (all_contained (λ (x : Item Pattern). FormHasNames x.form) items k.0 names k.1) where
      from : (form : ItemForm Pattern) → plain_of form ≡ Some x → FormHasNames form → All IsName (plain_names x)
      from (f.Lexical role name pattern) o h = absurd (cc o)
      from (f.Production role p) o h = absurd (cc o)
      from (f.Aspect name es) o h = absurd (cc o)
      from (f.Plain plain) o h = let same : plain ≡ x = cc in subst (λ z. All IsName (plain_names z)) same h
