-- What a file says of its names: which are of the grammar, what is written on a production, and flow types of what is forwarded to.
use Rattle.std.specs.Prelude.{◌≡◌, ◌⊎◌, ◌++◌, ◌∷◌, [], ℕ, List, Option, Some, None, Contains, filter, filter_map, flat_map, slice_get}
use Rattle.std.specs.Str.{bytes_eq}
use Rattle.wb_syntax_resolved.specs.declared.attributes.Nonterminal.{Nonterminal}
use Rattle.wb_syntax_resolved.specs.declared.resolved.ResolvedParts.{ResolvedParts}
use Rattle.wb_syntax_resolved.specs.Grammar.{IsOfGrammar}
use Rattle.wb_syntax.specs.declared.expression.Equation.{Equation}
use Rattle.wb_syntax.specs.declared.item.Item.{Item}
use Rattle.wb_syntax.specs.declared.item.ItemForm.{ItemForm}
use Rattle.wb_syntax.specs.declared.item.ItemForm.TheVariants as f
use Rattle.wb_syntax.specs.declared.pattern.Pattern.{Pattern}
use Rattle.wb_syntax.specs.declared.production.Child.{Child}
use Rattle.wb_syntax.specs.declared.production.Production.{Production}
use Rattle.wb_syntax.specs.declared.production.ProductionRole.{ProductionRole}
use Rattle.wb_syntax.specs.declared.production.ProductionRole.TheVariants.{Concrete, Abstract}
use Rattle.wb_syntax.specs.Names.{kind_names}
use Rattle.wb_names_theory.specs.Declarations.{Items, ForwardDeclaration, ProductionDeclaration, starts, extensibles, productions, forwards}

-- a file: what was there before it, whose its names are, the names of the extensions up to it, and its items
pub record File : Type 0 where
  pub base : ResolvedParts
  pub owner : ℕ
  pub extensions : List (List ℕ)
  pub items : Items

-- equations that are written on the production of this name, in its own item or in an aspect
pub record Block : Type 0 where
  pub name : List ℕ
  pub equations : List Equation

-- the equations that an item writes on a production
abbrev pub block_of : ItemForm Pattern → Option Block
block_of (f.Lexical role name pattern) = None
block_of (f.Plain plain) = None
block_of (f.Production role p) = Some (record { name = p.name; equations = p.equations })
block_of (f.Aspect name equations) = Some (record { name = name; equations = equations })

-- all equations that items write on productions
abbrev pub blocks : Items → List Block
blocks items = filter_map (λ (item : Item Pattern). block_of item.form) items

-- the equations on the production of this name, in the order of the text
abbrev pub equations_on : List ℕ → Items → List Equation
equations_on name items = flat_map (λ (b : Block). b.equations) (filter (λ (b : Block). bytes_eq b.name name) (blocks items))

-- the names in the flow types of what the nonterminal of this name forwards to
abbrev pub forward_needs_of : List ℕ → Items → List (List ℕ)
forward_needs_of name items =
    flat_map (λ (x : ForwardDeclaration). x.needs) (filter (λ (x : ForwardDeclaration). bytes_eq x.nonterminal name) (forwards items))

-- the names on both sides of a concrete production
abbrev pub names_in_concrete : ProductionRole → Production → List (List ℕ)
names_in_concrete Concrete p = p.left ∷ flat_map (λ (c : Child). kind_names c.kind) p.children
names_in_concrete Abstract p = []

-- what the items say is of the grammar: starts, extensible nonterminals, and the names in concrete productions
abbrev pub grammar_names : Items → List (List ℕ)
grammar_names items =
    starts items ++ extensibles items
    ++ flat_map (λ (d : ProductionDeclaration). names_in_concrete d.role d.production) (productions items)

-- the base has a nonterminal of this name in its grammar
pub record IsInBaseGrammar (base : ResolvedParts) (name : List ℕ) : Type 0 where
  pub number : ℕ
  pub nonterminal : Nonterminal
  pub listed : slice_get base.attributes.nonterminals number ≡ Some nonterminal
  pub named : nonterminal.name ≡ name
  pub of_grammar : IsOfGrammar base number

-- the nonterminal of this name is of the grammar of base and file
abbrev pub IsInGrammar : File → List ℕ → Type 0
IsInGrammar file name = IsInBaseGrammar file.base name ⊎ Contains (grammar_names file.items) name
