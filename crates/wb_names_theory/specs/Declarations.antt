-- What the items of a specification declare, in the order in which they are written.
use Rattle.std.specs.Prelude.{ℕ, List, Option, Some, None, filter_map}
use Rattle.wb_syntax_resolved.specs.declared.attributes.Direction.{Direction}
use Rattle.wb_syntax_resolved.specs.declared.attributes.Direction.TheVariants.{Synthesized, Inherited}
use Rattle.wb_syntax.specs.declared.item.Item.{Item}
use Rattle.wb_syntax.specs.declared.item.ItemForm.{ItemForm}
use Rattle.wb_syntax.specs.declared.item.ItemForm.TheVariants as f
use Rattle.wb_syntax.specs.declared.item.PlainForm.{PlainForm}
use Rattle.wb_syntax.specs.declared.item.PlainForm.TheVariants as i
use Rattle.wb_syntax.specs.declared.pattern.Pattern.{Pattern}
use Rattle.wb_syntax.specs.declared.pattern.Role.{Role}
use Rattle.wb_syntax.specs.declared.production.NamedKind.{NamedKind}
use Rattle.wb_syntax.specs.declared.production.Production.{Production}
use Rattle.wb_syntax.specs.declared.production.ProductionRole.{ProductionRole}

-- the items of a specification
abbrev pub Items : Type 0
Items = List (Item Pattern)

-- a terminal, layout or marker that an item declares
pub record LexicalDeclaration : Type 0 where
  pub role : Role
  pub name : List ℕ
  pub pattern : Pattern

-- an attribute that an item declares
pub record AttributeDeclaration : Type 0 where
  pub name : List ℕ
  pub direction : Direction
  pub kind : NamedKind

-- an occurrence that an item declares, with its flow type where one is written
pub record OccurrenceDeclaration : Type 0 where
  pub attribute : List ℕ
  pub nonterminal : List ℕ
  pub needs : Option (List (List ℕ))

-- a flow type of a nonterminal's forward that an item declares
pub record ForwardDeclaration : Type 0 where
  pub nonterminal : List ℕ
  pub needs : List (List ℕ)

-- a preference that an item declares
pub record PreferenceDeclaration : Type 0 where
  pub first : List ℕ
  pub second : List ℕ

-- a production that an item declares
pub record ProductionDeclaration : Type 0 where
  pub role : ProductionRole
  pub production : Production

-- the item of names alone that a form is, where it is one
abbrev pub plain_of : ItemForm Pattern → Option PlainForm
plain_of (f.Plain plain) = Some plain
plain_of (f.Lexical role name pattern) = None
plain_of (f.Production role production) = None
plain_of (f.Aspect name equations) = None

-- the items of names alone
abbrev pub plain_items : Items → List PlainForm
plain_items items = filter_map (λ (item : Item Pattern). plain_of item.form) items

-- the terminal, layout or marker that a form declares
abbrev pub lexical_of : ItemForm Pattern → Option LexicalDeclaration
lexical_of (f.Lexical role name pattern) = Some (record { role = role; name = name; pattern = pattern })
lexical_of (f.Plain plain) = None
lexical_of (f.Production role production) = None
lexical_of (f.Aspect name equations) = None

-- the terminals, layout and markers
abbrev pub lexicals : Items → List LexicalDeclaration
lexicals items = filter_map (λ (item : Item Pattern). lexical_of item.form) items

-- the production that a form declares
abbrev pub production_of : ItemForm Pattern → Option ProductionDeclaration
production_of (f.Production role production) = Some (record { role = role; production = production })
production_of (f.Lexical role name pattern) = None
production_of (f.Plain plain) = None
production_of (f.Aspect name equations) = None

-- the productions
abbrev pub productions : Items → List ProductionDeclaration
productions items = filter_map (λ (item : Item Pattern). production_of item.form) items

-- the nonterminal that an item declares
abbrev pub nonterminal_of : PlainForm → Option (List ℕ)
nonterminal_of (i.Nonterminal name) = Some name
nonterminal_of other = None

-- the nonterminals
abbrev pub nonterminals : Items → List (List ℕ)
nonterminals items = filter_map nonterminal_of (plain_items items)

-- the start that an item declares
abbrev pub start_of : PlainForm → Option (List ℕ)
start_of (i.Start name) = Some name
start_of other = None

-- the starts
abbrev pub starts : Items → List (List ℕ)
starts items = filter_map start_of (plain_items items)

-- the nonterminal that an item makes extensible
abbrev pub extensible_of : PlainForm → Option (List ℕ)
extensible_of (i.Extensible name) = Some name
extensible_of other = None

-- the extensible nonterminals
abbrev pub extensibles : Items → List (List ℕ)
extensibles items = filter_map extensible_of (plain_items items)

-- the nonterminal that an item closes
abbrev pub closed_of : PlainForm → Option (List ℕ)
closed_of (i.Closed name) = Some name
closed_of other = None

-- the closed nonterminals
abbrev pub closeds : Items → List (List ℕ)
closeds items = filter_map closed_of (plain_items items)

-- the attribute that an item declares
abbrev pub attribute_of : PlainForm → Option AttributeDeclaration
attribute_of (i.Synthesized name kind) = Some (record { name = name; direction = Synthesized; kind = kind })
attribute_of (i.Inherited name kind) = Some (record { name = name; direction = Inherited; kind = kind })
attribute_of other = None

-- the attributes
abbrev pub attributes : Items → List AttributeDeclaration
attributes items = filter_map attribute_of (plain_items items)

-- the occurrence that an item declares
abbrev pub occurrence_of : PlainForm → Option OccurrenceDeclaration
occurrence_of (i.Occurs attribute nonterminal needs) =
    Some (record { attribute = attribute; nonterminal = nonterminal; needs = needs })
occurrence_of other = None

-- the occurrences
abbrev pub occurrences : Items → List OccurrenceDeclaration
occurrences items = filter_map occurrence_of (plain_items items)

-- the flow type of a forward that an item declares
abbrev pub forward_of : PlainForm → Option ForwardDeclaration
forward_of (i.ForwardOn nonterminal needs) = Some (record { nonterminal = nonterminal; needs = needs })
forward_of other = None

-- the flow types of forwards
abbrev pub forwards : Items → List ForwardDeclaration
forwards items = filter_map forward_of (plain_items items)

-- the preference that an item declares
abbrev pub preference_of : PlainForm → Option PreferenceDeclaration
preference_of (i.Prefer first second) = Some (record { first = first; second = second })
preference_of other = None

-- the preferences
abbrev pub preferences : Items → List PreferenceDeclaration
preferences items = filter_map preference_of (plain_items items)
