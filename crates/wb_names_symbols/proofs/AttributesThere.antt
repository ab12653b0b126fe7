-- Each attribute that is declared has a number, and so has each attribute of which an item says that a forward may need it.
use Rattle.std.proofs.Common.{◌∷◌, [], ℕ, List, All, Contains, map}
use Rattle.std.specs.Prelude.{flat_map}
use Rattle.std.proofs.lemmas.List.Elements.{All-nil}
use Rattle.wb_lemmas.proofs.Elements.{all_from_contained}
use Rattle.wb_lemmas.proofs.Members.{append_contains_left, append_contains_right, contains_first, contains_later}
use Rattle.wb_syntax_resolved.specs.declared.attributes.Attribute.{Attribute}
use Rattle.wb_syntax_resolved.specs.declared.attributes.Direction.{Direction}
use Rattle.wb_syntax.specs.declared.item.Item.{Item}
use Rattle.wb_syntax.specs.declared.item.ItemForm.{ItemForm}
use Rattle.wb_syntax.specs.declared.item.ItemForm.TheVariants as f
use Rattle.wb_syntax.specs.declared.item.PlainForm.TheVariants as i
use Rattle.wb_syntax.specs.declared.pattern.Pattern.{Pattern}
use Rattle.wb_names_theory.specs.declared.declaration.Declaration.TheVariants as d
use Rattle.wb_names_theory.specs.declared.usage.Usage.{Usage}
use Rattle.wb_names_theory.specs.declared.usage.Usage.TheVariants as u
use Rattle.wb_names_theory.specs.declared.usage.Wanted.TheVariants as w
use Rattle.wb_names_theory.specs.Declarations.{AttributeDeclaration, attributes}
use Rattle.wb_names_theory.specs.Declares.{declarations}
use Rattle.wb_names_theory.specs.Hold.{AreMeant}
use Rattle.wb_names_theory.specs.Meaning.{IsAttribute}
use Rattle.wb_names_theory.specs.Uses.{uses, form_uses, needs_uses}
use Rattle.wb_names_numbers_theory.specs.Files.{File}
use Rattle.wb_names_numbers_theory.proofs.OwnDeclared.{flat_map_contains}
use Rattle.wb_names_numbers_theory.proofs.RowLemmas.{map_contains}
use Rattle.wb_names_symbols.specs.Inner.Names.{form_needs}
use Rattle.wb_names_symbols.specs.Inner.Nonterminals.{attribute_names}
use Rattle.wb_names_symbols.proofs.DeclaredThere.{holds_of}

module _ (file : File) where
  abbrev before : List (List ℕ)
  before = map (λ (a : Attribute). a.name) file.base.attributes.attributes

  abbrev declared : List (List ℕ)
  declared = map (λ (d : AttributeDeclaration). d.name) (attributes file.items)

  pub base_attribute : (x : Attribute) → Contains file.base.attributes.attributes x → Contains (attribute_names file) x.name
  base_attribute x has =
      append_contains_left before declared x.name (map_contains (λ (a : Attribute). a.name) file.base.attributes.attributes x has)

  pub declared_attribute : (x : AttributeDeclaration) → Contains (attributes file.items) x → Contains (attribute_names file) x.name
  declared_attribute x has =
      append_contains_right before declared x.name (map_contains (λ (d : AttributeDeclaration). d.name) (attributes file.items) x has)

  pub attribute_there : (name : List ℕ) (goes : Direction) → IsAttribute (declarations file.base file.items) name goes
      → Contains (attribute_names file) name
  attribute_there name goes has =
      holds_of (λ n. Unit {0}) (λ n. Unit {0}) (λ n. Unit {0}) (Contains (attribute_names file)) file.base file.items (λ n h. tt)
      declared_attribute (λ x h. tt) (λ x h. tt) base_attribute (λ x h. tt) (λ x h. tt) (λ x h. tt) (d.Attribute name goes) has

  module _ (meant : AreMeant (declarations file.base file.items) (uses file.items)) where
    need_there : (name : List ℕ) → Contains (uses file.items) (u.Name name w.Inherited) → Contains (attribute_names file) name
    need_there name used = let is = meant.names name w.Inherited used in attribute_there name is.direction is.there

    form_there : (form : ItemForm Pattern) → ((it : Usage) → Contains (form_uses form) it → Contains (uses file.items) it)
        → All (Contains (attribute_names file)) (form_needs form)
    form_there (f.Plain (i.ForwardOn n needs)) inside = all_from_contained (Contains (attribute_names file)) needs (λ a has.
        let it : Usage = u.Name a w.Inherited in
        need_there a (inside it (contains_later (u.Name n w.Nonterminal) it (flat_map (needs_uses n) needs)
        (flat_map_contains (needs_uses n) needs a it has (contains_first it (u.Needs a n ∷ []))))))
    form_there (f.Plain (i.Prefer first second)) inside = All-nil (Contains (attribute_names file))
    form_there (f.Plain (i.Nonterminal z)) inside = All-nil (Contains (attribute_names file))
    form_there (f.Plain (i.Start z)) inside = All-nil (Contains (attribute_names file))
    form_there (f.Plain (i.Extensible z)) inside = All-nil (Contains (attribute_names file))
    form_there (f.Plain (i.Closed z)) inside = All-nil (Contains (attribute_names file))
    form_there (f.Plain (i.Synthesized z kind)) inside = All-nil (Contains (attribute_names file))
    form_there (f.Plain (i.Inherited z kind)) inside = All-nil (Contains (attribute_names file))
    form_there (f.Plain (i.Occurs a n needs)) inside = All-nil (Contains (attribute_names file))
    form_there (f.Lexical role z pattern) inside = All-nil (Contains (attribute_names file))
    form_there (f.Production role p) inside = All-nil (Contains (attribute_names file))
    form_there (f.Aspect z es) inside = All-nil (Contains (attribute_names file))

    pub needs_there : All (λ (item : Item Pattern). All (Contains (attribute_names file)) (form_needs item.form)) file.items
    needs_there = all_from_contained (λ (item : Item Pattern). All (Contains (attribute_names file)) (form_needs item.form)) file.items
        (λ item has.
        form_there item.form (λ it used. flat_map_contains (λ (x : Item Pattern). form_uses x.form) file.items item it has used))
