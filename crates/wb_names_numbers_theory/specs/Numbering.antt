-- The names by number, and which number a name has.
use Rattle.std.specs.Prelude.{◌≡◌, ℕ, List, Some, map, slice_get}
use Rattle.wb_syntax_resolved.specs.declared.attributes.Attribute.{Attribute}
use Rattle.wb_syntax_resolved.specs.declared.attributes.Nonterminal.{Nonterminal}
use Rattle.wb_syntax_resolved.specs.declared.equation.Place.{Place}
use Rattle.wb_syntax_resolved.specs.declared.equation.Place.TheVariants as place
use Rattle.wb_syntax_resolved.specs.declared.production.Child.{Child}
use Rattle.wb_syntax_resolved.specs.declared.production.Local.{Local}
use Rattle.wb_syntax_resolved.specs.declared.production.Production.{Production}
use Rattle.wb_syntax_resolved.specs.declared.resolved.ResolvedParts.{ResolvedParts}
use Rattle.wb_syntax_resolved.specs.declared.terminal.Terminal.{Terminal}
use Rattle.wb_syntax_resolved.specs.Once.{Entry}
use Rattle.wb_syntax_resolved.specs.Owners.{Sees}

-- the names of terminals, nonterminals, attributes and productions by number, each with whose it is
pub record Numbering : Type 0 where
  pub terminals : List Entry
  pub nonterminals : List Entry
  pub attributes : List Entry
  pub productions : List Entry

-- those of a resolved specification
abbrev pub numbering_of : ResolvedParts → Numbering
numbering_of r = record {
  terminals = map (λ (t : Terminal). (t.owner, t.name)) r.terminals;
  nonterminals = map (λ (n : Nonterminal). (n.owner, n.name)) r.attributes.nonterminals;
  attributes = map (λ (a : Attribute). (a.owner, a.name)) r.attributes.attributes;
  productions = map (λ (p : Production). (p.owner, p.name)) r.attributes.productions;
}

-- the name, as this owner writes it, has this number among these names
pub record IsNumber (names : List Entry) (owner : ℕ) (name : List ℕ) (number : ℕ) : Type 0 where
  pub other : ℕ
  pub is : slice_get names number ≡ Some (other, name)
  pub seen : Sees owner other

-- the labels of a production: those of its children, and those of its locals with whose each is
pub record Labels : Type 0 where
  pub children : List (List ℕ)
  pub locals : List Entry

-- those of a numbered production
abbrev pub labels_in : Production → Labels
labels_in production = record {
  children = map (λ (c : Child). c.label) production.children;
  locals = map (λ (l : Local). (l.owner, l.label)) production.locals;
}

-- the label, as this owner writes it, names this place
abbrev pub IsPlace : Labels → ℕ → List ℕ → Place → Type 0
IsPlace labels owner label (place.Child k) = slice_get labels.children k ≡ Some label
IsPlace labels owner label (place.Local k) = IsNumber labels.locals owner label k
