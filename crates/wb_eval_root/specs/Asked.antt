-- Which attribute is asked by a name: one that is printed so, is synthesized, occurs there, and needs nothing there.
use Rattle.std.specs.Prelude.{◌≡◌, ℕ, List, IsSomeAnd, slice_get}
use Rattle.wb_flow_theory.specs.Occurrences.{Needs, Occurs}
use Rattle.wb_syntax_resolved.specs.declared.attributes.Attribute.{Attribute}
use Rattle.wb_syntax_resolved.specs.declared.attributes.Direction.TheVariants.{Synthesized}
use Rattle.wb_syntax_resolved.specs.declared.attribution.AttributionParts.{AttributionParts}
use Rattle.wb_syntax_resolved.specs.Owners.{printed_name}
use Rattle.wb_values.specs.Fits.{FitsTree}
use Rattle.wb_values.specs.Tree.{Tree}

-- the attribute of this number is printed so: by its name, that of an extension after the extension's
abbrev pub IsPrintedAs : AttributionParts → List ℕ → ℕ → Type 0
IsPrintedAs a name attribute =
    IsSomeAnd (slice_get a.attributes attribute) (λ (x : Attribute). printed_name a.extensions x.owner x.name ≡ name)

-- the attribute is printed so and may be asked on the nonterminal: it is synthesized, occurs there, and needs nothing there
pub record IsAskedOn (a : AttributionParts) (name : List ℕ) (nonterminal attribute : ℕ) : Type 0 where
  pub named : IsPrintedAs a name attribute
  pub occurs : Occurs a Synthesized attribute nonterminal
  pub needs_nothing : (i : ℕ) → ¬ Needs a attribute nonterminal i

-- it may be asked of the tree: on the nonterminal of which this is a tree
pub record IsAskedAs (a : AttributionParts) (top : Tree) (name : List ℕ) (attribute : ℕ) : Type 0 where
  pub nonterminal : ℕ
  pub fits : FitsTree a.signatures top nonterminal
  pub asked : IsAskedOn a name nonterminal attribute
