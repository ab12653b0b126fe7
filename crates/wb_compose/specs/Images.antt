-- What the terminals of a host with an extension stand for, beside the host alone.
use Rattle.std.specs.Prelude.{◌≡◌, ◌⊎◌, ◌+◌, ℕ, List, ◌∷◌, Some, slice_get}
use Rattle.wb_base.specs.declared.symbol.Symbol.{Symbol}
use Rattle.wb_base.specs.declared.symbol.Symbol.TheVariants.{Terminal}
use Rattle.wb_base.specs.Grammar.{GrammarView}
use Rattle.wb_grammar_theory.specs.Productions.{IsProduction}
use Rattle.wb_marking.specs.Markers.{IsMarker}
use Rattle.wb_syntax_resolved.specs.declared.resolved.ResolvedParts.{ResolvedParts}

-- the terminal is a marker, and begins a production on the nonterminal
pub record BeginsOn (r : ResolvedParts) (g : GrammarView) (t a : ℕ) : Type 0 where
  pub is_marker : IsMarker r t
  pub number : ℕ
  pub rest : List Symbol
  pub production : IsProduction g number a (Terminal t ∷ rest)

-- this is the hole of the nonterminal: holes come after the terminals of the grammar, in the order of the extensible nonterminals
pub record IsHoleOf (g : GrammarView) (extensible : List ℕ) (a hole : ℕ) : Type 0 where
  pub place : ℕ
  pub at : slice_get extensible place ≡ Some a
  pub is : hole ≡ g.terminals + place

-- a marker that begins a production on a nonterminal stands for the hole of this, and any other terminal for itself
abbrev pub IsImage : ResolvedParts → GrammarView → (t image : ℕ) → Type 0
IsImage r g t image =
    ((a : ℕ) × BeginsOn r g t a × IsHoleOf g r.extensible a image) ⊎ ((¬ IsMarker r t) × (image ≡ t))
