-- A host and extensions that are certified, each extension with the host alone.
use Rattle.std.specs.Prelude.{◌≡◌, ℕ, List, All}
use Rattle.wb_base.specs.Grammar.{GrammarView}
use Rattle.wb_grammar_theory.specs.Lookaheads.{HasNoConflict}
use Rattle.wb_marking_holes.specs.Holes.{with_holes_of}
use Rattle.wb_compose_theory.specs.Numbered.{IsFit, IsComposableHost, IsComposable, KeepsKernelLookaheads, StaysInEnvelope}
use Rattle.wb_compose_theory.specs.Renamings.{Renaming}
use Rattle.wb_compose_theory_grammar.specs.Numberings.{up_of, phi_of}
use Rattle.wb_compose_theory_grammar.specs.Pieces.{Piece, ArePieces}

-- the extension is certified with the host alone: its grammar is fit, and with holes it has no conflict and meets the lookahead and
-- envelope rules
pub record IsCertifiedPiece (host : GrammarView) (extensible : List ℕ) (x : Piece) : Type 0 where
  pub fit : IsFit x.grammar (with_holes_of x.grammar extensible)
  pub composable : IsComposable (with_holes_of host extensible) (with_holes_of x.grammar extensible) (up_of host x.grammar)
      (phi_of extensible x)

-- the host is certified, and so is each extension
pub record AreCertified (host : GrammarView) (extensible : List ℕ) (pieces : List Piece) : Type 0 where
  pub are_pieces : ArePieces host extensible pieces
  pub host_certified : IsComposableHost host (with_holes_of host extensible)
  pub each_certified : All (IsCertifiedPiece host extensible) pieces

-- an extension is certified, by other words for where numbers go: `up` and `phi` are at each number what they are there, and lookaheads are
-- kept at kernels
pub record IsCertifiedBy (host : GrammarView) (extensible : List ℕ) (x : Piece) (up : Renaming) (phi : ℕ → ℕ) : Type 0 where
  pub terminal_is : (t : ℕ) → up.terminal t ≡ (up_of host x.grammar).terminal t
  pub production_is : (p : ℕ) → up.production p ≡ (up_of host x.grammar).production p
  pub phi_is : (t : ℕ) → phi t ≡ phi_of extensible x t
  pub fit : IsFit x.grammar (with_holes_of x.grammar extensible)
  pub no_conflict : HasNoConflict (with_holes_of x.grammar extensible)
  pub lookaheads : KeepsKernelLookaheads (with_holes_of host extensible) (with_holes_of x.grammar extensible) up phi
  pub envelope : StaysInEnvelope (with_holes_of host extensible) (with_holes_of x.grammar extensible) up phi
