-- Markers, holes and bridges: who may use which names, and where marks may be.
use Rattle.std.specs.Prelude.{◌≡◌, ◌≢◌, ◌⊎◌, ℕ, List, [], ◌∷◌}
use Rattle.wb_base.specs.declared.symbol.Symbol.{Symbol}
use Rattle.wb_base.specs.declared.symbol.Symbol.TheVariants.{Terminal, Nonterminal}
use Rattle.wb_compose_theory.specs.Worlds.{World, Owner, host, hole, top, Mark, bare, on}

-- each symbol of the list has the property
abbrev pub Each : (Symbol → Type 0) → List Symbol → Type 0
Each P [] = Unit {0}
Each P (x ∷ xs) = P x × Each P xs

-- the symbol is neither a marker nor a hole
abbrev pub IsBare : World → Symbol → Type 0
IsBare w (Terminal t) = w.mark t ≡ bare
IsBare w (Nonterminal a) = Unit {0}

-- what a terminal with this mark becomes
abbrev pub image : World → ℕ → Mark → ℕ
image w t bare = t
image w t (on a) = w.hole_on a

-- each marker becomes the hole of its nonterminal, and every other terminal stays
abbrev pub phi : World → ℕ → ℕ
phi w t = image w t (w.mark t)

-- the production has no mark on its right side, or begins with the mark whose production it is, with no other after it
pub data Shape (w : World) (p : ℕ) : Type 0 where
  unmarked : Each (IsBare w) (w.right p) → Shape w p
  marked : (m a : ℕ) (rest : List Symbol) → w.mark m ≡ on a → p ≡ w.production_of m → w.right p ≡ Terminal m ∷ rest →
      Each (IsBare w) rest → Shape w p

-- the one owner may use what the other owns: it is the host's or its own
abbrev pub Uses : Owner → Owner → Type 0
Uses own other = (other ≡ host) ⊎ (other ≡ own)

-- the added production is on the start, which is the host's, and the end of a text is the host's and no mark
pub record HasHostStart (w : World) : Type 0 where
  pub top_right : w.right w.top_production ≡ Nonterminal w.start_symbol ∷ []
  pub top_owner : w.production_owner w.top_production ≡ top
  pub start_host : w.symbol_owner (Nonterminal w.start_symbol) ≡ host
  pub end_host : w.symbol_owner (Terminal w.end_terminal) ≡ host
  pub end_bare : w.mark w.end_terminal ≡ bare

-- a production uses symbols of the host and of its own owner, which owns its left side too if no mark begins it, and no nonterminal is a
-- hole's
pub record IsNamed (w : World) : Type 0 where
  pub uses : (p : ℕ) → w.production_owner p ≢ top → Each (λ x. Uses (w.production_owner p) (w.symbol_owner x)) (w.right p)
  pub unmarked_owner : (p : ℕ) → Each (IsBare w) (w.right p) → w.production_owner p ≢ top →
      w.production_owner p ≡ w.symbol_owner (Nonterminal (w.left p))
  pub no_hole : (a : ℕ) → w.symbol_owner (Nonterminal a) ≢ hole

-- a mark begins one production, is nowhere else, and owns that production, whose left side is the mark's nonterminal, one of the host
pub record HasBridges (w : World) : Type 0 where
  pub shape : (p : ℕ) → Shape w p
  pub bridge_left : (m a : ℕ) → w.mark m ≡ on a → w.left (w.production_of m) ≡ a
  pub bridge_host : (m a : ℕ) → w.mark m ≡ on a → w.symbol_owner (Nonterminal a) ≡ host
  pub bridge_right : (m a : ℕ) → w.mark m ≡ on a → (rest : List Symbol) × (w.right (w.production_of m) ≡ Terminal m ∷ rest)
  pub bridge_owner : (m a : ℕ) → w.mark m ≡ on a → w.production_owner (w.production_of m) ≡ w.symbol_owner (Terminal m)

-- a nonterminal with a mark has one hole, which is alone in its production
pub record HasHolesOnce (w : World) : Type 0 where
  pub hole_only : (m a : ℕ) → w.mark m ≡ on a → w.symbol_owner (Terminal m) ≡ hole → m ≡ w.hole_on a
  pub hole_mark : (m a : ℕ) → w.mark m ≡ on a → w.mark (w.hole_on a) ≡ on a
  pub hole_owner : (m a : ℕ) → w.mark m ≡ on a → w.symbol_owner (Terminal (w.hole_on a)) ≡ hole
  pub hole_right : (m a : ℕ) → w.mark m ≡ on a → w.right (w.production_of (w.hole_on a)) ≡ Terminal (w.hole_on a) ∷ []

-- names are used by those who may, and marks are where they may be
pub record IsMarked (w : World) : Type 0 where
  pub start : HasHostStart w
  pub named : IsNamed w
  pub bridges : HasBridges w
  pub holes : HasHolesOnce w
