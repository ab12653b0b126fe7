-- The moves of a union as they are listed, from those of the certified grammars.
use Rattle.std.specs.Prelude.{◌≡◌, ◌<◌, ◌+◌, ◌++◌, ◌⊎◌, [], ℕ, List, Some, Contains, length, slice_get}
use Rattle.wb_base.specs.declared.symbol.Symbol.{Symbol}
use Rattle.wb_base.specs.declared.symbol.Symbol.TheVariants.{Terminal}
use Rattle.wb_items.specs.declared.transitions.Move.{Move}
use Rattle.wb_items.specs.Kernels.{LeadsTo}
use Rattle.wb_compose_theory.specs.Renamings.{renamed}
use Rattle.wb_determinism_kernels.specs.declared.starts.Start.{Start}
use Rattle.wb_compose_kernels.specs.declared.blocks.Blocks.{Blocks}
use Rattle.wb_compose_kernels.specs.declared.marks.Mark.{Mark}
use Rattle.wb_compose_kernels.specs.declared.splice.Part.{Part}
use Rattle.wb_compose_kernels.specs.declared.splice.Splice.{Splice}
use Rattle.wb_compose_kernels.specs.Inner.Blocks.{IsHoleSymbol, names_by, number_by}

-- what has the property is listed too, and nothing else besides what was
pub record Adds {X : Type 0} (P : X → Type 0) (old new : List X) : Type 0 where
  pub sound : (x : X) → Contains new x → Contains old x ⊎ P x
  pub keeps : (x : X) → Contains old x → Contains new x
  pub complete : (x : X) → P x → Contains new x

-- a marker: the hole for which it stands, in the host's numbers, its number in the union, and the number of the list after it
pub record IsMarkOf (b : Blocks) (numbers : List ℕ) (start : Start) (mark : Mark) : Type 0 where
  pub hole : mark.hole ≡ start.hole
  pub terminal : mark.terminal ≡ number_by b.terminals start.marker
  pub number : slice_get numbers start.number ≡ Some mark.number

-- it is that of a start of the extension of this number
pub record IsMarkAt (s : Splice) (blocks : List Blocks) (host : List ℕ) (new : List (List ℕ)) (e : ℕ) (mark : Mark) : Type 0 where
  pub part : Part
  pub at : slice_get s.parts.now e ≡ Some part
  pub names : Blocks
  pub names_at : slice_get blocks e ≡ Some names
  pub numbers : List ℕ
  pub numbers_at : slice_get new e ≡ Some numbers
  pub start : Start
  pub listed : Contains part.new.now.starts start
  pub is : IsMarkOf names (host ++ numbers) start mark

-- those of the first extensions
abbrev pub AreMarksUpTo : Splice → List Blocks → List ℕ → List (List ℕ) → ℕ → List Mark → Type 0
AreMarksUpTo s blocks host new n marks = Adds (λ mark. (e : ℕ) × (e < n) × IsMarkAt s blocks host new e mark) [] marks

-- the union's move for a move of a certified grammar to a number: the same in the union's numbers where the symbol is no hole, and else one
-- over each marker that stands for it
pub data IsMoveOf (b : Blocks) (numbers : List ℕ) (marks : List Mark) (u : ℕ) (move : Move) (m : ℕ × Symbol × ℕ) : Type 0 where
  plain : (v : ℕ) → ¬ IsHoleSymbol b.terminals move.symbol → slice_get numbers move.state ≡ Some v →
      m ≡ (u, renamed (names_by b) move.symbol, v) → IsMoveOf b numbers marks u move m
  marked : (mark : Mark) → IsHoleSymbol b.terminals move.symbol → Contains marks mark →
      move.symbol ≡ Terminal (mark.hole + b.terminals.size) → m ≡ (u, Terminal mark.terminal, mark.number) →
      IsMoveOf b numbers marks u move m

-- for one of the moves of a row
pub record IsRowMove (b : Blocks) (numbers : List ℕ) (marks : List Mark) (u : ℕ) (row : List Move) (m : ℕ × Symbol × ℕ) : Type 0 where
  pub move : Move
  pub listed : Contains row move
  pub is : IsMoveOf b numbers marks u move m

-- for a move of the host's kernel of this number
pub record IsHostMove (s : Splice) (b : Blocks) (host : List ℕ) (marks : List Mark) (k : ℕ) (m : ℕ × Symbol × ℕ) : Type 0 where
  pub number : ℕ
  pub at : slice_get host k ≡ Some number
  pub move : Move
  pub leads : LeadsTo s.kernels.now k move.symbol move.state
  pub is : IsMoveOf b (host ++ []) marks number move m

-- for a move of the new kernel at a place of the extension of this number
pub record IsNewMove (s : Splice) (b : Blocks) (host numbers : List ℕ) (marks : List Mark) (e i : ℕ) (m : ℕ × Symbol × ℕ) : Type 0 where
  pub part : Part
  pub part_at : slice_get s.parts.now e ≡ Some part
  pub row : List Move
  pub row_at : slice_get part.new.now.moves i ≡ Some row
  pub number : ℕ
  pub at : slice_get numbers i ≡ Some number
  pub is : IsRowMove b (host ++ numbers) marks number row m

-- for a move of some new kernel of the extension of this number
pub record IsPartMove (s : Splice) (blocks : List Blocks) (host : List ℕ) (new : List (List ℕ)) (marks : List Mark) (e : ℕ)
    (m : ℕ × Symbol × ℕ) : Type 0 where
  pub names : Blocks
  pub names_at : slice_get blocks e ≡ Some names
  pub numbers : List ℕ
  pub numbers_at : slice_get new e ≡ Some numbers
  pub place : ℕ
  pub is : IsNewMove s names host numbers marks e place m

-- for a move of any of them
abbrev pub IsAnyMove : Splice → Blocks → List Blocks → List ℕ → List (List ℕ) → List Mark → (ℕ × Symbol × ℕ) → Type 0
IsAnyMove s b blocks host new marks m =
    ((k : ℕ) × IsHostMove s b host marks k m) ⊎ ((e : ℕ) × IsPartMove s blocks host new marks e m)

-- all moves, with some marks
pub record AreMovesOf (s : Splice) (b : Blocks) (blocks : List Blocks) (host : List ℕ) (new : List (List ℕ))
    (moves : List (ℕ × Symbol × ℕ)) : Type 0 where
  pub marks : List Mark
  pub are_marks : AreMarksUpTo s blocks host new (length s.parts.now) marks
  pub added : Adds (IsAnyMove s b blocks host new marks) [] moves
