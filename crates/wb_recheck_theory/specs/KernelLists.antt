-- Kernels as lists of items, with the moves between them, and the prefixes that are found along the moves.
use Rattle.std.specs.Prelude.{◌≡◌, ◌↔◌, ℕ, suc, ◌<◌, List, [], ◌∷◌, ◌++◌, length, Some, Contains, slice_get}
use Rattle.wb_base.specs.declared.symbol.Symbol.{Symbol}
use Rattle.wb_base.specs.Grammar.{GrammarView}
use Rattle.wb_grammar_theory.specs.declared.item.Item.{Item}
use Rattle.wb_grammar_theory.specs.Items.{IsViablePrefix, IsKernelItem}
use Rattle.wb_recheck_theory.specs.declared.line.Line.{Line}
use Rattle.wb_recheck_theory.specs.Lines.{kernel_count, IsKernelItemAt, HasMove, IsMoveOf}

-- the list of this number has exactly the items of the prefix's kernel
pub record IsKernelOf (g : GrammarView) (kernels : List (List Item)) (s : ℕ) (prefix : List Symbol) : Type 0 where
  pub kernel : List Item
  pub at : slice_get kernels s ≡ Some kernel
  pub exact : (item : Item) → Contains kernel item ↔ IsKernelItem g prefix item

-- the symbol leads from the one kernel to the other: they are those of a prefix, and of that prefix with the symbol after it
pub record IsMoveBetween (g : GrammarView) (kernels : List (List Item)) (s : ℕ) (x : Symbol) (next : ℕ) : Type 0 where
  pub prefix : List Symbol
  pub viable : IsViablePrefix g (prefix ++ x ∷ [])
  pub before : IsKernelOf g kernels s prefix
  pub after : IsKernelOf g kernels next (prefix ++ x ∷ [])

-- the lists are exactly the kernels of the grammar's prefixes, each once, that of the empty prefix first, and the moves are exactly those
-- between them
pub record AreKernelsAndMoves (g : GrammarView) (kernels : List (List Item)) (moves : List (ℕ × Symbol × ℕ)) : Type 0 where
  pub first : IsKernelOf g kernels 0 []
  pub sound : (s : ℕ) → s < length kernels → (prefix : List Symbol) × IsViablePrefix g prefix × IsKernelOf g kernels s prefix
  pub all : (prefix : List Symbol) → IsViablePrefix g prefix → (s : ℕ) × IsKernelOf g kernels s prefix
  pub once : (s other : ℕ) (prefix : List Symbol) → IsKernelOf g kernels s prefix → IsKernelOf g kernels other prefix → s ≡ other
  pub between : (s : ℕ) (x : Symbol) (next : ℕ) → Contains moves (s, x, next) ↔ IsMoveBetween g kernels s x next

-- the moves lead from the kernel 0 to this one by the symbols of the prefix, one after another
pub data IsFoundAt (moves : List (ℕ × Symbol × ℕ)) : List Symbol → ℕ → Type 0 where
  at_start : {prefix : List Symbol} {s : ℕ} → prefix ≡ [] → s ≡ 0 → IsFoundAt moves prefix s
  onward : (shorter : List Symbol) (from : ℕ) (x : Symbol) {prefix : List Symbol} {s : ℕ} → IsFoundAt moves shorter from →
      Contains moves (from, x, s) → prefix ≡ shorter ++ x ∷ [] → IsFoundAt moves prefix s

-- each line is one of the moves, from an earlier kernel to the line's own
abbrev pub AreMovesOfLines : List (ℕ × Symbol × ℕ) → List Line → Type 0
AreMovesOfLines moves lines =
    (n : ℕ) (line : Line) → slice_get lines n ≡ Some line → (line.from < suc n) × Contains moves (line.from, line.symbol, suc n)

-- the lists have exactly the items of the lines' kernels
pub record AreKernelsOfLines (g : GrammarView) (lines : List Line) (kernels : List (List Item)) : Type 0 where
  pub len : length kernels ≡ kernel_count lines
  pub exact : (k : ℕ) (kernel : List Item) → slice_get kernels k ≡ Some kernel → (item : Item) →
      Contains kernel item ↔ IsKernelItemAt g lines k item

-- and the moves are exactly those that these kernels have
pub record AreListsOfLines (g : GrammarView) (lines : List Line) (kernels : List (List Item)) (moves : List (ℕ × Symbol × ℕ)) : Type 0 where
  pub kernels_exact : AreKernelsOfLines g lines kernels
  pub between : (k : ℕ) (x : Symbol) (m : ℕ) →
      Contains moves (k, x, m) ↔ ((k < kernel_count lines) × (m < kernel_count lines) × HasMove g lines k x × IsMoveOf g lines k x m)
