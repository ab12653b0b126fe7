-- Kernels as lines, each of which is reached from an earlier one, and the prefixes that lead to them.
use Rattle.std.specs.Prelude.{◌≡◌, ◌≢◌, ◌⊎◌, ◌↔◌, ℕ, suc, ◌<◌, List, [], ◌∷◌, ◌++◌, length, Some, slice_get, slice_index_or}
use Rattle.wb_base.specs.declared.symbol.Symbol.{Symbol}
use Rattle.wb_base.specs.declared.symbol.Symbol.TheVariants.{Nonterminal}
use Rattle.wb_base.specs.Grammar.{GrammarView}
use Rattle.wb_grammar_theory.specs.declared.item.Item.{Item}
use Rattle.wb_grammar_theory.specs.Productions.{IsProduction}
use Rattle.wb_grammar_theory.specs.Items.{after_dot, advance, initial_item, start_item}
use Rattle.wb_grammar_theory.specs.Closure.{MovesTo}
use Rattle.wb_recheck_theory.specs.declared.line.Line.{Line}

-- kernel 0, and one for each line
abbrev pub kernel_count : List Line → ℕ
kernel_count lines = suc (length lines)

-- the item is in the closure of the kernel of this number, where line n stands for the kernel n + 1
pub data IsItemAt (g : GrammarView) (lines : List Line) : ℕ → Item → Type 0 where
  -- the start item, at kernel 0
  at_first : {k : ℕ} {item : Item} → k ≡ 0 → item ≡ start_item g → IsItemAt g lines k item
  -- the initial item of a production before whose left side an item there has its dot
  at_opened : (item : Item) (b : ℕ) (rest : List Symbol) (q : ℕ) (right : List Symbol) {k : ℕ} {new : Item} → IsItemAt g lines k item →
      after_dot g item ≡ Nonterminal b ∷ rest → IsProduction g q b right → new ≡ initial_item q → IsItemAt g lines k new
  -- an item of the kernel that a line names, moved over the symbol that it names, at the line's own kernel
  at_moved : (n : ℕ) (line : Line) (item : Item) (rest : List Symbol) {k : ℕ} {new : Item} → slice_get lines n ≡ Some line → k ≡ suc n →
      IsItemAt g lines line.from item → after_dot g item ≡ line.symbol ∷ rest → new ≡ advance item → IsItemAt g lines k new

-- the item is in the kernel itself: its dot is not at the left end, or it is the start item and the kernel is 0
abbrev pub IsKernelItemAt : GrammarView → List Line → ℕ → Item → Type 0
IsKernelItemAt g lines k item = IsItemAt g lines k item × ((item.dot ≢ 0) ⊎ ((item ≡ start_item g) × (k ≡ 0)))

-- the kernel m is the move of the kernel k by the symbol
abbrev pub IsMoveOf : GrammarView → List Line → ℕ → Symbol → ℕ → Type 0
IsMoveOf g lines k x m = (item : Item) → IsKernelItemAt g lines m item ↔ MovesTo g (IsKernelItemAt g lines k) x item

-- an item of the kernel's closure has its dot before the symbol
abbrev pub HasMove : GrammarView → List Line → ℕ → Symbol → Type 0
HasMove g lines k x = (item : Item) × (rest : List Symbol) × IsItemAt g lines k item × (after_dot g item ≡ x ∷ rest)

-- line n, whose own kernel is n + 1, names a kernel before that and a symbol by which the one it names moves, and no kernel before its own
-- is this move
pub record IsGoodLine (g : GrammarView) (lines : List Line) (n : ℕ) (line : Line) : Type 0 where
  pub from : line.from < suc n
  pub moves : HasMove g lines line.from line.symbol
  pub new : (m : ℕ) → m < suc n → ¬ IsMoveOf g lines line.from line.symbol m

-- each line is good
abbrev pub AreGoodLines : GrammarView → List Line → Type 0
AreGoodLines g lines = (n : ℕ) (line : Line) → slice_get lines n ≡ Some line → IsGoodLine g lines n line

-- the kernel's move by the symbol is one of the kernels
abbrev pub IsMoveListed : GrammarView → List Line → ℕ → Symbol → Type 0
IsMoveListed g lines k x = (m : ℕ) × (m < kernel_count lines) × IsMoveOf g lines k x m

-- each move that a kernel has is one of the kernels
abbrev pub AreMovesListed : GrammarView → List Line → Type 0
AreMovesListed g lines = (k : ℕ) (x : Symbol) → k < kernel_count lines → HasMove g lines k x → IsMoveListed g lines k x

-- the prefixes to which the lines lead, after those that are known: each goes on from one before it by a symbol
abbrev pub prefixes_after : List (List Symbol) → List Line → List (List Symbol)
prefixes_after known [] = known
prefixes_after known (line ∷ lines) = prefixes_after (known ++ (slice_index_or known line.from [] ++ line.symbol ∷ []) ∷ []) lines

-- the prefix to which the lines lead at the kernel, from the empty one at kernel 0
abbrev pub prefix_at : List Line → ℕ → List Symbol
prefix_at lines k = slice_index_or (prefixes_after ([] ∷ []) lines) k []
