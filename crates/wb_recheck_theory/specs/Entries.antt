-- Lookaheads as entries, each of which follows from an earlier one.
use Rattle.std.specs.Prelude.{◌≡◌, ◌≢◌, ℕ, suc, ◌<◌, ◌≤◌, List, [], ◌∷◌, ◌++◌, length, Option, Some, None, slice_get}
use Rattle.wb_base.specs.declared.symbol.Symbol.{Symbol}
use Rattle.wb_base.specs.declared.symbol.Symbol.TheVariants.{Terminal, Nonterminal}
use Rattle.wb_base.specs.Grammar.{GrammarView}
use Rattle.wb_grammar_theory.specs.declared.item.Item.{Item}
use Rattle.wb_grammar_theory.specs.Productions.{IsProduction, right_of, top_of, end_of}
use Rattle.wb_grammar_theory.specs.Derives.{IsFirst}
use Rattle.wb_grammar_theory.specs.Items.{after_dot, advance, initial_item, start_item}
use Rattle.wb_recheck_theory.specs.declared.line.Line.{Line}
use Rattle.wb_recheck_theory.specs.declared.entry.Entry.{Entry}
use Rattle.wb_recheck_theory.specs.Lines.{kernel_count, IsMoveOf}

-- the lookahead t of the one item, at the kernel k, is followed by the lookahead t' of the other, at the kernel k'
pub data IsFollowed (g : GrammarView) (lines : List Line) (k : ℕ) (item : Item) (t k' : ℕ) (item' : Item) (t' : ℕ) : Type 0 where
  -- at the same kernel, of the initial item of a production of the nonterminal after the dot: each terminal that begins what comes after
  -- that nonterminal, with t after it
  opens : (b : ℕ) (rest : List Symbol) (q : ℕ) (right : List Symbol) → after_dot g item ≡ Nonterminal b ∷ rest → IsProduction g q b right →
      IsFirst g (rest ++ Terminal t ∷ []) t' → k' ≡ k → item' ≡ initial_item q → IsFollowed g lines k item t k' item' t'
  -- t itself, of the item moved over the symbol after its dot, at the kernel that is the move by that symbol
  moves_on : (x : Symbol) (rest : List Symbol) → after_dot g item ≡ x ∷ rest → k' < kernel_count lines → IsMoveOf g lines k x k' →
      item' ≡ advance item → t' ≡ t → IsFollowed g lines k item t k' item' t'

-- the entries have the terminal as a lookahead of the item at the kernel, whatever its origin
abbrev pub IsListed : List Entry → ℕ → Item → ℕ → Type 0
IsListed entries k item t =
    (n : ℕ) × (origin : Option ℕ) × (slice_get entries n ≡ Some (record { kernel = k; item = item; terminal = t; origin = origin }))

-- the first entry: `end` at the start item, at kernel 0, without an origin
abbrev pub first_entry : GrammarView → Entry
first_entry g = record { kernel = 0; item = start_item g; terminal = end_of g; origin = None }

-- the numbers of an entry are in range, where `S' -> S` is after the last production and `end` after the last terminal
pub record IsEntryInRange (g : GrammarView) (lines : List Line) (e : Entry) : Type 0 where
  pub kernel : e.kernel < kernel_count lines
  pub production : e.item.production ≤ top_of g
  pub dot : e.item.dot ≤ length (right_of g e.item.production)
  pub terminal : e.terminal ≤ end_of g

-- an entry after the first, at place n: its numbers are in range, no earlier entry has its kernel, item and terminal, and its origin is an
-- earlier entry from which it follows
pub record IsGoodEntry (g : GrammarView) (lines : List Line) (entries : List Entry) (n : ℕ) (e : Entry) : Type 0 where
  pub in_range : IsEntryInRange g lines e
  pub different : (m : ℕ) (origin : Option ℕ) → m < n →
      slice_get entries m ≢ Some (record { kernel = e.kernel; item = e.item; terminal = e.terminal; origin = origin })
  pub place : ℕ
  pub origin : e.origin ≡ Some place
  pub earlier : place < n
  pub source : Entry
  pub at : slice_get entries place ≡ Some source
  pub follows : IsFollowed g lines source.kernel source.item source.terminal e.kernel e.item e.terminal

-- each entry after the first is good
abbrev pub AreGoodEntries : GrammarView → List Line → List Entry → Type 0
AreGoodEntries g lines entries = (n : ℕ) (e : Entry) → slice_get entries (suc n) ≡ Some e → IsGoodEntry g lines entries (suc n) e

-- what follows from the lookahead of the item at the kernel is listed
abbrev pub AreFollowersListed : GrammarView → List Line → List Entry → ℕ → Item → ℕ → Type 0
AreFollowersListed g lines entries k item t =
    (k' : ℕ) (item' : Item) (t' : ℕ) → IsFollowed g lines k item t k' item' t' → IsListed entries k' item' t'

-- what follows from each entry is listed
abbrev pub AreEntriesListed : GrammarView → List Line → List Entry → Type 0
AreEntriesListed g lines entries =
    (k : ℕ) (item : Item) (t : ℕ) → IsListed entries k item t → AreFollowersListed g lines entries k item t
