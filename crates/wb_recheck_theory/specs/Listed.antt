-- Entries as they are listed, and kernels that are numbered otherwise.
use Rattle.std.specs.Prelude.{◌≡◌, ℕ, ◌<◌, ◌≤◌, List, length, Some, slice_get}
use Rattle.wb_base.specs.declared.symbol.Symbol.{Symbol}
use Rattle.wb_base.specs.Grammar.{GrammarView}
use Rattle.wb_grammar_theory.specs.Items.{SameKernel}
use Rattle.wb_recheck_theory.specs.declared.line.Line.{Line}
use Rattle.wb_recheck_theory.specs.declared.entry.Entry.{Entry}
use Rattle.wb_recheck_theory.specs.Lines.{kernel_count, prefix_at}
use Rattle.wb_recheck_theory.specs.Entries.{first_entry, AreGoodEntries, AreFollowersListed}

-- the entries are good and begin with the first, and what follows from those before this place is listed
pub record AreEntries (g : GrammarView) (lines : List Line) (entries : List Entry) (reached : ℕ) : Type 0 where
  pub within : reached ≤ length entries
  pub entry_first : slice_get entries 0 ≡ Some (first_entry g)
  pub entries_good : AreGoodEntries g lines entries
  pub closed : (n : ℕ) (e : Entry) → n < reached → slice_get entries n ≡ Some e →
      AreFollowersListed g lines entries e.kernel e.item e.terminal

-- kernels that are numbered otherwise: at each place of the list is the number, of so many, of a prefix with the kernel of that place
pub record AreNumbered (g : GrammarView) (count : ℕ) (prefix_of : ℕ → List Symbol) (lines : List Line) (states : List ℕ) : Type 0 where
  pub len : length states ≡ kernel_count lines
  pub below : (k s : ℕ) → slice_get states k ≡ Some s → s < count
  pub same : (k s : ℕ) → slice_get states k ≡ Some s → SameKernel g (prefix_at lines k) (prefix_of s)
