-- The sets of what is considered at each kernel.
use Rattle.std.specs.Prelude.{◌≡◌, ◌↔◌, ◌≤◌, ℕ, Bool, List, length, slice_get, Some}
use Rattle.wb_termset.specs.Sets.{IsMember}
use Rattle.wb_items.specs.Kernels.{KernelsView, prefix_of}
use Rattle.wb_determinism_contexts.specs.declared.lexicon.Lexicon.{Lexicon}
use Rattle.wb_determinism_contexts.specs.Considered.{LexiconView, IsConsideredAt}

-- what a lexicon lends
abbrev pub lent : Lexicon → LexiconView
lent lexicon = record {
  expressions = lexicon.expressions.now;
  scanned = lexicon.scanned;
  layout = lexicon.layout.now;
  own_layout = lexicon.own_layout.now;
  own_productions = lexicon.own_productions;
  preferences = lexicon.preferences.now;
}

-- the set has room for the expressions, and its members are what is considered at the kernel
pub record IsConsideredSet (kernels : KernelsView) (lexicon : LexiconView) (s : ℕ) (set : List Bool) : Type 0 where
  pub len : length set ≡ length lexicon.expressions
  pub each : (t : ℕ) → IsMember set t ↔ IsConsideredAt kernels.grammar lexicon (prefix_of kernels s) t

-- there are so many sets, that of each kernel at its number
pub record AreConsideredSets (kernels : KernelsView) (lexicon : LexiconView) (count : ℕ) (sets : List (List Bool)) : Type 0 where
  pub len : length sets ≡ count
  pub each : (s : ℕ) (set : List Bool) → slice_get sets s ≡ Some set → IsConsideredSet kernels lexicon s set

-- the terminals that are scanned are the grammar's, with an expression each, and so has each layout
pub record FitsGrammar (terminals : ℕ) (lexicon : LexiconView) : Type 0 where
  pub scanned : lexicon.scanned ≤ terminals
  pub expressions : lexicon.scanned ≤ length lexicon.expressions
  pub layout : length lexicon.layout ≡ length lexicon.expressions
  pub own_layout : length lexicon.own_layout ≡ length lexicon.expressions
