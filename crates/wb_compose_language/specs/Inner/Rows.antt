-- Numbers in the union, and preferences as they are gathered.
use Rattle.std.specs.Prelude.{◌≡◌, ◌<◌, ◌≤◌, ◌+◌, ◌⊎◌, ◌↔◌, ◌++◌, ◌∷◌, [], ℕ, List, Some, Contains, slice_get}
use Rattle.wb_base.specs.Grammar.{GrammarView}
use Rattle.wb_syntax_resolved.specs.declared.terminal.Preference.{Preference}
use Rattle.wb_compose_theory.specs.Blocks.{spread}
use Rattle.wb_compose_theory_grammar.specs.Places.{count_before, total_of}
use Rattle.wb_compose_theory_grammar.specs.Unions.{added_terminals}
use Rattle.wb_compose_theory_grammar.specs.UnitedWorlds.{united}
use Rattle.wb_compose_theory_language.specs.Rows.{Prefers, host_row, layouts_from, piece_row, sizes}
use Rattle.wb_compose_theory_language.specs.Written.{WrittenPiece, pieces_of}
use Rattle.wb_compose_language.specs.declared.addition.Addition.{Addition}
use Rattle.wb_compose_language.specs.declared.addition.Lent.{Lent}
use Rattle.wb_compose_language.specs.declared.preferences.Earlier.{Earlier}
use Rattle.wb_compose_language.specs.declared.row.Block.{Block}
use Rattle.wb_compose_language.specs.declared.row.Blocks.{Blocks}
use Rattle.wb_compose_language.specs.declared.preferences.Sums.{Sums}
use Rattle.wb_compose_language.specs.Inner.Layouts.{hosts_in, layout_sizes_in, owns_in}
use Rattle.wb_compose_language.specs.Lents.{all_in, own_in}

-- a number of the host with the extension of the block, among all of its kind
abbrev pub among : Block → ℕ → ℕ
among block t = spread block.own block.before block.size block.total t

-- the number in the union: among terminals, and then among layouts
abbrev pub row_in : Blocks → ℕ → ℕ
row_in blocks t = among blocks.layouts (among blocks.terminals t)

-- no block is larger than all together
abbrev pub AreWithin : Blocks → Type 0
AreWithin blocks = (blocks.terminals.size ≤ blocks.terminals.total) × (blocks.layouts.size ≤ blocks.layouts.total)

-- a preference by the numbers of the union
abbrev pub pair_in : Blocks → Preference → ℕ × ℕ
pair_in blocks p = (row_in blocks p.first, row_in blocks p.second)

-- the number is one of so many from the first on
abbrev pub IsFrom : (first count t : ℕ) → Type 0
IsFrom first count t = (first ≤ t) × (t < first + count)

-- the terminal or layout is the extension's own
abbrev pub IsOwnNumber : Blocks → ℕ → Type 0
IsOwnNumber blocks t = IsFrom blocks.terminals.own blocks.terminals.size t ⊎ IsFrom blocks.first blocks.layouts.size t

-- the preference names one of the extension's own
abbrev pub IsOwnPair : Blocks → Preference → Type 0
IsOwnPair blocks p = IsOwnNumber blocks p.first ⊎ IsOwnNumber blocks p.second

-- the preference is listed after the others, or it names none of the extension's own
abbrev pub IsAddedIfOwn : Blocks → Preference → List (ℕ × ℕ) → List (ℕ × ℕ) → Type 0
IsAddedIfOwn blocks p old new = (new ≡ old ++ pair_in blocks p ∷ []) ⊎ ((¬ IsOwnPair blocks p) × (new ≡ old))

-- each preference that names one of the extension's own is listed besides, and nothing that is no preference
pub record AreOwnAdded (blocks : Blocks) (ps : List Preference) (old new : List (ℕ × ℕ)) : Type 0 where
  pub kept : (q : ℕ × ℕ) → Contains old q → Contains new q
  pub added : (p : Preference) → Contains ps p → IsOwnPair blocks p → Contains new (pair_in blocks p)
  pub only : (q : ℕ × ℕ) → Contains new q → Contains old q ⊎ ((p : Preference) × Contains ps p × (q ≡ pair_in blocks p))

module _ (lent : Lent) where
  -- the union's grammar
  abbrev pub grammar_of : GrammarView
  grammar_of = united lent.grammar.now lent.extensible.now (pieces_of (all_in lent))

  -- how many terminals each extension has
  abbrev pub sizes_of : List ℕ
  sizes_of = sizes lent.grammar.now lent.extensible.now (own_in lent) (all_in lent)

  -- how many all have
  abbrev pub total : ℕ
  total = total_of sizes_of

  -- how many layouts of their own all have, and where these begin
  abbrev pub layout_total : ℕ
  layout_total = total_of (layout_sizes_in lent)

  abbrev pub layouts_begin : ℕ
  layouts_begin = layouts_from lent.grammar.now lent.extensible.now (own_in lent) (all_in lent)

  -- these are so many
  pub record AreSums (sums : Sums) : Type 0 where
    pub terminals_are : sums.terminals ≡ total
    pub layouts_are : sums.layouts ≡ layout_total
    pub from_is : sums.from ≡ layouts_begin

  -- before the extension of this number there are so many
  pub record AreEarlier (k : ℕ) (earlier : Earlier) : Type 0 where
    pub terminals_are : earlier.terminals ≡ count_before sizes_of k
    pub layouts_are : earlier.layouts ≡ count_before (layout_sizes_in lent) k

  -- the blocks have so many terminals, with so many before them, and so many layouts, with so many before these
  pub record AreBlocks (blocks : Blocks) (before size layouts_before layouts : ℕ) : Type 0 where
    pub own_is : blocks.terminals.own ≡ lent.grammar.now.terminals
    pub before_is : blocks.terminals.before ≡ before
    pub size_is : blocks.terminals.size ≡ size
    pub total_is : blocks.terminals.total ≡ total
    pub from_is : blocks.layouts.own ≡ layouts_begin
    pub layouts_before_is : blocks.layouts.before ≡ layouts_before
    pub layouts_is : blocks.layouts.size ≡ layouts
    pub layout_total_is : blocks.layouts.total ≡ layout_total

  -- they are those of the extension of this number
  pub record AreBlocksOf (k : ℕ) (x : Addition) (blocks : Blocks) : Type 0 where
    pub blocks_are : AreBlocks blocks (count_before sizes_of k) (added_terminals lent.grammar.now x.grammar.now)
        (count_before (layout_sizes_in lent) k) (owns_in lent x)
    pub first_is : blocks.first ≡ x.grammar.now.terminals + hosts_in lent

  -- the one is preferred to the other in the union
  abbrev pub IsPreferred : ℕ → ℕ → Type 0
  IsPreferred one other = Prefers lent.grammar.now lent.extensible.now (own_in lent) (all_in lent) one other

  -- these are the preferences of the union
  abbrev pub ArePreferences : List (ℕ × ℕ) → Type 0
  ArePreferences pairs = (one other : ℕ) → Contains pairs (one, other) ↔ IsPreferred one other

  -- the one is preferred to the other by the host, or by an extension before the one of this number
  pub data IsPreferredBefore (bound one other : ℕ) : Type 0 where
    by_host : (t u : ℕ) → one ≡ host_row lent.grammar.now lent.extensible.now (own_in lent) (all_in lent) t →
        other ≡ host_row lent.grammar.now lent.extensible.now (own_in lent) (all_in lent) u →
        Contains (own_in lent).preferences (t, u) → IsPreferredBefore bound one other
    by_extension : (k : ℕ) (x : WrittenPiece) (t u : ℕ) → k < bound → slice_get (all_in lent) k ≡ Some x →
        one ≡ piece_row lent.grammar.now lent.extensible.now (own_in lent) (all_in lent) k x t →
        other ≡ piece_row lent.grammar.now lent.extensible.now (own_in lent) (all_in lent) k x u →
        Contains x.lexicon.preferences (t, u) → IsPreferredBefore bound one other

  -- the preferences of the host and of the extensions before the one of this number are listed
  abbrev pub AreGathered : ℕ → List (ℕ × ℕ) → Type 0
  AreGathered bound pairs = (one other : ℕ) → Contains pairs (one, other) ↔ IsPreferredBefore bound one other
