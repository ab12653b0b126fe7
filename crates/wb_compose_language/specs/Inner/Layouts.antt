-- Layout of the union, as it is made: the host's, and then each extension's own.
use Rattle.std.specs.Prelude.{◌≡◌, ◌+◌, ◌++◌, ℕ, List, Option, Some, None, drop, length, map, slice_get}
use Rattle.wb_regex.specs.Tree.{Tree}
use Rattle.wb_scan_theory.specs.Languages.{bare}
use Rattle.wb_syntax_resolved.specs.declared.terminal.Terminal.{Terminal}
use Rattle.wb_compose_theory_grammar.specs.UnitedWorlds.{united}
use Rattle.wb_compose_theory_language.specs.Languages.{span_of}
use Rattle.wb_compose_theory_language.specs.Rows.{host_row, layout_count, layout_sizes, layouts_from, piece_row}
use Rattle.wb_compose_theory_language.specs.Written.{IsHostLayoutRow, IsOwnLayoutRow, WrittenPiece, host_layouts, own_layouts, pieces_of}
use Rattle.wb_compose_language.specs.declared.addition.Addition.{Addition}
use Rattle.wb_compose_language.specs.declared.addition.Lent.{Lent}
use Rattle.wb_compose_language.specs.Inner.FormsMade.{Writes}
use Rattle.wb_compose_language.specs.Lents.{all_in, own_in, written_beside}

-- the expressions of the rows from the first on were put after others
abbrev pub ArePatternsFrom : ℕ → List Terminal → List Tree → List Tree → Type 0
ArePatternsFrom first rows old new = new ≡ old ++ map (λ (t : Terminal). t.pattern) (drop first rows)

module _ (lent : Lent) where
  -- how many layouts the host has
  abbrev pub hosts_in : ℕ
  hosts_in = host_layouts lent.grammar.now (own_in lent)

  -- how many an extension has of its own
  abbrev pub owns_in : Addition → ℕ
  owns_in x = own_layouts lent.grammar.now (own_in lent) (written_beside lent x)

  -- how many each extension has
  abbrev pub layout_sizes_in : List ℕ
  layout_sizes_in = layout_sizes lent.grammar.now lent.extensible.now (own_in lent) (all_in lent)

  -- how many the union has
  abbrev pub layouts_in : ℕ
  layouts_in = layout_count lent.grammar.now lent.extensible.now (own_in lent) (all_in lent)

  -- the number in the union of the layout at a place among all layouts
  abbrev pub layout_at : ℕ → ℕ
  layout_at j = (united lent.grammar.now lent.extensible.now (pieces_of (all_in lent))).terminals + j

  -- these are the expressions of the first so many layouts
  pub record AreLayoutTrees (count : ℕ) (trees : List Tree) : Type 0 where
    pub len : length trees ≡ count
    pub each : (j : ℕ) (tree : Tree) → slice_get trees j ≡ Some tree → Writes lent tree (bare (layout_at j))

  -- those of so many layouts were put after others
  abbrev pub AreTreesAdded : ℕ → List Tree → List Tree → Type 0
  AreTreesAdded count old new = (trees : List Tree) × (new ≡ old ++ trees) × AreLayoutTrees count trees

  -- those of all layouts were
  abbrev pub AreLayoutAdded : List Tree → List Tree → Type 0
  AreLayoutAdded old new = AreTreesAdded layouts_in old new

  -- the productions by which the layout of this number is considered
  pub record IsSpan (number : ℕ) (span : Option (ℕ × ℕ)) : Type 0 where
    pub of_host : (t : ℕ) → IsHostLayoutRow lent.grammar.now.terminals hosts_in t →
        number ≡ host_row lent.grammar.now lent.extensible.now (own_in lent) (all_in lent) t → span ≡ None
    pub of_extension : (k : ℕ) (x : WrittenPiece) (t : ℕ) → slice_get (all_in lent) k ≡ Some x →
        IsOwnLayoutRow lent.grammar.now (own_in lent) x t →
        number ≡ piece_row lent.grammar.now lent.extensible.now (own_in lent) (all_in lent) k x t →
        span ≡ Some (span_of lent.grammar.now lent.extensible.now (own_in lent) (all_in lent) k x)

  -- those of the first so many layouts
  pub record AreSpansBelow (count : ℕ) (spans : List (Option (ℕ × ℕ))) : Type 0 where
    pub len : length spans ≡ count
    pub each : (j : ℕ) (span : Option (ℕ × ℕ)) → slice_get spans j ≡ Some span → IsSpan (layout_at j) span
