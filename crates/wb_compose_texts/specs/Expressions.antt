-- The regular expressions by which the terminals and layouts of a union are written: the host's terminals, those that each extension adds,
-- in turn, the host's layouts, and then those that each extension has of its own. An extension is given by the host with it alone.
use Rattle.std.specs.Prelude.{◌≡◌, ◌+◌, ◌-◌, ◌++◌, ◌∷◌, [], ℕ, List, Option, Some, None, drop, length, map, slice_index_or, take}
use Rattle.std.specs.List.{AllZip}
use Rattle.wb_regex.specs.Prefixed.{IsPrefixed}
use Rattle.wb_regex.specs.Tree.{Tree}
use Rattle.wb_reading.specs.OrderedNames.{all_of}
use Rattle.wb_syntax_resolved.specs.declared.resolved.ResolvedParts.{ResolvedParts}
use Rattle.wb_syntax_resolved.specs.declared.terminal.Terminal.{Terminal}
use Rattle.wb_syntax_resolved.specs.declared.terminal.TerminalKind.{TerminalKind}
use Rattle.wb_syntax_resolved.specs.declared.terminal.TerminalKind.TheVariants as kind
use Rattle.wb_certify_shown.specs.Names.{terminals_in}
use Rattle.wb_compose.specs.Apart.{colon}

-- the name of an extension and two colons
abbrev pub marker_prefix : List ℕ → List ℕ
marker_prefix name = name ++ colon ∷ colon ∷ []

-- a terminal of this kind and expression is written by the one made: a marker by its own after the prefix, any other by its own
abbrev pub IsWrittenAs : TerminalKind → List ℕ → Tree → Tree → Type 0
IsWrittenAs kind.Plain name pattern made = made ≡ pattern
IsWrittenAs kind.Ignore name pattern made = made ≡ pattern
IsWrittenAs kind.Marking name pattern made = IsPrefixed (marker_prefix name) pattern made

-- so is a terminal of the extension of this name
abbrev pub IsWrittenBy : List ℕ → Terminal → Tree → Type 0
IsWrittenBy name row made = IsWrittenAs row.kind name row.pattern made

-- a terminal or layout, and the name of the extension whose it is, where it isn't the host's
abbrev pub Row : Type 0
Row = Option (List ℕ) × Terminal

-- what is the host's is written by its own expression, since a host has no markers
abbrev pub IsExpressionOf : Row → Tree → Type 0
IsExpressionOf (None, row) made = made ≡ row.pattern
IsExpressionOf (Some name, row) made = IsWrittenBy name row made

-- the rows from one number on and before another, all of this extension or of the host
abbrev pub rows_of : Option (List ℕ) → (from to : ℕ) → List Terminal → List Row
rows_of name from to rows = map (λ (row : Terminal). (name, row)) (drop from (take to rows))

-- the name of the one extension
abbrev pub name_of : ResolvedParts → List ℕ
name_of r = slice_index_or r.attributes.extensions 0 []

-- the terminals that an extension adds
abbrev pub added_rows : (host r : ResolvedParts) → List Row
added_rows host r = rows_of (Some (name_of r)) (terminals_in host.grammar) (terminals_in r.grammar) r.terminals

-- how many layouts the host has: what comes after its terminals
abbrev pub layouts_in : ResolvedParts → ℕ
layouts_in host = length host.terminals - terminals_in host.grammar

-- what comes after an extension's terminals and so many layouts
abbrev pub layouts_past : ℕ → ResolvedParts → List Row
layouts_past count r = rows_of (Some (name_of r)) (terminals_in r.grammar + count) (length r.terminals) r.terminals

-- the layouts that an extension has of its own: what comes after its terminals and the host's layouts
abbrev pub added_layouts : (host r : ResolvedParts) → List Row
added_layouts host r = layouts_past (layouts_in host) r

-- the terminals of the union, by number, then the host's layouts, and then those of each extension
abbrev pub united_rows : ResolvedParts → List ResolvedParts → List Row
united_rows host extensions =
    rows_of None 0 (terminals_in host.grammar) host.terminals ++ all_of (map (added_rows host) extensions)
    ++ rows_of None (terminals_in host.grammar) (length host.terminals) host.terminals ++ all_of (map (added_layouts host) extensions)

-- each is written by its expression
abbrev pub AreUnitedExpressions : ResolvedParts → List ResolvedParts → List Tree → Type 0
AreUnitedExpressions host extensions made = AllZip IsExpressionOf (united_rows host extensions) made
