-- The terminals and layouts of a union are written by some expressions, and each of these matches some text.
use Rattle.std.proofs.Common.{◌<◌, ◌+◌, ◌++◌, ◌∷◌, [], ℕ, List, Some, None, arith, drop, length, map, refl, take}
use Rattle.std.proofs.lemmas.List.Elements.{All-append, All-cons, All-drop, All-head, All-map, All-nil, All-tail, All-take}
use Rattle.std.specs.List.{AllZip}
use Rattle.std.specs.Prelude.{All}
use Rattle.wb_certify_files.specs.Names.{terminals_in}
use Rattle.wb_base.specs.Grammar.{GrammarView}
use Rattle.wb_compose_texts.specs.Joined.{Extended}
use Rattle.wb_compose_texts.specs.Written.{written_in}
use Rattle.wb_compose_texts.specs.Expressions.{AreUnitedExpressions, IsExpressionOf, IsWrittenAs, Row, added_layouts, added_rows, layouts_in}
use Rattle.wb_compose_texts.specs.Expressions.{marker_prefix, name_of}
use Rattle.wb_compose_texts.specs.Expressions.{rows_of, united_rows}
use Rattle.wb_compose_theory_language.specs.Apart.{colon}
use Rattle.wb_compose_theory_language.specs.Written.{WrittenPiece}
use Rattle.wb_compose_theory_order.specs.Names.{all_of}
use Rattle.wb_compose_texts.specs.GenerateLaws.{MatchesSome}
use Rattle.wb_regex.specs.Tree.{Tree}
use Rattle.wb_syntax_resolved.specs.declared.resolved.ResolvedParts.{ResolvedParts}
use Rattle.wb_syntax_resolved.specs.declared.terminal.Terminal.{Terminal}
use Rattle.wb_syntax_resolved.specs.declared.terminal.TerminalKind.{TerminalKind}
use Rattle.wb_syntax_resolved.specs.declared.terminal.TerminalKind.TheVariants as kind
use Rattle.wb_program_theory.specs.Matching.{AllMatch, HaveMatches, IsMatched}
use Rattle.wb_program_theory.proofs.PrefixedExist.{after_bytes, is_prefixed, prefixed_some}

abbrev Bytes : List ℕ → Type 0
Bytes name = All (λ b. b < 256) name

-- a row's terminal matches some text, and its name is bytes
abbrev CanBeWritten : Row → Type 0
CanBeWritten (None, row) = IsMatched row
CanBeWritten (Some name, row) = Bytes name × IsMatched row

-- an expression, and a text of it
record IsWritable (P : Tree → Type 0) : Type 0 where
  made : Tree
  is : P made
  some : MatchesSome made

prefix_bytes : (name : List ℕ) → Bytes name → Bytes (marker_prefix name)
prefix_bytes name all =
    All-append (λ b. b < 256) name (colon ∷ colon ∷ []) all
    (All-cons (λ b. b < 256) colon (colon ∷ []) (omega arith) (All-cons (λ b. b < 256) colon [] (omega arith) (All-nil (λ b. b < 256))))

by_kind : (role : TerminalKind) (name : List ℕ) (pattern : Tree) → Bytes name → MatchesSome pattern → IsWritable (IsWrittenAs role name pattern)
by_kind kind.Plain name pattern all some = record { made = pattern; is = refl; some = some }
by_kind kind.Ignore name pattern all some = record { made = pattern; is = refl; some = some }
by_kind kind.Marking name pattern all some = record {
  made = after_bytes (marker_prefix name) pattern;
  is = is_prefixed (marker_prefix name) pattern (prefix_bytes name all);
  some = prefixed_some (marker_prefix name) pattern (prefix_bytes name all) some;
}

one_written : (row : Row) → CanBeWritten row → IsWritable (IsExpressionOf row)
one_written (None, row) some = record { made = row.pattern; is = refl; some = some }
one_written (Some name, row) (all, some) = by_kind row.kind name row.pattern all some

all_written : (rows : List Row) → All CanBeWritten rows → (made : List Tree) × AllZip IsExpressionOf rows made × All MatchesSome made
all_written [] all = ([], tt, All-nil MatchesSome)
all_written (row ∷ rows) all =
    let one = one_written row (All-head CanBeWritten row rows all) in
    let (made, are, some) = all_written rows (All-tail CanBeWritten row rows all) in
    (one.made ∷ made, (one.is, are), All-cons MatchesSome one.made made one.some some)

-- rows of the host, and those of an extension
host_rows : (from to : ℕ) (rows : List Terminal) → All IsMatched rows → All CanBeWritten (rows_of None from to rows)
host_rows from to rows all =
    All-map CanBeWritten (λ (row : Terminal). (None, row)) (drop from (take to rows))
    (All-drop IsMatched from (take to rows) (All-take IsMatched to rows all))

both_of : (name : List ℕ) → Bytes name → (rows : List Terminal) → All IsMatched rows → All (λ (row : Terminal). Bytes name × IsMatched row) rows
both_of name is [] all = All-nil (λ (row : Terminal). Bytes name × IsMatched row)
both_of name is (row ∷ rows) all =
    All-cons (λ (r : Terminal). Bytes name × IsMatched r) row rows (is, All-head IsMatched row rows all)
    (both_of name is rows (All-tail IsMatched row rows all))

its_rows : (name : List ℕ) → Bytes name → (from to : ℕ) (rows : List Terminal) → All IsMatched rows
    → All CanBeWritten (rows_of (Some name) from to rows)
its_rows name is from to rows all =
    All-map CanBeWritten (λ (row : Terminal). (Some name, row)) (drop from (take to rows))
    (both_of name is (drop from (take to rows)) (All-drop IsMatched from (take to rows) (All-take IsMatched to rows all)))

-- rows of all extensions, of each of which these can be written
all_rows : (rows_in : ResolvedParts → List Row)
    → ((r : ResolvedParts) → Bytes (name_of r) → HaveMatches r → All CanBeWritten (rows_in r)) → (values : List ResolvedParts)
    → All (λ (r : ResolvedParts). Bytes (name_of r)) values → All HaveMatches values → All CanBeWritten (all_of (map rows_in values))
all_rows rows_in each [] names some = All-nil CanBeWritten
all_rows rows_in each (r ∷ values) names some =
    All-append CanBeWritten (rows_in r) (all_of (map rows_in values))
    (each r (All-head (λ (r : ResolvedParts). Bytes (name_of r)) r values names) (All-head HaveMatches r values some))
    (all_rows rows_in each values (All-tail (λ (r : ResolvedParts). Bytes (name_of r)) r values names) (All-tail HaveMatches r values some))

-- the terminals that they add, and their own layouts
all_added : (host : ResolvedParts) (values : List ResolvedParts) → All (λ (r : ResolvedParts). Bytes (name_of r)) values
    → All HaveMatches values → All CanBeWritten (all_of (map (added_rows host) values))
all_added host values names some =
    all_rows (added_rows host)
    (λ r name matched. its_rows (name_of r) name (terminals_in host.grammar) (terminals_in r.grammar) r.terminals matched) values names some

all_layouts : (host : ResolvedParts) (values : List ResolvedParts) → All (λ (r : ResolvedParts). Bytes (name_of r)) values
    → All HaveMatches values → All CanBeWritten (all_of (map (added_layouts host) values))
all_layouts host values names some =
    all_rows (added_layouts host)
    (λ r name matched. its_rows (name_of r) name (terminals_in r.grammar + layouts_in host) (length r.terminals) r.terminals matched) values
    names some

-- names of extensions that are written in bytes
pub names_below : (host : GrammarView) (extended : List Extended) → All (λ (x : WrittenPiece). Bytes x.name) (written_in host extended)
    → All (λ (r : ResolvedParts). Bytes (name_of r)) (map (λ (e : Extended). e.resolved) extended)
names_below host [] all = All-nil (λ (r : ResolvedParts). Bytes (name_of r))
names_below host (e ∷ extended) all =
    All-cons (λ (r : ResolvedParts). Bytes (name_of r)) e.resolved (map (λ (e : Extended). e.resolved) extended)
    (All-head (λ (x : WrittenPiece). Bytes x.name) _ (written_in host extended) all)
    (names_below host extended (All-tail (λ (x : WrittenPiece). Bytes x.name) _ (written_in host extended) all))

pub some_expressions : (host : ResolvedParts) (values : List ResolvedParts) → All (λ (r : ResolvedParts). Bytes (name_of r)) values
    → AllMatch host values → (made : List Tree) × AreUnitedExpressions host values made × All MatchesSome made
some_expressions host values names (own, theirs) =
    let terminals = rows_of None 0 (terminals_in host.grammar) host.terminals in
    let added = all_of (map (added_rows host) values) in
    let layouts = rows_of None (terminals_in host.grammar) (length host.terminals) host.terminals in
    all_written (united_rows host values)
    (All-append CanBeWritten (terminals ++ added ++ layouts) (all_of (map (added_layouts host) values))
    (All-append CanBeWritten (terminals ++ added) layouts
    (All-append CanBeWritten terminals added (host_rows 0 (terminals_in host.grammar) host.terminals own)
    (all_added host values names theirs))
    (host_rows (terminals_in host.grammar) (length host.terminals) host.terminals own)) (all_layouts host values names theirs))
