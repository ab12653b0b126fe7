-- That what is written matches something.
use Rattle.std.specs.Prelude.{List, All}
use Rattle.wb_compose_texts.specs.GenerateLaws.{MatchesSome}
use Rattle.wb_syntax_resolved.specs.declared.resolved.ResolvedParts.{ResolvedParts}
use Rattle.wb_syntax_resolved.specs.declared.terminal.Terminal.{Terminal}

-- the terminal matches some text
abbrev pub IsMatched : Terminal → Type 0
IsMatched row = MatchesSome row.pattern

-- each terminal and layout of the value does
abbrev pub HaveMatches : ResolvedParts → Type 0
HaveMatches r = All IsMatched r.terminals

-- each of the host and of the extensions does
abbrev pub AllMatch : ResolvedParts → List ResolvedParts → Type 0
AllMatch host extensions = HaveMatches host × All HaveMatches extensions
