-- What terminals of an extended host stand for: a marker for the hole of its nonterminal, and any other for itself.
use Rattle.std.specs.Prelude.{◌≡◌, ◌==◌, ℕ, suc, Bool, true, false, List, [], ◌∷◌, Option, Some, None, if◌then◌else◌, option_and_then, ◌≢◌, MatchOption, length, slice_get}
use Rattle.std.specs.Prelude.{unwrap_or, slice_get}
use Rattle.wb_base.specs.declared.symbol.Symbol.{Symbol}
use Rattle.wb_base.specs.declared.symbol.Symbol.TheVariants.{Terminal, Nonterminal}
use Rattle.wb_base.specs.Grammar.{GrammarView, Production}
use Rattle.wb_syntax_resolved.specs.declared.resolved.ResolvedParts.{ResolvedParts}
use Rattle.wb_syntax_resolved.specs.declared.terminal.Terminal as row
use Rattle.wb_syntax_resolved.specs.declared.terminal.TerminalKind.{TerminalKind}
use Rattle.wb_syntax_resolved.specs.declared.terminal.TerminalKind.TheVariants.{Plain, Ignore, Marking}
use Rattle.wb_determinism.specs.declared.numbers.Numbers.{Numbers}
use Rattle.wb_determinism.specs.Numbers.{terminal_up}

-- markers alone are marking
abbrev pub is_marking : TerminalKind → Bool
is_marking Plain = false
is_marking Ignore = false
is_marking Marking = true

-- the terminal, where there is one, is a marker
abbrev pub is_marker_row : Option row.Terminal → Bool
is_marker_row None = false
is_marker_row (Some t) = is_marking t.kind

-- the symbols begin with the terminal
abbrev pub begins : ℕ → List Symbol → Bool
begins t [] = false
begins t (Terminal u ∷ rest) = u == t
begins t (Nonterminal a ∷ rest) = false

-- the left side of the first production that the terminal begins
abbrev pub bridged : ℕ → List Production → Option ℕ
bridged t [] = None
bridged t (rule ∷ rules) = if begins t rule.1 then Some rule.0 else (bridged t rules)

-- the hole of a nonterminal, where holes of these nonterminals are numbered in order from this number on
abbrev pub hole_among : ℕ → ℕ → List ℕ → Option ℕ
hole_among first a [] = None
hole_among first a (b ∷ rest) = if b == a then Some first else (hole_among (suc first) a rest)

-- the hole of the nonterminal of the first production that the terminal begins; the terminal itself where there is no such hole
abbrev pub hole_for : GrammarView → List ℕ → ℕ → ℕ
hole_for g extensible t = unwrap_or (option_and_then (λ a. hole_among g.terminals a extensible) (bridged t g.productions)) t

-- what the terminal stands for: a marker of a nonterminal for its hole, and any other terminal for itself
abbrev pub stands_for : ResolvedParts → GrammarView → ℕ → ℕ
stands_for r g t = if is_marker_row (slice_get r.terminals t) then hole_for g r.extensible t else t

-- the terminal stands for this one of the host
abbrev pub StandsFor : ResolvedParts → GrammarView → Numbers → ℕ → ℕ → Type 0
StandsFor r g m t own = terminal_up m own ≡ stands_for r g t

-- the host's terminal that has become this one, or none
abbrev pub IsDown : Numbers → ℕ → Option ℕ → Type 0
IsDown m t o = MatchOption o ((own : ℕ) → t ≢ terminal_up m own) (λ own. t ≡ terminal_up m own)

-- for each of the first terminals the host's terminal for which it stands, or none
pub record AreImages (m : Numbers) (phi : ℕ → ℕ) (count : ℕ) (images : List (Option ℕ)) : Type 0 where
  pub len : length images ≡ count
  pub each : (t : ℕ) (o : Option ℕ) → slice_get images t ≡ Some o → IsDown m (phi t) o
