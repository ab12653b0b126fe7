-- What is said of an extension that has something after a part of the host after which the host never has it.
use Rattle.std.specs.Prelude.{◌≡◌, ◌⊎◌, ◌<◌, ◌≤◌, ◌+◌, ◌++◌, ℕ, List, Some, IfSome, length, slice_get}
use lib.Chars.{codes}
use Rattle.wb_base.specs.Grammar.{GrammarView, Production}
use Rattle.wb_base.specs.declared.symbol.Symbol.{Symbol}
use Rattle.wb_base.specs.declared.symbol.Symbol.TheVariants.{Terminal, Nonterminal}
use Rattle.wb_certify_files.specs.HostContents as hosts
use Rattle.wb_certify_files.specs.ExtensionContents as extensions
use Rattle.wb_certify_files.specs.Names.{nonterminal_shown, production_shown, terminal_shown}
use Rattle.wb_syntax_resolved.specs.declared.resolved.ResolvedParts.{ResolvedParts}

-- the right side has the nonterminal at this place, and the symbol right behind it
pub record Stands (right : List Symbol) (part nonterminal : ℕ) (behind : Symbol) : Type 0 where
  pub first : slice_get right part ≡ Some (Nonterminal nonterminal)
  pub second : slice_get right (part + 1) ≡ Some behind

-- a production that the host doesn't have has a nonterminal of the host at this part, and the symbol right behind it
pub record IsSide (host grammar : GrammarView) (production part nonterminal : ℕ) (behind : Symbol) : Type 0 where
  pub own : length host.productions ≤ production
  pub within : production < length grammar.productions
  pub of_host : nonterminal < host.nonterminals
  pub right : List Symbol
  pub is_right : IfSome (slice_get grammar.productions production) (λ (p : Production). right ≡ p.1)
  pub stands : Stands right part nonterminal behind

-- the name of a symbol
abbrev pub symbol_shown : ResolvedParts → Symbol → List ℕ
symbol_shown r (Terminal t) = terminal_shown r t
symbol_shown r (Nonterminal n) = nonterminal_shown r n

-- the sentence with the names of the production, the nonterminal and the symbol
abbrev pub sentence : ResolvedParts → ℕ → ℕ → Symbol → List ℕ
sentence r production nonterminal behind =
    codes "\nIn " ++ production_shown r production ++ codes ", after " ++ nonterminal_shown r nonterminal
    ++ codes ", which the host has, comes " ++ symbol_shown r behind ++ codes ".\n"

-- the sentence is said of such a production, with what helps before and after it
pub record ShowsSide (host grammar : GrammarView) (r : ResolvedParts) (old new : List ℕ) : Type 0 where
  pub production : ℕ
  pub part : ℕ
  pub nonterminal : ℕ
  pub behind : Symbol
  pub is : IsSide host grammar production part nonterminal behind
  pub before : List ℕ
  pub after : List ℕ
  pub lines : new ≡ old ++ before ++ sentence r production nonterminal behind ++ after

-- nothing is said, or it is said of some productions one after another
pub data SaysSides (host grammar : GrammarView) (r : ResolvedParts) (old : List ℕ) : List ℕ → Type 0 where
  nothing : (new : List ℕ) → new ≡ old → SaysSides host grammar r old new
  more : (mid new : List ℕ) → SaysSides host grammar r old mid → ShowsSide host grammar r mid new → SaysSides host grammar r old new

-- both have grammars, of which this is said
pub record SaysGrammars (base value : ResolvedParts) (old new : List ℕ) : Type 0 where
  pub host : GrammarView
  pub has_host : base.grammar ≡ Some host
  pub grammar : GrammarView
  pub has_grammar : value.grammar ≡ Some grammar
  pub says : SaysSides host grammar value old new

-- with a host for which other contents stand, they stand for an extension, of which this is said
pub record SaysBeside (beside contents old new : List ℕ) : Type 0 where
  pub base : ResolvedParts
  pub stands_for : hosts.StandsFor beside base
  pub value : ResolvedParts
  pub stands : extensions.StandsFor base contents value
  pub says : SaysGrammars base value old new

-- nothing is said of contents beside those of a host, or this
abbrev pub SaysOf : List ℕ → List ℕ → List ℕ → List ℕ → Type 0
SaysOf beside contents old new = (new ≡ old) ⊎ SaysBeside beside contents old new
