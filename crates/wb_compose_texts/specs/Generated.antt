-- The text that a number makes of a host with extensions.
use Rattle.std.specs.Prelude.{◌≡◌, ℕ, List, Option, Some, None, slice_get}
use Rattle.wb_generate.specs.Outcomes.{IsOutcome}
use Rattle.wb_generate.specs.declared.generated.Generated.{Generated}
use Rattle.wb_operations.specs.Operations.{OperationSignature}
use Rattle.wb_regex.specs.Tree.{Tree}
use Rattle.wb_syntax_resolved.specs.declared.resolved.ResolvedParts.{ResolvedParts}
use Rattle.wb_syntax_resolved.specs.declared.terminal.Terminal.{Terminal}
use Rattle.wb_certify_shown.specs.Names.{terminals_in}
use Rattle.wb_compose_texts.specs.Expressions.{AreUnitedExpressions}
use Rattle.wb_compose_texts.specs.Unions.{Union, united_of}

-- the host's first layout, where it has one: layouts are numbered on after its terminals
abbrev pub first_layout : ResolvedParts → Option Terminal
first_layout host = slice_get host.terminals (terminals_in host.grammar)

-- the place of what may be the first layout among expressions, where those of so many terminals come before it
abbrev pub place_behind : ℕ → Option Terminal → Option ℕ
place_behind terminals None = None
place_behind terminals (Some layout) = Some terminals

-- with the union's grammar and the expressions by which its terminals and layouts are written, this is what the number makes of at most so
-- many leaves, with the host's first layout between two
pub record IsGeneratedText (host : ResolvedParts) (operations : List OperationSignature) (extensions : List ResolvedParts)
    (number size : ℕ) (answer : Generated) : Type 0 where
  pub whole : Union host operations extensions
  pub expressions : List Tree
  pub written : AreUnitedExpressions host extensions expressions
  pub is : IsOutcome (united_of host operations extensions whole) expressions
      (place_behind (united_of host operations extensions whole).terminals (first_layout host)) number size answer

-- the number makes one text of so many leaves at most
abbrev pub HasOneText : ResolvedParts → List OperationSignature → List ResolvedParts → ℕ → ℕ → Type 0
HasOneText host operations extensions number size =
    (one other : Generated) → IsGeneratedText host operations extensions number size one →
    IsGeneratedText host operations extensions number size other → one ≡ other
