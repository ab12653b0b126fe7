-- The printed names of a union's markers without a bare form.
use Rattle.std.specs.Prelude.{◌≡◌, ℕ, List, map}
use Rattle.wb_compose.specs.Lexicons.{lexicon_of}
use Rattle.wb_operations.specs.Operations.{OperationSignature}
use Rattle.wb_syntax_resolved.specs.declared.resolved.ResolvedParts.{ResolvedParts}
use Rattle.wb_compose.specs.Languages.{AreWithdrawn}
use Rattle.wb_compose_texts.specs.Names.{name_at, terminals_of}
use Rattle.wb_compose_texts.specs.Unions.{Union, written_of}

-- these are their names, by extension and then by number
pub record AreWithdrawnNames (host : ResolvedParts) (operations : List OperationSignature) (extensions : List ResolvedParts)
    (names : List (List ℕ)) : Type 0 where
  pub whole : Union host operations extensions
  pub numbers : List ℕ
  pub withdrawn : AreWithdrawn whole.grammar host.extensible (lexicon_of host whole.grammar) (written_of host operations extensions whole)
      numbers
  pub is : names ≡ map (name_at (terminals_of host extensions)) numbers

-- there is one list of such names at most
abbrev pub HasOneWithdrawn : ResolvedParts → List OperationSignature → List ResolvedParts → Type 0
HasOneWithdrawn host operations extensions =
    (names others : List (List ℕ)) → AreWithdrawnNames host operations extensions names →
    AreWithdrawnNames host operations extensions others → names ≡ others
