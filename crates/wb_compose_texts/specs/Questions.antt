-- What may be asked of a text.
use Rattle.std.specs.Prelude.{◌≡◌, ℕ, List}
use Rattle.wb_compose.specs.United.{IsOfUnion}
use Rattle.wb_compose.specs.Composed.{IsComposed}
use Rattle.wb_operations.specs.Operations.{OperationSignature}
use Rattle.wb_compose_texts.specs.Unions.{all_resolved}
use Rattle.wb_compose_texts.specs.Roots.{IsRootAttribute}
use Rattle.wb_compose_texts.specs.declared.question.Question.{Question}

-- the language and the attributes are those of the host with the extensions, over these operations, and the attribute may be asked at the
-- start by some name
pub record IsQuestion (operations : List OperationSignature) (q : Question) : Type 0 where
  pub composed : IsComposed q.host.now q.extensions.now q.composed.now.language.language q.composed.now.withdrawn.items
  pub attributes : IsOfUnion q.host.now.resolved q.host.now.operations (all_resolved q.extensions.now) q.attributes.now
  pub same : q.host.now.operations ≡ operations
  pub asked : (name : List ℕ) × IsRootAttribute q.host.now.resolved q.host.now.operations (all_resolved q.extensions.now) name q.attribute
