-- What is found where a call has another number of arguments than it takes.
use Rattle.std.specs.Prelude.{◌≡◌, ◌≢◌, ℕ, List, length}
use Rattle.wb_base.specs.declared.symbol.Kind.{Kind}
use Rattle.wb_syntax_expressions.specs.Places.{HasNode, parts_of}
use Rattle.wb_operations.specs.Operations.{OperationSignature}
use Rattle.wb_syntax_resolved.specs.declared.attribution.AttributionParts.{AttributionParts}
use Rattle.wb_syntax_resolved.specs.Expression.{Node}
use Rattle.wb_explain_mismatches.specs.declared.arity.Miscount.{Miscount}
use Rattle.wb_explain_mismatches.specs.Wrong.{IsWrongCount, Takes}

-- the node takes so many arguments, and has another number
abbrev pub IsWrongCountAt : AttributionParts → List OperationSignature → Node → ℕ → Type 0
IsWrongCountAt a operations node takes =
    (kinds : List Kind) × Takes a operations node kinds × (length kinds ≡ takes) × (length (parts_of node) ≢ takes)

-- so it is of the node at the place that is found
abbrev pub IsMiscounted : AttributionParts → List OperationSignature → List Node → Miscount → Type 0
IsMiscounted a operations nodes found =
    (node : Node) × HasNode nodes found.at node × IsWrongCount a operations nodes node found.takes
