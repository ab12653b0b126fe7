-- That the contents of a file have one answer as an extension of a host.
use Rattle.std.specs.Prelude.{ℕ, List}
use Rattle.wb_certify_files.specs.OneExtensionAnswer.{HaveOneHeader, HaveOneExtensionAnswer}
use Rattle.wb_operations.specs.Operations.{OperationSignature}
use Rattle.wb_syntax_resolved.specs.declared.resolved.ResolvedParts.{ResolvedParts}

-- what the contents of a file say of their answers
abbrev pub ExcludesExtensions : Type 0
ExcludesExtensions = (host : ResolvedParts) (operations : List OperationSignature) (contents : List ℕ)
    → HaveOneExtensionAnswer host operations contents

-- what first lines say of the contents of a file
abbrev pub ExcludesHeaders : Type 0
ExcludesHeaders = (host : ResolvedParts) (contents : List ℕ) → HaveOneHeader host contents
