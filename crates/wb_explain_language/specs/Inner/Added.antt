-- Extensions that were added to a host.
use Rattle.std.specs.Prelude.{◌≡◌, [], ℕ, List}
use Rattle.wb_compose_files.specs.Hosts.{CertifiedView}
use Rattle.wb_compose_files.specs.Certified.{CertifiedParts}
use Rattle.wb_compose_files.specs.Unions.{all_resolved}
use Rattle.wb_operations.specs.Operations.{OperationSignature}
use Rattle.wb_explain_language.specs.Languages.{AreNext}

-- it is this host, with the extensions that the contents are
pub record HasAdded (operations : List OperationSignature) (host : CertifiedView) (files : List (List ℕ)) (c : CertifiedParts) : Type 0 where
  pub host_is : c.host ≡ host
  pub are : AreNext operations host.resolved [] files (all_resolved c.extensions)
