-- A certified host with certified extensions, and what one more extension makes of them.
use Rattle.std.specs.Prelude.{◌≡◌, ◌++◌, ◌∷◌, [], ℕ, List, All, map}
use Rattle.wb_base.specs.Different.{Differ}
use Rattle.wb_certify_files.specs.Kept.{ExtensionView}
use Rattle.wb_certify_files.specs.Hosts.{CertifiedView}
use Rattle.wb_compose_texts.specs.Composed.{IsWith, name_of}
use Rattle.wb_compose_texts.specs.Unions.{all_resolved}
use Rattle.wb_operations.specs.Operations.{OperationSignature}
use Rattle.wb_compose_files.specs.Extensions.{IsNextText}

-- a host, and extensions in their order
pub record CertifiedParts : Type 0 where
  pub host : CertifiedView
  pub extensions : List ExtensionView

-- the extensions are certified with the host, and have different names
pub record AreApart (c : CertifiedParts) : Type 0 where
  pub each : All (IsWith c.host) c.extensions
  pub names : Differ (map name_of c.extensions)

-- the host stays, and after the extensions comes the one that the contents are
pub record Extends (operations : List OperationSignature) (contents : List ℕ) (old new : CertifiedParts) : Type 0 where
  pub extension : ExtensionView
  pub host : new.host ≡ old.host
  pub extensions : new.extensions ≡ old.extensions ++ extension ∷ []
  pub is : IsNextText operations old.host.resolved (all_resolved old.extensions) contents extension.resolved
