-- When extensions may be composed with a host, what is read of the files of both, and how a run ends where one is refused.
use Rattle.std.specs.Prelude.{◌≡◌, ◌≤◌, ℕ, Option, List, [], length, map, All}
use Rattle.wb_base.specs.Different.{Differ}
use Rattle.wb_program_files.specs.HostContents.{IsHostText}
use Rattle.wb_program_files.specs.Hosts.{CertifiedView}
use Rattle.wb_program_files.specs.Kept.{ExtensionView}
use Rattle.wb_compose_texts.specs.Composed.{IsWith, name_of}
use Rattle.wb_operations.specs.Operations.{OperationSignature}
use Rattle.wb_compose_texts.specs.Unions.{all_resolved}
use Rattle.wb_world.specs.Shelf.{Files}
use Rattle.wb_program_files.specs.Checks.{Report}
use Rattle.wb_program_files.specs.Files.{KnownFile}
use Rattle.wb_program_texts.specs.SeveralChecks.{AreEach, SeveralChecks}
use Rattle.wb_program_texts.specs.declared.composable.Composable.{Composable}

-- these extensions are certified with the host, and have different names
pub record AreApart (host : CertifiedView) (extensions : List ExtensionView) : Type 0 where
  pub each : All (IsWith host) extensions
  pub names : Differ (map name_of extensions)

-- the files hold this host and these extensions, which aren't too many; the extensions are certified with the host, over operations of
-- these signatures, and have different names
pub record AreRead (operations : List OperationSignature) (known : Option Files) (host : List ℕ) (extensions : List (List ℕ))
    (all : Composable) : Type 0 where
  pub few : length extensions ≤ 64
  pub is_host : KnownFile known host (λ contents. IsHostText operations contents all.host.resolved)
  pub each : AreEach operations known all.host.resolved extensions [] (all_resolved all.extensions.items)
  pub apart : AreApart all.host all.extensions.items
  pub signatures : all.host.operations ≡ operations

-- there are too many extensions, or the host is refused, or one of the extensions is
abbrev pub RefusesAny : List OperationSignature → Option Files → (host : List ℕ) → (extensions : List (List ℕ)) → Report
RefusesAny operations known host extensions = SeveralChecks operations known host extensions (λ r values status bytes. ⊥)
