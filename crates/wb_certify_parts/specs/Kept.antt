-- What is made of the grammar of a certified extension with its host.
use Rattle.std.specs.Prelude.{◌≡◌, Some}
use Rattle.wb_base.specs.Grammar.{GrammarView}
use Rattle.wb_determinism_host.specs.Hosts.{AreHostParts}
use Rattle.wb_determinism_host.specs.declared.parts.HostParts.{HostParts}
use Rattle.wb_determinism.specs.Extensions.{AreExtensionParts}
use Rattle.wb_determinism.specs.declared.parts.ExtensionParts.{ExtensionParts}
use Rattle.wb_syntax_resolved.specs.declared.resolved.ResolvedParts.{ResolvedParts}

-- the parts are those of the extended grammar, beside these of the host
abbrev pub ArePartsBeside : ResolvedParts → HostParts → ExtensionParts → Type 0
ArePartsBeside r host parts = (g : GrammarView) → r.grammar ≡ Some g → AreExtensionParts r g host parts

-- the parts are those of the extended grammar, beside some parts of the host
pub record AreKeptParts (host r : ResolvedParts) (parts : ExtensionParts) : Type 0 where
  pub host_parts : HostParts
  pub of_host : (g : GrammarView) → host.grammar ≡ Some g → AreHostParts host g host_parts
  pub beside : ArePartsBeside r host_parts parts
