-- What makes an extension deterministic beside the grammar of a host.
use Rattle.std.specs.Prelude.{◌≡◌, Some}
use Rattle.wb_base.specs.Grammar.{GrammarView}
use Rattle.wb_determinism_beside.specs.DeterministicExtensions.{IsDeterministicExtension}
use Rattle.wb_syntax_resolved.specs.declared.resolved.ResolvedParts.{ResolvedParts}
use Rattle.wb_certify.specs.Extensions.{AreMarkersKept, IsDeterministicBeside}

-- markers keep their rules, and the extension is deterministic beside the host with this grammar with holes
pub record IsClearBeside (r : ResolvedParts) (g host : GrammarView) : Type 0 where
  pub markers : AreMarkersKept r g
  pub deterministic : IsDeterministicExtension r g host

-- so for each grammar that the specification has
abbrev pub AreClearBeside : ResolvedParts → GrammarView → Type 0
AreClearBeside r host = (g : GrammarView) → r.grammar ≡ Some g → IsClearBeside r g host

-- host and extended host have grammars, and the extension is deterministic beside the host
pub record IsFound (host r : ResolvedParts) : Type 0 where
  pub host_grammar : GrammarView
  pub host_start : host.grammar ≡ Some host_grammar
  pub grammar : GrammarView
  pub start : r.grammar ≡ Some grammar
  pub deterministic : IsDeterministicBeside host r host_grammar grammar
