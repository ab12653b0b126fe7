-- What is found of a host by a private test.
use Rattle.std.specs.Prelude.{◌≡◌, Some}
use Rattle.wb_base.specs.Grammar.{GrammarView}
use Rattle.wb_determinism_host.specs.Hosts.{AreHostParts}
use Rattle.wb_determinism_host.specs.declared.parts.HostParts.{HostParts}
use Rattle.wb_syntax_resolved.specs.Resolved.{IsResolved}
use Rattle.wb_syntax_resolved.specs.declared.resolved.ResolvedParts.{ResolvedParts}
use Rattle.wb_certify_host.specs.Refusals.{IsDeterministic}

-- the host is deterministic, and these parts are those of its grammar
pub record IsFound (r : ResolvedParts) (parts : HostParts) : Type 0 where
  pub whole : IsResolved r
  pub deterministic : IsDeterministic r
  pub of_grammar : (g : GrammarView) → r.grammar ≡ Some g → AreHostParts r g parts
