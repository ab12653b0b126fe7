-- A host and the host with an extension, of which it is asked whether the extension is deterministic beside the host.
use Rattle.wb_base.specs.Grammar.{GrammarView}
use Rattle.wb_determinism_host.specs.Hosts.{AreAcyclic, AreHostParts, IsDeterministicHost}
use Rattle.wb_determinism_host.specs.declared.parts.HostParts.{HostParts}
use Rattle.wb_marking.specs.Clashes.{HasNoMarkerClash}
use Rattle.wb_syntax_resolved.specs.declared.resolved.ResolvedParts.{ResolvedParts}
use Rattle.wb_determinism_beside.specs.Pieces.{IsExtendedBy}

-- r, with this grammar, is the host with an extension whose names are right and whose markers keep their rules; preferences are acyclic;
-- the host by itself is deterministic, and the parts are those of its grammar
pub record IsAskedBeside (r : ResolvedParts) (g : GrammarView) (parts : HostParts) : Type 0 where
  pub host : ResolvedParts
  pub host_grammar : GrammarView
  pub extended : IsExtendedBy host r host_grammar g
  pub clear : HasNoMarkerClash r
  pub acyclic : AreAcyclic r
  pub deterministic : IsDeterministicHost host host_grammar
  pub of_host : AreHostParts host host_grammar parts
