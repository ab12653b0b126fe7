use Rattle.std.proofs.Common.{◌≡◌, Some, subst}
use Rattle.wb_base.specs.Grammar.{GrammarView}
use Rattle.wb_certify.specs.DeterministicHosts.{AreHostParts}
use Rattle.wb_certify.specs.Hosts.{CertifiedView, IsCertified}
use Rattle.wb_recheck.proofs.rechecked.RecheckedHost.parts.Goals as goal

pub returns-clause-of_grammar : goal.returns-clause-of_grammar
returns-clause-of_grammar c =
    subst (λ (h : CertifiedView). (g : GrammarView) → h.resolved.grammar ≡ Some g → AreHostParts h.resolved g h.parts) c.self.view_is
    c.self.invariant.parts

pub returns-clause-certified : goal.returns-clause-certified
returns-clause-certified c = subst IsCertified c.self.view_is c.self.invariant
