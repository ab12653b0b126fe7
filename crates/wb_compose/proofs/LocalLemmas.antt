-- In a composed language lookaheads are local.
use Rattle.wb_certify.specs.Kept.{ExtensionView}
use Rattle.wb_certify.specs.Hosts.{CertifiedView}
use Rattle.wb_compose.specs.Composed.{IsComposed}
use Rattle.wb_compose.specs.Local.{HasLocalLookaheads}
use Rattle.wb_compose.specs.Written.{written_in}
use Rattle.wb_compose.proofs.WrittenApart.{all_certified}
use Rattle.wb_compose_theory_kernels.proofs.LocalLemmas.{are_local}
use Rattle.wb_compose_theory_language.specs.Written.{pieces_of}
use Rattle.wb_scan_theory.specs.Languages.{LanguageView}
use Rattle.std.proofs.Common.{ℕ, List}

pub local_lookaheads : (host : CertifiedView) (extensions : List ExtensionView) (l : LanguageView) (withdrawn : List ℕ)
    → IsComposed host extensions l withdrawn → HasLocalLookaheads host extensions l
local_lookaheads host extensions l withdrawn is = record {
  grammar = is.grammar;
  start = is.start;
  extended = is.extended;
  each = is.each;
  united_is = is.language.grammar;
  local = are_local is.grammar host.resolved.extensible (pieces_of (written_in is.grammar is.extended))
      (all_certified host.resolved is.grammar host.operations is.extended is.certified);
}
