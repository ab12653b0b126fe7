-- Lookaheads of a composed language are local: at a kernel those of the host by itself and of the host with each extension that has it.
use Rattle.std.specs.Prelude.{◌≡◌, List, Some}
use Rattle.std.specs.List.{AllZip}
use Rattle.wb_base.specs.Grammar.{GrammarView}
use Rattle.wb_certify.specs.Kept.{ExtensionView}
use Rattle.wb_certify.specs.Hosts.{CertifiedView}
use Rattle.wb_scan_theory.specs.Languages.{LanguageView}
use Rattle.wb_compose_theory_grammar.specs.UnitedWorlds.{united}
use Rattle.wb_compose_theory_kernels.specs.Lookaheads.{AreLookaheadsLocal}
use Rattle.wb_compose_theory_language.specs.Written.{pieces_of}
use Rattle.wb_compose.specs.Composed.{IsExtended}
use Rattle.wb_compose.specs.Joined.{Extended}
use Rattle.wb_compose.specs.Written.{written_in}

-- the language has the grammar of the host and the extensions, in which lookaheads are local, by the grammars of the host by itself and with
-- each extension, with holes
pub record HasLocalLookaheads (host : CertifiedView) (extensions : List ExtensionView) (l : LanguageView) : Type 0 where
  pub grammar : GrammarView
  pub start : host.resolved.grammar ≡ Some grammar
  pub extended : List Extended
  pub each : AllZip IsExtended extensions extended
  pub united_is : l.grammar ≡ united grammar host.resolved.extensible (pieces_of (written_in grammar extended))
  pub local : AreLookaheadsLocal grammar host.resolved.extensible (pieces_of (written_in grammar extended))
