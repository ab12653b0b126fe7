-- The language of a certified host with extensions that are certified with it alone.
use Rattle.std.specs.Prelude.{◌≡◌, ℕ, List, Some}
use Rattle.std.specs.List.{AllZip}
use Rattle.wb_base.specs.Grammar.{GrammarView}
use Rattle.wb_certify.specs.Kept.{ExtensionView}
use Rattle.wb_certify.specs.Hosts.{CertifiedView}
use Rattle.wb_certify.specs.Lexicons.{lexicon_of}
use Rattle.wb_compose.specs.Joined.{AreCertifiedApart, Extended}
use Rattle.wb_compose.specs.Written.{name_in, written_in}
use Rattle.wb_scan_theory.specs.Languages.{LanguageView}
use Rattle.wb_compose_theory_language.specs.Languages.{AreWithdrawn, IsUnitedLanguage}

-- the extension was certified with this host, over the same operations
pub record IsWith (host : CertifiedView) (e : ExtensionView) : Type 0 where
  pub host_is : e.host ≡ host.resolved
  pub operations_are : e.operations ≡ host.operations

-- the name of the extension
abbrev pub name_of : ExtensionView → List ℕ
name_of e = name_in e.resolved

-- the host with the extension, and the grammar that both have
pub record IsExtended (e : ExtensionView) (x : Extended) : Type 0 where
  pub resolved_is : x.resolved ≡ e.resolved
  pub start : e.resolved.grammar ≡ Some x.grammar

-- with the grammars that the host has, by itself and with each extension, both are certified, the language is that of their union, and the
-- withdrawn markers are those that share a text with a terminal or layout of another extension
pub record IsComposed (host : CertifiedView) (extensions : List ExtensionView) (l : LanguageView) (withdrawn : List ℕ) : Type 0 where
  pub grammar : GrammarView
  pub start : host.resolved.grammar ≡ Some grammar
  pub extended : List Extended
  pub each : AllZip IsExtended extensions extended
  pub certified : AreCertifiedApart host.resolved grammar host.operations extended
  pub language : IsUnitedLanguage grammar host.resolved.extensible (lexicon_of host.resolved grammar) (written_in grammar extended) l
  pub withdrawn_are : AreWithdrawn grammar host.resolved.extensible (lexicon_of host.resolved grammar) (written_in grammar extended)
      withdrawn
