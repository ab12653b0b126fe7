-- What is lent of a host and of extensions to their union.
use Rattle.std.specs.Prelude.{◌≡◌, List, Some}
use Rattle.wb_base.specs.Grammar.{GrammarView}
use Rattle.wb_certify.specs.Kept.{AreCertifiedBoth, ExtensionView}
use Rattle.wb_compose.specs.Written.{name_in}
use Rattle.wb_syntax_resolved.specs.declared.resolved.ResolvedParts.{ResolvedParts}
use Rattle.wb_compose_language.specs.declared.addition.Addition.{Addition}
use Rattle.wb_compose_language.specs.declared.addition.Lent.{Lent}

-- what is lent is of this certified extension
pub record IsLent (e : ExtensionView) (x : Addition) : Type 0 where
  pub start : e.resolved.grammar ≡ Some x.grammar.now
  pub terminals_are : x.terminals.now ≡ e.resolved.terminals
  pub preferences_are : x.preferences.now ≡ e.resolved.preferences
  pub name_is : x.name.now ≡ name_in e.resolved
  pub both : (h : GrammarView) → e.host.grammar ≡ Some h → AreCertifiedBoth e.host e.resolved h x.grammar.now e.operations

-- what is lent is of this host and of these extensions
pub record IsLentHost (host : ResolvedParts) (additions : List Addition) (lent : Lent) : Type 0 where
  pub start : host.grammar ≡ Some lent.grammar.now
  pub extensible_are : lent.extensible.now ≡ host.extensible
  pub terminals_are : lent.terminals.now ≡ host.terminals
  pub preferences_are : lent.preferences.now ≡ host.preferences
  pub extensions_are : lent.extensions.now ≡ additions
