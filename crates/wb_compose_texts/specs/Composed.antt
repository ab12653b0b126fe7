-- A certified host by itself and with certified extensions, as both are composed; and the words of `wb_compose` that callers speak of.
use Rattle.std.specs.Prelude.{ℕ, Bool, List, [], map}
use Rattle.wb_base.specs.Different.{Differ}
use Rattle.wb_scan_theory.specs.Languages.{LanguageView}
use Rattle.wb_syntax_resolved.specs.declared.attribution.AttributionParts.{AttributionParts}
use Rattle.wb_compose.specs.Kept.{ExtensionView}
use Rattle.wb_compose.specs.Hosts.{CertifiedView}
pub use Rattle.wb_compose.specs.Composed.{IsComposed, IsWith, name_of}
pub use Rattle.wb_compose.specs.United.{IsOfUnion}
pub use Rattle.wb_compose.specs.Written.{name_in}
use Rattle.wb_compose_texts.specs.Unions.{all_resolved}
use Rattle.wb_compose_texts.specs.UnionMarkers.{AreUnionMarkers}

-- the first language and attributes are composed of the host and no extensions, the second of the host and these extensions, whose names
-- differ; and the set has the markers of the union
pub record AreComposed (host : CertifiedView) (extensions : List ExtensionView) (h u : LanguageView) (s a : AttributionParts)
    (markers : List Bool) : Type 0 where
  pub withdrawn_alone : List ℕ
  pub alone : IsComposed host [] h withdrawn_alone
  pub withdrawn : List ℕ
  pub together : IsComposed host extensions u withdrawn
  pub attributes_alone : IsOfUnion host.resolved host.operations [] s
  pub attributes : IsOfUnion host.resolved host.operations (all_resolved extensions) a
  pub names : Differ (map name_of extensions)
  pub markers_are : AreUnionMarkers host.resolved (all_resolved extensions) markers
