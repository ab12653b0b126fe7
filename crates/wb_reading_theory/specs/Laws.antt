-- The trees and stops of a text in a language, and in one that extends it.
use Rattle.std.specs.Prelude.{◌≡◌, ◌-◌, ◌↔◌, ℕ, Bool, List}
use Rattle.wb_base.specs.Grammar.{GrammarView}
use Rattle.wb_grammar_theory.specs.Trees.{Forest}
use Rattle.wb_scan_theory.specs.declared.stop_kind.StopKind.{StopKind}
use Rattle.wb_scan_theory.specs.declared.stop_kind.StopKind.TheVariants.{NoToken, Unexpected}
use Rattle.wb_scan_theory.specs.Languages.{LanguageView}
use Rattle.wb_scan_theory.specs.Texts.{ParsesTo, StopsAt}
use Rattle.wb_compose_theory.specs.Blocks.{lift}
use Rattle.wb_reading_theory.specs.Markers.{IsMarkerAt, IsPlain}

-- the reason for a stop in the numbers of a grammar that begins with another: `end` is numbered after further terminals
abbrev pub further_kind : (g k : GrammarView) → StopKind → StopKind
further_kind g k NoToken = NoToken
further_kind g k (Unexpected t) = Unexpected (lift g.terminals (k.terminals - g.terminals) t)

-- the text has the same trees in both languages, and the same stops: those of the first, and no others
pub record ReadsAlike (h u : LanguageView) (text : List ℕ) : Type 0 where
  pub trees : (tree : Forest) → ParsesTo h text tree ↔ ParsesTo u text tree
  pub stops : (place : ℕ) (kind : StopKind) → StopsAt h text place kind ↔ StopsAt u text place (further_kind h.grammar u.grammar kind)
  pub no_others : (place : ℕ) (kind : StopKind) → StopsAt u text place kind →
      (same : StopKind) × (kind ≡ further_kind h.grammar u.grammar same) × StopsAt h text place same

-- there is one first marker at most, at one place
abbrev pub HasOneMarker : LanguageView → List Bool → Type 0
HasOneMarker u markers =
    (text : List ℕ) (at other marker also : ℕ) → IsMarkerAt u markers text at marker → IsMarkerAt u markers text other also →
    (at ≡ other) × (marker ≡ also)
