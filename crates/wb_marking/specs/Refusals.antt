-- Why the markers of an extension are refused: each reason with a true example, where no earlier one holds.
use Rattle.std.specs.Prelude.{◌<◌, ℕ, List}
use Rattle.wb_base.specs.Grammar.{GrammarView}
use Rattle.wb_syntax_resolved.specs.declared.resolved.ResolvedParts.{ResolvedParts}
use Rattle.wb_marking.specs.declared.refusal.MarkRefusal.{MarkRefusal}
use Rattle.wb_marking.specs.declared.refusal.MarkRefusal.TheVariants as m
use Rattle.wb_marking.specs.Markers.{IsMarker}
use Rattle.wb_marking.specs.Bridges.{IsOnHost, BeginsWithMarker, BeginWithMarkers, BeginsOne, EachBeginsOne, IsClosed, AreBridges}
use Rattle.wb_marking.specs.Clashes.{IsMarkerClash}

-- the production is an extension's on a nonterminal of the host, and doesn't begin with a marker
pub record IsNoBridge (r : ResolvedParts) (g : GrammarView) (number : ℕ) : Type 0 where
  pub on_host : IsOnHost r g number
  pub lacks : ¬ BeginsWithMarker r g number

-- the first rule holds, and the marker begins not exactly one production on a nonterminal of the host, or is elsewhere
pub record IsElsewhere (r : ResolvedParts) (g : GrammarView) (marker : ℕ) : Type 0 where
  pub begin : BeginWithMarkers r g
  pub is_marker : IsMarker r marker
  pub lacks : ¬ BeginsOne r g marker

-- the first two rules hold, and the production begins with a marker and its left side isn't extensible
pub record IsNotExtensible (r : ResolvedParts) (g : GrammarView) (number : ℕ) : Type 0 where
  pub begin : BeginWithMarkers r g
  pub once : EachBeginsOne r g
  pub closed : IsClosed r g number

-- the marker and the other clash; of two markers the lesser is first
pub record IsShownClash (r : ResolvedParts) (marker other : ℕ) (text : List ℕ) : Type 0 where
  pub clash : IsMarkerClash r marker other text
  pub in_order : IsMarker r other → marker < other

-- what is shown is an example of the first rule on bridges that fails; out of memory says nothing
abbrev pub IsBridgeRefusal : ResolvedParts → GrammarView → MarkRefusal → Type 0
IsBridgeRefusal r g (m.NotBridge production) = IsNoBridge r g production
IsBridgeRefusal r g (m.MarkerElsewhere marker) = IsElsewhere r g marker
IsBridgeRefusal r g (m.NotExtensible production) = IsNotExtensible r g production
IsBridgeRefusal r g (m.MarkerClash _ _ _) = ⊥
IsBridgeRefusal r g (m.NoMemory _) = Unit {0}

-- what is shown is a clash; out of memory says nothing
abbrev pub IsClashRefusal : ResolvedParts → MarkRefusal → Type 0
IsClashRefusal r (m.NotBridge _) = ⊥
IsClashRefusal r (m.MarkerElsewhere _) = ⊥
IsClashRefusal r (m.NotExtensible _) = ⊥
IsClashRefusal r (m.MarkerClash marker other text) = IsShownClash r marker other text
IsClashRefusal r (m.NoMemory _) = Unit {0}

-- what is shown is an example of the first rule that fails: one on bridges, or where these hold a clash; out of memory says nothing
abbrev pub IsMarkRefusal : ResolvedParts → GrammarView → MarkRefusal → Type 0
IsMarkRefusal r g (m.NotBridge production) = IsNoBridge r g production
IsMarkRefusal r g (m.MarkerElsewhere marker) = IsElsewhere r g marker
IsMarkRefusal r g (m.NotExtensible production) = IsNotExtensible r g production
IsMarkRefusal r g (m.MarkerClash marker other text) = AreBridges r g × IsShownClash r marker other text
IsMarkRefusal r g (m.NoMemory _) = Unit {0}

-- the refusal is that memory ran out
abbrev pub IsNoMemory : MarkRefusal → Type 0
IsNoMemory (m.NotBridge _) = ⊥
IsNoMemory (m.MarkerElsewhere _) = ⊥
IsNoMemory (m.NotExtensible _) = ⊥
IsNoMemory (m.MarkerClash _ _ _) = ⊥
IsNoMemory (m.NoMemory _) = Unit {0}
