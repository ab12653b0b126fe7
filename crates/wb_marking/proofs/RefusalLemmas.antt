-- Where all rules hold, no refusal but out of memory is true.
use Rattle.wb_base.specs.Grammar.{GrammarView}
use Rattle.wb_syntax_resolved.specs.declared.resolved.ResolvedParts.{ResolvedParts}
use Rattle.wb_marking.specs.declared.refusal.MarkRefusal.{MarkRefusal}
use Rattle.wb_marking.specs.declared.refusal.MarkRefusal.TheVariants as m
use Rattle.wb_marking.specs.Bridges.{AreBridges}
use Rattle.wb_marking.specs.Clashes.{HasNoMarkerClash}
use Rattle.wb_marking.specs.Refusals.{IsBridgeRefusal, IsClashRefusal, IsMarkRefusal, IsNoMemory}

-- where the rules on bridges hold, no refusal by one of them but out of memory is true
pub bridges_excluded : (r : ResolvedParts) (g : GrammarView) (refusal : MarkRefusal) → AreBridges r g → IsBridgeRefusal r g refusal
    → IsNoMemory refusal
bridges_excluded r g (m.NotBridge number) kept is = absurd (is.lacks (kept.begin number is.on_host))
bridges_excluded r g (m.MarkerElsewhere marker) kept is = absurd (is.lacks (kept.once marker is.is_marker))
bridges_excluded r g (m.NotExtensible number) kept is = absurd (is.closed.closed (kept.extensible number is.closed.marked))
bridges_excluded r g (m.MarkerClash marker other text) kept is = absurd is
bridges_excluded r g (m.NoMemory error) kept is = tt

-- where no marker clashes, no refusal for a clash but out of memory is true
pub clash_excluded : (r : ResolvedParts) (refusal : MarkRefusal) → HasNoMarkerClash r → IsClashRefusal r refusal → IsNoMemory refusal
clash_excluded r (m.NotBridge number) clear is = absurd is
clash_excluded r (m.MarkerElsewhere marker) clear is = absurd is
clash_excluded r (m.NotExtensible number) clear is = absurd is
clash_excluded r (m.MarkerClash marker other text) clear is = absurd (clear marker other text is.clash)
clash_excluded r (m.NoMemory error) clear is = tt

-- where all of it holds, none of both
pub excluded : (r : ResolvedParts) (g : GrammarView) (refusal : MarkRefusal) → IsMarkRefusal r g refusal → AreBridges r g
    → HasNoMarkerClash r → IsNoMemory refusal
excluded r g (m.NotBridge number) is rules clear = bridges_excluded r g (m.NotBridge number) rules is
excluded r g (m.MarkerElsewhere marker) is rules clear = bridges_excluded r g (m.MarkerElsewhere marker) rules is
excluded r g (m.NotExtensible number) is rules clear = bridges_excluded r g (m.NotExtensible number) rules is
excluded r g (m.MarkerClash marker other text) is rules clear = clash_excluded r (m.MarkerClash marker other text) clear is.1
excluded r g (m.NoMemory error) is rules clear = tt
