-- What is said of flow types that lack what those of forwards have.
use Rattle.std.specs.Prelude.{◌≡◌, ◌++◌, ℕ, List, Contains, slice_get}
use lib.Chars.{codes}
use Rattle.wb_flow.specs.Refusals.{LacksForwardNeed}
use Rattle.wb_syntax_resolved.specs.declared.attribution.AttributionParts.{AttributionParts}
use Rattle.wb_explain_flows_lists.specs.declared.held.Unheld.{Unheld}
use Rattle.wb_explain_flows_lists.specs.Lists.{Lists}
use Rattle.wb_explain_flows_lists.specs.Names.{own_attribute, own_nonterminal}

-- the flow type of the attribute on the nonterminal lacks what the flow type of the nonterminal's forward has
abbrev pub IsUnheld : AttributionParts → Unheld → Type 0
IsUnheld a u = LacksForwardNeed a u.nonterminal u.attribute u.inherited

-- the declaration that the attribute occurs on the nonterminal, without what it needs
abbrev pub unheld_text : AttributionParts → Unheld → List ℕ
unheld_text a u =
    codes "    occurs " ++ own_attribute (slice_get a.attributes u.attribute) ++ codes " on "
    ++ own_nonterminal (slice_get a.nonterminals u.nonterminal) ++ codes " needs { "

-- a line with that declaration
abbrev pub IsUnheldText : AttributionParts → Unheld → List ℕ → Type 0
IsUnheldText a u line = (more : List ℕ) × (line ≡ unheld_text a u ++ more)

-- each of them is so
abbrev pub AreUnheld : AttributionParts → List Unheld → Type 0
AreUnheld a found = (u : Unheld) → Contains found u → IsUnheld a u

-- such flow types are listed
pub record SaysUnheld (a : AttributionParts) (old new : List ℕ) : Type 0 where
  pub found : List Unheld
  pub each : AreUnheld a found
  pub lists : Lists (IsUnheldText a) found old new
