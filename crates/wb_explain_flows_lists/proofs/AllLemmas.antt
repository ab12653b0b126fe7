-- What is found is said.
use Rattle.std.proofs.Common.{◌≡◌, ◌⊎◌, inl, inr, ℕ, List, Contains}
use Rattle.std.specs.Prelude.{◌↔◌}
use Rattle.wb_syntax_resolved.specs.declared.attribution.AttributionParts.{AttributionParts}
use Rattle.wb_explain_flows_lists.specs.declared.handed.Lacking.{Lacking}
use Rattle.wb_explain_flows_lists.specs.declared.held.Unheld.{Unheld}
use Rattle.wb_explain_flows_lists.specs.declared.missing.Missing.{Missing}
use Rattle.wb_explain_flows_lists.specs.Handed.{AreLacking, IsHandedText, SaysHanded}
use Rattle.wb_explain_flows_lists.specs.Held.{AreUnheld, IsUnheldText, SaysUnheld}
use Rattle.wb_explain_flows_lists.specs.Lists.{Lists}
use Rattle.wb_explain_flows_lists.specs.Missing.{IsAspect, IsMissing, SaysMissing}

module _ (a : AttributionParts) (old new : List ℕ) where
  pub missing_said : (found : List Missing) → ((m : Missing) → Contains found m ↔ IsMissing a m)
      → (new ≡ old) ⊎ Lists (IsAspect a) found old new → (new ≡ old) ⊎ SaysMissing a old new
  missing_said found exactly (inl same) = inl same
  missing_said found exactly (inr lists) = inr (record { found = found; exactly = exactly; lists = lists })

  pub handed_said : (found : List Lacking) → AreLacking a found → (new ≡ old) ⊎ Lists (IsHandedText a) found old new
      → (new ≡ old) ⊎ SaysHanded a old new
  handed_said found each (inl same) = inl same
  handed_said found each (inr lists) = inr (record { found = found; each = each; lists = lists })

  pub unheld_said : (found : List Unheld) → AreUnheld a found → (new ≡ old) ⊎ Lists (IsUnheldText a) found old new
      → (new ≡ old) ⊎ SaysUnheld a old new
  unheld_said found each (inl same) = inl same
  unheld_said found each (inr lists) = inr (record { found = found; each = each; lists = lists })
