-- One flow type more that lacks something.
use Rattle.std.proofs.Common.{◌≡◌, ◌++◌, ◌∷◌, [], inl, inr, ℕ, List, sym, subst}
use Rattle.wb_lemmas.proofs.Members.{contains_push}
use Rattle.wb_syntax_resolved.specs.declared.attribution.AttributionParts.{AttributionParts}
use Rattle.wb_explain_flows_lists.specs.declared.held.Unheld.{Unheld}
use Rattle.wb_explain_flows_lists.specs.Held.{AreUnheld, IsUnheld}
use Rattle.wb_explain_flows_lists.specs.Inner.Spots.{KeepsUnheld}

pub keeps_unheld : (a : AttributionParts) (xs ys : List Unheld) (one : Unheld) → ys ≡ xs ++ one ∷ [] → IsUnheld a one → KeepsUnheld a xs ys
keeps_unheld a xs ys one pushed is before = subst (AreUnheld a) (sym pushed) each where
  each : AreUnheld a (xs ++ one ∷ [])
  each u has = elim (contains_push xs one u has) [ inl old ↦ before u old | inr last ↦ subst (IsUnheld a) last is ]

abbrev pub unheld : ℕ → ℕ → ℕ → Unheld
unheld attribute nonterminal inherited = record { attribute = attribute; nonterminal = nonterminal; inherited = inherited }
