-- What is said for a code is one of the things that are said.
use Rattle.std.proofs.Common.{◌≡◌, ◌⊎◌, inl, inr, ℕ, List, subst}
use Rattle.wb_explain_places.specs.declared.source.Source.{Source}
use Rattle.wb_syntax_resolved.specs.declared.attribution.AttributionParts.{AttributionParts}
use Rattle.wb_explain_flows_lists.specs.Handed.{SaysHanded}
use Rattle.wb_explain_flows_lists.specs.Held.{SaysUnheld}
use Rattle.wb_explain_flows_lists.specs.Missing.{SaysMissing}
use Rattle.wb_explain_flows.specs.Reads.{SaysReads}
use Rattle.wb_explain_flows.specs.Said.{SaysOf}
use Rattle.wb_explain_flows.specs.Said as s

module _ (source : Source) (a b : AttributionParts) (same : a ≡ b) (old new : List ℕ) where
  pub said_missing : (new ≡ old) ⊎ SaysMissing a old new → SaysOf source b old new
  said_missing (inl is) = s.nothing is
  said_missing (inr is) = s.missing (subst (λ z. SaysMissing z old new) same is)

  pub said_handed : (new ≡ old) ⊎ SaysHanded a old new → SaysOf source b old new
  said_handed (inl is) = s.nothing is
  said_handed (inr is) = s.handed (subst (λ z. SaysHanded z old new) same is)

  pub said_unheld : (new ≡ old) ⊎ SaysUnheld a old new → SaysOf source b old new
  said_unheld (inl is) = s.nothing is
  said_unheld (inr is) = s.unheld (subst (λ z. SaysUnheld z old new) same is)

  pub said_reads : (new ≡ old) ⊎ SaysReads source b old new → SaysOf source b old new
  said_reads (inl is) = s.nothing is
  said_reads (inr is) = s.reads is
