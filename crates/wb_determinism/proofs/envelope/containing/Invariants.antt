use Rattle.std.proofs.Common.{ℕ}
use Rattle.std.specs.Prelude.{◌↔◌, Contains}
use Rattle.wb_determinism.specs.Inner.Envelopes.{HasAll}
use Rattle.wb_determinism.proofs.EnvelopeLemmas.{IsAmong}
use Rattle.wb_determinism.proofs.envelope.containing.Given as goal

abbrev pub invariant-candidates : goal.invariant-candidates
invariant-candidates l = (s : ℕ) → Contains l.list.items s ↔ (IsAmong l.candidates l.state-index s × HasAll l.host l.own s)
