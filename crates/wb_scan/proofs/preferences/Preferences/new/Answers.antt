use Rattle.std.proofs.Common.{List, ℕ, subst}
use Rattle.wb_scan.specs.Inner.Preferred.{AreIndexed}
use Rattle.wb_scan.proofs.preferences.Preferences.new.Goals as goal

pub invariant_of-result : goal.invariant_of-result
invariant_of-result c =
    subst (λ (pairs : List (ℕ × ℕ)). AreIndexed pairs c.index_of-index.result.keys) c.deref.ensures.value c.index_of-index.ensures
