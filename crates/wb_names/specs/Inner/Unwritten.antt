-- Nothing that is written.
use Rattle.std.specs.Prelude.{◌≡◌, []}
use Rattle.wb_names.specs.declared.rows.Written.{Written}
use Rattle.wb_names.specs.Inner.Rest.{IsBare}

-- no names on whose productions items write, no rows, and no start
pub record IsUnwritten (w : Written) : Type 0 where
  pub names : w.writers.names ≡ []
  pub places : w.writers.places.items ≡ []
  pub concrete : w.productions.concrete.items ≡ []
  pub others : w.productions.others.items ≡ []
  pub rest : IsBare w.rest
