-- What an attribution is.
use Rattle.wb_syntax_resolved.specs.declared.attribution.AttributionParts.{AttributionParts}
use Rattle.wb_syntax_resolved.specs.Named.{IsNamed}
use Rattle.wb_syntax_resolved.specs.Owned.{IsOwned}
use Rattle.wb_syntax_resolved.specs.Once.{IsOnce}
use Rattle.wb_syntax_resolved.specs.Numbered.{IsNumbered}

-- each name is declared and of the right kind, extensions keep to what they may, nothing is there twice for owners of whom one sees the
-- other, and productions and attributes are numbered in order
pub record IsAttribution (a : AttributionParts) : Type 0 where
  pub named : IsNamed a
  pub owned : IsOwned a
  pub once : IsOnce a
  pub numbered : IsNumbered a
