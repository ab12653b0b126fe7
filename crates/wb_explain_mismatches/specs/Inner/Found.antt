-- What is found at the offset of an equation.
use Rattle.std.specs.Prelude.{◌≡◌, ℕ, Contains}
use Rattle.wb_syntax_resolved.specs.declared.attribution.AttributionParts.{AttributionParts}
use Rattle.wb_syntax_resolved.specs.declared.production.Production.{Production}
use Rattle.wb_types.specs.Expected.{IsExpected}
use Rattle.wb_explain_mismatches.specs.declared.expected.Expected.{Expected}

-- it is an expression of this production
pub record IsExpectedIn (a : AttributionParts) (production : Production) (offset : ℕ) (e : Expected) : Type 0 where
  pub of_production : e.production.now ≡ production
  pub same : e.offset ≡ offset
  pub expected : IsExpected a production e.nodes.now e.kind offset

-- it is an expression of a production that is listed
pub record IsExpectedAt (a : AttributionParts) (offset : ℕ) (e : Expected) : Type 0 where
  pub listed : Contains a.productions e.production.now
  pub same : e.offset ≡ offset
  pub expected : IsExpected a e.production.now e.nodes.now e.kind offset
