-- what a host reading answers
pub mod Answers
-- words of `wb_reading_theory` that callers speak of
pub use Rattle.wb_reading_theory.specs.Attributes
pub use Rattle.wb_reading_theory.specs.Attributions
pub use Rattle.wb_reading_theory.specs.Extends
pub use Rattle.wb_reading_theory.specs.Languages
pub use Rattle.wb_reading_theory.specs.Laws
pub use Rattle.wb_reading_theory.specs.Markers
pub use Rattle.wb_reading_theory.specs.MarkingTerminals
pub use Rattle.wb_reading_theory.specs.OrderLaws
pub use Rattle.wb_reading_theory.specs.OrderedAnswers
pub use Rattle.wb_reading_theory.specs.OrderedLanguages
pub use Rattle.wb_reading_theory.specs.OrderedNames
pub use Rattle.wb_reading_theory.specs.OrderedUnions
pub use Rattle.wb_reading_theory.specs.OrderedValues
pub use Rattle.wb_reading_theory.specs.Orders
-- what loops keep, and words of private functions
pub mod Inner
