-- words of `wb_compose` that callers speak of
pub use Rattle.wb_compose.specs.Composed
-- words of private functions
pub mod Inner
