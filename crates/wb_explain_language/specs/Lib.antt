-- the language of files, and what is said of a stop in it
pub mod Languages
-- what is said of the attributes that can be asked
pub mod Asked
-- words of `wb_compose_files` that callers speak of
pub use Rattle.wb_compose_files.specs.Languages as TextLanguages
pub mod Inner
