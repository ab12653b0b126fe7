-- what is certified so far
pub mod Certified
-- what contents are as an extension after others
pub mod Extensions
-- a composed language, with what shows its trees
pub mod Languages
-- what a composed language shows of its fields
pub mod Fields
-- words of `wb_certify_files` that callers speak of
pub use Rattle.wb_certify_files.specs.HostContents
pub use Rattle.wb_certify_files.specs.Hosts
pub use Rattle.wb_certify_files.specs.Kept
pub use Rattle.wb_certify_files.specs.WellDefined
pub use Rattle.wb_certify_files.specs.declared.extension_refusal
pub use Rattle.wb_certify_files.specs.declared.host_refusal
-- words of `wb_compose_texts` that callers speak of
pub use Rattle.wb_compose_texts.specs.Composed
pub use Rattle.wb_compose_texts.specs.Inner.Parsed as ParsedTexts
pub use Rattle.wb_compose_texts.specs.Questions
pub use Rattle.wb_compose_texts.specs.Roots
pub use Rattle.wb_compose_texts.specs.Unions
pub use Rattle.wb_compose_texts.specs.Values as TextValues
pub use Rattle.wb_compose_texts.specs.declared.value as text_value
-- words of `wb_eval_root` that callers speak of
pub use Rattle.wb_compose_texts.specs.tree_value
-- words of private functions
pub mod Inner
