-- a certified host and certified extensions, as what unions are made of
pub mod Joined
-- extensions that keep the rules on bridges, certified or not
pub mod Bridged
-- what terminals stand for, beside the host alone
pub mod Images
-- the lookahead rule at kernels and at prefixes
pub mod Rules
-- how they are written
pub mod Written
-- the attributes of a host with extensions
pub mod Attributes
-- their grammar
pub mod Agreement
-- what the laws say of the attributes
pub mod AttributeLaws
-- when attributes are those of all together
pub mod United
-- the language that is composed of a certified host and certified extensions
pub mod Composed
-- that its lookaheads are those of the host by itself, or of the host with one extension
pub mod Local
-- the language of a host by itself, which is composed of no extensions
pub mod HostLanguage
-- that there is a language, and in it an answer to each text
pub mod Existence
-- words of `wb_certify` that callers speak of
pub use Rattle.wb_certify.specs.DeterminismImages
pub use Rattle.wb_certify.specs.Hosts
pub use Rattle.wb_certify.specs.Kept
pub use Rattle.wb_certify.specs.Lexicons
-- words of `wb_compose_theory_attributes` that callers speak of
pub use Rattle.wb_compose_theory_attributes.specs.Numbers as AttributeNumbers
-- words of `wb_compose_theory_language` that callers speak of
pub use Rattle.wb_compose_theory_language.specs.Apart
pub use Rattle.wb_compose_theory_language.specs.Languages
pub use Rattle.wb_compose_theory_language.specs.Written as WrittenLanguages
-- words of `wb_determinism_contexts` that callers speak of
pub use Rattle.wb_determinism_contexts.specs.Considered
-- words of `wb_compose_theory_lists` that callers speak of
pub use Rattle.wb_compose_theory_lists.specs.Additions
pub use Rattle.wb_compose_theory_lists.specs.Hosts as ListedHosts
pub use Rattle.wb_compose_theory_lists.specs.Joined as JoinedLists
pub use Rattle.wb_compose_theory_lists.specs.Laws as ListLaws
pub use Rattle.wb_compose_theory_lists.specs.Numbers as ListNumbers
pub use Rattle.wb_compose_theory_lists.specs.United as UnitedLists
-- words of `wb_scan` that callers speak of
pub use Rattle.wb_scan.specs.Views as LanguageViews
-- words of the private functions
pub mod Inner
