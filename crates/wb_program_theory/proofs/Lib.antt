mod ChosenLists
mod SpanLemmas
pub mod LanguageLemmas
pub mod UnionLemmas
pub mod ProductionLemmas
pub mod AttributeLemmas
pub mod OrderLemmas
mod FileLemmas
mod ReportLemmas
mod RunLemmas
mod SeveralLemmas
mod CertifiedLemmas
mod ExistenceLemmas
mod CompletenessLemmas
mod TreeReports
mod LineReports
mod RunReports
mod PrefixedExist
mod ExpressionsExist
mod GenerateReports
mod ReadingReports
mod EditsExist
mod EditReports
mod ReadingLemmas
mod HostWords
mod ReportsExist
mod WordLemmas
mod ChainLemmas
mod AttributeCodes
mod GrammarCodes
mod MarkerCodes
mod AlikeLemmas
mod HostCodes
mod ExtensionCodes
mod RefusedFiles
mod RecheckCodes
mod CodeLemmas
mod CodeTexts
