-- A true refusal other than out of memory rules a language out.
use Rattle.wb_determinism_contexts.proofs.ConflictLemmas.{shown_conflict}
use Rattle.wb_scan_theory.specs.Languages.{LanguageView}
use Rattle.wb_scan.specs.declared.refusal.LanguageRefusal.{LanguageRefusal}
use Rattle.wb_scan.specs.declared.refusal.LanguageRefusal.TheVariants as r
use Rattle.wb_scan.specs.Refusals.{IsFree, IsLanguageRefusal, IsNoMemory}

pub excluded : (l : LanguageView) (refusal : LanguageRefusal) → IsLanguageRefusal l refusal → IsFree l → IsNoMemory refusal
excluded l (r.Cycle cycle) h is = absurd (is.acyclic cycle h.cycle_is)
excluded l (r.Conflict prefix terminal first second) h is =
    absurd (is.no_conflict prefix terminal (shown_conflict l.grammar prefix terminal first second h.1))
excluded l (r.Clash prefix left right text) h is = absurd (is.no_clash prefix left right text h.2)
excluded l (r.NoMemory error) h is = tt
