-- Refusals by their sorts.
use Rattle.std.specs.Prelude.{◌≡◌}
use Rattle.wb_recheck.specs.certify_refusal.CertifyRefusal.{CertifyRefusal}
use Rattle.wb_recheck.specs.certify_refusal.CertifyRefusal.TheVariants as c
use Rattle.wb_names_theory.specs.declared.refusal.NameRefusal.{NameRefusal}
use Rattle.wb_names_theory.specs.declared.refusal.NameRefusal.TheVariants as n
use Rattle.wb_report.specs.declared.refusal.Refusal.{Refusal}
use Rattle.wb_certify_files.specs.declared.extension_refusal.FileRefusal.{FileRefusal}
use Rattle.wb_certify_files.specs.declared.extension_refusal.FileRefusal.TheVariants as f

-- it is that the extension is for another host
abbrev pub IsOtherHost : NameRefusal → Type 0
IsOtherHost (n.WrongHost name) = Unit {0}
IsOtherHost other = ⊥

-- what is shown, as the sort that the rule is of
abbrev pub IsSort : CertifyRefusal → Refusal → FileRefusal → Type 0
IsSort (c.Types refusal) shown sort = sort ≡ f.Specification shown
IsSort other shown sort = sort ≡ f.Certification shown
