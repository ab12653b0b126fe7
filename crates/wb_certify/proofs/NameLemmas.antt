-- Names that are right exclude refusals of names.
use Rattle.std.proofs.Common.{◌≡◌, ◌⊎◌, inl, inr, ℕ, List, sym, ◌∙◌}
use Rattle.wb_certify_host.specs.Refusals.{IsNameMemory}
use Rattle.wb_certify_host.specs.Resolving.{IsForOther, ResolvesExtension, extension_file, file_scope}
use Rattle.wb_names_theory.specs.NamesOk.{NamesOk, Scope}
use Rattle.wb_names_theory.specs.Refusals.{IsTrueRefusal}
use Rattle.wb_names_theory.specs.declared.refusal.NameRefusal.{NameRefusal}
use Rattle.wb_names_theory.specs.declared.refusal.NameRefusal.TheVariants as n
use Rattle.wb_syntax_resolved.specs.declared.resolved.ResolvedParts.{ResolvedParts}
use Rattle.wb_syntax.specs.SpecText.{SpecView}
use Rattle.wb_syntax.specs.declared.header.Header.TheVariants as h
use Rattle.wb_certify.specs.OneAnswer.{NamesExclude}

-- no rule fails where all hold
true_excluded : (s : Scope) → NamesOk s → (refusal : NameRefusal) → IsTrueRefusal s refusal → IsNameMemory refusal
true_excluded s ok (n.Duplicate name) is = absurd (ok.once name is)
true_excluded s ok (n.Unknown name) is = absurd (ok.declared name is.fails)
true_excluded s ok (n.WrongKind name) is = absurd (ok.kinds name is.fails)
true_excluded s ok (n.Orphan name) is = absurd (ok.owned is.extension name is.fails)
true_excluded s ok (n.WrongHost name) is = absurd is
true_excluded s ok (n.NoMemory error) is = tt

-- one header isn't another's
same_name : (x y : List ℕ) → h.Extension x ≡ h.Extension y → x ≡ y
same_name x y e = cc

not_host : (x : List ℕ) → h.Extension x ≡ h.Host → ⊥
not_host x e = cc

module _ (host : ResolvedParts) (spec : SpecView) (r : ResolvedParts) (names : ResolvesExtension host spec r) where
  by_cases : (refusal : NameRefusal) → ((spec.header ≡ h.Host) × (refusal ≡ n.WrongKind spec.name)) ⊎ IsForOther host spec refusal
      ⊎ ((spec.header ≡ h.Extension host.host) × IsTrueRefusal (file_scope spec.format (extension_file host spec)) refusal)
      → IsNameMemory refusal
  by_cases refusal (inl is) = absurd (not_host host.host (sym names.header ∙ is.0))
  by_cases refusal (inr (inl other)) = absurd (other.differs (same_name other.other host.host (sym other.header ∙ names.header)))
  by_cases refusal (inr (inr is)) = true_excluded (file_scope spec.format (extension_file host spec)) names.names refusal is.1

pub names_exclude : (host : ResolvedParts) (spec : SpecView) (r : ResolvedParts) → NamesExclude host spec r
names_exclude host spec r names (n.Duplicate name) is = by_cases host spec r names (n.Duplicate name) is
names_exclude host spec r names (n.Unknown name) is = by_cases host spec r names (n.Unknown name) is
names_exclude host spec r names (n.WrongKind name) is = by_cases host spec r names (n.WrongKind name) is
names_exclude host spec r names (n.Orphan name) is = by_cases host spec r names (n.Orphan name) is
names_exclude host spec r names (n.WrongHost name) is = by_cases host spec r names (n.WrongHost name) is
names_exclude host spec r names (n.NoMemory error) is = tt
