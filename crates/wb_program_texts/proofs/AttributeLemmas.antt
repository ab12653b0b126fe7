-- What comes of an attribute at the root of a text: its report is written whole, and there is one.
use Rattle.std.proofs.Common.{◌≡◌, ℕ, List, sym, ◌∙◌, subst}
use Rattle.wb_base.specs.Different.{Differ}
use Rattle.wb_compose_texts.specs.Roots.{HasOneRootAttribute, IsRootAttribute}
use Rattle.wb_compose_texts.specs.declared.value.TextValue.{TextValue}
use Rattle.wb_compose_texts.specs.declared.value.TextValue.TheVariants as v
use Rattle.wb_compose_texts.specs.tree_value.TreeValue.{TreeValue}
use Rattle.wb_compose_texts.specs.tree_value.TreeValue.TheVariants as t
use Rattle.wb_operations.specs.Operations.{Operations, OperationSignature}
use Rattle.wb_report.specs.declared.done.Done.{Done}
use Rattle.wb_syntax_resolved.specs.declared.resolved.ResolvedParts.{ResolvedParts}
use Rattle.wb_program_files.specs.Checks.{Report}
use Rattle.wb_program_texts.specs.SeveralChecks.{names_of}
use Rattle.wb_program_texts.specs.Values.{AttributeCheck, IsUnknown, ShownTextValue, ShownTreeValue, TextValueReport}
use Rattle.wb_program_texts.specs.Below.{LawsBelow}
use Rattle.wb_program_files.specs.declared.status.Status.{Status}
use Rattle.wb_program_files.specs.declared.status.Status.TheVariants.{UnknownAttribute}
use Rattle.wb_program_files.proofs.OneCheck.{AreOne, one_check}
use Rattle.wb_program_files.proofs.WrittenWhole.{IsReported, by_check}

module _ (shows : List ℕ → Done) (steps : ℕ) (s u : Status) (bytes others : List ℕ) where
  -- what comes of an attribute has one report
  one_tree : (value : TreeValue) → ShownTreeValue shows steps value s bytes → ShownTreeValue shows steps value u others
      → AreOne s u bytes others
  one_tree (t.Fault operation code) (ends, line) (ends', line') = (ends ∙ sym ends', line ∙ sym line')
  one_tree t.MoreSteps (ends, line) (ends', line') = (ends ∙ sym ends', line ∙ sym line')
  one_tree t.TooLong (ends, line) (ends', line') = (ends ∙ sym ends', line ∙ sym line')
  one_tree (t.Value printed) (ends, line) (ends', line') = (ends ∙ sym ends', line ∙ sym line')

  -- and so has what comes of a text
  one_text : (value : TextValue) → ShownTextValue shows steps value s bytes → ShownTextValue shows steps value u others
      → AreOne s u bytes others
  one_text (v.Stopped place stop) (ends, line) (ends', line') = (ends ∙ sym ends', line ∙ sym line')
  one_text (v.Tree value) first second = one_tree value first second

module _ (below : LawsBelow) (operations : Operations) (r : ResolvedParts) (values : List ResolvedParts)
    (different : Differ (names_of values)) (name : List ℕ) (s u : Status) (bytes others : List ℕ) where
  -- two reports of a text are one
  pub one_value : (steps : ℕ) (shows : List ℕ → Done) (text : List ℕ) → TextValueReport operations r values name steps shows text s bytes
      → TextValueReport operations r values name steps shows text u others → AreOne s u bytes others
  one_value steps shows text x y =
      let same : y.value ≡ x.value = below.values r operations values different text name steps y.value x.value y.is x.is in
      one_text shows steps s u bytes others x.value x.shown
      (subst (λ (z : TextValue). ShownTextValue shows steps z u others) same y.shown)

  -- two reports that begin with the attribute, with one rest
  pub one_attribute : (rest : Report) → (rest s bytes → rest u others → AreOne s u bytes others)
      → AttributeCheck operations.signatures r values name rest s bytes
      → AttributeCheck operations.signatures r values name rest u others → AreOne s u bytes others
  one_attribute rest goes_on =
      let law : HasOneRootAttribute r operations.signatures values = below.attributes r operations.signatures values different in
      one_check UnknownAttribute s u bytes others (IsUnknown operations.signatures r values name)
      (IsRootAttribute r operations.signatures values name) (λ (attribute : ℕ). rest)
      (λ line attribute x is. law.not_both name attribute is x.none) (λ x y. x.line ∙ sym y.line) (λ x y p q. law.one name x y p q)
      (λ attribute is. goes_on)

-- what comes of an attribute
tree_reported : (shows : List ℕ → Done) (steps : ℕ) (value : TreeValue) (s : Status) (bytes : List ℕ)
    → ShownTreeValue shows steps value s bytes → IsReported s
tree_reported shows steps (t.Fault operation code) s bytes (same, line) = subst IsReported (sym same) tt
tree_reported shows steps t.MoreSteps s bytes (same, line) = subst IsReported (sym same) tt
tree_reported shows steps t.TooLong s bytes (same, line) = subst IsReported (sym same) tt
tree_reported shows steps (t.Value printed) s bytes (same, line) = subst IsReported (sym same) tt

-- what comes of a text
pub text_reported : (shows : List ℕ → Done) (steps : ℕ) (value : TextValue) (s : Status) (bytes : List ℕ)
    → ShownTextValue shows steps value s bytes → IsReported s
text_reported shows steps (v.Stopped place stop) s bytes (same, line) = subst IsReported (sym same) tt
text_reported shows steps (v.Tree value) s bytes shown = tree_reported shows steps value s bytes shown

-- the attribute, and a rest with such a status
pub attribute_reported : (operations : List OperationSignature) (host : ResolvedParts) (extensions : List ResolvedParts) (name : List ℕ)
    (rest : Report) (s : Status) (bytes : List ℕ) → (rest s bytes → IsReported s)
    → AttributeCheck operations host extensions name rest s bytes → IsReported s
attribute_reported operations host extensions name rest s bytes more =
    by_check UnknownAttribute s bytes (IsUnknown operations host extensions name) (IsRootAttribute host operations extensions name)
    (λ (attribute : ℕ). rest) tt (λ attribute. more)
