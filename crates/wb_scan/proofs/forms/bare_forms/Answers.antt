use Rattle.std.proofs.Common.{◌∙◌, ◌++◌, ◌∷◌, [], ap, sym, List, ℕ}
use Rattle.wb_scan_theory.specs.declared.form.Form.{Form}
use Rattle.wb_scan.specs.Bare.{bare_forms}
use Rattle.wb_scan.proofs.FormLemmas.{bare_more}
use Rattle.wb_scan.proofs.forms.bare_forms.Goals as goal

pub terminals-preserved : goal.terminals-preserved
terminals-preserved c =
    c.in_ok-push.ensures.ok
    ∙ ap (λ (forms : List Form). forms ++ record { terminal = c.terminals.terminal; prefix = c.in_ok-from_slice.field-0 } ∷ []) c.terminals.invariant
    ∙ ap (λ (prefix : List ℕ). bare_forms c.terminals.terminal ++ record { terminal = c.terminals.terminal; prefix = prefix } ∷ []) c.in_ok-from_slice.ensures.ok
    ∙ sym (bare_more c.terminals.terminal)
