use Rattle.std.proofs.Common.{List, ap, slice_get, ◌∙◌}
use Rattle.wb_syntax_resolved.specs.declared.terminal.Terminal.{Terminal}
use Rattle.wb_names_theory.specs.Declares.{name_in}
use Rattle.wb_names_lists.proofs.ListLemmas.{name_at, no_name_past}
use Rattle.wb_names_lists.proofs.base.terminal_name.Goals as goal

pub returns-in-Some : goal.returns-in-Some
returns-in-Some c =
    name_at (λ (x : Terminal). x.name) c.as_slice.result.now c.args.number c.in-Some.terminal.now c.in-Some.ensures.lookup.0
    c.in-Some.ensures.lookup.1
    ∙ ap (λ (z : List Terminal). name_in (λ (x : Terminal). x.name) (slice_get z c.args.number)) c.as_slice.ensures

pub returns-in-None : goal.returns-in-None
returns-in-None c =
    c.requires ∙ (no_name_past (λ (x : Terminal). x.name) c.as_slice.result.now c.args.number c.in-None.ensures.lookup.0
    ∙ ap (λ (z : List Terminal). name_in (λ (x : Terminal). x.name) (slice_get z c.args.number)) c.as_slice.ensures)
