use Rattle.std.proofs.Common.{◌+◌, ◌∙◌, Some, ap, sym, subst}
use Rattle.std.specs.Prelude.{List, Option, ℕ}
use Rattle.std.proofs.lemmas.Option.{slice_get-get_or}
use Rattle.wb_lexical.specs.Inner.Candidates.{AreNumbered}
use Rattle.wb_lexical.proofs.TextLemmas.{numbered_none, numbered_more}
use Rattle.wb_lexical.proofs.candidates.numbers_by.Goals as goal

pub terminals-init : goal.terminals-init
terminals-init c =
    subst (λ (z : List (Option ℕ)). AreNumbered c.args.terminals.now 0 c.args.names.now z) (sym c.new-texts.ensures.items)
    (numbered_none c.args.terminals.now c.args.names.now)

pub terminals-preserved : goal.terminals-preserved
terminals-preserved c =
    let terminals = c.args.terminals.now in
    let i = c.terminals.terminal-index in
    let terminal = c.terminal-item.result in
    subst (λ (z : List (Option ℕ)). AreNumbered terminals (i + 1) c.text_number.new.names z) (sym c.in_ok-push.ensures.ok)
    (numbered_more terminals i c.terminals.names c.text_number.new.names c.terminals.texts.items c.in_ok-number.number terminal
    (slice_get-get_or terminals i terminal c.terminals-test.true ∙ ap Some (sym c.terminal-item.is)) c.text_number.ensures.keeps
    c.in_ok-number.ensures.number c.terminals.invariant)
