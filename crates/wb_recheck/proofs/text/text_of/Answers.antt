use Rattle.std.proofs.Common.{◌<◌, ◌≤◌, ◌≡◌, length}
use Rattle.std.specs.Prelude.{MatchOption}
use Rattle.std.proofs.lemmas.Result.{IfOk-weaker}
use Rattle.wb_recheck.specs.Inner.Fit.{IsTextWithin}
use Rattle.wb_recheck.proofs.TextLemmas.{text_tested}
use Rattle.wb_recheck.proofs.text.text_of.Goals as goal

pub returns-in-Ok : goal.returns-in-Ok
returns-in-Ok c =
    let text = c.in-Ok.text.items in
    IfOk-weaker c.within.result
    (λ made. MatchOption made (c.args.limit < length text) (λ bytes. (bytes ≡ text) × (length text ≤ c.args.limit)))
    (IsTextWithin c.args.grammar.now c.args.head c.args.limit)
    (λ made within. text_tested c.args.grammar.now c.args.head c.args.limit c.args.lists.lines c.args.lists.entries text c.requires.written
    c.in-Ok.ensures made within) c.within.ensures
