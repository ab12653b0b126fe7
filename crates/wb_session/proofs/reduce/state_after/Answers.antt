use Rattle.std.proofs.Common.{◌≡◌, ◌<◌, subst, sym, Some}
use Rattle.wb_lookahead.specs.Contents.{TablesView, goto_of, size_of}
use Rattle.wb_parser_states.proofs.TableLemmas.{goto_below}
use Rattle.wb_session.proofs.reduce.state_after.Goals as goal

pub returns-in-Some-clause-below : goal.returns-in-Some-clause-below
returns-in-Some-clause-below c =
    goto_below c.tables.ensures.of_grammar c.state_at.result c.args.left c.in-Some.next
    (subst (λ s. s < size_of c.args.language.now.tables) (sym c.state_at.ensures) c.requires.state) c.requires.left
    (subst (λ (z : TablesView). goto_of z c.state_at.result c.args.left ≡ Some c.in-Some.next) c.tables.ensures.tables
    (sym c.in-Some.ensures))
