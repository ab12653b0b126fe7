use Rattle.std.proofs.Common.{sym, subst}
use Rattle.std.proofs.lemmas.Option.{slice_get-get_or}
use Rattle.wb_items.specs.Table.{AreProductionsOf}
use Rattle.wb_recheck_writer.specs.Inner.Reached.{grammar_of}
use Rattle.wb_recheck_writer.proofs.opened.numbers_of.Goals as goal

pub returns : goal.returns
returns c =
    subst (AreProductionsOf (grammar_of c.args.context.now) c.args.nonterminal) (sym c.as_slice.ensures)
    (c.requires.rules.each c.args.nonterminal _
    (slice_get-get_or c.args.context.now.rules.now c.args.nonterminal c.index-context-nonterminal.result c.requires.within))
