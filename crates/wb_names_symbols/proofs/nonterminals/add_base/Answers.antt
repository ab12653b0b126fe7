use Rattle.std.proofs.Common.{sym, subst}
use Rattle.wb_names_symbols.specs.Inner.Nonterminals.{AreFlags}
use Rattle.wb_names_symbols.proofs.InGrammar.{flags_agree}
use Rattle.wb_names_symbols.proofs.nonterminals.add_base.Goals as goal

pub add_rows-added-requires-clause-flags : goal.add_rows-added-requires-clause-flags
add_rows-added-requires-clause-flags c =
    subst (AreFlags c.args.file.now.base.now) (sym c.deref.ensures.value)
    (flags_agree c.args.file.now.base.now c.requires.right.is_file.base c.requires.right.is_file.alone c.in_ok-flags.flags.items
    c.in_ok-flags.ensures.exact)
