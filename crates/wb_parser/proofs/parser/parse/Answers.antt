use Rattle.std.proofs.Common.{subst}
use Rattle.wb_values.specs.ValuesIn.{tree_in}
use Rattle.wb_scan_theory.proofs.ShownLemmas.{tree_fits}
use Rattle.wb_parser.specs.Parses.{IsTreeOf, IsParsed}
use Rattle.wb_parser.proofs.parser.parse.Goals as goal

pub returns-in-Ok-Tree-clause-fits : goal.returns-in-Ok-Tree-clause-fits
returns-in-Ok-Tree-clause-fits c signatures agrees =
    let made : IsTreeOf c.args.language.now.language c.args.text.now c.read_all.new.store c.in-Ok-Tree.tree.0 =
    subst (IsParsed c.args.language.now.language c.args.text.now c.read_all.new.store) c.in-Ok-Tree.field-0-is
    c.in-Ok-Tree.ensures.parsed in
    tree_fits signatures c.args.language.now.language.grammar agrees made.tree made.parses.is_tree
    (tree_in c.read_all.new.store c.in-Ok-Tree.tree.0) made.shows
