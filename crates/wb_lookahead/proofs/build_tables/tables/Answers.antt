use Rattle.std.proofs.Common.{◌≡◌, sym, ◌∙◌, ap, subst}
use Rattle.wb_base.specs.Grammar.{GrammarView}
use Rattle.wb_lookahead.specs.Tables.{AreTables}
use Rattle.wb_lookahead.proofs.PartLemmas.{parts_all}
use Rattle.wb_lookahead.proofs.build_tables.tables.Goals as goal

pub returns-clause-ok : goal.returns-clause-ok
returns-clause-ok c =
    let same : c.terminals.result ≡ c.args.kernels.now.grammar.terminals = c.terminals.ensures
    ∙ ap (λ (g : GrammarView). g.terminals) (sym c.requires.kernels) in
    subst (AreTables c.args.kernels.now) (sym c.of.ensures)
    (parts_all c.count-count.ensures.exact c.in_ok-parts.parts c.terminals.result same c.in_ok-parts.ensures.ok)
