use Rattle.std.proofs.Common.{◌∙◌, ap, sym}
use Rattle.wb_reader_printer.specs.Inner.Output.{after}
use Rattle.wb_reader_printer.specs.Inner.PartTokens.{target_tokens}
use Rattle.wb_reader_printer.specs.Inner.ExpressionTokens.{expression_tokens}
use Rattle.wb_reader_printer.proofs.ItemLemmas.{equation_at, equation_after, no_equation}
use Rattle.wb_reader_printer.proofs.parts.write_equations.Goals as goal

pub write_equation-requires : goal.write_equation-requires
write_equation-requires c =
    let k = c.equations.invariant c.requires.0 c.requires.1 in
    let f = equation_at c.args.equations.now c.equations.equation-index c.equation-item.result k.0 c.equations-test.true c.equation-item.is
    k.1 in
    (f.0, f.2)

pub equations-preserved : goal.equations-preserved
equations-preserved c = λ tokens h.
    let k = c.equations.invariant tokens h in
    let f = equation_at c.args.equations.now c.equations.equation-index c.equation-item.result k.0 c.equations-test.true c.equation-item.is
    k.1 in (
      f.1,
      f.3,
      equation_after c.equations.line c.write_equation.new.line (target_tokens c.equation-item.result.target) (expression_tokens f.0) f.1
          (c.in_ok-write_equation.ensures f.0 f.2) ∙ (ap (after c.equations.line) (sym f.4) ∙ k.2),
    )

pub returns : goal.returns
returns c = λ tokens h.
    let k = c.equations.invariant tokens h in
    ap (after c.equations.line) (sym (no_equation c.args.equations.now c.equations.equation-index k.0 c.equations-test.false k.1)) ∙ k.2
