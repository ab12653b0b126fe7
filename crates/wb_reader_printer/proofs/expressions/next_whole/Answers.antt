use Rattle.std.proofs.Common.{◌∷◌, List, [], length, sym, subst, ap, arith}
use Rattle.wb_reader_printer.specs.Inner.Walk.{Continues}
use Rattle.wb_reader_printer.specs.declared.expressions.Waiting.{Waiting}
use Rattle.wb_reader_printer.specs.declared.expressions.Waiting.TheVariants.{Whole}
use Rattle.wb_reader_printer.proofs.WalkLemmas.{continued}
use Rattle.wb_reader_printer.proofs.expressions.next_whole.Goals as goal

pub returns-in-Some-2 : goal.returns-in-Some-2
returns-in-Some-2 c = λ nodes.
    let k = rw c.in-Some-2.is at (c.in_ok-place.ensures nodes) in
    continued nodes c.args.line.now c.waiting.line c.resume.new.line c.args.stack.now (c.in-Some.waiting ∷ c.pop.new.self)
    (Whole c.in-Some-2.place ∷ c.resume.new.stack) 0 0
    (subst (λ (l : List Waiting). Continues nodes c.args.line.now c.args.stack.now c.waiting.line l 0) c.in-Some.ensures
    (c.waiting.invariant nodes)) k

pub waiting-smaller : goal.waiting-smaller
waiting-smaller c =
    let k = rw c.in_default-2.is at (c.in_ok-place.ensures []) in
    omega (arith, ap length k.1, ap length c.in-Some.ensures)

pub waiting-preserved : goal.waiting-preserved
waiting-preserved c = λ nodes.
    let k = rw c.in_default-2.is at (c.in_ok-place.ensures nodes) in
    subst (λ (l : List Waiting). Continues nodes c.args.line.now c.args.stack.now c.resume.new.line l 0) (sym k.1)
    (continued nodes c.args.line.now c.waiting.line c.resume.new.line c.args.stack.now
    (c.in-Some.waiting ∷ c.pop.new.self) c.pop.new.self 0 0
    (subst (λ (l : List Waiting). Continues nodes c.args.line.now c.args.stack.now c.waiting.line l 0) c.in-Some.ensures
    (c.waiting.invariant nodes)) k.0)
