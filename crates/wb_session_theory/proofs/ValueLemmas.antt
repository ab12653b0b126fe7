-- The values of a filled frame are those of the stack in its holes.
use Rattle.std.proofs.Common.{◌≡◌, ℕ, zero, suc, refl, ◌∙◌, ap}
use Rattle.wb_grammar_theory.specs.Trees.{Forest, nothing, leaf, node}
use Rattle.wb_values.specs.Tree.{Values, empty, more, plain, text, tree}
use Rattle.wb_values.specs.Tree as values
use Rattle.wb_scan_theory.specs.Machine.{joined}
use Rattle.wb_scan_theory.specs.Shown.{values_of}
use Rattle.wb_session_theory.specs.Frames.{Frame, bare, hole, twig, branch, root_at, filled}
use Rattle.wb_session_theory.specs.Refilled.{add_at, refilled}

root_values : (i : ℕ) (f h : Forest) → values_of (joined (root_at i f) h) ≡ add_at i (values_of f) (values_of h)
root_values i nothing h = refl
root_values zero (leaf t x r) h = refl
root_values (suc i) (leaf t x r) h = root_values i r h
root_values zero (node p a k r) h = refl
root_values (suc i) (node p a k r) h = root_values i r h

pub filled_values : (frame : Frame) (stack : Forest) → values_of (filled frame stack) ≡ refilled frame (values_of stack)
filled_values bare stack = refl
filled_values (hole i rest) stack =
    root_values i stack (filled rest stack) ∙ ap (add_at i (values_of stack)) (filled_values rest stack)
filled_values (twig t x rest) stack = ap (more (plain (text x))) (filled_values rest stack)
filled_values (branch p a k rest) stack =
    (λ i. more (tree (values.node p (filled_values k stack i))) (filled_values rest stack i))
