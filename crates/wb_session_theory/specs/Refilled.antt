-- The values of trees with holes, from the values of a stack.
use Rattle.std.specs.Prelude.{ℕ, zero, suc}
use Rattle.wb_values.specs.Tree.{Values, empty, more, plain, text, tree}
use Rattle.wb_values.specs.Tree as values
use Rattle.wb_session_theory.specs.Frames.{Frame, bare, hole, twig, branch}

-- the value of this number, counted from 0 on, before others
abbrev pub add_at : ℕ → Values → Values → Values
add_at i empty rest = rest
add_at zero (more v vs) rest = more v rest
add_at (suc i) (more v vs) rest = add_at i vs rest

-- the values of the frame's trees, with these values in the holes
abbrev pub refilled : Frame → Values → Values
refilled bare vs = empty
refilled (hole i rest) vs = add_at i vs (refilled rest vs)
refilled (twig t lexeme rest) vs = more (plain (text lexeme)) (refilled rest vs)
refilled (branch p a children rest) vs = more (tree (values.node p (refilled children vs))) (refilled rest vs)
