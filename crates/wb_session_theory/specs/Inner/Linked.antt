-- Trees with holes, one after another.
use Rattle.std.specs.Prelude.{◌<◌, ℕ, zero, suc}
use Rattle.wb_session_theory.specs.Frames.{Frame, bare, hole, twig, branch}

-- each hole is for one of so many roots
abbrev pub IsWithin : ℕ → Frame → Type 0
IsWithin n bare = Unit {0}
IsWithin n (hole i rest) = (i < n) × IsWithin n rest
IsWithin n (twig t text rest) = IsWithin n rest
IsWithin n (branch p a children rest) = IsWithin n children × IsWithin n rest

-- so many holes one after another, from a number on
abbrev pub row : ℕ → ℕ → Frame
row i zero = bare
row i (suc n) = hole i (row (suc i) n)

-- the trees of both, one after another
abbrev pub linked : Frame → Frame → Frame
linked bare f = f
linked (hole i rest) f = hole i (linked rest f)
linked (twig t text rest) f = twig t text (linked rest f)
linked (branch p a children rest) f = branch p a children (linked rest f)
