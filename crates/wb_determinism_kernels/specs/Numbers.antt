-- The numbers of a host, with holes, in those of the host with an extension, with holes.
use Rattle.std.specs.Prelude.{ℕ, List, Option, Some, None, slice_get}
use Rattle.wb_compose_theory.specs.Blocks.{lift}
use Rattle.wb_compose_theory.specs.Renamings.{Renaming}
use Rattle.wb_determinism_kernels.specs.declared.numbers.Numbers.{Numbers}

-- the host's own keep their numbers, and holes, the end of a text, productions of holes and `S' -> S` come after the extension's
abbrev pub up_by : Numbers → Renaming
up_by m = record {
  terminal = lift m.terminals.own m.terminals.more;
  nonterminal = lift m.nonterminals.own m.nonterminals.more;
  production = lift m.productions.own m.productions.more;
}

-- the terminal, or what stands for it
abbrev pub image_or : Numbers → Option (Option ℕ) → ℕ → ℕ
image_or m None t = t
image_or m (Some None) t = t
image_or m (Some (Some u)) t = lift m.terminals.own m.terminals.more u

-- what a terminal becomes by a table that has for each the host's terminal that it stands for: a marker its hole, and any other itself
abbrev pub phi_by : Numbers → List (Option ℕ) → ℕ → ℕ
phi_by m images t = image_or m (slice_get images t) t
