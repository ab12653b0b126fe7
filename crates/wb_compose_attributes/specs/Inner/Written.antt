-- What each extension writes on a production of the host, in new numbers.
use Rattle.std.specs.Prelude.{◌++◌, ℕ, List, Option, drop, length, map, option_map, slice_get, take}
use Rattle.std.specs.List.{flat_map}
use Rattle.wb_compose_theory_lists.specs.Joined.{numbered}
use Rattle.wb_compose_theory_lists.specs.Numbers.{locals_in}
use Rattle.wb_compose_attributes.specs.declared.numbers.Block.{Block}
use Rattle.wb_compose_attributes.specs.declared.numbers.Numbers.{Numbers}
use Rattle.wb_compose_attributes.specs.NewNumbers.{map_of}
use Rattle.wb_syntax_resolved.specs.declared.equation.Equation.{Equation}
use Rattle.wb_syntax_resolved.specs.declared.production.Local.{Local}
use Rattle.wb_syntax_resolved.specs.declared.production.Production.{Production}
use Rattle.wb_compose_theory_grammar.specs.Places.{total_of}
use Rattle.wb_compose_theory.specs.Blocks.{lift}
use Rattle.wb_compose_theory_attributes.specs.Rows.{new_child, new_equation, new_forward, new_local, new_owner}
use Rattle.wb_compose_attributes.specs.Lent.{equations_in}
use Rattle.wb_compose_attributes.specs.declared.placed.Placed.{Placed}
use Rattle.wb_compose_attributes.specs.declared.addition.Addition.{Addition}
use Rattle.wb_compose_attributes.specs.declared.written.HostRow.{HostRow}
use Rattle.wb_compose_attributes.specs.declared.written.Writers.{Writers}

-- the same numbers, with these of locals
abbrev pub with_locals : Block → Numbers → Numbers
with_locals block n = record n { local = block }

-- locals and equations in new numbers
abbrev pub locals_by : Numbers → List Local → List Local
locals_by n rows = map (new_local (map_of n) 0 n.owner) rows

abbrev pub equations_by : Numbers → List Equation → List Equation
equations_by n rows = map (new_equation (map_of n) 0 n.owner) rows

-- what an extension writes on a production of the host, with its new numbers: of the row of this number what comes after so many
pub record Written : Type 0 where
  pub numbers : Numbers
  pub rows : List Production
  pub at : ℕ
  pub own_locals : ℕ
  pub own_equations : ℕ

-- its locals and equations
abbrev pub written_locals : Written → List Local
written_locals w = locals_by w.numbers (drop w.own_locals (locals_in (slice_get w.rows w.at)))

abbrev pub written_equations : Written → List Equation
written_equations w = equations_by w.numbers (drop w.own_equations (equations_in (slice_get w.rows w.at)))

-- a production with what is written on it besides
abbrev pub production_by : Numbers → Production → List Written → Production
production_by n row written = record {
  name = row.name;
  owner = new_owner n.owner row.owner;
  role = row.role;
  left = (map_of n).nonterminal row.left;
  children = map (new_child (map_of n)) row.children;
  locals = locals_by n row.locals ++ flat_map written_locals written;
  forward = option_map (new_forward (map_of n) 0) row.forward;
  equations = equations_by n row.equations ++ flat_map written_equations written;
}

-- so many of the host's productions lead, and this is the one of this number
module _ (leading p : ℕ) (row : Production) where
  -- the number that it has with an extension
  abbrev pub number_at : Placed → ℕ
  number_at y = lift leading (length y.addition.rows.productions.now) p

  -- how many locals an extension writes on it
  abbrev pub locals_size : Placed → ℕ
  locals_size y = length (drop (length row.locals) (locals_in (slice_get y.addition.written.now (number_at y))))

  -- what it writes, where all together write so many locals, and those before it so many
  abbrev pub written_by : (total before : ℕ) → Placed → Written
  written_by total before y = record {
    numbers = with_locals (record { own = length row.locals; before = before; size = locals_size y; total = total }) y.numbers;
    rows = y.addition.written.now;
    at = number_at y;
    own_locals = length row.locals;
    own_equations = length row.equations;
  }

  -- what the extension of a number writes
  abbrev pub written_at : ℕ → List Placed → ℕ → Placed → Written
  written_at total placed k y = written_by total (total_of (map locals_size (take k placed))) y

  -- the production with what all write, where the host has these numbers
  abbrev pub host_production_by : Numbers → List Placed → Production
  host_production_by n placed = production_by
      (with_locals (record { own = length row.locals; before = 0; size = 0; total = total_of (map locals_size placed) }) n) row
      (numbered (written_at (total_of (map locals_size placed)) placed) 0 placed)

-- what may be the production of the host's number, with an extension
abbrev pub row_on : HostRow → Addition → Option Production
row_on on x = slice_get x.written.now (lift on.leading (length x.rows.productions.now) on.number)

-- how many locals an extension writes on it, and all that it writes where those before it write so many locals
abbrev pub size_on : Writers → Placed → ℕ
size_on w y = locals_size w.on.leading w.on.number w.on.row.now y

abbrev pub written_after : Writers → (before : ℕ) → Placed → Written
written_after w before y = written_by w.on.leading w.on.number w.on.row.now w.total before y

-- what each writes
abbrev pub each_written : Writers → ℕ → Placed → Written
each_written w k y = written_at w.on.leading w.on.number w.on.row.now w.total w.placed.now k y

abbrev pub written : Writers → List Written
written w = numbered (each_written w) 0 w.placed.now
