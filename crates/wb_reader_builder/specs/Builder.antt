-- What is read of a specification so far, and what tokens add to it.
use Rattle.std.specs.Prelude.{ℕ, ℤ, List, [], ◌∷◌}
use Rattle.wb_syntax.specs.declared.header.Header.TheVariants as h
use Rattle.wb_syntax.specs.declared.written.WrittenSpec.{WrittenSpec}
use Rattle.wb_reader_builder.specs.declared.builder.SpecBuilder.{SpecBuilder}

-- what is made of the value on top and of the others, or, where there is none, the first
abbrev pub on_top : {X V : Type 0} → List X → V → (X → List X → V) → V
on_top [] otherwise made = otherwise
on_top (x ∷ rest) otherwise made = made x rest

-- no parts
abbrev pub empty : SpecBuilder
empty = record {
  names = [];
  starts = [];
  integers = [];
  texts = [];
  patterns = [];
  kinds = [];
  lists = [];
  needs = [];
  children = [];
  targets = [];
  nodes = [];
  roots = [];
  arguments = [];
  equations = [];
  productions = [];
  format = 0;
  name = [];
  header = h.Host;
  items = [];
}

-- a name was read at this place
abbrev pub with_name : List ℕ → ℕ → SpecBuilder → SpecBuilder
with_name name at v = record v { names = record { bytes = name; at = at } ∷ v.names }

-- a word that may begin an item, an equation or a read was read at this place
abbrev pub with_start : ℕ → SpecBuilder → SpecBuilder
with_start at v = record v { starts = at ∷ v.starts }

-- an integer was read
abbrev pub with_integer : ℤ → SpecBuilder → SpecBuilder
with_integer value v = record v { integers = value ∷ v.integers }

-- a string was read
abbrev pub with_text : List ℕ → SpecBuilder → SpecBuilder
with_text text v = record v { texts = text ∷ v.texts }

-- a regular expression was read at this place
abbrev pub with_pattern : List ℕ → ℕ → SpecBuilder → SpecBuilder
with_pattern bytes at v = record v { patterns = record { bytes = bytes; at = at } ∷ v.patterns }

-- the specification of the whole parts
abbrev pub written_of : SpecBuilder → WrittenSpec
written_of v = record { format = v.format; name = v.name; header = v.header; items = v.items }
