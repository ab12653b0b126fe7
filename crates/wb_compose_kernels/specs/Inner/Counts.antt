-- Kernels of a host with each of its extensions, by numbers.
use Rattle.std.specs.Prelude.{[], ℕ, List, Option, Some, None, length, slice_get}
use Rattle.wb_base.specs.declared.symbol.Symbol.{Symbol}
use Rattle.wb_items.specs.Kernels.{count_of, prefix_of}
use Rattle.wb_compose_theory.specs.Homes.{Home, of, of_host}
use Rattle.wb_compose_theory_kernels.specs.Kernels.{KernelNumbers}
use Rattle.wb_determinism_kernels.specs.NewKernels.{count_with, prefix_with}
use Rattle.wb_compose_kernels.specs.declared.splice.Part.{Part}
use Rattle.wb_compose_kernels.specs.declared.splice.Splice.{Splice}

-- how many kernels the host has with what may be a part, and the prefix of each
abbrev pub count_in : Option Part → ℕ
count_in None = 0
count_in (Some part) = count_with part.beside.now.host.now part.beside.now.grammar.now part.beside.now.numbers.now
    part.beside.now.images.now part.new.now

abbrev pub prefix_in : Option Part → ℕ → List Symbol
prefix_in None = λ s. []
prefix_in (Some part) = prefix_with part.beside.now.host.now part.beside.now.grammar.now part.beside.now.numbers.now
    part.beside.now.images.now part.new.now

-- how many new kernels the extension of this number adds
abbrev pub new_count_in : Option Part → ℕ
new_count_in None = 0
new_count_in (Some part) = length part.new.now.index.kernels

abbrev pub new_count_at : Splice → ℕ → ℕ
new_count_at s e = new_count_in (slice_get s.parts.now e)

-- the numbers of the kernels of the host with holes, and of it with each extension
abbrev pub count_at : Splice → Home → ℕ
count_at s of_host = count_of s.kernels.now
count_at s (of e) = count_in (slice_get s.parts.now e)

abbrev pub prefix_at : Splice → Home → ℕ → List Symbol
prefix_at s of_host = prefix_of s.kernels.now
prefix_at s (of e) = prefix_in (slice_get s.parts.now e)

abbrev pub numbers_in : Splice → KernelNumbers
numbers_in s = record { count = count_at s; prefix_of = prefix_at s }
