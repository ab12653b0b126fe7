-- The prefixes of the host and of new kernels by number.
use Rattle.std.proofs.Common.{◌≡◌, ◌+◌, ◌<◌, ◌∙◌, ◌∷◌, ◌++◌, [], List, ℕ, Some, length, map, refl, ap, arith, length-append}
use Rattle.std.specs.Option.{option_map}
use Rattle.std.specs.Prelude.{slice_get, slice_index_or}
use Rattle.std.proofs.lemmas.List.{length-map}
use Rattle.std.proofs.lemmas.Option.{slice_get-get_or, slice_get-map, slice_get_within}
use Rattle.wb_lemmas.proofs.Places.{at_once, default_at, push_keeps}
use Rattle.wb_base.specs.declared.symbol.Symbol.{Symbol}
use Rattle.wb_items.specs.Kernels.{KernelsView, count_of, prefix_of}
use Rattle.wb_compose_theory.specs.Renamings.{Renaming, renamed}
use Rattle.wb_determinism_kernels.specs.declared.index.Step.{Step}
use Rattle.wb_determinism_kernels.specs.NewKernels.{prefix_beside, prefixes_after, prefixes_beside}

-- the prefix of a step
abbrev pub prefix_by : List (List Symbol) → Step → List Symbol
prefix_by known step = slice_index_or known step.from [] ++ step.symbol ∷ []

-- a further step adds its prefix
pub after_push : (known : List (List Symbol)) (steps : List Step) (step : Step) →
    prefixes_after known (steps ++ step ∷ []) ≡ prefixes_after known steps ++ prefix_by (prefixes_after known steps) step ∷ []
after_push known [] step = refl
after_push known (s ∷ steps) step = after_push (known ++ prefix_by known s ∷ []) steps step

after_len : (known : List (List Symbol)) (steps : List Step) → length (prefixes_after known steps) ≡ length known + length steps
after_len known [] = omega arith
after_len known (s ∷ steps) =
    omega (arith, after_len (known ++ prefix_by known s ∷ []) steps, length-append {A = List Symbol} known (prefix_by known s ∷ []))

-- the known prefixes keep their numbers
known_keeps : (known : List (List Symbol)) (steps : List Step) (n : ℕ) (prefix : List Symbol) → slice_get known n ≡ Some prefix →
    slice_get (prefixes_after known steps) n ≡ Some prefix
known_keeps known [] n prefix at = at
known_keeps known (s ∷ steps) n prefix at =
    known_keeps (known ++ prefix_by known s ∷ []) steps n prefix (push_keeps known (prefix_by known s) n prefix at)

module _ (up : Renaming) (host : KernelsView) (steps : List Step) where
  -- there is a prefix for each kernel of the host and each step
  pub beside_len : length (prefixes_beside up host steps) ≡ count_of host + length steps
  beside_len =
      let e = after_len (map (map (renamed up)) host.prefixes) steps in
      let f = length-map host.prefixes (map (renamed up)) in
      omega (arith, e, f)

  -- a number has its prefix
  pub beside_at : (n : ℕ) → n < count_of host + length steps → slice_get (prefixes_beside up host steps) n ≡ Some
      (prefix_beside up host steps n)
  beside_at n lt = slice_get-get_or (prefixes_beside up host steps) n [] (let e = beside_len in omega (arith, e, lt))

  -- a number of the host has the host's prefix
  pub host_at : (n : ℕ) → n < count_of host →
      slice_get (prefixes_beside up host steps) n ≡ Some (map (renamed up) (prefix_of host n))
  host_at n lt =
      known_keeps (map (map (renamed up)) host.prefixes) steps n (map (renamed up) (prefix_of host n))
      (slice_get-map (map (renamed up)) host.prefixes n ∙
      ap (option_map (map (renamed up))) (slice_get-get_or host.prefixes n [] lt))

  -- no other
  pub host_is : (n : ℕ) (prefix : List Symbol) → n < count_of host → slice_get (prefixes_beside up host steps) n ≡ Some prefix →
      prefix ≡ map (renamed up) (prefix_of host n)
  host_is n prefix lt at = at_once (prefixes_beside up host steps) n prefix (map (renamed up) (prefix_of host n)) at (host_at n lt)

  -- what is at a number is its prefix
  pub beside_is : (n : ℕ) (prefix : List Symbol) → slice_get (prefixes_beside up host steps) n ≡ Some prefix →
      prefix_beside up host steps n ≡ prefix
  beside_is n prefix at = default_at (prefixes_beside up host steps) n [] prefix at

  pub beside_below : (n : ℕ) (prefix : List Symbol) → slice_get (prefixes_beside up host steps) n ≡ Some prefix →
      n < count_of host + length steps
  beside_below n prefix at =
      let w = slice_get_within (prefixes_beside up host steps) n prefix at in
      let e = beside_len in
      omega (arith, w, e)

  -- a further step
  pub beside_push : (step : Step) → prefixes_beside up host (steps ++ step ∷ []) ≡
      prefixes_beside up host steps ++ prefix_by (prefixes_beside up host steps) step ∷ []
  beside_push step = after_push (map (map (renamed up)) host.prefixes) steps step
