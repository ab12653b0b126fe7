-- One extension more, by what was found of it.
use Rattle.std.proofs.Common.{◌+◌, ◌<◌, ◌∷◌, ◌++◌, ◌≡◌, List, [], ap, arith, inl, inr, length, subst, ℕ, Some}
use Rattle.std.specs.Prelude.{slice_get}
use Rattle.std.proofs.lemmas.Bool.{cases_lt}
use Rattle.wb_lemmas.proofs.Places.{at_once, at_within}
use Rattle.wb_grammar_theory.specs.declared.item.Item.{Item}
use Rattle.wb_compose_theory.specs.Homes.{Home, of, of_host}
use Rattle.wb_compose_kernels.proofs.LoopLemmas.{before_more, blocks_more, parts_more}
use Rattle.wb_compose_kernels.proofs.PartLemmas.{has_part, new_past, part_less}
use Rattle.wb_determinism_kernels.specs.declared.numbers.Numbers.{Numbers}
use Rattle.wb_compose_kernels.specs.declared.blocks.Blocks.{Blocks}
use Rattle.wb_compose_kernels.specs.declared.part_blocks.Before.{Before}
use Rattle.wb_compose_kernels.specs.declared.splice.Part.{Part}
use Rattle.wb_compose_kernels.specs.declared.splice.Splice.{Splice}
use Rattle.wb_compose_kernels.specs.Lent.{AreSpliceable}
use Rattle.wb_compose_kernels.specs.Inner.Counts.{new_count_at}
use Rattle.wb_compose_kernels.specs.Inner.Blocks.{AreBeforeIn, AreBlocksUpTo, IsSizeOf, IsSum, IsWith}
use Rattle.wb_compose_kernels.specs.Inner.Given.{IsGiven}
use Rattle.wb_compose_kernels.specs.Inner.Lists.{IsDone, IsTakenAt, NewUpTo, PartsUpTo}

module _ (s : Splice) (ok : AreSpliceable s) (given : IsGiven s) where
  -- an extension's kernels are listed
  pub each_listed : (first old new : List (List Item)) (lists more : List (List ℕ)) (e : ℕ) (numbers : List ℕ) → e < length s.parts.now →
      more ≡ lists ++ numbers ∷ [] → PartsUpTo s ok first old lists e → NewUpTo s ok old new e (new_count_at s e) numbers →
      PartsUpTo s ok first new more (e + 1)
  each_listed first old new lists more e numbers lt is h part =
      parts_more s ok first old new lists more e numbers less is h part all
    where
      less : e < length ok.pieces
      less = part_less s ok e lt

      all : (home : Home) (k : ℕ) → IsTakenAt s ok home k → IsDone s ok (e + 1) 0 home k → IsDone s ok e (new_count_at s e) home k
      all of_host k taken done = tt
      all (of f) k taken (inr (same, below)) = (let far = taken.1 in absurd (omega (arith, far, below)))
      all (of f) k taken (inl before) = elim (cases_lt f e) [
        | inl earlier ↦ inl earlier
        | inr past ↦
            let e_is : f ≡ e = omega (arith, past, before) in
            let (i, below, k_is) = new_past s ok given.kernels f k taken.0 taken.2 taken.1 in
            let below' : i < new_count_at s e = subst (λ z. i < new_count_at s z) e_is below in
            inr (e_is, omega (arith, k_is, below'))
      ]

-- the numbers of one extension more
pub each_blocks : (s : Splice) (e : ℕ) (before size sums : Before) (b : Blocks) (list more : List Blocks) → e < length s.parts.now →
    AreBeforeIn s e before → IsSizeOf s e size → IsWith s before size b → IsSum before size sums → more ≡ list ++ b ∷ [] →
    AreBlocksUpTo s e list → AreBlocksUpTo s (e + 1) more × AreBeforeIn s (e + 1) sums
each_blocks s e before size sums b list more lt counted size_is b_is sums_are is h = (
  λ ok. (let (x, at) = at_within ok.pieces e (part_less s ok e lt) in
      blocks_more s ok e x before size b list more at (counted ok) size_is b_is is (h ok)),
  λ ok. (let (x, at) = at_within ok.pieces e (part_less s ok e lt) in
      before_more s ok e x before size sums at (counted ok) size_is sums_are),
)

-- the part of an extension
pub part_is : (s : Splice) (ok : AreSpliceable s) (e : ℕ) (part : Part) → slice_get s.parts.now e ≡ Some part → (less : e < length
    ok.pieces) →
    (has_part s ok e less).part ≡ part
part_is s ok e part at less = at_once s.parts.now e (has_part s ok e less).part part (has_part s ok e less).part_at at

-- what an extension has of its own
pub size_found : (s : Splice) (e : ℕ) (part : Part) → slice_get s.parts.now e ≡ Some part → IsSizeOf s e (record {
  terminals = part.beside.now.numbers.now.terminals.more;
  nonterminals = part.beside.now.numbers.now.nonterminals.more;
  productions = part.beside.now.numbers.now.productions.more;
})
size_found s e part at ok x x_at =
    let is = ok.parts e x part x_at at in (
      ap (λ (m : Numbers). m.terminals.more) is.numbers,
      ap (λ (m : Numbers). m.nonterminals.more) is.numbers,
      ap (λ (m : Numbers). m.productions.more) is.numbers,
    )
