use Rattle.std.proofs.Common.{subst, sym}
use Rattle.std.specs.Prelude.{Contains}
use Rattle.std.proofs.lemmas.List.Sorted.{Contains-permutation, IsPermutation-sym}
use Rattle.wb_determinism_kernels.proofs.follow.sorted_closure.Goals as goal

pub returns : goal.returns
returns c =
    let before = c.in_ok-closure.closure.items in
    let after = c.sort.new.self.items in
    let moved = c.in_ok-sort.ensures.permutation in
    λ item. (
      λ has. (c.in_ok-closure.ensures item).0 (Contains-permutation after before item (IsPermutation-sym before after moved)
          (subst (λ xs. Contains xs item) c.from_vec.ensures has)),
      λ within. subst (λ xs. Contains xs item) (sym c.from_vec.ensures)
          (Contains-permutation before after item moved ((c.in_ok-closure.ensures item).1 within)),
    )
