use Rattle.std.proofs.Common.{arith}
use Rattle.std.proofs.lemmas.List.Sorted.{Contains-permutation, IsPermutation-sym}
use Rattle.wb_determinism_kernels.proofs.AdvanceLemmas.{advances_start, advances_done, sorted_advances}
use Rattle.wb_determinism_kernels.proofs.advance.advances.Goals as goal

pub places-init : goal.places-init
places-init c = rw c.in_ok-list.ensures.items (advances_start c.args.grammar.now c.args.closure.now)

pub returns-clause-exact : goal.returns-clause-exact
returns-clause-exact c =
    let before = c.places.list.items in
    let after = c.sort.new.self.items in
    let moved = c.in_ok-sort.ensures.permutation in
    advances_done c.args.grammar.now c.args.closure.now before after c.places.place (omega arith) c.places.invariant
    (λ a k. Contains-permutation before after a moved k)
    (λ a k. Contains-permutation after before a (IsPermutation-sym before after moved) k)

pub returns-clause-rising : goal.returns-clause-rising
returns-clause-rising c = sorted_advances c.sort.new.self.items c.in_ok-sort.ensures.sorted
