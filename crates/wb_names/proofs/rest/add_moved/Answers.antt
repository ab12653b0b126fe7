use Rattle.std.proofs.Common.{ℕ, List, sym, subst, take, get_or, ◌+◌, ◌≡◌}
use Rattle.std.proofs.lemmas.Option.{get_or_from_slice_get, slice_get-get_or}
use Rattle.wb_names_rows.specs.Moves.{IsNow}
use Rattle.wb_names_rows.specs.Plains.{AddsEach}
use Rattle.wb_names_rows.proofs.PlainLemmas.{each_more, each_nothing}
use Rattle.wb_names_symbols.proofs.Gathered.{each_all}
use Rattle.wb_names.proofs.rest.add_moved.Goals as goal

pub numbers-preserved : goal.numbers-preserved
numbers-preserved c =
    let now = IsNow c.args.moves.now.nonterminals.items in
    let x : ℕ = get_or c.args.numbers.now c.numbers.number-index 0 in
    let is : x ≡ get_or c.args.numbers.now c.numbers.number-index x =
    sym (get_or_from_slice_get c.args.numbers.now c.numbers.number-index x x
    (slice_get-get_or c.args.numbers.now c.numbers.number-index 0 c.numbers-test.true)) in
    subst (λ (z : List ℕ). AddsEach now (take (c.numbers.number-index + 1) c.args.numbers.now) c.args.made.now.items z)
    (sym c.in_ok-push.ensures.ok)
    (each_more now c.args.numbers.now c.numbers.number-index x c.moved_number.result c.args.made.now.items c.numbers.made.items
    c.numbers.invariant c.numbers-test.true is c.moved_number.ensures)

pub numbers-init : goal.numbers-init
numbers-init c = each_nothing (IsNow c.args.moves.now.nonterminals.items) c.args.made.now.items

pub returns : goal.returns
returns c =
    each_all (IsNow c.args.moves.now.nonterminals.items) c.args.numbers.now c.numbers.number-index c.args.made.now.items
    c.numbers.made.items c.numbers.invariant c.numbers-test.false
