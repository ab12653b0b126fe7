use Rattle.std.proofs.Common.{◌≡◌, ◌+◌, ◌-◌, ◌/◌, Some, arith, subst}
use Rattle.std.specs.Prelude.{Contains, slice_get, slice_index_or}
use Rattle.std.proofs.lemmas.Option.{slice_get-get_or}
use Rattle.wb_lemmas.proofs.Members.{place_of, contains_at}
use Rattle.wb_base.specs.declared.symbol.Symbol.TheVariants.{Terminal}
use Rattle.wb_items.specs.declared.transitions.Move.{Move}
use Rattle.wb_items.specs.Order.{SymbolPrecedes}
use Rattle.wb_items.proofs.HalvesLemmas.{halves_above, halves_below, halves_none}
use Rattle.wb_items.proofs.SymbolOrder.{symbol_then, symbol_not_itself}
use Rattle.wb_items.proofs.transitions.find_move.Goals as goal

-- what a row is read with beyond its end
abbrev no_move : Move
no_move = record { symbol = Terminal 0; state = 0 }

pub halves-preserved-in-Less : goal.halves-preserved-in-Less
halves-preserved-in-Less c =
    let x = c.args.symbol in
    let middle = c.halves.low + (c.halves.high - c.halves.low) / 2 in
    let here : Move = slice_index_or c.args.row.now middle no_move in
    let at_middle : slice_get c.args.row.now middle ≡ Some here = slice_get-get_or c.args.row.now middle no_move (omega arith) in
    halves_above (λ (move : Move). SymbolPrecedes move.symbol x)
    (λ (move : Move). SymbolPrecedes x move.symbol) c.args.row.now c.halves.low c.halves.high middle here at_middle
    (omega arith) c.in-Less.ensures
    (λ i move lt at. symbol_then move.symbol here.symbol x
    (c.requires i middle move here lt at at_middle) c.in-Less.ensures) c.halves.invariant

pub halves-preserved : goal.halves-preserved
halves-preserved c =
    let x = c.args.symbol in
    let middle = c.halves.low + (c.halves.high - c.halves.low) / 2 in
    let here : Move = slice_index_or c.args.row.now middle no_move in
    let at_middle : slice_get c.args.row.now middle ≡ Some here = slice_get-get_or c.args.row.now middle no_move (omega arith) in
    halves_below (λ (move : Move). SymbolPrecedes move.symbol x)
    (λ (move : Move). SymbolPrecedes x move.symbol) c.args.row.now c.halves.low c.halves.high middle here at_middle
    (omega arith) (omega arith) c.in-Greater.ensures
    (λ i move lt at. symbol_then x here.symbol move.symbol c.in-Greater.ensures
    (c.requires middle i here move lt at_middle at)) c.halves.invariant

pub returns-in-Equal-clause-found : goal.returns-in-Equal-clause-found
returns-in-Equal-clause-found c =
    let middle = c.halves.low + (c.halves.high - c.halves.low) / 2 in
    let here : Move = slice_index_or c.args.row.now middle no_move in
    let at_middle : slice_get c.args.row.now middle ≡ Some here = slice_get-get_or c.args.row.now middle no_move (omega arith) in
    subst (λ z. Contains c.args.row.now (record { symbol = z; state = here.state })) c.in-Equal.ensures
    (contains_at c.args.row.now here middle at_middle)

pub returns-clause-none : goal.returns-clause-none
returns-clause-none c = λ state k.
    let x = c.args.symbol in
    let sought : Move = record { symbol = x; state = state } in
    let (j, at) = place_of c.args.row.now sought k in
    halves_none (λ (move : Move). SymbolPrecedes move.symbol x)
    (λ (move : Move). SymbolPrecedes x move.symbol) c.args.row.now c.halves.low c.halves.high
    (omega arith) c.halves.invariant ⊥ j sought at
    (λ before. symbol_not_itself x before) (λ beyond. symbol_not_itself x beyond)
