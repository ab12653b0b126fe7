use Rattle.std.specs.Prelude.{slice_index_or}
use Rattle.std.proofs.lemmas.Option.{slice_get-get_or}
use Rattle.wb_grammar_theory.specs.declared.item.Item.{Item}
use Rattle.wb_determinism_kernels.proofs.HostLemmas.{not_down}
use Rattle.wb_determinism_kernels.proofs.numbers.own_items.Goals as goal

abbrev zero : Item
zero = record { production = 0; dot = 0 }

pub returns-in_default : goal.returns-in_default
returns-in_default c =
    let items = c.args.items.now in
    let n = c.items.item-index in
    not_down c.args.numbers.now items n (slice_index_or items n zero) (slice_get-get_or items n zero c.items-test.true) c.in_default.ensures
