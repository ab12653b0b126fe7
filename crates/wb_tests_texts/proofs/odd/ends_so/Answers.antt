use Rattle.std.proofs.Common.{◌≡◌, length, ap, ◌∙◌, sym, rules, arith}
use Rattle.std.specs.Prelude.{pos, ◌+ℤ◌}
use Rattle.std.specs.Ordering.{int_eq}
use Rattle.wb_base.specs.declared.symbol.Kind.TheVariants as kind
use Rattle.wb_operations.specs.Given.{fails}
use Rattle.wb_operations.specs.Rows.{inside}
use Rattle.wb_operations.specs.Standard.{standard_at, standard_operations}
use Rattle.wb_operations.proofs.KindLemmas.{sound_at, ints_give, chosen, inside_gives}
use Rattle.wb_tests_texts.specs.Inner.Odd.{odd_sum}
use Rattle.wb_tests_texts.proofs.odd.ends_so.Goals as goal

pub add-requires-clause-kind : goal.add-requires-clause-kind
add-requires-clause-kind c =
    rw (c.new-table.ensures.signatures) (λ values are. ints_give kind.Int odd_sum
    (λ x y. chosen kind.Int (int_eq y (pos 4)) (fails 9) (inside (x +ℤ y)) tt (inside_gives (x +ℤ y))) values are)

pub add-requires-2-clause-kind : goal.add-requires-2-clause-kind
unfolding standard_at standard_operations
add-requires-2-clause-kind c =
    rw (c.in_ok-add.ensures.ok, c.new-table.ensures.signatures) (λ values are. (sound_at 15 (omega arith)).kind values are)
