use Rattle.std.proofs.Common.{rules, ◌≡◌, ◌<◌, Contains, Some, drop, length, map, slice_get, length-set, refl, sym, ◌∙◌, arith}
use Rattle.wb_program_words.specs.Rows.{name_of}
use Rattle.wb_program_words.specs.Asked.{texts}
use Rattle.wb_program_words.specs.Inner.Parts.{HasNoSplit}
use Rattle.wb_program_words.proofs.SplitLemmas.{begun, begun_longer, begun_splits, none_known, none_new, on_none, taken_slot, free_slot}
use Rattle.wb_program_words.proofs.options.options_of.Goals as goal

pub parts-init : goal.parts-init
parts-init c = (omega arith, begun (map name_of c.args.names.now) (texts c.args.words.now), refl)

pub returns-in-Positional-clause-some : goal.returns-in-Positional-clause-some
returns-in-Positional-clause-some c = (
  begun_splits (map name_of c.args.names.now) (texts c.args.words.now) (drop c.parts.rest (texts c.args.words.now)) c.parts.slots
      c.parts.invariant.1 c.in-Positional.ensures.part,
  c.parts.invariant.0,
)

pub returns-in_err-slot-in-Option-clause-none : goal.returns-in_err-slot-in-Option-clause-none
returns-in_err-slot-in-Option-clause-none c =
    let words = texts c.args.words.now in
    let names = map name_of c.args.names.now in
    let unknown : ¬ Contains names c.in-Option.name.now = search rules in
    on_none c.from_residual.result (HasNoSplit names words)
    (none_known names words (drop c.parts.rest words) c.parts.slots c.parts.invariant.1 (drop c.in-Option.next words) c.in-Option.name.now
    c.in-Option.value.now c.in-Option.ensures.part unknown)

pub returns-then-is_some-clause-none : goal.returns-then-is_some-clause-none
returns-then-is_some-clause-none c =
    let words = texts c.args.words.now in
    let names = map name_of c.args.names.now in
    let at : slice_get names c.in_ok-slot-in-Option.slot ≡ Some c.in-Option.name.now = search rules in
    let small : c.in_ok-slot-in-Option.slot < length c.args.names.now = search rules in
    let few = c.requires.few in
    let three : length c.parts.slots ≡ 3 = c.parts.invariant.2 in
    let (w, taken) = taken_slot c.parts.slots c.in_ok-slot-in-Option.slot (omega (arith, small, few, three))
    (sym c.is_some.ensures ∙ c.if-is_some.true) in
    none_new names words (drop c.parts.rest words) c.parts.slots c.parts.invariant.1 (drop c.in-Option.next words) c.in-Option.name.now
    c.in-Option.value.now c.in-Option.ensures.part c.in_ok-slot-in-Option.slot w at taken

pub parts-preserved : goal.parts-preserved
parts-preserved c =
    let words = texts c.args.words.now in
    let names = map name_of c.args.names.now in
    let at : slice_get names c.in_ok-slot-in-Option.slot ≡ Some c.in-Option.name.now = search rules in
    let small : c.in_ok-slot-in-Option.slot < length c.args.names.now = search rules in
    let few = c.requires.few in
    let three : length c.parts.slots ≡ 3 = c.parts.invariant.2 in
    let free = free_slot c.parts.slots c.in_ok-slot-in-Option.slot (omega (arith, small, few, three))
    (sym c.is_some.ensures ∙ c.if-is_some.false) in (
      c.in-Option.ensures.within.1,
      begun_longer names words (drop c.parts.rest words) c.parts.slots c.parts.invariant.1 (drop c.in-Option.next words) c.in-Option.name.now
          c.in-Option.value.now c.in-Option.ensures.part c.requires.apart c.in_ok-slot-in-Option.slot c.in-Option.value at free refl,
      length-set c.parts.slots c.in_ok-slot-in-Option.slot (Some c.in-Option.value) ∙ three,
    )
