use Rattle.std.proofs.Common.{◌+◌, sym, subst, arith}
use Rattle.wb_items.specs.Index.{IndexView}
use Rattle.wb_items.specs.Inner.Parts.{FoundUpTo, Reaches}
use Rattle.wb_items.proofs.PartsLemmas.{first_listed, place_reaches, some_kernel}
use Rattle.wb_items.proofs.parts.found_along.Goals as goal

pub copy_at-requires : goal.copy_at-requires
copy_at-requires c = some_kernel c.requires.parts

pub states-init : goal.states-init
states-init c = record {
  found = subst (λ (f : IndexView). FoundUpTo c.args.grammar.now c.args.kernels.now f 1) (sym c.in_ok-found.ensures)
      (first_listed c.requires.parts c.in_ok-copy_at.field-0 c.in_ok-copy_at.ensures);
  within = (let some = some_kernel c.requires.parts in omega (arith, some));
}

pub add_listed-requires-clause-within : goal.add_listed-requires-clause-within
add_listed-requires-clause-within c = let len = c.states.invariant.found.len in omega (arith, len)

pub add_listed-requires-clause-before : goal.add_listed-requires-clause-before
add_listed-requires-clause-before c =
    subst (FoundUpTo c.args.grammar.now c.args.kernels.now c.states.found) (sym c.states.invariant.found.len) c.states.invariant.found

pub add_listed-requires-clause-reaches : goal.add_listed-requires-clause-reaches
add_listed-requires-clause-reaches c =
    subst (λ n. Reaches c.args.moves.now n c.number_at-place.result) (sym c.states.invariant.found.len)
    (place_reaches c.requires.parts c.args.places.now c.requires.places.1 c.states.state c.number_at-place.result (omega arith)
    (omega arith) c.number_at-place.ensures)

pub states-preserved : goal.states-preserved
states-preserved c = record {
  found = subst (λ n. FoundUpTo c.args.grammar.now c.args.kernels.now c.add_listed.new.found (n + 1)) c.states.invariant.found.len
      c.in_ok-add_listed.ensures;
  within = omega arith;
}
