-- The numbers and the images are those of both grammars.
use Rattle.std.proofs.Common.{◌+◌, ap, sym, subst, refl, length, List, Option, ℕ, arith}
use Rattle.std.specs.Prelude.{IsSome}
use Rattle.wb_base.specs.Grammar.{GrammarView}
use Rattle.wb_determinism_kernels.specs.NewKernels.{AreNewKernels}
use Rattle.wb_syntax_resolved.specs.declared.resolved.ResolvedParts.{ResolvedParts}
use Rattle.wb_tests_unions.specs.Inner.Found.{AreFor, kernels_in}
use Rattle.wb_tests_unions.proofs.FitLemmas.{are_for, fits_is, made_is, nonterminals_within, productions_within, terminals_within}
use Rattle.wb_tests_unions.proofs.found.found_by.Goals as goal

pub with_holes-requires : goal.with_holes-requires
with_holes-requires c = subst IsSome (sym c.requires.both.start) refl

pub numbers_of-numbers-requires-clause-terminals : goal.numbers_of-numbers-requires-clause-terminals
numbers_of-numbers-requires-clause-terminals c = terminals_within c.args.both.now c.requires

pub numbers_of-numbers-requires-clause-nonterminals : goal.numbers_of-numbers-requires-clause-nonterminals
numbers_of-numbers-requires-clause-nonterminals c = nonterminals_within c.args.both.now c.requires

pub numbers_of-numbers-requires-clause-productions : goal.numbers_of-numbers-requires-clause-productions
numbers_of-numbers-requires-clause-productions c = productions_within c.args.both.now c.requires

pub images_of-requires : goal.images_of-requires
images_of-requires c =
    let e = ap (λ (z : GrammarView). z.terminals) (made_is c.args.both.now c.requires c.in_ok-holes.holes c.in_ok-holes.ensures) in
    let many = ap (λ (p : ResolvedParts). length p.extensible) c.parts-parts.ensures.parts in
    omega (arith, e, many, c.in_ok-count.ensures.count)

pub new_of-requires-clause-are : goal.new_of-requires-clause-are
new_of-requires-clause-are c =
    let x = c.args.both.now in
    let k = c.in_ok-holes.holes in
    let m = c.numbers_of-numbers.result in
    subst (AreFor x k m) (sym c.deref.ensures.value)
    (are_for x c.requires k m c.in_ok-images.images.items c.parts-parts.result.now c.in_ok-count.count c.in_ok-holes.ensures
    c.numbers_of-numbers.ensures c.parts-parts.ensures.parts c.in_ok-count.ensures.count c.in_ok-images.ensures)

pub returns : goal.returns
returns c =
    let x = c.args.both.now in
    let k = c.in_ok-holes.holes in
    let m = c.numbers_of-numbers.result in
    let images = c.in_ok-images.images.items in record {
      fits = fits_is x c.requires k m images
          (are_for x c.requires k m images c.parts-parts.result.now c.in_ok-count.count c.in_ok-holes.ensures
          c.numbers_of-numbers.ensures c.parts-parts.ensures.parts c.in_ok-count.ensures.count c.in_ok-images.ensures)
          c.productions.ensures.in_range;
      are_new = subst (λ (z : List (Option ℕ)). AreNewKernels (kernels_in x.own.now) k m z c.in_ok-new.new) c.deref.ensures.value
          c.in_ok-new.ensures;
    }
