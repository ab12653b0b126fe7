use Rattle.std.proofs.Common.{◌++◌, ◌∷◌, ◌∙◌, [], List, length, refl, sym, subst}
use Rattle.std.proofs.lemmas.Bool.{true≢false}
use Rattle.wb_base.specs.declared.symbol.Symbol.TheVariants.{Terminal}
use Rattle.wb_grammar_theory.specs.declared.item.Item.{Item}
use Rattle.wb_items.specs.Moved.{IsKernelFor}
use Rattle.wb_determinism_kernels.specs.Inner.Holes.{AfterUpTo}
use Rattle.wb_determinism_kernels.proofs.StartLemmas.{after_kernel, never_begun, never_there, started_more, started_pass}
use Rattle.wb_determinism_kernels.proofs.starts.add_start.Goals as goal

pub returns-in_default : goal.returns-in_default
returns-in_default c =
    started_pass c.requires.given c.args.found.now c.args.starts.now.items c.args.marker c.requires.before
    (λ s below ne viable. ne c.in_default.ensures)

pub returns-in_default-before_hole : goal.returns-in_default-before_hole
returns-in_default-before_hole c =
    started_pass c.requires.given c.args.found.now c.args.starts.now.items c.args.marker c.requires.before
    (never_there c.requires.given c.args.marker c.in-Some.hole c.in-Some.ensures.1 c.in_default-before_hole.ensures)

pub returns-then-is_empty : goal.returns-then-is_empty
returns-then-is_empty c =
    let k = c.args.beside.now.grammar.now in
    started_pass c.requires.given c.args.found.now c.args.starts.now.items c.args.marker c.requires.before
    (never_begun c.requires.given c.args.marker
    (subst (λ (z : List Item). AfterUpTo k c.args.marker z (length k.productions)) (c.is_empty.ensures.0 c.if-is_empty.true)
    c.in_ok-kernel.ensures))

pub number_of-requires-clause-kernel : goal.number_of-requires-clause-kernel
number_of-requires-clause-kernel c = λ prefix at.
    subst (IsKernelFor c.args.beside.now.grammar.now (prefix ++ Terminal c.args.marker ∷ [])) (sym c.as_slice.ensures)
    (after_kernel c.requires.given c.args.found.now c.args.marker c.in-Some.hole c.in-Some-before_hole.before c.in_ok-kernel.kernel
    c.in-Some.ensures.0 c.in-Some.ensures.1 c.in-Some-before_hole.ensures c.in_ok-kernel.ensures
    (λ e. true≢false (sym (c.is_empty.ensures.1 e) ∙ c.if-is_empty.false)) prefix at)

pub returns : goal.returns
returns c =
    started_more c.requires.given c.args.found.now c.number_of.new.found c.args.starts.now.items c.push.new.list.items c.args.marker
    (record {
      marker = c.args.marker;
      hole = c.in-Some.hole;
      before = c.in-Some-before_hole.before.state;
      production = c.in-Some-before_hole.before.production;
      number = c.in_ok-number.number;
    }) c.requires.before c.in_ok-number.ensures refl c.in-Some.ensures.0 c.in-Some.ensures.1 c.in-Some-before_hole.ensures
    c.in_ok-push.ensures.ok
