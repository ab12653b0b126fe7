use Rattle.std.proofs.Common.{List, ◌∙◌, refl, sym, subst}
use Rattle.wb_base.specs.declared.symbol.Symbol.{Symbol}
use Rattle.wb_determinism_contexts.specs.Sets.{lent}
use Rattle.wb_determinism.specs.EnvelopeClash.{IsEnvelopeClashFault}
use Rattle.wb_determinism.specs.Inner.Contexts.{both_of, host_of}
use Rattle.wb_determinism.proofs.ClashLemmas.{clash_fault, no_clash_fault}
use Rattle.wb_determinism.proofs.envelope_clash.test_clashes.Goals as goal

pub returns-in_ok-prefix-in-Some-clause-refused : goal.returns-in_ok-prefix-in-Some-clause-refused
returns-in_ok-prefix-in-Some-clause-refused c =
    let x = c.args.context.now in
    let clash = c.in-Some.clash in (
      subst (λ (prefix : List Symbol). IsEnvelopeClashFault (host_of x) (both_of x) x.numbers.now
          (lent c.args.lexicon.now) prefix clash.left
          clash.right clash.text) (sym (c.from_vec-prefix.ensures ∙ c.in_ok-prefix-in-Some.ensures))
          (clash_fault x c.requires.context c.args.lexicon.now.layout.now c.args.sets.now c.requires.sets (lent c.args.lexicon.now)
          c.requires.scanned refl clash.set clash.left clash.right clash.text (rw c.in-Some.is at c.in_ok-clash.ensures.clash)),
      rw c.in-Some.is at c.in_ok-clash.ensures.in_order,
    )

pub returns-in-None-clause-ok : goal.returns-in-None-clause-ok
returns-in-None-clause-ok c =
    no_clash_fault c.args.context.now c.requires.context c.args.lexicon.now.layout.now c.args.sets.now c.requires.sets
    (lent c.args.lexicon.now)
    c.requires.scanned refl (c.in_ok-clash.ensures.none.0 (rw c.in-None.is refl))
