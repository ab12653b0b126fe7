use Rattle.std.proofs.Common.{List, drop, sym, ap, ◌∙◌, subst}
use Rattle.std.specs.List.{AllZip}
use Rattle.wb_values.specs.declared.value.Value.{Value}
use Rattle.wb_terms.specs.Inner.Built.{IsStored}
use Rattle.wb_lemmas.proofs.Parts.{take_to_end}
use Rattle.wb_terms.proofs.builder.Builder.faults_with.Goals as goal

pub returns : goal.returns
returns c = λ events name arguments outer is number zipped placed unknown wrong.
    let values = take_to_end c.args.frame.start c.deref.result.now ∙ ap (drop c.args.frame.start) c.deref.ensures.value in
    let places = take_to_end c.args.frame.start c.deref-2.result.now ∙ ap (drop c.args.frame.start) c.deref-2.ensures.value in
    c.with_node.ensures events name arguments outer is number
    (subst (λ (xs : List Value). AllZip (IsStored c.args.signatures.now c.args.store.now) arguments xs) (sym values) zipped)
    (placed ∙ sym places) unknown wrong
