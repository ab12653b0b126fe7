use Rattle.std.proofs.Common.{◌≡◌, ◌∙◌, ◌+◌, suc, Option, Some, IfSome, refl, sym, subst, arith}
use Rattle.wb_lemmas.proofs.Places.{read_at}
use Rattle.wb_compose_attributes.specs.Inner.Counted.{numbers_after}
use Rattle.wb_compose_attributes.proofs.placed.placed_one.Goals as goal

if_some : {X : Type 0} (P : X → Type 0) (o : Option X) (x : X) → o ≡ Some x → P x → IfSome o P
if_some P o x at known = subst (λ z. IfSome z P) (sym at) known

pub returns : goal.returns
returns c =
    let xs = c.args.additions.now in
    let x = c.index-additions-number.result in
    let next : c.args.number + 1 ≡ suc c.args.number = omega arith in
    let numbers = c.numbers_after-numbers.ensures ∙ (λ j. numbers_after c.args.host.now (next j) (c.counts_of-size.ensures j)
    (c.in_ok-before.ensures j)) in
    if_some _ _ x (read_at xs xs c.args.number x refl c.requires c.index-additions-number.is)
    (λ j. record { numbers = numbers j; addition = x })
