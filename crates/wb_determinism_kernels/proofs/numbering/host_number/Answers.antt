use Rattle.std.proofs.Common.{◌≡◌, List, map, sym, subst}
use Rattle.wb_grammar_theory.specs.declared.item.Item.{Item}
use Rattle.wb_compose_theory.specs.Renamings.{renamed_item}
use Rattle.wb_determinism_kernels.specs.Numbers.{up_by}
use Rattle.wb_determinism_kernels.specs.Inner.Down.{AreDown}
use Rattle.wb_determinism_kernels.proofs.HostLemmas.{found_host}
use Rattle.wb_determinism_kernels.proofs.numbering.host_number.Goals as goal

pub returns : goal.returns
returns c =
    let up = up_by c.args.beside.now.numbers.now in
    let is : map (renamed_item up) c.in-Some.own ≡ c.args.kernel.now = subst (AreDown up c.args.kernel.now) c.in-Some.is
    c.in_ok-own.ensures in
    found_host c.args.beside.now.host.now c.args.beside.now.numbers.now c.args.kernel.now c.as_slice.result.now
    (subst (λ (z : List Item). map (renamed_item up) z ≡ c.args.kernel.now) (sym c.as_slice.ensures) is) c.find-number.result
    c.find-number.ensures.some c.find-number.ensures.none
