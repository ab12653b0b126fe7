use Rattle.std.proofs.Common.{replicate, false, sym, ◌∙◌, ap, subst, arith}
use Rattle.wb_items.specs.Inner.Closing.{IsClosing}
use Rattle.wb_items.proofs.ClosingLemmas.{closing_start, closing_done}
use Rattle.wb_items.proofs.closure.kernel_closure.Goals as goal

pub places-init : goal.places-init
places-init c =
    let g = c.args.grammar.now in
    subst (λ o. IsClosing g c.args.kernel.now o c.in_ok-closure.closure.items 0)
    (sym (c.in_ok-opened.ensures ∙ ap (λ n. replicate n false) c.nonterminals.ensures))
    (subst (λ closure. IsClosing g c.args.kernel.now (replicate g.nonterminals false) closure 0) (sym c.in_ok-closure.ensures.items)
    (closing_start g c.args.kernel.now))

pub returns : goal.returns
returns c =
    closing_done c.args.grammar.now c.args.kernel.now c.places.opened c.places.closure.items c.places.closure.items c.places.place
    (omega (arith, c.places.closure.ok.0)) c.places.invariant (λ item k. k) (λ item k. k)
