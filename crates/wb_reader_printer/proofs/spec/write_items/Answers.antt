use Rattle.std.proofs.Common.{◌∙◌, ap, sym}
use Rattle.wb_reader_printer.specs.Inner.Output.{Output, after_lines, ended}
use Rattle.wb_reader_printer.proofs.ItemLemmas.{item_at, no_item}
use Rattle.wb_reader_printer.proofs.spec.write_items.Goals as goal

pub write_item-requires : goal.write_item-requires
write_item-requires c =
    let k = c.items.invariant c.requires.0 c.requires.1 in
    let f = item_at c.args.items.now c.items.item-index c.item-item.result k.0 c.items-test.true c.item-item.is k.1 in
    (f.0, f.2)

pub items-preserved : goal.items-preserved
items-preserved c = λ lines h.
    let k = c.items.invariant lines h in
    let f = item_at c.args.items.now c.items.item-index c.item-item.result k.0 c.items-test.true c.item-item.is k.1 in (
      f.1,
      f.3,
      ap (λ (o : Output). after_lines o f.1) (c.in_ok-end.ensures ∙ ap ended (c.in_ok-write_item.ensures f.0 f.2))
          ∙ (ap (after_lines c.items.line) (sym f.4) ∙ k.2),
    )

pub returns : goal.returns
returns c = λ lines h.
    let k = c.items.invariant lines h in
    ap (after_lines c.items.line) (sym (no_item c.args.items.now c.items.item-index k.0 c.items-test.false k.1)) ∙ k.2
