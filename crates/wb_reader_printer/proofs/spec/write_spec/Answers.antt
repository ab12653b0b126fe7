use Rattle.std.proofs.Common.{◌≡◌, ◌∙◌, List, ap, sym, subst}
use Rattle.std.proofs.lemmas.Result.{on_ok_weaker}
use Rattle.wb_syntax.specs.declared.item.Item.{Item}
use Rattle.wb_syntax.specs.declared.pattern.Pattern.{Pattern}
use Rattle.wb_reader_printer.specs.Inner.Output.{Output, after, after_lines, ended}
use Rattle.wb_reader_printer.specs.Inner.ItemTokens.{AreLinesOf, format_tokens, header_tokens, headed}
use Rattle.wb_reader_printer.proofs.CanonicalLemmas.{text_lines}
use Rattle.wb_reader_printer.proofs.spec.write_spec.Goals as goal

pub write_items-requires : goal.write_items-requires
write_items-requires c =
    let h = text_lines c.args.spec.now c.items-items.ensures.text in
    (h.lines, subst (λ (l : List (Item Pattern)). AreLinesOf l h.lines) (sym c.items-items.ensures.items) h.are)

pub returns-clause-written : goal.returns-clause-written
returns-clause-written c =
    let spec = c.args.spec.now in
    let format : c.write_format.new.line ≡ ended (after c.args.line.now (format_tokens spec.format)) =
    c.in_ok-write_format.ensures ∙ ap (λ n. ended (after c.args.line.now (format_tokens n))) c.format.ensures in
    let header : c.write_header.new.line ≡ after c.write_format.new.line (header_tokens spec.name spec.header)
    = c.in_ok-write_header.ensures ∙ (ap (λ n. after c.write_format.new.line (header_tokens n c.header.result.now)) c.name.ensures
    ∙ ap (λ h. after c.write_format.new.line (header_tokens spec.name h)) c.header.ensures) in
    let begun : c.end.new.self ≡ headed spec c.args.line.now =
    c.in_ok-end.ensures ∙ ap ended (header ∙ ap (λ (o : Output). after o (header_tokens spec.name spec.header)) format) in
    on_ok_weaker c.write_items.result
    (λ written lines are. written lines (subst (λ (l : List (Item Pattern)). AreLinesOf l lines) (sym c.items-items.ensures.items) are)
    ∙ ap (λ (o : Output). after_lines o lines) begun) c.write_items.ensures
