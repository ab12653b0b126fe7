use Rattle.std.proofs.Common.{◌≡◌, ◌<◌, sym, ◌∙◌, subst, rules, All}
use Rattle.std.specs.List.{AllZip}
use Rattle.std.proofs.lemmas.List.{get_or_default}
use Rattle.wb_syntax.specs.SpecText.{IsReadAs}
use Rattle.wb_lemmas.proofs.Refusals.{handed_on}
use Rattle.wb_reader.specs.Refusals.{IsShort, HasCause}
use Rattle.wb_reader.specs.Inner.Patterns.{IsPlaced, OnItems}
use Rattle.wb_reader.proofs.PatternLemmas.{text_placed, read_text}
use Rattle.wb_reader.proofs.Excluding.{items_caused}
use Rattle.wb_reader.proofs.OneText.{one_text}
use Rattle.wb_reader.proofs.spec.read_spec.Goals as goal

pub read_items-requires : goal.read_items-requires
read_items-requires c =
    let short : IsShort c.args.bytes.now = search rules in
    let placed = text_placed c.args.bytes.now c.in_ok-written.written short c.in_ok-written.ensures.ok in
    record { placed = subst (λ items. All IsPlaced items) (sym c.into_vec.ensures) placed }

pub returns-clause-only : goal.returns-clause-only
returns-clause-only c = λ other text.
    let read : AllZip IsReadAs c.in_ok-written.written.items c.in_ok-items.items.items =
    subst (λ items. AllZip IsReadAs items c.in_ok-items.items.items) c.into_vec.ensures c.in_ok-items.ensures.ok in
    let made = read_text c.args.bytes.now c.in_ok-written.written c.in_ok-items.items.items c.in_ok-written.ensures.ok read in
    let same : c.in_ok-spec.spec ≡ record {
      format = c.in_ok-written.written.format;
      name = c.in_ok-written.written.name;
      header = c.in_ok-written.written.header;
      items = c.in_ok-items.items.items;
    } = search rules in
    one_text c.args.bytes.now other _ text.1 made ∙ sym same

pub new-requires : goal.new-requires
new-requires c =
    let bytes : All (λ b. b < 256) c.args.bytes.now =
    λ k d within. subst (λ b. b < 256) (get_or_default c.args.bytes.now k 0 d within)
    (let fit = c.type_inv.bytes k in search (rules, fit)) in
    let read : AllZip IsReadAs c.in_ok-written.written.items c.in_ok-items.items.items =
    subst (λ items. AllZip IsReadAs items c.in_ok-items.items.items) c.into_vec.ensures c.in_ok-items.ensures.ok in
    let same : c.from_vec.result ≡ c.in_ok-items.items.items = c.from_vec.ensures in
    let made = subst (λ items. AllZip IsReadAs c.in_ok-written.written.items items) (sym same) read in
    (c.args.bytes.now, bytes, read_text c.args.bytes.now c.in_ok-written.written c.from_vec.result c.in_ok-written.ensures.ok made)

pub returns-in_err-items-clause-refused : goal.returns-in_err-items-clause-refused
returns-in_err-items-clause-refused c =
    let short : IsShort c.args.bytes.now = search rules in
    handed_on (OnItems c.into_vec.result.items)
    (HasCause c.args.bytes.now) c.from_residual-in_err-items.result c.in_err-items.field-0.0 c.from_residual-in_err-items.ensures.1
    (λ e on. items_caused c.args.bytes.now c.in_ok-written.written e short c.in_ok-written.ensures.ok
    (subst (λ items. OnItems items e) c.into_vec.ensures on)) c.in_err-items.ensures.refused
