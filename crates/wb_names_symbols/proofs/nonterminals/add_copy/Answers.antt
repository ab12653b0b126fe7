use Rattle.std.proofs.Common.{◌≡◌, ◌∙◌, subst}
use Rattle.std.proofs.lemmas.Result.{on_ok_weaker}
use Rattle.wb_syntax_resolved.specs.declared.attributes.Nonterminal.{Nonterminal}
use Rattle.wb_names_symbols.specs.Inner.Nonterminals.{AddsRow}
use Rattle.wb_names_symbols.proofs.nonterminals.add_copy.Goals as goal

pub returns-in-Ok : goal.returns-in-Ok
returns-in-Ok c =
    let row = c.args.row.now in
    let needs = c.from_vec.ensures ∙ (c.in-Ok.ensures.items ∙ c.as_slice.ensures) in
    let same : record { name = c.in_ok-name.name; owner = row.owner; closed = row.closed; forward_needs = c.from_vec.result } ≡ row =
    λ j. record { name = c.in_ok-name.ensures.ok j; owner = row.owner; closed = row.closed; forward_needs = needs j } in
    on_ok_weaker c.add.result (subst (λ (z : Nonterminal). AddsRow c.args.leads z c.args.made.now c.add.new.made) same) c.add.ensures
