use Rattle.std.proofs.Common.{All, Contains, List, ap, sym, subst, ◌∙◌}
use Rattle.std.proofs.lemmas.Result.{on_ok_weaker}
use Rattle.wb_syntax_resolved.specs.declared.attributes.Nonterminal.{Nonterminal}
use Rattle.wb_syntax_resolved.specs.declared.attribution.AttributionParts.{AttributionParts}
use Rattle.wb_syntax_resolved.specs.declared.production.Production.{Production}
use Rattle.wb_syntax_resolved.specs.declared.terminal.Terminal.{Terminal}
use Rattle.wb_names_symbols.specs.Inner.Tables.{AddsNumbers}
use Rattle.wb_names_symbols.proofs.tables.add_tables.Goals as goal

pub add_numbers-requires-2 : goal.add_numbers-requires-2
add_numbers-requires-2 c =
    subst (All (λ (x : Nonterminal). Contains c.args.scope.now.nonterminals x.name))
    (sym (c.as_slice-2.ensures ∙ ap (λ (z : AttributionParts). z.nonterminals) c.parts-attributes.ensures.parts)) c.requires.nonterminals

pub add_numbers-requires-3 : goal.add_numbers-requires-3
add_numbers-requires-3 c =
    subst (All (λ (p : Production). Contains c.args.scope.now.productions p.name))
    (sym (c.as_slice-3.ensures ∙ ap (λ (z : AttributionParts). z.productions) c.parts-attributes.ensures.parts)) c.requires.productions

pub add_numbers-requires : goal.add_numbers-requires
add_numbers-requires c =
    subst (All (λ (t : Terminal). Contains c.args.scope.now.terminals t.name)) (sym c.as_slice.ensures) c.requires.terminals

pub returns : goal.returns
returns c =
    let s = c.args.scope.now in
    let old = c.args.moves.now in
    let nonterminals = c.as_slice-2.ensures ∙ ap (λ (z : AttributionParts). z.nonterminals) c.parts-attributes.ensures.parts in
    let productions = c.as_slice-3.ensures ∙ ap (λ (z : AttributionParts). z.productions) c.parts-attributes.ensures.parts in
    on_ok_weaker c.add_numbers-3.result
    (λ added. record {
      terminals = subst (λ (z : List Terminal). AddsNumbers (λ (t : Terminal). t.name) s.terminals z old.terminals.items
          c.add_numbers.new.table.items) c.as_slice.ensures c.in_ok-add_numbers.ensures;
      nonterminals = subst (λ (z : List Nonterminal). AddsNumbers (λ (x : Nonterminal). x.name) s.nonterminals z old.nonterminals.items
          c.add_numbers-2.new.table.items) nonterminals c.in_ok-add_numbers-2.ensures;
      productions = subst (λ (z : List Production). AddsNumbers (λ (p : Production). p.name) s.productions z old.productions.items
          c.add_numbers-3.new.table.items) productions added;
    })
    c.add_numbers-3.ensures
