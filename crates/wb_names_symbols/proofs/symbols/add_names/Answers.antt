use Rattle.std.proofs.Common.{◌++◌, ◌∙◌, ℕ, List, ap, map, refl}
use Rattle.std.proofs.lemmas.Result.{on_ok_weaker}
use Rattle.wb_syntax_resolved.specs.declared.attributes.Nonterminal.{Nonterminal}
use Rattle.wb_syntax_resolved.specs.declared.terminal.Terminal.{Terminal}
use Rattle.wb_names_symbols.proofs.symbols.add_names.Goals as goal

pub returns : goal.returns
returns c =
    let terminals = map (λ (x : Terminal). x.name) c.args.terminals.now in
    let nonterminals = map (λ (x : Nonterminal). x.name) c.args.nonterminals.now in
    on_ok_weaker c.add_production_names.result
    (λ productions. record {
      owner = refl;
      attributes = refl;
      terminals = c.in_ok-add_names.ensures ∙ ap (λ (z : List (List ℕ)). z ++ terminals) c.requires.terminals;
      nonterminals = c.in_ok-add_names-2.ensures ∙ ap (λ (z : List (List ℕ)). z ++ nonterminals) c.requires.nonterminals;
      productions = productions;
    })
    c.add_production_names.ensures
