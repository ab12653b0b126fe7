-- Trees and stops in other numbers.
use Rattle.wb_grammar_theory.specs.Trees.{Forest, nothing, leaf, node}
use Rattle.wb_scan_theory.specs.declared.stop_kind.StopKind.{StopKind}
use Rattle.wb_scan_theory.specs.declared.stop_kind.StopKind.TheVariants.{NoToken, Unexpected}
use Rattle.wb_compose_theory.specs.Renamings.{Renaming}

-- the trees with new numbers for terminals, productions and nonterminals, and the same texts
abbrev pub renamed_forest : Renaming → Forest → Forest
renamed_forest r nothing = nothing
renamed_forest r (leaf t text rest) = leaf (r.terminal t) text (renamed_forest r rest)
renamed_forest r (node p a children rest) =
    node (r.production p) (r.nonterminal a) (renamed_forest r children) (renamed_forest r rest)

-- the reason for a stop with the new number of its terminal
abbrev pub renamed_kind : Renaming → StopKind → StopKind
renamed_kind r NoToken = NoToken
renamed_kind r (Unexpected t) = Unexpected (r.terminal t)
