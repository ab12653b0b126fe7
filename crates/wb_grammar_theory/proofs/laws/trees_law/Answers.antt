use Rattle.std.proofs.Common.{[], subst}
use Rattle.wb_grammar_theory.specs.Trees.{text_of, leaves}
use Rattle.wb_grammar_theory.specs.Derives.{Derives}
use Rattle.wb_grammar_theory.proofs.TreeLemmas.{forest_derives, derives_grown}
use Rattle.wb_grammar_theory.proofs.laws.trees_law.Goals as goal

pub returns-clause-tree : goal.returns-clause-tree
returns-clause-tree c g a tree is = subst (λ w. Derives g w (text_of (leaves [] tree))) is.root (forest_derives g [] tree is.derived)

pub returns-clause-derived : goal.returns-clause-derived
returns-clause-derived c g a v r text =
    let grown = derives_grown r text in
    (grown.forest, record { derived = grown.derived; root = grown.roots }, grown.text [])
