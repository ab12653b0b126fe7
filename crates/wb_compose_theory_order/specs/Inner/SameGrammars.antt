-- Two grammars that are one but for their numbers.
use Rattle.wb_base.specs.Grammar.{GrammarView}
use Rattle.wb_compose_theory.specs.Renamings.{Renaming}
use Rattle.wb_compose_theory_order.specs.Grammars.{GrammarLeadsTo, IsUndoneBy}

-- the two are one grammar, in two numberings: a renaming leads from the first to the second, another leads back, and each undoes the other
pub record IsSameGrammar (r s : Renaming) (g k : GrammarView) : Type 0 where
  pub there : GrammarLeadsTo r g k
  pub back : GrammarLeadsTo s k g
  pub undone : IsUndoneBy r s
  pub redone : IsUndoneBy s r
