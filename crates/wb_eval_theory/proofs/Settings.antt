-- What is evaluated: attributes over operations, on a tree that fits.
use Rattle.std.proofs.Common.{ℕ, List}
use Rattle.wb_operations.specs.Operations.{Operations}
use Rattle.wb_values.specs.Fits.{FitsTree, FitsValue, FitAll}
use Rattle.wb_values.specs.Tree.{Tree, Value, Values}
use Rattle.wb_base.specs.declared.symbol.Kind.{Kind}
use Rattle.wb_syntax_resolved.specs.declared.attribution.AttributionParts.{AttributionParts}
use Rattle.wb_syntax_resolved.specs.declared.production.Production.{Production}
use Rattle.wb_flow_theory.specs.Modular.{IsProduction}
use Rattle.wb_flow_theory.specs.Flow.{HasFlowEdge}
use Rattle.wb_flow_theory.specs.Vertices.{Vertex}
use Rattle.wb_eval_theory.specs.Answers.{IsNodeAt, HasAnswer, Ends}
use Rattle.wb_eval_theory.specs.Evaluable.{IsEvaluable}
use Rattle.wb_eval_theory.specs.Instances.{Path, Instance}
use Rattle.wb_eval_theory.specs.Needed.{Comes, ReadsNext, IsNeeded}
use Rattle.wb_eval_theory.specs.Walks.{Outcome, Walk}

pub record Setting : Type 0 where
  pub attribution : AttributionParts
  pub operations : Operations
  pub top : Tree
  pub evaluable : IsEvaluable attribution operations
  pub nonterminal : ℕ
  pub fits : FitsTree attribution.signatures top nonterminal

-- the relations of evaluation, of a setting
abbrev pub NodeAt : Setting → Path → Tree → Type 0
NodeAt s q t = IsNodeAt s.attribution s.operations s.top q t

abbrev pub Answers : Setting → Instance → Outcome → Type 0
Answers s i o = HasAnswer s.attribution s.operations s.top i o

abbrev pub EndsWith : Setting → Walk → Outcome → Type 0
EndsWith s w o = Ends s.attribution s.operations s.top w o

abbrev pub ComesTo : Setting → Walk → Walk → Type 0
ComesTo s w v = Comes s.attribution s.operations s.top w v

abbrev pub Reading : Setting → Instance → Instance → Type 0
Reading s i r = ReadsNext s.attribution s.operations s.top i r

abbrev pub Needing : Setting → Instance → Instance → Type 0
Needing s i r = IsNeeded s.attribution s.operations s.top i r

abbrev pub TreeFits : Setting → Tree → ℕ → Type 0
TreeFits s t n = FitsTree s.attribution.signatures t n

abbrev pub ValueFits : Setting → Value → Kind → Type 0
ValueFits s v k = FitsValue s.attribution.signatures v k

abbrev pub AllFit : Setting → Values → List Kind → Type 0
AllFit s vs ks = FitAll s.attribution.signatures vs ks

abbrev pub IsOf : Setting → ℕ → Production → Type 0
IsOf s number production = IsProduction s.attribution number production

abbrev pub Edge : Setting → Production → Vertex → Vertex → Type 0
Edge s production v w = HasFlowEdge s.attribution production v w
