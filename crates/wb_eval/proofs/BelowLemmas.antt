-- What a visit reads one step down, and visits at a memo that has grown.
use Rattle.std.proofs.Common.{◌≡◌, ◌∙◌, ℕ, List, Option, refl, sym, subst, arith}
use Rattle.std.proofs.lemmas.Option.{same_Some}
use Rattle.wb_flow_theory.specs.Modular.{IsProduction}
use Rattle.wb_flow_theory.specs.Vertices.{child}
use Rattle.wb_operations.specs.Operations.{Operations}
use Rattle.wb_syntax_resolved.specs.declared.attribution.AttributionParts.{AttributionParts}
use Rattle.wb_syntax_resolved.specs.Expression.{Expression}
use Rattle.wb_values.specs.declared.value.TreeId.{TreeId}
use Rattle.wb_values.specs.declared.value.Value.{Value}
use Rattle.wb_values.specs.Tree.{Tree, Values, production_of, children_of}
use Rattle.wb_values.specs.Tree as t
use Rattle.wb_values.specs.ValuesIn.{tree_in}
use Rattle.wb_eval_theory.proofs.AnswerLemmas.{one_node}
use Rattle.wb_eval_theory.proofs.DefinedLemmas.{kid_is_tree}
use Rattle.wb_eval_theory.proofs.KindLemmas.{node_fits}
use Rattle.wb_eval_theory.proofs.LawLemmas.{setting_of}
use Rattle.wb_eval_theory.proofs.Settings.{Setting}
use Rattle.wb_eval_theory.specs.Answers.{at_child}
use Rattle.wb_eval_theory.specs.Instances.{Path, down, synthesized_at}
use Rattle.wb_eval_theory.specs.Walks.{Walk, read, walk_expression}
use Rattle.wb_eval.proofs.RunLemmas.{reads_there, grown_runs, IsGiven}
use Rattle.wb_eval.specs.Inner.Machines.{IsNode, Runs, with_memo}
use Rattle.wb_eval_memo.specs.Memos.{path_in, IsWhole, IsGrown}
use Rattle.wb_eval.specs.Inner.Reached.{IsReady, IsGivenTree, IsReached}
use Rattle.wb_eval_memo.specs.Sites.{step_of}
use Rattle.wb_eval_rules.specs.Code.{Way, Instruction}
use Rattle.wb_eval.specs.Inner.Fits.{stack_of}
use Rattle.wb_eval.specs.Inner.Going.{go, resume}
use Rattle.wb_eval.specs.declared.machine.Machine.{Machine}
use Rattle.wb_eval_memo.specs.declared.memo.Memo.{Memo}
use Rattle.wb_eval_memo.specs.declared.sites.Step.{Step}
use Rattle.wb_eval_memo.specs.declared.sites.Step.TheVariants as step
use Rattle.wb_eval.proofs.VisitLemmas.{IsVisiting, node_here}

module _ (a : AttributionParts) (operations : Operations) (trees : List Tree) (m : Machine) (site : ℕ) (way : Way)
    (code : List Instruction) (values : List Value) (e : Expression) (v : IsVisiting a operations trees m site way code values e) where
  abbrev q : Path
  q = path_in m.memo site

  abbrev above : Tree
  above = tree_in trees v.id.0

  abbrev vs : Values
  vs = children_of above

  abbrev rest_of : t.Value → Walk
  rest_of w = go (resume operations q vs code) way w (stack_of trees v.own)

  abbrev s : Setting
  s = setting_of a operations v.runs.machine.top v.runs.machine.asked.nonterminal v.runs.machine.evaluable v.runs.machine.asked.fits

  -- what is read one step down
  pub ready : (step_down : Step) (y : ℕ)
      → ((rest : t.Value → Walk) → walk_expression operations q vs e rest ≡ read (synthesized_at (down q (step_of step_down)) y) rest)
      → IsReady trees m.memo site step_down
  ready (step.Child c) y is =
      let runs = subst (Runs a operations trees v.under m) (is rest_of) v.runs in
      let there = reads_there a operations trees m (synthesized_at (down q (child c)) y) rest_of runs in
      let same = one_node a operations v.runs.machine.top there.there (node_here a operations trees m site way code values e v) in
      let is_of = subst (λ (z : Tree). IsProduction a (production_of z) there.production) same there.is in
      let fits = node_fits s (node_here a operations trees m site way code values e v) in
      let kid = kid_is_tree s c y above there.production is_of fits there.vertex in
      (v.id, v.has, (v.runs.machine.memo.nodes site v.id v.has).inside, kid)
  ready (step.Local c) y is = tt
  ready step.Forward y is = tt

  -- the memo has grown
  pub given_of : (t : Step) (tree : Option TreeId) → IsGivenTree trees m.memo site t tree
      → IsGiven a operations trees v.runs.machine.top q t tree
  given_of (step.Child c) tree (id, kid, has, is_kid, tree_is) = record {
    child_node = λ other same.
        let e : kid ≡ other = same_Some kid other (sym tree_is ∙ same) in (
          c,
          refl,
          subst (λ (z : TreeId). IsNode a operations trees v.runs.machine.top (down q (child c)) z) e (record {
            inside = is_kid.inside;
            is_node = at_child (v.runs.machine.memo.nodes site id has).is_node is_kid.is;
          }),
        );
    child_has = λ k same. (kid, tree_is);
  }
  given_of (step.Local c) tree none = record {
    child_node = λ other same. absurd (cc (same, none));
    child_has = λ k same. absurd (cc same);
  }
  given_of step.Forward tree none = record { child_node = λ other same. absurd (cc (same, none)); child_has = λ k same. absurd (cc same) }

  pub grown : (new : Memo) (t : Step) (below : ℕ) → IsWhole new → IsGrown m.memo new → IsReached trees m.memo new site t below
      → IsVisiting a operations trees (with_memo m new) site way code values e
  grown new t below whole more (tree, given, is_below) =
      let runs = grown_runs a operations trees m _ new site below t tree v.runs whole more is_below v.there (v.id, v.has)
      (λ fresh. given_of t tree (given fresh)) in
      let path = more.paths site v.there in
      record {
        id = v.id;
        has = more.trees site v.there ∙ v.has;
        there = let le = more.more in let t = v.there in omega (arith, le, t);
        production = v.production;
        is = v.is;
        under = v.under;
        own = v.own;
        values_are = v.values_are;
        kinds = v.kinds;
        kind = v.kind;
        typed = v.typed;
        inside = v.inside;
        values_fit = v.values_fit;
        way_fits = v.way_fits;
        runs = subst (λ (p : Path). Runs a operations trees v.under (with_memo m new) (walk_expression operations p vs e
            (λ w. go (resume operations p vs code) way w (stack_of trees v.own)))) (sym path) runs;
      }
