-- How the work on an instance starts, by its key.
use Rattle.std.proofs.Common.{subst, ◌≡◌, ◌≢◌, ◌∙◌, ◌≤◌, ◌<◌, ◌-◌, ℕ, List, [], ◌∷◌, Option, Some, None, length, refl, sym, ap, arith}
use Rattle.std.proofs.Common.{slice_get, append-nil, ◌++◌}
use Rattle.std.proofs.Common.{get_or}
use Rattle.wb_flow_theory.specs.Rules.{HasRule}
use Rattle.wb_flow_theory.specs.Vertices.{Made, child, made, local, forward, top_synthesized, inherited, tree_of}
use Rattle.wb_operations.specs.Operations.{Operations}
use Rattle.wb_syntax_resolved.specs.declared.attribution.AttributionParts.{AttributionParts}
use Rattle.wb_syntax_resolved.specs.declared.production.Production.{Production}
use Rattle.wb_eval_rules.specs.Code.{Instruction, next, instructions, code_of}
use Rattle.wb_eval_rules.specs.Codes.{HasCode}
use Rattle.wb_eval_rules.specs.declared.code.Op.{Op}
use Rattle.wb_values.specs.declared.value.TreeId.{TreeId}
use Rattle.wb_values.specs.declared.value.Value.{Value}
use Rattle.wb_values.specs.Tree.{Tree, production_of, children_of}
use Rattle.wb_values.specs.ValuesIn.{tree_in}
use Rattle.wb_eval_theory.proofs.LawLemmas.{setting_of}
use Rattle.wb_eval_theory.proofs.ProductionLemmas.{expression_at}
use Rattle.wb_eval_theory.specs.Instances.{Path, down, inherited_at, tree_at}
use Rattle.std.proofs.lemmas.Option.{slice_get-get_or}
use Rattle.wb_eval.proofs.LeaveLemmas.{named_length}
use Rattle.wb_eval.proofs.StepLemmas.{key_here}
use Rattle.wb_eval.specs.Inner.Machines.{tree_named, IsMachine, Runs, Wants}
use Rattle.wb_eval_memo.specs.Memos.{path_in}
use Rattle.wb_eval_memo.specs.Sites.{step_of}
use Rattle.wb_eval.specs.Inner.Starts.{HasProduction, IsProductionAt, IsAtWork, IsStarting, IsAlone, IsForwarding}
use Rattle.wb_eval.specs.Inner.Starts.{made_by}
use Rattle.wb_eval.proofs.CodeWalkLemmas.{code_walk}
use Rattle.wb_eval.proofs.CodeFitLemmas.{code_fits}
use Rattle.wb_eval.specs.Inner.Fits.{CodeFits}
use Rattle.wb_eval.specs.Inner.Going.{resume}
use Rattle.wb_eval.specs.Inner.Works.{IsEvaluating}
use Rattle.wb_eval.specs.declared.machine.Key.{Key}
use Rattle.wb_eval.specs.declared.machine.Key.TheVariants as key
use Rattle.wb_eval.specs.declared.machine.Machine.{Machine}
use Rattle.wb_eval_memo.specs.declared.sites.Origin.{Origin}
use Rattle.wb_eval_memo.specs.declared.sites.Step.{Step}
use Rattle.wb_eval_memo.specs.declared.sites.Step.TheVariants as step
use Rattle.wb_eval.proofs.HomeLemmas.{site_some, from_origin, IsFrom, rule_expression, tree_start, tree_none, below_start, below_none}
use Rattle.wb_eval.proofs.HomeLemmas.{tree_known, top_start, top_forward, tree_wanted, inherited_down, has_production}
use Rattle.wb_eval.proofs.HomeLemmas.{node_at}

module _ {a : AttributionParts} {operations : Operations} {trees : List Tree} {under : List Value} {m : Machine} where
  -- an inherited attribute, at its origin
  module _ (site x : ℕ) (w : IsAtWork a operations trees under m (key.Inherited site x)) where
    pub inherited_some : (1 ≤ site) × (site - 1 < length m.memo.sites.origins.items)
    inherited_some = let (q, b, path) = inherited_down w.machine site x w.this_is in site_some w.machine site q b path w.is_key

    module _ (o : Origin) (found : o ≡ get_or m.memo.sites.origins.items (site - 1) o) where
      inherited_origin : slice_get m.memo.sites.origins.items (site - 1) ≡ Some o
      inherited_origin = slice_get-get_or m.memo.sites.origins.items (site - 1) o inherited_some.1 ∙ ap Some (sym found)

      inherited_from : IsFrom w.machine site (path_in m.memo o.parent) (step_of o.step) o
      inherited_from =
          let (q, b, path) = inherited_down w.machine site x w.this_is in
          let f = from_origin w.machine site q b o path w.is_key inherited_origin in
          record { up = refl; way = refl; id = f.id; has = f.has; there = f.there }

      inherited_is : w.machine.this ≡ inherited_at (down (path_in m.memo o.parent) (step_of o.step)) x
      inherited_is =
          let (q, b, path) = inherited_down w.machine site x w.this_is in
          let f = from_origin w.machine site q b o path w.is_key inherited_origin in
          w.this_is ∙ ap (λ (z : Path). inherited_at z x) (path ∙ ap (λ (z : Path). down z b) (sym f.up)
          ∙ ap (down (path_in m.memo o.parent)) (sym f.way))

      pub inherited_production : HasProduction a trees m o.parent
      inherited_production = has_production w.machine o.parent inherited_from.id inherited_from.has

      pub inherited_starting : (p : Production) (code : List Op) → IsProductionAt a trees m o.parent p
          → HasCode operations.signatures p (inherited (step_of o.step) x) code
          → IsStarting a operations trees under m o.parent (instructions code)
      inherited_starting p code (id, has, is) has_code =
          let (e, rule_is, nodes_are) = rule_expression w.machine (production_of (tree_in trees id.0)) p _ has_code.nodes is has_code.rule
          in
          record {
            id = id;
            has = has;
            there = inherited_from.there;
            production = p;
            is = is;
            vertex = inherited (step_of o.step) x;
            expression = e;
            rule = rule_is;
            code_is = has_code.code_is e nodes_are;
            runs = below_start w.machine (path_in m.memo o.parent) (step_of o.step) x (tree_in trees id.0) p inherited_is
                (node_at w.machine o.parent id has) is e rule_is;
          }

      pub inherited_alone : (p : Production) → IsProductionAt a trees m o.parent p → ¬ HasRule p (inherited (step_of o.step) x)
          → IsAlone a operations trees under m (key.Inherited o.parent x)
      inherited_alone p (id, has, is) none = record {
        is_key = inherited_from.there;
        runs = below_none w.machine (path_in m.memo o.parent) (step_of o.step) x (tree_in trees id.0) p inherited_is
            (node_at w.machine o.parent id has) is none;
      }

  -- the tree of a local or forward, at its origin
  module _ (site : ℕ) (w : IsAtWork a operations trees under m (key.Tree site)) where
    pub tree_some : (1 ≤ site) × (site - 1 < length m.memo.sites.origins.items)
    tree_some = let (le, (q, k, path)) = w.is_key in site_some w.machine site q (made k) path le

    module _ (o : Origin) (found : o ≡ get_or m.memo.sites.origins.items (site - 1) o) where
      tree_origin : slice_get m.memo.sites.origins.items (site - 1) ≡ Some o
      tree_origin = slice_get-get_or m.memo.sites.origins.items (site - 1) o tree_some.1 ∙ ap Some (sym found)

      tree_from : (k : Made) × (step_of o.step ≡ made k) × (w.machine.this ≡ tree_at (path_in m.memo o.parent) k)
          × IsFrom w.machine site (path_in m.memo o.parent) (step_of o.step) o
      tree_from =
          let (le, (q, k, path)) = w.is_key in
          let f = from_origin w.machine site q (made k) o path le tree_origin in (
            k,
            f.way,
            w.this_is ∙ ap tree_named path ∙ ap (λ (z : Path). tree_at z k) (sym f.up),
            record { up = refl; way = refl; id = f.id; has = f.has; there = f.there },
          )

      pub tree_production : HasProduction a trees m o.parent
      tree_production = let f = tree_from.3 in has_production w.machine o.parent f.id f.has

      pub tree_starting : (k : Made) (p : Production) (code : List Op) → step_of o.step ≡ made k → IsProductionAt a trees m o.parent p
          → HasCode operations.signatures p (tree_of k) code → IsStarting a operations trees under m o.parent (instructions code)
      tree_starting k p code step_is (id, has, is) has_code =
          let (c, way, this_is, f) = tree_from in
          let k_is : c ≡ k = let h = sym way ∙ step_is in cc h in
          let (e, rule_is, nodes_are) = rule_expression w.machine (production_of (tree_in trees id.0)) p _ has_code.nodes is has_code.rule
          in
          record {
            id = id;
            has = has;
            there = f.there;
            production = p;
            is = is;
            vertex = tree_of k;
            expression = e;
            rule = rule_is;
            code_is = has_code.code_is e nodes_are;
            runs =
                tree_start w.machine (path_in m.memo o.parent) k (tree_in trees id.0) p
                (this_is ∙ ap (tree_at (path_in m.memo o.parent)) k_is)
                (node_at w.machine o.parent id has) is e rule_is;
          }

      pub tree_never : (k : Made) (p : Production) → step_of o.step ≡ made k → IsProductionAt a trees m o.parent p
          → ¬ HasRule p (tree_of k) → ⊥
      tree_never k p step_is (id, has, is) none =
          let (c, way, this_is, f) = tree_from in
          let k_is : c ≡ k = let h = sym way ∙ step_is in cc h in
          tree_none w.machine (path_in m.memo o.parent) k (tree_in trees id.0) p (this_is ∙ ap (tree_at (path_in m.memo o.parent)) k_is)
          (node_at w.machine o.parent id has) is none

      pub tree_no_child : (c : ℕ) → step_of o.step ≡ child c → ⊥
      tree_no_child c step_is = let (k, way, this_is, f) = tree_from in let h = sym way ∙ step_is in cc h

  -- by the step of the origin
  module _ (site : ℕ) (w : IsAtWork a operations trees under m (key.Tree site)) (o : Origin)
      (found : o ≡ get_or m.memo.sites.origins.items (site - 1) o) (p : Production) where
    pub tree_starts : (code : List Op) → IsProductionAt a trees m o.parent p
        → made_by o.step (λ k. HasCode operations.signatures p (tree_of k) code)
        → IsStarting a operations trees under m o.parent (instructions code)
    tree_starts code is has_code = by_step o.step refl has_code where
      by_step : (s : Step) → o.step ≡ s → made_by s (λ k. HasCode operations.signatures p (tree_of k) code)
          → IsStarting a operations trees under m o.parent (instructions code)
      by_step (step.Child k) e rule = absurd (tree_no_child site w o found k (ap step_of e))
      by_step (step.Local y) e rule = tree_starting site w o found (local y) p code (ap step_of e) is rule
      by_step step.Forward e rule = tree_starting site w o found forward p code (ap step_of e) is rule

    pub tree_stops : IsProductionAt a trees m o.parent p → made_by o.step (λ k. ¬ HasRule p (tree_of k)) → ⊥
    tree_stops is none = by_step o.step refl none where
      by_step : (s : Step) → o.step ≡ s → made_by s (λ k. ¬ HasRule p (tree_of k)) → ⊥
      by_step (step.Child k) e none = tree_no_child site w o found k (ap step_of e)
      by_step (step.Local y) e none = tree_never site w o found (local y) p (ap step_of e) is none
      by_step step.Forward e none = tree_never site w o found forward p (ap step_of e) is none

  -- a synthesized attribute
  module _ (site x : ℕ) (w : IsAtWork a operations trees under m (key.Synthesized site x)) where
    pub synthesized_within : site < length m.memo.trees.items
    synthesized_within = let t = w.machine.memo.whole.trees in let le = w.is_key in omega (arith, t, le)

    pub synthesized_starting : (p : Production) (code : List Op) → IsProductionAt a trees m site p
        → HasCode operations.signatures p (top_synthesized x) code → IsStarting a operations trees under m site (instructions code)
    synthesized_starting p code (id, has, is) has_code =
        let (e, rule_is, nodes_are) = rule_expression w.machine (production_of (tree_in trees id.0)) p _ has_code.nodes is has_code.rule in
        record {
          id = id;
          has = has;
          there = w.is_key;
          production = p;
          is = is;
          vertex = top_synthesized x;
          expression = e;
          rule = rule_is;
          code_is = has_code.code_is e nodes_are;
          runs = top_start w.machine site x id w.this_is has p is e rule_is;
        }

    pub synthesized_forward : (p : Production) → IsProductionAt a trees m site p → ¬ HasRule p (top_synthesized x)
        → IsForwarding a operations trees under m site x
    synthesized_forward p (id, has, is) none = top_forward w.machine site x id w.this_is has p is w.is_key none

    tree_found : (o : Option TreeId) → o ≡ get_or m.memo.trees.items site o → slice_get m.memo.trees.items site ≡ Some o
    tree_found o found = slice_get-get_or m.memo.trees.items site o synthesized_within ∙ ap Some (sym found)

    pub synthesized_wanted : (o : Option TreeId) → o ≡ get_or m.memo.trees.items site o → o ≡ None
        → Wants a operations trees under m (key.Tree site)
    synthesized_wanted o found is = tree_wanted w.machine site x w.is_key w.this_is (tree_found o found ∙ ap Some is)

    pub synthesized_production : (o : Option TreeId) → o ≡ get_or m.memo.trees.items site o → o ≢ None → HasProduction a trees m site
    synthesized_production o found some = let (id, has) = tree_known m.memo.trees.items site o (tree_found o found) some in
        has_production w.machine site id has

  -- its code is at work
  pub starts : (site : ℕ) (code : List Instruction) (start : IsStarting a operations trees under m site code)
      → IsEvaluating a operations trees m site code under
  unfolding resume
  starts site code start =
      let rm = start.runs.machine in
      let g = setting_of a operations rm.top rm.asked.nonterminal rm.evaluable rm.asked.fits in
      let i =
      expression_at g (production_of (tree_in trees start.id.0)) start.production start.is start.vertex start.expression start.rule in
      let q = path_in m.memo site in
      let vs = children_of (tree_in trees start.id.0) in
      let names = rm.evaluable.with_operations.names in
      let whole : code_of operations.signatures start.expression next ++ [] ≡ code =
      append-nil (code_of operations.signatures start.expression next) ∙ sym start.code_is in
      let walk = code_walk operations q vs a start.production names start.expression i.kind i.has_kind next [] [] in
      let fit = code_fits a operations start.production names start.expression i.kind i.has_kind i.named next [] [] (i.kind, refl) in
      record {
        id = start.id;
        has = start.has;
        there = start.there;
        production = start.production;
        is = start.is;
        under = under;
        own = [];
        values_are = sym (append-nil under);
        kinds = [];
        inside = λ k d lt. absurd (omega arith);
        values_fit = refl;
        code_fits = subst (λ l. CodeFits a operations start.production l 0 []) whole fit;
        runs = subst (λ l. Runs a operations trees under m (resume operations q vs l 0 [])) whole
            (subst (Runs a operations trees under m) (sym walk) start.runs);
      }

module _ {a : AttributionParts} {operations : Operations} {trees : List Tree} {under : List Value} {m : Machine}
    (r : IsMachine a operations trees under m) where
  -- there is an instance at work, and it is that of the last key
  pub stack_some : 1 ≤ length m.stack.items
  stack_some = let h = named_length m.memo m.stack.items [] (r.this ∷ r.waiting) r.stack in omega (arith, h)

  pub at_work : (k : Key) → k ≡ get_or m.stack.items (length m.stack.items - 1) k → IsAtWork a operations trees under m k
  at_work k found =
      let some = stack_some in
      let at = slice_get-get_or m.stack.items (length m.stack.items - 1) k (omega (arith, some)) ∙ ap Some (sym found) in
      let (is_key, this_is) = key_here a operations trees m r k at in
      record { machine = r; is_key = is_key; this_is = this_is }
