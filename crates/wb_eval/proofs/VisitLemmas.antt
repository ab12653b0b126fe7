-- Visits of expressions without parts: a value is pushed, or an instance is read.
use Rattle.std.proofs.Common.{◌≡◌, ◌⊎◌, ◌≤◌, ◌++◌, inl, inr, ℕ, List, [], ◌∷◌, Some, None, All, length, refl, sym, ap, subst}
use Rattle.wb_flow_theory.specs.Modular.{IsProduction}
use Rattle.wb_base.specs.declared.symbol.Kind.{Kind}
use Rattle.wb_operations.specs.Operations.{Operations}
use Rattle.wb_syntax_resolved.specs.declared.attribution.AttributionParts.{AttributionParts}
use Rattle.wb_syntax_resolved.specs.declared.production.Production.{Production}
use Rattle.wb_syntax_resolved.specs.Expression.{Expression}
use Rattle.wb_values.specs.declared.value.TreeId.{TreeId}
use Rattle.wb_values.specs.declared.value.Value.{Value}
use Rattle.wb_values.specs.Fits.{FitsValue}
use Rattle.wb_values.specs.Tree.{Tree, Values, production_of, children_of}
use Rattle.wb_values.specs.Tree as t
use Rattle.wb_values.specs.ValuesIn.{tree_in, value_in, IsIn}
use Rattle.wb_eval_rules.specs.Code.{visit, Way, Instruction, does}
use Rattle.wb_eval_theory.proofs.ExpressionLemmas.{IsIn as IsPart}
use Rattle.wb_eval_theory.proofs.KindLemmas.{node_fits, kinded}
use Rattle.wb_eval_theory.proofs.LawLemmas.{setting_of}
use Rattle.wb_eval_theory.proofs.ReadLemmas.{below_fits}
use Rattle.wb_eval_theory.proofs.Settings.{Setting}
use Rattle.wb_eval_theory.proofs.SoundLemmas.{Goes, stay, go, goes_done, Inside, at_read, at_fault, Sound, through}
use Rattle.wb_eval_theory.specs.Answers.{IsNodeAt}
use Rattle.wb_eval_theory.specs.Instances.{Path}
use Rattle.wb_eval_theory.specs.Walks.{value, Walk, done, read, walk_expression, finish}
use Rattle.wb_eval.proofs.RunLemmas.{runs_on, value_known, not_entered}
use Rattle.wb_eval.specs.Inner.Fits.{stack_of, ValuesFit, WayFits, IsTyped, CodeFits}
use Rattle.wb_eval.specs.Inner.Going.{resume}
use Rattle.wb_eval.specs.Inner.Going as going
use Rattle.wb_eval.specs.Inner.Machines.{HasTree, named, IsKey, known, Runs}
use Rattle.wb_eval.specs.Inner.State.{HasCome}
use Rattle.wb_eval.specs.Inner.Works.{IsEvaluating, IsGoing, Parks}
use Rattle.wb_eval.specs.declared.machine.Key.{Key}
use Rattle.wb_eval.specs.declared.machine.Machine.{Machine}
use Rattle.wb_eval_memo.specs.Memos.{path_in}
use Rattle.wb_eval_memo.specs.Memos as memos

module _ (a : AttributionParts) (operations : Operations) (trees : List Tree) where
  -- an expression is visited, and after it code goes on so
  pub record IsVisiting (m : Machine) (site : ℕ) (way : Way) (code : List Instruction) (values : List Value) (e : Expression) : Type 0 where
    pub id : TreeId
    pub has : HasTree m.memo site id
    pub there : site ≤ memos.count m.memo
    pub production : Production
    pub is : IsProduction a (production_of (tree_in trees id.0)) production
    pub under : List Value
    pub own : List Value
    pub values_are : values ≡ under ++ own
    pub kinds : List Kind
    pub kind : Kind
    pub typed : IsTyped a operations production e kind
    pub inside : All (IsIn (length trees)) own
    pub values_fit : ValuesFit a.signatures (stack_of trees own) kinds
    pub way_fits : WayFits (CodeFits a operations production code) way kind kinds
    pub runs : Runs a operations trees under m (walk_expression operations (path_in m.memo site) (children_of (tree_in trees id.0)) e
        (λ v. going.go (resume operations (path_in m.memo site) (children_of (tree_in trees id.0)) code) way v (stack_of trees own)))

  -- the visit that is next
  pub visiting_of : (m : Machine) (site : ℕ) (way : Way) (code : List Instruction) (values : List Value) (e : Expression)
      → IsEvaluating a operations trees m site (does (visit e) way ∷ code) values → IsVisiting m site way code values e
  unfolding resume
  visiting_of m site way code values e ev = record {
    id = ev.id;
    has = ev.has;
    there = ev.there;
    production = ev.production;
    is = ev.is;
    under = ev.under;
    own = ev.own;
    values_are = ev.values_are;
    kinds = ev.kinds;
    kind = ev.code_fits.0;
    typed = ev.code_fits.1;
    inside = ev.inside;
    values_fit = ev.values_fit;
    way_fits = ev.code_fits.2;
    runs = ev.runs;
  }

  module _ (m : Machine) (site : ℕ) (way : Way) (code : List Instruction) (values : List Value) (e : Expression)
      (v : IsVisiting m site way code values e) where
    abbrev q : Path
    q = path_in m.memo site

    abbrev above : Tree
    above = tree_in trees v.id.0

    abbrev vs : Values
    vs = children_of above

    abbrev rest_of : t.Value → Walk
    rest_of w = going.go (resume operations q vs code) way w (stack_of trees v.own)

    abbrev s : Setting
    s = setting_of a operations v.runs.machine.top v.runs.machine.asked.nonterminal v.runs.machine.evaluable v.runs.machine.asked.fits

    pub node_here : IsNodeAt a operations v.runs.machine.top q above
    node_here = (v.runs.machine.memo.nodes site v.id v.has).is_node

    -- what the walk of the expression alone ends with has its kind
    value_fits : (w : t.Value) → Goes (Sound s) (walk_expression operations q vs e (finish operations)) (done (value w))
        → FitsValue a.signatures w v.kind
    value_fits w goes =
        by_case (through s q above v.production node_here v.is vs (below_fits s above v.production v.is (node_fits s node_here)) e v.kind
        (finish operations) (done (value w)) v.typed.has_kind v.typed.named goes) where
          by_case : (Inside (IsPart e) q (done (value w)) ⊎ ((u : t.Value) × FitsValue a.signatures u v.kind
              × Goes (Sound s) (finish operations u) (done (value w))))
              → FitsValue a.signatures w v.kind
          by_case (inl (at_read part to rest has reads h)) = absurd (cc h)
          by_case (inl (at_fault operation code h)) = absurd (cc h)
          by_case (inr z) = let h = goes_done z.2 in let same : z.0 ≡ w = cc h in
              subst (λ (u : t.Value). FitsValue a.signatures u v.kind) same z.1

    -- a value is pushed
    value_pushed : (w : Value) → Runs a operations trees v.under m (rest_of (value_in trees w))
        → FitsValue a.signatures (value_in trees w) v.kind → IsIn (length trees) w
        → IsGoing a operations trees m site way code (values ++ w ∷ [])
    value_pushed w runs fits inside = record {
      id = v.id;
      has = v.has;
      there = v.there;
      production = v.production;
      is = v.is;
      under = v.under;
      own = v.own;
      on_top = w;
      values_are = ap (λ (l : List Value). l ++ w ∷ []) v.values_are;
      kind = v.kind;
      kinds = v.kinds;
      inside = v.inside;
      top_inside = inside;
      values_fit = v.values_fit;
      top_fits = fits;
      way_fits = v.way_fits;
      runs = runs;
    }

    -- an expression that has its value at once
    pub at_once : (w : Value) → ((rest : t.Value → Walk) → walk_expression operations q vs e rest ≡ rest (value_in trees w))
        → IsIn (length trees) w → IsGoing a operations trees m site way code (values ++ w ∷ [])
    at_once w is inside =
        value_pushed w (subst (Runs a operations trees v.under m) (is rest_of) v.runs)
        (value_fits (value_in trees w) (subst (λ (u : Walk). Goes (Sound s) u (done (value (value_in trees w))))
        (sym (is (finish operations))) stay))
        inside

    -- one that reads an instance
    module _ (key : Key) (is_key : IsKey m.memo key)
        (is : (rest : t.Value → Walk) → walk_expression operations q vs e rest ≡ read (named m.memo key) rest) where
      abbrev reading : Runs a operations trees v.under m (read (named m.memo key) rest_of)
      reading = record {
        machine = v.runs.machine;
        come = subst (HasCome a operations v.runs.machine.top m.attribute v.runs.machine.all v.runs.machine.this) (is rest_of) v.runs.come;
      }

      pub read_known : (w : Value) → known m.memo key ≡ Some w → IsGoing a operations trees m site way code (values ++ w ∷ [])
      read_known w has =
          let (runs, inside) = runs_on a operations trees m key w rest_of reading is_key has in
          let it = value_known a operations trees m key w rest_of reading is_key has in
          let goes = go (it.answers, kinded s it.answers) stay in
          value_pushed w runs
          (value_fits (value_in trees w) (subst (λ (u : Walk). Goes (Sound s) u (done (value (value_in trees w))))
          (sym (is (finish operations))) goes))
          inside

      pub read_new : known m.memo key ≡ None → Parks a operations trees m site (does (visit e) way ∷ code) values key
      unfolding resume
      read_new none = record {
        under = v.under;
        own = v.own;
        values_are = v.values_are;
        wants = record {
          next = rest_of;
          runs = reading;
          is_key = is_key;
          fresh = not_entered a operations trees m key rest_of reading is_key none;
        };
        waits = record {
          id = v.id;
          has = v.has;
          there = v.there;
          production = v.production;
          is = v.is;
          kinds = v.kinds;
          inside = v.inside;
          values_fit = v.values_fit;
          code_fits = (v.kind, v.typed, v.way_fits);
          come = v.runs.come;
          expression = e;
          way = way;
          rest = code;
          code_is = refl;
          reads = is;
        };
      }
