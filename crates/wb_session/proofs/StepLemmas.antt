-- What reductions make of the stacks to which links lead.
use Rattle.std.proofs.Common.{◌≡◌, ◌≤◌, ◌+◌, ◌-◌, ℕ, suc, List, [], ◌∷◌, ◌++◌, length, take, drop, refl, sym, ◌∙◌, ap}
use Rattle.std.proofs.Common.{subst, inl, inr, arith, length-append}
use Rattle.std.specs.Prelude.{All, Some, min}
use Rattle.wb_lemmas.proofs.Parts.{take_append, drop_append}
use Rattle.wb_lemmas.proofs.Elements.{all_left}
use Rattle.wb_base.specs.declared.symbol.Symbol.{Symbol}
use Rattle.wb_base.specs.Grammar.{GrammarView}
use Rattle.wb_grammar_theory.specs.Trees.{Forest, nothing, node, symbols}
use Rattle.wb_grammar_theory.specs.Lookaheads.{CanReduce}
use Rattle.wb_grammar_theory.proofs.ProductionLemmas.{production_once}
use Rattle.wb_lookahead.specs.declared.action.Action.TheVariants as act
use Rattle.wb_lookahead.specs.declared.action.Action.TheVariants.{Shift, Reduce, Accept}
use Rattle.wb_lookahead.specs.Contents.{action_of, goto_of}
use Rattle.wb_values.specs.Tree.{Tree, empty, more, tree}
use Rattle.wb_values.specs.Tree as values
use Rattle.wb_values.specs.ValuesIn.{value_in, values_in, IsIn, last}
use Rattle.wb_values.specs.declared.value.TreeId.{TreeId}
use Rattle.wb_values.specs.declared.value.Value.{Value}
use Rattle.wb_values.specs.declared.value.Value.TheVariants as stored
use Rattle.wb_scan_theory.specs.Facts.{IsLanguage}
use Rattle.wb_scan_theory.specs.Shown.{values_of}
use Rattle.wb_scan_theory.specs.Parts.{AreTablesOf}
use Rattle.wb_scan_theory.specs.Machine.{joined}
use Rattle.wb_scan_theory.proofs.BackLemmas.{Reduced}
use Rattle.wb_scan.specs.Views.{LanguageParts}
use Rattle.wb_parser_states.specs.declared.rules.Rule.{Rule}
use Rattle.wb_parser_states.specs.declared.outcome.Outcome.TheVariants.{Shifts, Accepts, Stops}
use Rattle.wb_parser_states.specs.Rules.{IsRule}
use Rattle.wb_parser_states.specs.Stacks.{last_or}
use Rattle.wb_parser_states.proofs.StepLemmas.{acts, accepted, moved_states, reduction}
use Rattle.wb_parser.specs.Parses.{Extends}
use Rattle.wb_parser.proofs.ValueLemmas.{appended, values_in_append, values_of_joined, values_split}
use Rattle.wb_session_theory.specs.Runs.{Reduces, rests, reduces}
use Rattle.wb_session.specs.declared.stacks.Entry.{Entry}
use Rattle.wb_session.specs.Inner.Entries.{state_in}
use Rattle.wb_session.specs.Stacks.{Roots, LeadsTo, bottom, above, IsStack, IsSound}
use Rattle.wb_session.specs.Inner.Gathered.{AreParted, AreGathered}
use Rattle.wb_session.specs.Inner.Nodes.{IsNode}
use Rattle.wb_session.specs.Inner.Steps.{IsReduced, IsMade, AreMade, IsSettled}
use Rattle.wb_session.proofs.StackLemmas.{leads_state, leads_push, leads_inside, values_extend}

-- what a reduction's code does is a reduction
pub made : (parts : LanguageParts) (p : ℕ) (rule : Rule) (roots roots' : Roots) (link link' : ℕ) (x : Entry) (id : TreeId)
    (children : List Value) → IsRule parts.language.grammar p rule → length roots.values ≡ length roots.entries →
    AreGathered roots.entries roots.values link rule.width x.below children →
    ((next : ℕ) → goto_of parts.tables (state_in roots.entries x.below) rule.left ≡ Some next → x.state ≡ next) →
    IsNode roots'.trees p (values_in roots.trees children) id.0 → Extends roots.trees roots'.trees →
    roots'.entries ≡ roots.entries ++ x ∷ [] → roots'.values ≡ roots.values ++ stored.Tree id ∷ [] → link' ≡ length roots.entries + 1 →
    IsMade parts p roots link roots' link'
made parts p rule roots roots' link link' x id children is same are goes node_is extends es ws link_is states vs leads =
    let q = are.parts states vs leads in
    let width : length children ≡ min (length is.right) (length vs) = width_is q in
    let upper_size : length q.upper ≡ length children = q.size in
    let states_size : length states ≡ length q.lower + length q.upper = ap length q.states_are ∙ length-append q.lower q.upper in
    let vs_size : length vs ≡ length q.under + length children = ap length q.values_are ∙ length-append q.under children in
    let kept : length states - length children ≡ length q.lower = omega (arith, upper_size, states_size) in
    let left : length vs - length children ≡ length q.under = omega (arith, vs_size) in
    let lower : take (length states - length children) states ≡ q.lower =
    ap (λ k. take k states) kept ∙ (ap (take (length q.lower)) q.states_are ∙ take_append (length q.lower) q.lower q.upper refl) in
    let under : take (length vs - length children) vs ≡ q.under =
    ap (λ k. take k vs) left ∙ (ap (take (length q.under)) q.values_are ∙ take_append (length q.under) q.under children refl) in
    let above_them : last (length children) vs ≡ children =
    ap (λ k. drop k vs) left ∙ (ap (drop (length q.under)) q.values_are ∙ drop_append (length q.under) q.under children refl) in
    let next : suc (length roots.entries) ≡ link' = omega (arith, link_is) in (
      q.lower ++ x.state ∷ [],
      q.under ++ stored.Tree id ∷ [],
      subst (λ k. LeadsTo roots'.entries roots'.values k (q.lower ++ x.state ∷ []) (q.under ++ stored.Tree id ∷ [])) next
          (leads_push x (stored.Tree id) es ws same q.leads),
      record {
        left = rule.left;
        right = is.right;
        rule = is.is;
        width = length children;
        width_is = width;
        moved = record {
          target = x.state;
          target_is = λ n at. goes n (subst (λ s. goto_of parts.tables s rule.left ≡ Some n)
              (ap (last_or 0) lower ∙ sym (leads_state q.leads)) at);
          states_are = ap (λ z. z ++ x.state ∷ []) (sym lower);
        };
        id = id;
        node = subst (λ z. IsNode roots'.trees p (values_in roots.trees z) id.0) (sym above_them) node_is;
        values_are = ap (λ z. z ++ stored.Tree id ∷ []) (sym under);
        trees_are = extends;
      },
    )
  where
    none : {below : ℕ} {lower : List ℕ} {under : List Value} → below ≡ 0 → LeadsTo roots.entries roots.values below lower under →
        length under ≡ 0
    none e (bottom s v) = ap length v
    none e (above k y v lower under at has le leads s w) = absurd (omega (arith, e))

    width_is : AreParted roots.entries roots.values states vs x.below children → length children ≡ min (length is.right) (length vs)
    width_is q =
        let total : length vs ≡ length q.under + length children = ap length q.values_are ∙ length-append q.under children in
        let w : rule.width ≡ length is.right = is.width_is in
        let few : length children ≤ rule.width = are.few in
        elim are.enough [
          | inl all ↦ omega (arith, total, w, all)
          | inr at_bottom ↦ let z : length q.under ≡ 0 = none at_bottom q.leads in omega (arith, total, w, few, z)
        ]

module _ (parts : LanguageParts) (ok : IsLanguage parts.language) (of : AreTablesOf parts.language.grammar parts.tables) (t : ℕ)
    (le : t ≤ parts.language.grammar.terminals) where
  -- a reduction of the tables is one of the machine
  pub step_made : (p : ℕ) (roots roots' : Roots) (link link' : ℕ) → IsSound parts roots →
      action_of parts.tables (state_in roots.entries link) t ≡ Reduce p → IsMade parts p roots link roots' link' →
      AreMade parts t roots link roots' link'
  step_made p roots roots' link link' sound e made_is stack is =
      let top : state_in roots.entries link ≡ last_or 0 is.states = leads_state is.leads in
      let here = subst (λ s. action_of parts.tables s t ≡ Reduce p) top e in
      let (can, r) = reduction parts ok of t le is.states p here stack is.states_are in
      let (states', vs', leads, made_here) = made_is is.states is.vs is.leads in
      go can r states' vs' leads made_here
    where
      go : CanReduce parts.language.grammar (symbols stack) p t → Reduced parts.language.grammar stack p → (states' : List ℕ)
          (vs' : List Value) → LeadsTo roots'.entries roots'.values link' states' vs' →
          IsReduced parts p is.states is.vs roots.trees states' vs' roots'.trees →
          (reduced : Forest) × Reduces parts.language.grammar [] t stack reduced × IsStack parts roots' link' reduced
      go can r states' vs' leads made_here =
          let g = parts.language.grammar in
          let vs = is.vs in
          let trees = roots.trees in
          let (left_is, right_is) =
          production_once g p made_here.left r.left made_here.right (symbols r.children) made_here.rule r.rule in
          let vp = values_split trees vs r.below r.children (is.values_are ∙ ap values_of r.is) in
          let size : length made_here.right ≡ length (symbols r.children) = ap length right_is in
          let total : length vs ≡ length vp.left + length vp.right = ap length vp.is ∙ length-append vp.left vp.right in
          let a : length vp.right ≡ length (symbols r.children) = vp.right_length in
          let w : made_here.width ≡ min (length made_here.right) (length vs) = made_here.width_is in
          let width : made_here.width ≡ length (symbols r.children) = omega arith in
          let kept : length vs - made_here.width ≡ length vp.left = omega arith in
          let lower : take (length vs - made_here.width) vs ≡ vp.left =
          ap (λ k. take k vs) kept ∙ (ap (take (length vp.left)) vp.is ∙ take_append (length vp.left) vp.left vp.right refl) in
          let upper : last made_here.width vs ≡ vp.right =
          ap (λ k. drop k vs) kept ∙ (ap (drop (length vp.left)) vp.is ∙ drop_append (length vp.left) vp.left vp.right refl) in
          let new : Forest = joined r.below (node p r.left r.children nothing) in
          let trees' = roots'.trees in
          let built : Tree = values.node p (values_of r.children) in
          let built_is : values.node p (values_in trees (last made_here.width vs)) ≡ built =
          ap (values.node p) (ap (values_in trees) upper ∙ vp.of_right) in
          let inside : All (IsIn (length trees)) vp.left = all_left (IsIn (length trees)) vp.left vp.right
          (subst (All (IsIn (length trees))) vp.is (leads_inside (length trees) sound.inside is.leads)) in
          let same_left : values_in trees' vp.left ≡ values_of r.below =
          values_extend trees trees' vp.left made_here.trees_are inside ∙ vp.of_left in
          let last_is : value_in trees' (stored.Tree made_here.id) ≡ tree built = ap tree (made_here.node.is ∙ built_is) in
          let pushed : values_in trees' (vp.left ++ stored.Tree made_here.id ∷ []) ≡ values_of new =
          values_in_append trees' vp.left (stored.Tree made_here.id ∷ [])
          ∙ ((λ k. appended (same_left k) (more (last_is k) empty))
          ∙ sym (values_of_joined r.below (node p r.left r.children nothing))) in (
            new,
            reduces p r.left r.below r.children r.is r.rule can (rests refl),
            record {
              states = states';
              vs = vs';
              leads = leads;
              states_are = moved_states of ok.deterministic.in_range is.states stack is.states_are p r made_here.width made_here.left
                  states' made_here.moved width left_is;
              values_are = ap (values_in trees') (made_here.values_are ∙ ap (λ z. z ++ stored.Tree made_here.id ∷ []) lower) ∙ pushed;
            },
          )

  module _ (roots : Roots) (link : ℕ) where
    pub shift_settled : (target : ℕ) → action_of parts.tables (state_in roots.entries link) t ≡ Shift target → (from : Roots) (first : ℕ) →
        AreMade parts t from first roots link → IsSettled parts t from first roots link (Shifts target)
    shift_settled target e from first are stack is =
        let (reduced, red, there) = are stack is in
        let a = acts parts ok of t le there.states (Shift target)
        (subst (λ s. action_of parts.tables s t ≡ Shift target) (leads_state there.leads) e) reduced there.states_are in
        (reduced, red, there, (a.0, a.1))

    pub accept_settled : action_of parts.tables (state_in roots.entries link) t ≡ Accept → (from : Roots) (first : ℕ) →
        AreMade parts t from first roots link → IsSettled parts t from first roots link Accepts
    accept_settled e from first are stack is =
        let (reduced, red, there) = are stack is in
        let here = subst (λ s. action_of parts.tables s t ≡ Accept) (leads_state there.leads) e in
        let can = acts parts ok of t le there.states Accept here reduced there.states_are in
        let (is_end, root) = accepted parts ok of t le there.states here reduced there.states_are in
        (reduced, red, there, (is_end, can, root))

    pub stop_settled : action_of parts.tables (state_in roots.entries link) t ≡ act.None → (from : Roots) (first : ℕ) →
        AreMade parts t from first roots link → IsSettled parts t from first roots link Stops
    stop_settled e from first are stack is =
        let (reduced, red, there) = are stack is in
        let a = acts parts ok of t le there.states act.None
        (subst (λ s. action_of parts.tables s t ≡ act.None) (leads_state there.leads) e) reduced there.states_are in
        (reduced, red, there, (a.0, a.1))

reduces_then : {g : GrammarView} {prefix : List Symbol} {t : ℕ} {stack through stack' : Forest} → Reduces g prefix t stack through →
    Reduces g prefix t through stack' → Reduces g prefix t stack stack'
reduces_then {g} {prefix} {t} {stack' = stack'} (rests e) red = subst (λ z. Reduces g prefix t z stack') (sym e) red
reduces_then (reduces p a below children e rule can rest) red = reduces p a below children e rule can (reduces_then rest red)

-- no reductions, and some after others
pub made_none : (parts : LanguageParts) (t : ℕ) (roots : Roots) (link : ℕ) → AreMade parts t roots link roots link
made_none parts t roots link stack is = (stack, rests refl, is)

pub made_then : (parts : LanguageParts) (t : ℕ) (a b d : Roots) (i j k : ℕ) → AreMade parts t a i b j → AreMade parts t b j d k →
    AreMade parts t a i d k
made_then parts t a b d i j k first second stack is =
    let (through, red, there) = first stack is in
    let (reduced, more_red, last_is) = second through there in (reduced, reduces_then red more_red, last_is)

-- so many of the last values, where there are no more
pub last_all : (n : ℕ) (xs : List Value) → n ≡ length xs → last n xs ≡ xs
last_all n xs e = let none : length xs - n ≡ 0 = omega (arith, e) in ap (λ k. drop k xs) none
