-- What reductions make of states, and what can be done after them.
use Rattle.std.proofs.Common.{◌≡◌, ◌<◌, ◌≤◌, ◌+◌, ◌-◌, ◌⊎◌, ℕ, List, [], ◌∷◌, ◌++◌, length, take, refl, sym, ◌∙◌, ap, subst, inl, inr}
use Rattle.std.proofs.Common.{arith, length-append}
use Rattle.std.specs.Prelude.{All, Some}
use Rattle.wb_lemmas.proofs.Parts.{take_append}
use Rattle.wb_base.specs.declared.symbol.Symbol.{Symbol}
use Rattle.wb_base.specs.declared.symbol.Symbol.TheVariants.{Nonterminal}
use Rattle.wb_base.specs.Grammar.{GrammarView, IsGrammar}
use Rattle.wb_grammar_theory.specs.Productions.{end_of, top_of}
use Rattle.wb_grammar_theory.specs.Trees.{Forest, Leaf, leaves, nothing, node, symbols}
use Rattle.wb_grammar_theory.specs.Items.{IsViablePrefix}
use Rattle.wb_grammar_theory.specs.Lookaheads.{CanReduce}
use Rattle.wb_grammar_theory.proofs.ProductionLemmas.{production_once, production_below}
use Rattle.wb_lookahead.specs.declared.action.Action.{Action}
use Rattle.wb_lookahead.specs.declared.action.Action.TheVariants as act
use Rattle.wb_lookahead.specs.declared.action.Action.TheVariants.{Shift, Reduce, Accept}
use Rattle.wb_lookahead.specs.Contents.{TablesView, size_of, action_of, goto_of}
use Rattle.wb_scan_theory.specs.Tokens.{Next, NextToken}
use Rattle.wb_scan_theory.specs.Readings.{Gives}
use Rattle.wb_scan_theory.specs.Facts.{IsLanguage}
use Rattle.wb_scan_theory.specs.Parts.{AreTablesOf}
use Rattle.wb_scan_theory.specs.Machine.{joined}
use Rattle.wb_scan_theory.proofs.ForestLemmas.{symbols_joined}
use Rattle.wb_scan_theory.proofs.AgreeLemmas.{not_top}
use Rattle.wb_scan_theory.proofs.BackLemmas.{Reduced, reduction_finds}
use Rattle.wb_scan_theory.proofs.StepLemmas.{leaves_reduced, reduce_keeps}
use Rattle.wb_scan_theory.proofs.FactLemmas.{parsable}
use Rattle.wb_scan_theory.proofs.TextLemmas.{is_one}
use Rattle.wb_scan.specs.Views.{LanguageParts}
use Rattle.wb_parser_states.specs.declared.rules.Rule.{Rule}
use Rattle.wb_parser_states.specs.Rules.{IsRule}
use Rattle.wb_parser_states.specs.Stacks.{AreStates, IsMoved, last_or}
use Rattle.wb_parser_states.specs.Steps.{AreAt, LeadTo, AreWhole, AreStuck}
use Rattle.wb_parser_states.proofs.TableLemmas.{ActsAt, acts_at, goto_at, IsActionBelow, action_below, zero_below}
use Rattle.wb_parser_states.proofs.StateLemmas.{at_top, last_below, states_split, states_push}

-- after a reduction the states are those of the stack with a node over its last trees
pub moved_states : {g : GrammarView} {tables : TablesView} → AreTablesOf g tables → IsGrammar g → (states : List ℕ) (stack : Forest) →
    AreStates g tables [] states stack → (p : ℕ) (r : Reduced g stack p) (width left : ℕ) (states' : List ℕ) →
    IsMoved tables states width left states' → width ≡ length (symbols r.children) → left ≡ r.left →
    AreStates g tables [] states' (joined r.below (node p r.left r.children nothing))
moved_states {g} {tables} of in_range states stack are p r width left states' made width_is left_is =
    let new : Forest = joined r.below (node p r.left r.children nothing) in
    let sp = states_split g tables [] states r.below r.children (subst (AreStates g tables [] states) r.is are) in
    let total : length states ≡ length sp.left + length sp.right = ap length sp.is ∙ length-append sp.left sp.right in
    let last_ones : length sp.right ≡ length (symbols r.children) = sp.right_length in
    let kept : length states - width ≡ length sp.left = omega (arith, width_is) in
    let lower : take (length states - width) states ≡ sp.left =
    ap (λ k. take k states) kept ∙ (ap (take (length sp.left)) sp.is ∙ take_append (length sp.left) sp.left sp.right refl) in
    let named : symbols new ≡ symbols r.below ++ Nonterminal r.left ∷ [] = symbols_joined r.below (node p r.left r.children nothing) in
    let left_below = (production_below g p r.left (symbols r.children) in_range r.rule).left in
    let (n, goto_is, goes) = goto_at (at_top of sp.left r.below sp.of_left) r.left left_below (subst (IsViablePrefix g) named r.prefix) in
    let target_is : made.target ≡ n = made.target_is n (subst (λ z. goto_of tables (last_or 0 z) left ≡ Some n) (sym lower)
    (subst (λ z. goto_of tables (last_or 0 sp.left) z ≡ Some n) (sym left_is) goto_is)) in
    subst (λ z. AreStates g tables [] z new) ((λ k. sym lower k ++ sym target_is k ∷ []) ∙ sym made.states_are)
    (states_push g tables [] sp.left r.below n p r.left r.children sp.of_left goes)

module _ (parts : LanguageParts) (ok : IsLanguage parts.language) (of : AreTablesOf parts.language.grammar parts.tables) (t : ℕ)
    (le : t ≤ parts.language.grammar.terminals) (states : List ℕ) where
  -- the action of the state on top is that at the symbols of the stack
  pub acts : (action : Action) → action_of parts.tables (last_or 0 states) t ≡ action → (stack : Forest) →
      AreStates parts.language.grammar parts.tables [] states stack → ActsAt parts.language.grammar parts.tables (symbols stack) t action
  acts action e stack are =
      subst (ActsAt parts.language.grammar parts.tables (symbols stack) t) e (acts_at (at_top of states stack are) t le)

  -- it names a state or a production that there is
  pub act_below : (action : Action) → action_of parts.tables (last_or 0 states) t ≡ action → All (λ s. s < size_of parts.tables) states →
      IsActionBelow parts.language.grammar parts.tables action
  act_below action e below =
      subst (IsActionBelow parts.language.grammar parts.tables) e
      (action_below of (last_or 0 states) t (last_below (size_of parts.tables) 0 states (zero_below of) below) le)

  -- what can be reduced is the whole start, or the last trees of the stack
  pub finds : (stack : Forest) (p : ℕ) → CanReduce parts.language.grammar (symbols stack) p t →
      ((p ≡ top_of parts.language.grammar) × (t ≡ end_of parts.language.grammar) ×
      (symbols stack ≡ Nonterminal parts.language.grammar.start ∷ [])) ⊎ Reduced parts.language.grammar stack p
  finds stack p can = reduction_finds parts.language.grammar (parsable parts.language.grammar ok.deterministic).live stack p t can

  -- where the text is accepted, the stack is the start, and the terminal is the end
  pub accepted : action_of parts.tables (last_or 0 states) t ≡ Accept → (stack : Forest) →
      AreStates parts.language.grammar parts.tables [] states stack →
      (t ≡ end_of parts.language.grammar) × (symbols stack ≡ Nonterminal parts.language.grammar.start ∷ [])
  accepted e stack are = elim (finds stack (top_of parts.language.grammar) (acts Accept e stack are)) [
    | inl (same, is_end, root) ↦ (is_end, root)
    | inr r ↦ absurd (not_top parts.language.grammar (top_of parts.language.grammar) r.left (symbols r.children) r.rule refl)
  ]

  -- what is reduced is the last trees of the stack
  pub reduction : (p : ℕ) → action_of parts.tables (last_or 0 states) t ≡ Reduce p → (stack : Forest) →
      AreStates parts.language.grammar parts.tables [] states stack →
      CanReduce parts.language.grammar (symbols stack) p t × Reduced parts.language.grammar stack p
  reduction p e stack are = go (acts (Reduce p) e stack are)
    where
      go : (p < length parts.language.grammar.productions) × CanReduce parts.language.grammar (symbols stack) p t →
          CanReduce parts.language.grammar (symbols stack) p t × Reduced parts.language.grammar stack p
      go (lt, can) = elim (finds stack p can) [
        | inl (top, is_end, root) ↦ absurd (omega arith)
        | inr r ↦ (can, r)
      ]

  pub shift_case : (target : ℕ) → action_of parts.tables (last_or 0 states) t ≡ Shift target → (text : List ℕ) (read : List Leaf)
      (prefix : List Symbol) (at : ℕ) → AreAt parts text states read prefix at → LeadTo parts text states read prefix at t target
  shift_case target e text read prefix at are =
      let a = acts (Shift target) e are.stack are.states_are in record { are = are; can = a.0; goes = a.1 }

  pub accept_case : action_of parts.tables (last_or 0 states) t ≡ Accept → (text : List ℕ) (read : List Leaf) (prefix : List Symbol)
      (at : ℕ) → AreAt parts text states read prefix at → AreWhole parts text states read prefix at t
  accept_case e text read prefix at are =
      let (is_end, root) = accepted e are.stack are.states_are in record { are = are; is_end = is_end; root = root }

  pub stuck_case : action_of parts.tables (last_or 0 states) t ≡ act.None → (text : List ℕ) (read : List Leaf) (prefix : List Symbol)
      (at : ℕ) → AreAt parts text states read prefix at → AreStuck parts text states read prefix at t
  stuck_case e text read prefix at are =
      let a = acts act.None e are.stack are.states_are in record { are = are; no_shift = a.0; no_reduction = a.1 }

  -- a reduction leaves the leaves as they are
  pub reduce_case : (p : ℕ) → action_of parts.tables (last_or 0 states) t ≡ Reduce p → (rule : Rule) →
      IsRule parts.language.grammar p rule → (states' : List ℕ) → IsMoved parts.tables states rule.width rule.left states' →
      (text : List ℕ) (read : List Leaf) (prefix : List Symbol) (at place : ℕ) (next : Next) →
      NextToken parts.language text prefix at next → Gives parts.language.grammar next t place →
      AreAt parts text states read prefix at → AreAt parts text states' read prefix at
  reduce_case p e rule is states' made text read prefix at place next n gives are =
      let g = parts.language.grammar in
      let (can, r) = reduction p e are.stack are.states_are in
      let (left_is, right_is) = production_once g p rule.left r.left is.right (symbols r.children) is.is r.rule in
      record {
        stack = joined r.below (node p r.left r.children nothing);
        states_are = moved_states of ok.deterministic.in_range states are.stack are.states_are p r rule.width rule.left states' made
            (is.width_is ∙ ap length right_is) left_is;
        leaves_are = leaves_reduced [] r.below r.children p r.left ∙ (ap (leaves []) (sym r.is) ∙ are.leaves_are);
        keeps = reduce_keeps g (parsable g ok.deterministic).free (NextToken parts.language text) (is_one parts.language ok text) are.stack
            prefix at are.keeps p next t place n gives can r;
      }

  -- and the state below its children leads somewhere by the left side
  pub goto_there : (p : ℕ) → action_of parts.tables (last_or 0 states) t ≡ Reduce p → (rule : Rule) →
      IsRule parts.language.grammar p rule → (text : List ℕ) (read : List Leaf) (prefix : List Symbol) (at : ℕ) →
      AreAt parts text states read prefix at →
      (n : ℕ) × (goto_of parts.tables (last_or 0 (take (length states - rule.width) states)) rule.left ≡ Some n)
  goto_there p e rule is text read prefix at are =
      let g = parts.language.grammar in
      let (can, r) = reduction p e are.stack are.states_are in
      let (left_is, right_is) = production_once g p rule.left r.left is.right (symbols r.children) is.is r.rule in
      let sp = states_split g parts.tables [] states r.below r.children (subst (AreStates g parts.tables [] states) r.is are.states_are) in
      let total : length states ≡ length sp.left + length sp.right = ap length sp.is ∙ length-append sp.left sp.right in
      let width : rule.width ≡ length (symbols r.children) = is.width_is ∙ ap length right_is in
      let kept : length states - rule.width ≡ length sp.left = let other = sp.right_length in omega (arith, width, total, other) in
      let lower : take (length states - rule.width) states ≡ sp.left =
      ap (λ k. take k states) kept ∙ (ap (take (length sp.left)) sp.is ∙ take_append (length sp.left) sp.left sp.right refl) in
      let named = symbols_joined r.below (node p r.left r.children nothing) in
      let left_below = (production_below g p r.left (symbols r.children) ok.deterministic.in_range r.rule).left in
      let (n, goto_is, goes) = goto_at (at_top of sp.left r.below sp.of_left) r.left left_below (subst (IsViablePrefix g) named r.prefix) in (
        n,
        subst (λ z. goto_of parts.tables (last_or 0 z) rule.left ≡ Some n) (sym lower)
            (subst (λ z. goto_of parts.tables (last_or 0 sp.left) z ≡ Some n) (sym left_is) goto_is),
      )
