-- What each step of the parser keeps.
use Rattle.std.proofs.Common.{◌≡◌, ◌≤◌, ◌+◌, ◌-◌, ℕ, List, [], ◌∷◌, ◌++◌, length, take, drop, refl, sym, ◌∙◌, ap, subst}
use Rattle.std.proofs.Common.{arith, length-append}
use Rattle.std.specs.Prelude.{All, min}
use Rattle.wb_lemmas.proofs.Parts.{take_append, drop_append}
use Rattle.wb_lemmas.proofs.Elements.{all_left}
use Rattle.wb_base.specs.declared.symbol.Symbol.{Symbol}
use Rattle.wb_grammar_theory.specs.Trees.{Forest, nothing, node, symbols}
use Rattle.wb_grammar_theory.specs.Lookaheads.{CanReduce}
use Rattle.wb_grammar_theory.proofs.ProductionLemmas.{production_once}
use Rattle.wb_lookahead.specs.declared.action.Action.TheVariants as act
use Rattle.wb_lookahead.specs.declared.action.Action.TheVariants.{Shift, Reduce, Accept}
use Rattle.wb_lookahead.specs.Contents.{action_of}
use Rattle.wb_values.specs.Tree.{Tree, empty, more, tree}
use Rattle.wb_values.specs.Tree as values
use Rattle.wb_values.specs.ValuesIn.{tree_in, value_in, values_in, IsIn, last}
use Rattle.wb_values.specs.declared.value.Value.{Value}
use Rattle.wb_values.specs.declared.value.Value.TheVariants as stored
use Rattle.wb_values.proofs.CallerLemmas.{tree_in_push}
use Rattle.wb_values.proofs.Grown.{values-stable}
use Rattle.wb_scan_theory.specs.declared.stop_kind.StopKind.TheVariants.{Unexpected}
use Rattle.wb_scan_theory.specs.Tokens.{Next, NextToken}
use Rattle.wb_scan_theory.specs.Readings.{Gives}
use Rattle.wb_scan_theory.specs.Texts.{StopsAt}
use Rattle.wb_scan_theory.specs.Facts.{IsLanguage}
use Rattle.wb_scan_theory.specs.Shown.{values_of}
use Rattle.wb_scan_theory.specs.Parts.{AreTablesOf}
use Rattle.wb_scan_theory.specs.Machine.{joined}
use Rattle.wb_scan_theory.proofs.BackLemmas.{Reduced}
use Rattle.wb_scan_theory.proofs.StepLemmas.{reduce_keeps, no_action_stops}
use Rattle.wb_scan_theory.proofs.FactLemmas.{parsable}
use Rattle.wb_scan_theory.proofs.TextLemmas.{is_one}
use Rattle.wb_scan.specs.Views.{LanguageParts}
use Rattle.wb_parser_states.specs.Stacks.{last_or}
use Rattle.wb_parser_states.proofs.StepLemmas.{acts, accepted, moved_states, reduction}
use Rattle.wb_parser.specs.Inner.Stacks.{IsReduction}
use Rattle.wb_parser.specs.Inner.Steps.{IsSound, IsAt, CanGo, IsWhole}
use Rattle.wb_parser.proofs.ValueLemmas.{appended, values_in_append, values_of_joined, values_split}

module _ (parts : LanguageParts) (ok : IsLanguage parts.language) (of : AreTablesOf parts.language.grammar parts.tables) (t : ℕ)
    (le : t ≤ parts.language.grammar.terminals) {states : List ℕ} {vs : List Value} {trees : List Tree} where
  pub shift_case : (target : ℕ) → action_of parts.tables (last_or 0 states) t ≡ Shift target → (source : List ℕ) (prefix : List Symbol)
      (at : ℕ) → IsAt parts source states vs trees prefix at → CanGo parts source states vs trees prefix at t target
  shift_case target e source prefix at is =
      let a = acts parts ok of t le states (Shift target) e is.stack is.states_are in record { is = is; can = a.0; goes = a.1 }

  pub accept_case : action_of parts.tables (last_or 0 states) t ≡ Accept → (source : List ℕ) (prefix : List Symbol) (at : ℕ) →
      IsAt parts source states vs trees prefix at → IsWhole parts source states vs trees prefix at t
  accept_case e source prefix at is =
      let (is_end, root) = accepted parts ok of t le states e is.stack is.states_are in record { is = is; is_end = is_end; root = root }

  pub stuck_case : action_of parts.tables (last_or 0 states) t ≡ act.None → (source : List ℕ) (prefix : List Symbol) (at place : ℕ)
      (next : Next) → NextToken parts.language source prefix at next → Gives parts.language.grammar next t place →
      IsAt parts source states vs trees prefix at → StopsAt parts.language source place (Unexpected t)
  stuck_case e source prefix at place next n gives is =
      let a = acts parts ok of t le states act.None e is.stack is.states_are in
      no_action_stops parts.language.grammar (parsable parts.language.grammar ok.deterministic).productive
      (NextToken parts.language source) is.stack prefix at t place is.keeps next n gives a.0 a.1

  module _ (p : ℕ) (e : action_of parts.tables (last_or 0 states) t ≡ Reduce p) (sound : IsSound parts states vs trees)
      {states' : List ℕ} {vs' : List Value} {trees' : List Tree} (made : IsReduction parts p states vs trees states' vs' trees') where
    reduced : (source : List ℕ) (prefix : List Symbol) (at place : ℕ) (next : Next) → NextToken parts.language source prefix at next →
        Gives parts.language.grammar next t place → (is : IsAt parts source states vs trees prefix at) →
        CanReduce parts.language.grammar (symbols is.stack) p t → Reduced parts.language.grammar is.stack p →
        IsAt parts source states' vs' trees' prefix at
    reduced source prefix at place next n gives is can r =
        let g = parts.language.grammar in
        let (left_is, right_is) = production_once g p made.left r.left made.right (symbols r.children) made.rule r.rule in
        let vp = values_split trees vs r.below r.children (is.values_are ∙ ap values_of r.is) in
        let size : length made.right ≡ length (symbols r.children) = ap length right_is in
        let total : length vs ≡ length vp.left + length vp.right = ap length vp.is ∙ length-append vp.left vp.right in
        let a : length vp.right ≡ length (symbols r.children) = vp.right_length in
        let w : made.width ≡ min (length made.right) (length vs) = made.width_is in
        let width : made.width ≡ length (symbols r.children) = omega arith in
        let kept : length vs - made.width ≡ length vp.left = omega arith in
        let lower : take (length vs - made.width) vs ≡ vp.left =
        ap (λ k. take k vs) kept ∙ (ap (take (length vp.left)) vp.is ∙ take_append (length vp.left) vp.left vp.right refl) in
        let upper : last made.width vs ≡ vp.right =
        ap (λ k. drop k vs) kept ∙ (ap (drop (length vp.left)) vp.is ∙ drop_append (length vp.left) vp.left vp.right refl) in
        let new : Forest = joined r.below (node p r.left r.children nothing) in
        let built : Tree = values.node p (values_of r.children) in
        let built_is : values.node p (values_in trees (last made.width vs)) ≡ built =
        ap (values.node p) (ap (values_in trees) upper ∙ vp.of_right) in
        let trees_is : trees' ≡ trees ++ built ∷ [] = made.trees_are ∙ ap (λ z. trees ++ z ∷ []) built_is in
        let inside : All (IsIn (length trees)) vp.left = all_left (IsIn (length trees)) vp.left vp.right
        (subst (All (IsIn (length trees))) vp.is sound.values_in_store) in
        let same_left : values_in (trees ++ built ∷ []) vp.left ≡ values_of r.below =
        values-stable trees (built ∷ []) vp.left inside ∙ vp.of_left in
        let last_is : value_in (trees ++ built ∷ []) (stored.Tree made.id) ≡ tree built =
        ap tree (ap (tree_in (trees ++ built ∷ [])) made.id_is ∙ tree_in_push trees [] built) in
        let pushed : values_in (trees ++ built ∷ []) (vp.left ++ stored.Tree made.id ∷ []) ≡ values_of new =
        values_in_append (trees ++ built ∷ []) vp.left (stored.Tree made.id ∷ [])
        ∙ ((λ k. appended (same_left k) (more (last_is k) empty)) ∙ sym (values_of_joined r.below (node p r.left r.children nothing))) in
        record {
          stack = new;
          states_are = moved_states of ok.deterministic.in_range states is.stack is.states_are p r made.width made.left states' made.moved
              width left_is;
          values_are = subst (λ z. values_in z vs' ≡ values_of new) (sym trees_is)
              (ap (values_in (trees ++ built ∷ [])) (made.values_are ∙ ap (λ z. z ++ stored.Tree made.id ∷ []) lower) ∙ pushed);
          keeps = reduce_keeps g (parsable g ok.deterministic).free (NextToken parts.language source)
              (is_one parts.language ok source) is.stack
              prefix at is.keeps p next t place n gives can r;
        }

    pub reduce_case : (source : List ℕ) (prefix : List Symbol) (at place : ℕ) (next : Next) →
        NextToken parts.language source prefix at next →
        Gives parts.language.grammar next t place → IsAt parts source states vs trees prefix at →
        IsAt parts source states' vs' trees' prefix at
    reduce_case source prefix at place next n gives is =
        let (can, r) = reduction parts ok of t le states p e is.stack is.states_are in reduced source prefix at place next n gives is can r
