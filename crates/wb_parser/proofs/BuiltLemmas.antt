-- A chain of reductions, as its nodes are built.
use Rattle.std.proofs.Common.{◌≡◌, ◌<◌, ◌≤◌, ◌-◌, ◌+◌, ◌^◌, ℕ, List, [], ◌∷◌, ◌++◌, length, take, refl, sym, ◌∙◌, ap, subst, arith}
use Rattle.std.proofs.Common.{length-append}
use Rattle.std.specs.Prelude.{All, Some}
use Rattle.std.proofs.lemmas.List.{take_at, take_all}
use Rattle.std.proofs.lemmas.List.Elements.{All-push, All-take}
use Rattle.std.proofs.lemmas.Option.{same_Some}
use Rattle.wb_lemmas.proofs.Parts.{take_append}
use Rattle.wb_lemmas.proofs.Elements.{all_left}
use Rattle.wb_lookahead.specs.declared.action.Action.TheVariants.{Reduce}
use Rattle.wb_lookahead.specs.Contents.{TablesView, action_of, goto_of, size_of}
use Rattle.wb_values.specs.Tree.{Tree, node}
use Rattle.wb_values.specs.ValuesIn.{values_in, last, IsIn}
use Rattle.wb_values.specs.declared.value.Value.{Value}
use Rattle.wb_values.specs.declared.value.Value.TheVariants as stored
use Rattle.wb_values.proofs.CallerLemmas.{all_in_more}
use Rattle.wb_scan_theory.specs.Facts.{IsLanguage}
use Rattle.wb_scan_theory.specs.Parts.{AreTablesOf}
use Rattle.wb_scan.specs.Views.{LanguageParts}
use Rattle.wb_parser_states.specs.declared.rules.Rule.{Rule}
use Rattle.wb_parser_states.specs.Chains.{IsChain, link, nothing}
use Rattle.wb_parser_states.specs.Rules.{IsRule}
use Rattle.wb_parser_states.specs.Stacks.{IsMoved, last_or}
use Rattle.wb_parser_states.proofs.StateLemmas.{last_below, top_pushed}
use Rattle.wb_parser_states.proofs.TableLemmas.{goto_below, zero_below}
use Rattle.wb_parser.specs.declared.chains.Chain.{Chain}
use Rattle.wb_parser.specs.Inner.Chains.{AreBuilt, IsChainOf, links_of}
use Rattle.wb_parser.specs.Inner.Stacks.{IsReduction}
use Rattle.wb_parser.specs.Inner.Steps.{AreReduced, IsSound}
use Rattle.wb_parser.proofs.ExtendLemmas.{extends_more}
use Rattle.wb_parser.proofs.StepLemmas.{reduce_case}

-- states with one on top, which makes way for another
moved_top : (tables : TablesView) (xs : List ℕ) (state next left : ℕ) → goto_of tables (last_or 0 xs) left ≡ Some next →
    IsMoved tables (xs ++ state ∷ []) 1 left (xs ++ next ∷ [])
moved_top tables xs state next left goes =
    let kept : length (xs ++ state ∷ []) - 1 ≡ length xs = omega (arith, length-append xs (state ∷ [])) in
    let lower : take (length (xs ++ state ∷ []) - 1) (xs ++ state ∷ []) ≡ xs =
    ap (λ k. take k (xs ++ state ∷ [])) kept ∙ take_append (length xs) xs (state ∷ []) refl in
    record {
      target = next;
      target_is = λ n is. same_Some next n (sym goes ∙ subst (λ z. goto_of tables (last_or 0 z) left ≡ Some n) lower is);
      states_are = ap (λ z. z ++ next ∷ []) (sym lower);
    }

-- the last of some states, and those before it
split_top : (states : List ℕ) → 1 ≤ length states → states ≡ take (length states - 1) states ++ last_or 0 states ∷ []
split_top [] some = absurd (omega arith)
split_top (x ∷ xs) some =
    let e : length (x ∷ xs) - 1 ≡ length xs = omega arith in split x xs ∙ ap (λ k. take k (x ∷ xs) ++ last_or x xs ∷ []) (sym e)
  where
    split : (x : ℕ) (xs : List ℕ) → x ∷ xs ≡ take (length xs) (x ∷ xs) ++ last_or x xs ∷ []
    split x [] = refl
    split x (y ∷ ys) = ap (λ z. x ∷ z) (split y ys)

-- some, and then others
pub reduced_more : (parts : LanguageParts) (t : ℕ) (s0 s1 s2 : List ℕ) (v0 v1 v2 : List Value) (t0 t1 t2 : List Tree)
    → AreReduced parts t s0 v0 t0 s1 v1 t1 → AreReduced parts t s1 v1 t1 s2 v2 t2 → AreReduced parts t s0 v0 t0 s2 v2 t2
reduced_more parts t s0 s1 s2 v0 v1 v2 t0 t1 t2 first others = record {
  carries = λ text prefix at place next n gives are.
      others.carries text prefix at place next n gives (first.carries text prefix at place next n gives are);
  sound = others.sound;
  extends = extends_more t0 t1 t2 first.extends others.extends;
}

module _ (parts : LanguageParts) (ok : IsLanguage parts.language) (of : AreTablesOf parts.language.grammar parts.tables) (t : ℕ)
    (le : t ≤ parts.language.grammar.terminals) where
  -- one reduction of a chain
  linked : (production next state : ℕ) (rule : Rule) (xs : List ℕ) (vs : List Value) (trees : List Tree)
      → action_of parts.tables state t ≡ Reduce production → IsRule parts.language.grammar production rule → rule.width ≡ 1
      → goto_of parts.tables (last_or 0 xs) rule.left ≡ Some next → 1 ≤ length vs → length trees < 2 ^ 64
      → IsSound parts (xs ++ state ∷ []) vs trees
      → AreReduced parts t (xs ++ state ∷ []) vs trees (xs ++ next ∷ [])
      (take (length vs - 1) vs ++ stored.Tree (record { 0 = length trees }) ∷ []) (trees ++ node production (values_in trees (last 1 vs)) ∷ [])
  linked production next state rule xs vs trees act has one goes some fits sound =
      let new = node production (values_in trees (last 1 vs)) in
      let vs' = take (length vs - 1) vs ++ stored.Tree (record { 0 = length trees }) ∷ [] in
      let right_one : length has.right ≡ 1 = sym has.width_is ∙ one in
      let made : IsReduction parts production (xs ++ state ∷ []) vs trees (xs ++ next ∷ []) vs' (trees ++ new ∷ []) = record {
        left = rule.left;
        right = has.right;
        rule = has.is;
        width = 1;
        width_is = omega (arith, right_one, some);
        moved = moved_top parts.tables xs state next rule.left goes;
        id = record { 0 = length trees };
        id_is = refl;
        fits = fits;
        values_are = refl;
        trees_are = refl;
      } in
      let more : length (trees ++ new ∷ []) ≡ length trees + 1 = length-append trees (new ∷ []) in
      let n = size_of parts.tables in
      let lower : All (λ s. s < n) xs = all_left (λ s. s < n) xs (state ∷ []) sound.states_below in
      record {
        carries = reduce_case parts ok of t le production
            (subst (λ z. action_of parts.tables z t ≡ Reduce production) (top_pushed xs (xs ++ state ∷ []) state refl) act) sound made;
        sound = record {
          language = sound.language;
          tables_of = sound.tables_of;
          states_below = All-push (λ s. s < n) xs next lower
              (goto_below of (last_or 0 xs) rule.left next (last_below n 0 xs (zero_below of) lower) has.below goes);
          values_in_store = All-push (IsIn (length (trees ++ new ∷ []))) (take (length vs - 1) vs) (stored.Tree (record { 0 = length trees }))
              (all_in_more (length trees) (length (trees ++ new ∷ [])) (take (length vs - 1) vs) (omega (arith, more))
              (All-take (IsIn (length trees)) (length vs - 1) vs sound.values_in_store)) (omega (arith, more));
        };
        extends = take_at trees (new ∷ []) (length trees) refl;
      }

  -- all reductions of a chain
  pub chain_built : {below state target : ℕ} {productions : List ℕ} →
      IsChain parts.language.grammar parts.tables below t state productions target → (xs : List ℕ) → below ≡ last_or 0 xs →
      (vs : List Value) (trees : List Tree) (vs' : List Value) (trees' : List Tree) → 1 ≤ length vs →
      AreBuilt productions vs trees vs' trees' → IsSound parts (xs ++ state ∷ []) vs trees →
      AreReduced parts t (xs ++ state ∷ []) vs trees (xs ++ target ∷ []) vs' trees'
  chain_built {state = state} {target} (nothing same) xs is vs trees vs' trees' some built sound =
      subst (λ z. AreReduced parts t (xs ++ state ∷ []) vs trees (xs ++ z ∷ []) vs' trees') (sym same)
      (subst (λ ws. AreReduced parts t (xs ++ state ∷ []) vs trees (xs ++ state ∷ []) ws trees') (sym built.0)
      (subst (λ ts. AreReduced parts t (xs ++ state ∷ []) vs trees (xs ++ state ∷ []) vs ts) (sym built.1) (record {
        carries = λ text prefix at place next n gives are. are;
        sound = sound;
        extends = take_all (length trees) trees (omega arith);
      })))
  chain_built {state = state} {target} (link production next rule act has one goes rest) xs is vs trees vs' trees' some built sound =
      let new = node production (values_in trees (last 1 vs)) in
      let ws = take (length vs - 1) vs ++ stored.Tree (record { 0 = length trees }) ∷ [] in
      let goes' : goto_of parts.tables (last_or 0 xs) rule.left ≡ Some next = subst (λ z. goto_of parts.tables z rule.left ≡ Some next) is goes in
      let first = linked production next state rule xs vs trees act has one goes' some built.0 sound in
      let left : 1 ≤ length ws = omega (arith, length-append (take (length vs - 1) vs) (stored.Tree (record { 0 = length trees }) ∷ [])) in
      let others = chain_built rest xs is ws (trees ++ new ∷ []) vs' trees' left built.1 first.sound in
      record {
        carries = λ text prefix at place ahead n gives are.
            others.carries text prefix at place ahead n gives (first.carries text prefix at place ahead n gives are);
        sound = others.sound;
        extends = extends_more trees (trees ++ new ∷ []) trees' first.extends others.extends;
      }

-- those of a kept chain that begins with the states on top
pub kept_built : (parts : LanguageParts) (productions : List ℕ) (chain : Chain) (states : List ℕ) (vs : List Value) (trees : List Tree)
    (vs' : List Value) (trees' : List Tree) → IsChainOf parts.language.grammar parts.tables productions chain → 1 ≤ length states
    → chain.start.state ≡ last_or 0 states → chain.start.below ≡ last_or 0 (take (length states - 1) states) → 1 ≤ length vs
    → AreBuilt (links_of productions chain) vs trees vs' trees' → IsSound parts states vs trees
    → AreReduced parts chain.start.terminal states vs trees (take (length states - 1) states ++ chain.target ∷ []) vs' trees'
kept_built parts productions chain states vs trees vs' trees' is some state_is below_is some_values built sound =
    let xs = take (length states - 1) states in
    let top : states ≡ xs ++ chain.start.state ∷ [] = split_top states some ∙ ap (λ z. xs ++ z ∷ []) (sym state_is) in
    subst (λ ss. AreReduced parts chain.start.terminal ss vs trees (xs ++ chain.target ∷ []) vs' trees') (sym top)
    (chain_built parts sound.language sound.tables_of chain.start.terminal is.start.terminal is.is xs below_is vs trees vs' trees' some_values
    built (subst (λ ss. IsSound parts ss vs trees) top sound))
