-- What reductions beside the states make of them, and what can be done after these.
use Rattle.std.proofs.Common.{◌≡◌, ◌<◌, ◌≤◌, ◌-◌, ◌+◌, ℕ, zero, suc, List, [], ◌∷◌, ◌++◌, length, take, refl, sym, ◌∙◌, ap, subst}
use Rattle.std.proofs.Common.{arith, append_assoc, inl, inr, length-append}
use Rattle.std.specs.Prelude.{All, Some}
use Rattle.std.proofs.lemmas.Bool.{cases_order}
use Rattle.std.proofs.lemmas.List.{length-take-le, take-append-le}
use Rattle.std.proofs.lemmas.List.Elements.{All-append, All-take}
use Rattle.std.proofs.Math.Seq.{take-append-add, take-length}
use Rattle.wb_base.specs.Grammar.{GrammarView}
use Rattle.wb_grammar_theory.specs.Trees.{Forest, IsDerived, leaves, node, nothing, symbols}
use Rattle.wb_grammar_theory.proofs.ProductionLemmas.{production_once}
use Rattle.wb_lookahead.specs.declared.action.Action.TheVariants as act
use Rattle.wb_lookahead.specs.declared.action.Action.TheVariants.{Accept, Reduce, Shift}
use Rattle.wb_lookahead.specs.Contents.{TablesView, action_of, goto_of, size_of}
use Rattle.wb_scan_theory.specs.Machine.{joined}
use Rattle.wb_scan_theory.specs.Parts.{AreTablesOf}
use Rattle.wb_scan_theory.specs.Readings.{Begins, terminals_of}
use Rattle.wb_scan_theory.proofs.FactLemmas.{has_trees, parsable}
use Rattle.wb_scan_theory.proofs.ForestLemmas.{append_nil, derived_joined, derived_left, derived_right}
use Rattle.wb_scan_theory.proofs.StepLemmas.{leaves_reduced, reduce_follows}
use Rattle.wb_scan.specs.Views.{LanguageParts}
use Rattle.wb_parser_states.specs.declared.outcome.Outcome.{Outcome}
use Rattle.wb_parser_states.specs.declared.outcome.Outcome.TheVariants.{Shifts, Accepts, Stops}
use Rattle.wb_parser_states.specs.Stacks.{IsMoved, last_or}
use Rattle.wb_parser_states.proofs.StateLemmas.{last_below}
use Rattle.wb_parser_states.proofs.StepLemmas.{accepted, acts, moved_states, reduction}
use Rattle.wb_parser_states.proofs.TableLemmas.{zero_below}
use Rattle.wb_parser_expected.specs.Inner.Trials.{HasTables, IsMovedBy, IsTried, Leads, Stands, over}
use Rattle.wb_parser_expected.proofs.MachineLemmas.{never_begins, shift_begins, whole_begins}

-- all states, and no further ones
pub over_all : (kept : ℕ) (states extra : List ℕ) → kept ≡ length states → extra ≡ [] → over kept states extra ≡ states
over_all kept states extra kept_is extra_is =
    ap (λ k. take k states ++ extra) kept_is ∙ (ap (λ z. take (length states) states ++ z) extra_is
    ∙ (append_nil (take (length states) states) ∙ take-length states))

take_fewer : (n m : ℕ) (xs : List ℕ) → n ≤ m → take n (take m xs) ≡ take n xs
take_fewer zero zero [] le = refl
take_fewer zero (suc m) [] le = refl
take_fewer zero zero (x ∷ xs) le = refl
take_fewer zero (suc m) (x ∷ xs) le = refl
take_fewer (suc n) zero xs le = absurd (omega arith)
take_fewer (suc n) (suc m) [] le = refl
take_fewer (suc n) (suc m) (x ∷ xs) le = ap (λ z. x ∷ z) (take_fewer n m xs (omega arith))

-- the first of the kept and further states, with so many fewer
pub over_fewer : (states extra : List ℕ) (kept width popped stays fewer : ℕ) → kept ≤ length states → popped ≡ width - length extra →
    stays ≡ length extra - width → fewer ≡ kept - popped →
    take (length (over kept states extra) - width) (over kept states extra) ≡ over fewer states (take stays extra)
over_fewer states extra kept width popped stays fewer within popped_is stays_is fewer_is = elim (cases_order width (length extra)) [
  | inl same ↦ some (omega (arith, same))
  | inr (inl less) ↦ some (omega (arith, less))
  | inr (inr more) ↦ none more
]
  where
    xs : List ℕ
    xs = take kept states

    size : length xs ≡ kept
    size = length-take-le kept states within

    total : length (xs ++ extra) ≡ kept + length extra
    total = length-append xs extra ∙ ap (λ z. z + length extra) size

    some : width ≤ length extra → take (length (xs ++ extra) - width) (xs ++ extra) ≡ take fewer states ++ take stays extra
    some le =
        let all : fewer ≡ kept = omega (arith, le, popped_is, fewer_is) in
        let n : length (xs ++ extra) - width ≡ length xs + stays = omega (arith, le, total, size, stays_is) in
        ap (λ k. take k (xs ++ extra)) n ∙ (take-append-add xs extra stays ∙ ap (λ k. take k states ++ take stays extra) (sym all))

    none : length extra < width → take (length (xs ++ extra) - width) (xs ++ extra) ≡ take fewer states ++ take stays extra
    none lt =
        let n : length (xs ++ extra) - width ≡ fewer = omega (arith, lt, total, popped_is, fewer_is) in
        let le : fewer ≤ kept = omega (arith, fewer_is) in
        let no : stays ≡ 0 = omega (arith, lt, stays_is) in
        let within' : fewer ≤ length xs = omega (arith, le, size) in
        ap (λ k. take k (xs ++ extra)) n ∙ (take-append-le fewer xs extra within' ∙ (take_fewer fewer kept states le
        ∙ (sym (append_nil (take fewer states)) ∙ ap (λ z. take fewer states ++ z) (sym (ap (λ k. take k extra) no ∙ nothing_taken extra)))))
      where
        nothing_taken : (ys : List ℕ) → take 0 ys ≡ []
        nothing_taken [] = refl
        nothing_taken (y ∷ ys) = refl

-- a reduction beside the states moves them
pub over_moved : (tables : TablesView) (states extra cut pushed : List ℕ) (kept width popped stays fewer left target : ℕ) →
    kept ≤ length states → popped ≡ width - length extra → stays ≡ length extra - width → fewer ≡ kept - popped → cut ≡ take stays extra →
    pushed ≡ cut ++ target ∷ [] →
    ((next : ℕ) → goto_of tables (last_or 0 (over fewer states cut)) left ≡ Some next → target ≡ next) →
    IsMoved tables (over kept states extra) width left (over fewer states pushed)
over_moved tables states extra cut pushed kept width popped stays fewer left target within popped_is stays_is fewer_is cut_is pushed_is leads =
    let lower : take (length (over kept states extra) - width) (over kept states extra) ≡ over fewer states cut =
    over_fewer states extra kept width popped stays fewer within popped_is stays_is fewer_is
    ∙ ap (λ z. take fewer states ++ z) (sym cut_is) in
    record {
      target = target;
      target_is = λ next e. leads next (subst (λ z. goto_of tables (last_or 0 z) left ≡ Some next) lower e);
      states_are = ap (λ z. take fewer states ++ z) pushed_is ∙ (sym (append_assoc (take fewer states) cut (target ∷ []))
          ∙ ap (λ z. z ++ target ∷ []) (sym lower));
    }

-- which of them is on top
last_joined : (s : ℕ) (xs : List ℕ) (y : ℕ) (ys : List ℕ) → last_or s (xs ++ y ∷ ys) ≡ last_or y ys
last_joined s [] y ys = refl
last_joined s (x ∷ xs) y ys = last_joined x xs y ys

pub top_further : (kept : ℕ) (states extra : List ℕ) → 1 ≤ length extra → last_or 0 extra ≡ last_or 0 (over kept states extra)
top_further kept states [] some = absurd (omega arith)
top_further kept states (y ∷ ys) some = sym (last_joined 0 (take kept states) y ys)

pub top_kept : (kept : ℕ) (states extra : List ℕ) → length extra ≡ 0 → last_or 0 (take kept states) ≡ last_or 0 (over kept states extra)
top_kept kept states [] none = ap (last_or 0) (sym (append_nil (take kept states)))
top_kept kept states (y ∷ ys) none = absurd (omega (arith, none))

-- each of them is a state of the tables
pub over_below : (n kept : ℕ) (states extra : List ℕ) → All (λ s. s < n) states → All (λ s. s < n) extra →
    All (λ s. s < n) (over kept states extra)
over_below n kept states extra first second =
    All-append (λ s. s < n) (take kept states) extra (All-take (λ s. s < n) kept states first) second

-- so the state on top is one
pub top_over_below : {g : GrammarView} (tables : TablesView) → AreTablesOf g tables → (kept : ℕ) (states extra : List ℕ) (top : ℕ) →
    top ≡ last_or 0 (over kept states extra) → All (λ s. s < size_of tables) states → All (λ s. s < size_of tables) extra →
    top < size_of tables
top_over_below tables of kept states extra top is first second =
    let n = size_of tables in
    subst (λ z. z < n) (sym is) (last_below n 0 (over kept states extra) (zero_below of) (over_below n kept states extra first second))

module _ (parts : LanguageParts) (has : HasTables parts) (t : ℕ) (le : t ≤ parts.language.grammar.terminals) where
  -- a stack of the states leads to itself
  pub leads_itself : (states : List ℕ) → Leads parts t states states
  leads_itself states stack stands = record { stack' = stack; stands = stands; leaves_are = refl }

  -- and, with a reduction, further
  pub leads_reduced : (first states states' : List ℕ) (p : ℕ) → Leads parts t first states →
      action_of parts.tables (last_or 0 states) t ≡ Reduce p → IsMovedBy parts p states states' → Leads parts t first states'
  leads_reduced first states states' p leads e (rule, is, made) stack stands =
      let g = parts.language.grammar in
      let at = leads stack stands in
      let (can, r) = reduction parts has.language has.tables_of t le states p e at.stack' at.stands.states_are in
      let (left_is, right_is) = production_once g p rule.left r.left is.right (symbols r.children) is.is r.rule in
      let d : IsDerived g (joined r.below r.children) = subst (λ z. IsDerived g z) r.is at.stands.derived in
      record {
        stack' = joined r.below (node p r.left r.children nothing);
        stands = record {
          states_are = moved_states has.tables_of has.language.deterministic.in_range states at.stack' at.stands.states_are p r
              rule.width rule.left states' made (is.width_is ∙ ap length right_is) left_is;
          derived = derived_joined g r.below (node p r.left r.children nothing) (derived_left g r.below r.children d)
              (r.rule, derived_right g r.below r.children d, tt);
          viable = r.prefix;
          follows = reduce_follows g (parsable g has.language.deterministic).free at.stack' p t can r at.stands.follows;
        };
        leaves_are = leaves_reduced [] r.below r.children p r.left ∙ (ap (leaves []) (sym r.is) ∙ at.leaves_are);
      }

  -- what the action of the state on top says
  pub shift_tried : (first states : List ℕ) (target : ℕ) → Leads parts t first states →
      action_of parts.tables (last_or 0 states) t ≡ Shift target → IsTried parts t first states (Shifts target)
  shift_tried first states target leads e stack stands =
      let at = leads stack stands in
      let a = acts parts has.language has.tables_of t le states (Shift target) e at.stack' at.stands.states_are in
      record { reaches = at; can = a.0; goes = a.1 }

  pub accept_tried : (first states : List ℕ) → Leads parts t first states → action_of parts.tables (last_or 0 states) t ≡ Accept →
      IsTried parts t first states Accepts
  accept_tried first states leads e stack stands =
      let at = leads stack stands in
      let (is_end, root) = accepted parts has.language has.tables_of t le states e at.stack' at.stands.states_are in
      record { reaches = at; is_end = is_end; root = root }

  pub stuck_tried : (first states : List ℕ) → Leads parts t first states → action_of parts.tables (last_or 0 states) t ≡ act.None →
      IsTried parts t first states Stops
  stuck_tried first states leads e stack stands =
      let at = leads stack stands in
      let a = acts parts has.language has.tables_of t le states act.None e at.stack' at.stands.states_are in
      record { reaches = at; no_shift = a.0; no_reduction = a.1 }

-- what was tried tells whether a tree goes on with the terminal
module _ (parts : LanguageParts) (has : HasTables parts) (t : ℕ) (states states' : List ℕ) where
  pub tried_begins : (outcome : Outcome) → IsTried parts t states states' outcome → (outcome ≡ Stops → ⊥) → (stack : Forest) →
      Stands parts.language.grammar parts.tables states stack t →
      Begins parts.language.grammar (terminals_of (leaves [] stack) ++ t ∷ [])
  tried_begins (Shifts target) tried not stack stands =
      let g = parts.language.grammar in
      let c = tried stack stands in
      subst (λ z. Begins g (terminals_of z ++ t ∷ [])) c.reaches.leaves_are
      (shift_begins g (has_trees g has.language.deterministic) c.reaches.stack' t c.reaches.stands.derived c.can)
  tried_begins Accepts tried not stack stands =
      let g = parts.language.grammar in
      let w = tried stack stands in
      subst (λ z. Begins g (terminals_of z ++ t ∷ [])) w.reaches.leaves_are
      (subst (λ z. Begins g (terminals_of (leaves [] w.reaches.stack') ++ z ∷ [])) (sym w.is_end)
      (whole_begins g w.reaches.stack' w.reaches.stands.derived w.root))
  tried_begins Stops tried not stack stands = absurd (not refl)

  pub tried_never : IsTried parts t states states' Stops → (stack : Forest) → Stands parts.language.grammar parts.tables states stack t →
      Begins parts.language.grammar (terminals_of (leaves [] stack) ++ t ∷ []) → ⊥
  tried_never tried stack stands b =
      let g = parts.language.grammar in
      let s = tried stack stands in
      never_begins g s.reaches.stack' t s.reaches.stands.follows s.no_shift s.no_reduction
      (subst (λ z. Begins g (terminals_of z ++ t ∷ [])) (sym s.reaches.leaves_are) b)
