-- Steps: each goes on to a fit state, and so many steps as are made before the end are fewer after each.
use Rattle.std.proofs.Common.{◌≡◌, ℕ, ◌+◌, ◌/◌, ◌%◌, zero, suc, ◌<◌, ◌≤◌, Bool, true, false, not, ◌&&◌, List, [], ◌∷◌, length, get_or}
use Rattle.std.proofs.Common.{refl, sym, ◌∙◌, ap, subst, arith, Some, None}
use Rattle.std.specs.Prelude.{Option, ◌==◌, slice_get, slice_index}
use Rattle.std.proofs.Math.Nat.{mod-lt}
use Rattle.std.proofs.lemmas.Bool.{eqb-true, true≢false}
use Rattle.std.proofs.lemmas.List.Elements.{All-head}
use Rattle.std.proofs.lemmas.Option.{slice_get-get_or}
use Rattle.wb_base.specs.declared.symbol.Symbol.{Symbol}
use Rattle.wb_base.specs.declared.symbol.Symbol.TheVariants.{Terminal, Nonterminal}
use Rattle.wb_base.specs.Grammar.{GrammarView, Production, IsSymbolBelow, IsGrammar}
use Rattle.wb_generate.specs.Counts.{AreLeast, total}
use Rattle.wb_generate.specs.Draws.{admits, draw, upper, candidates, chosen_of, wants, IsChosen}
use Rattle.wb_generate.specs.Making.{Makes}
use Rattle.wb_generate.specs.Inner.States.{State, before, IsFit, GoesOn}
use Rattle.wb_generate.specs.Inner.Runs.{IsUnderWay, after, next, next_in, replaced_by, steps, steps_in, taken, without}
use Rattle.wb_generate.proofs.ChoiceLemmas.{chosen_rule, some_candidate, filter_from, admitted}
use Rattle.wb_generate.proofs.MakeLemmas.{goes_removed, goes_replaced, goes_shown, leads_none, leads_on, makes_all, rule_known}

-- among some elements a number chooses one
chosen_within : (list : List Production) (r : ℕ) → 0 < length list → chosen_of list r ≡ None → ⊥
chosen_within list r some none =
    let at : slice_get list (r / 4 % length list) ≡ Some (get_or list (r / 4 % length list) (0, [])) =
    slice_get-get_or list (r / 4 % length list) (0, []) (mod-lt (r / 4) some) in
    absurd (cc (sym none ∙ at))

not_zero : (n : ℕ) (b : Bool) → (not (n == 0) && b) ≡ true → 0 < n
not_zero zero b e = absurd (true≢false (sym e))
not_zero (suc n) b e = omega arith

-- among which a number chooses, there is one
some_candidates : (g : GrammarView) (limit : ℕ) (counts : List ℕ) (a spare r : ℕ) → AreLeast g limit counts → a < g.nonterminals →
    slice_index counts a < limit → 0 < length (candidates g counts a spare (wants g counts a spare r))
some_candidates g limit counts a spare r least lt less = by_wish (wants g counts a spare r) refl
  where
    by_wish : (b : Bool) → wants g counts a spare r ≡ b → 0 < length (candidates g counts a spare b)
    by_wish false e = some_candidate g limit counts a spare least lt less
    by_wish true e = not_zero (length (candidates g counts a spare true)) (not (r % 4 == 0)) e

-- what is chosen is a production of the nonterminal
pub chosen_is : (g : GrammarView) (counts : List ℕ) (a spare r left : ℕ) (right : List Symbol) →
    chosen_of (candidates g counts a spare (wants g counts a spare r)) r ≡ Some (left, right) → IsChosen g counts a spare r right
chosen_is g counts a spare r left right chosen =
    let grow : Bool = wants g counts a spare r in
    let f = filter_from (admits counts a spare grow) g.productions (r / 4 % length (candidates g counts a spare grow)) (left, right) chosen in
    let same : left ≡ a = (admitted counts a spare grow (left, right) f.2).0 in
    subst (λ z. chosen_of (candidates g counts a spare grow) r ≡ Some (z, right)) same chosen

module _ (g : GrammarView) (limit : ℕ) (counts : List ℕ) where
  -- a state without a form stays
  pub after_end : (n : ℕ) (s : State) → s.form ≡ [] → after g counts n s ≡ s
  after_end zero s end = refl
  after_end (suc n) s end =
      let stays : next g counts s ≡ s = ap (λ z. next_in g counts z s) end in
      ap (after g counts n) stays ∙ after_end n s end

  -- one step more
  pub after_next : (n : ℕ) (s : State) → after g counts n (next g counts s) ≡ next g counts (after g counts n s)
  after_next zero s = refl
  after_next (suc n) s = after_next n (next g counts s)

  -- where so many steps leave nothing, one step more does too
  pub ends_next : (n : ℕ) (s : State) → (after g counts n s).form ≡ [] → (after g counts n (next g counts s)).form ≡ []
  ends_next n s ends =
      ap (λ (z : State). z.form) (after_next n s ∙ ap (λ z. next_in g counts z (after g counts n s)) ends) ∙ ends

  -- steps that come after the end aren't counted
  steps_more : (n : ℕ) (s : State) → (after g counts n s).form ≡ [] → steps g counts (suc n) s ≡ steps g counts n s
  steps_more zero s ends = ap (λ z. steps_in g counts (steps g counts 0) z s) ends
  steps_more (suc n) s ends = by_form s.form refl (steps_more n (next g counts s) ends)
    where
      by_form : (w : List Symbol) → s.form ≡ w →
          steps g counts (suc n) (next g counts s) ≡ steps g counts n (next g counts s) →
          steps_in g counts (steps g counts (suc n)) w s ≡ steps_in g counts (steps g counts n) w s
      by_form [] e rest = refl
      by_form (x ∷ form) e rest =
          let same : next_in g counts (x ∷ form) s ≡ next g counts s = ap (λ z. next_in g counts z s) (sym e) in
          ap suc (ap (steps g counts (suc n)) same ∙ (rest ∙ ap (steps g counts n) (sym same)))

  -- fewer are left after a step
  pub steps_fewer : (n : ℕ) (s : State) → (s.form ≡ [] → ⊥) → (after g counts n s).form ≡ [] →
      steps g counts n (next g counts s) < steps g counts n s
  steps_fewer zero s some ends = absurd (some ends)
  steps_fewer (suc n) s some ends = by_form s.form refl
    where
      by_form : (w : List Symbol) → s.form ≡ w →
          steps g counts (suc n) (next g counts s) < steps_in g counts (steps g counts n) w s
      by_form [] e = absurd (some e)
      by_form (x ∷ form) e =
          let same : next_in g counts (x ∷ form) s ≡ next g counts s = ap (λ z. next_in g counts z s) (sym e) in
          let f : steps g counts n (next_in g counts (x ∷ form) s) ≡ steps g counts n (next g counts s) = ap (steps g counts n) same in
          let h : steps g counts (suc n) (next g counts s) ≡ steps g counts n (next g counts s) = steps_more n (next g counts s) ends in
          omega (arith, f, h)

  module _ (most : ℕ) (least : AreLeast g limit counts) (few : most < limit) (is : IsGrammar g) where
    abbrev chosen_at : ℕ → State → Option Production
    chosen_at a s =
        chosen_of (candidates g counts a s.spare (wants g counts a s.spare (upper (draw s.number)))) (upper (draw s.number))

    -- there is a choice
    pub no_choice : (a : ℕ) (s : State) → IsFit g counts most (before (Nonterminal a) s) → chosen_at a s ≡ None → ⊥
    no_choice a s fit none =
        let below : a < g.nonterminals = All-head (IsSymbolBelow g.terminals g.nonterminals) (Nonterminal a) s.form fit.known in
        let room : s.spare + (slice_index counts a + total counts s.form) ≤ most = fit.few in
        none_chosen (wants g counts a s.spare (upper (draw s.number)))
        (some_candidates g limit counts a s.spare (upper (draw s.number)) least below (omega (arith, room, few))) none
      where
        none_chosen : (grow : Bool) → 0 < length (candidates g counts a s.spare grow) →
            chosen_of (candidates g counts a s.spare grow) (upper (draw s.number)) ≡ None → ⊥
        none_chosen grow some at = chosen_within (candidates g counts a s.spare grow) (upper (draw s.number)) some at

    -- what is chosen is a production of the nonterminal
    goes_chosen : (a : ℕ) (s : State) (o : Option Production) → chosen_at a s ≡ o → IsFit g counts most (before (Nonterminal a) s) →
        0 < s.spare + slice_index counts a → GoesOn g counts most (before (Nonterminal a) s) (replaced_by g counts a o s)
    goes_chosen a s None chosen fit some = absurd (no_choice a s fit chosen)
    goes_chosen a s (Some (left, right)) chosen fit some =
        let is_chosen = chosen_is g counts a s.spare (upper (draw s.number)) left right chosen in
        let rule = chosen_rule g counts a s.spare (upper (draw s.number)) right is_chosen in
        goes_replaced g counts most a right s (replaced_by g counts a (Some (left, right)) s) fit (rule_known g rule.0 a right is rule.1) some
        is_chosen refl refl refl refl

    goes_without : (a : ℕ) (s : State) (b : Bool) → (s.spare + slice_index counts a == 0) ≡ b → IsFit g counts most (before (Nonterminal a) s) →
        GoesOn g counts most (before (Nonterminal a) s) (without g counts a b s)
    goes_without a s true over fit = goes_removed g counts most a s fit (eqb-true (s.spare + slice_index counts a) 0 over)
    goes_without a s false over fit = goes_chosen a s (chosen_at a s) refl fit (some_needed (s.spare + slice_index counts a) over)
      where
        some_needed : (n : ℕ) → (n == 0) ≡ false → 0 < n
        some_needed zero e = absurd (true≢false e)
        some_needed (suc n) e = omega arith

    goes_taken : (x : Symbol) (s : State) → IsFit g counts most (before x s) →
        GoesOn g counts most (before x s) (taken g counts x s)
    goes_taken (Terminal t) s fit = goes_shown g counts most (before (Terminal t) s) (taken g counts (Terminal t) s) t fit refl refl refl refl
    goes_taken (Nonterminal a) s fit = goes_without a s (s.spare + slice_index counts a == 0) refl fit

    -- a step goes on
    pub goes_next : (s : State) → IsFit g counts most s → GoesOn g counts most s (next g counts s)
    goes_next s fit = by_form s.form refl
      where
        by_form : (w : List Symbol) → s.form ≡ w → GoesOn g counts most s (next_in g counts w s)
        by_form [] e = record { fit = fit; leads = leads_none g counts s }
        by_form (x ∷ form) e =
            let full : State = record s { form = x ∷ form } in
            let same : full ≡ s = λ j. record s { form = sym e j } in
            subst (λ z. GoesOn g counts most z (next_in g counts (x ∷ form) s)) same
            (goes_taken x (record s { form = form }) (subst (IsFit g counts most) (sym same) fit))

    pub fit_after : (n : ℕ) (s : State) → IsFit g counts most s → IsFit g counts most (after g counts n s)
    fit_after zero s fit = fit
    fit_after (suc n) s fit = fit_after n (next g counts s) (goes_next s fit).fit

    -- a step more on the way
    pub under_way_next : (many : ℕ) (start s : State) → IsUnderWay g counts most many start s →
        IsUnderWay g counts most many start (next g counts s)
    under_way_next many start s way =
        let step = goes_next s way.goes.fit in
        record {
          goes = record { fit = step.fit; leads = leads_on g counts start s (next g counts s) way.goes.leads step.leads };
          ends = ends_next many s way.ends;
        }

    -- the first symbol is taken
    pub next_is : (s u : State) (x : Symbol) (form : List Symbol) → s.form ≡ x ∷ form → u ≡ taken g counts x (record s { form = form }) →
        u ≡ next g counts s
    next_is s u x form first is = is ∙ sym (ap (λ w. next_in g counts w s) first)

    pub fit_first : (s : State) (x : Symbol) (form : List Symbol) → s.form ≡ x ∷ form → IsFit g counts most s →
        IsFit g counts most (before x (record s { form = form }))
    fit_first s x form first fit = subst (IsFit g counts most) (λ j. record s { form = first j }) fit

    pub way_on : (many : ℕ) (start s u : State) → u ≡ next g counts s → IsUnderWay g counts most many start s →
        IsUnderWay g counts most many start u
    way_on many start s u is way = subst (IsUnderWay g counts most many start) (sym is) (under_way_next many start s way)

    pub way_shorter : (many : ℕ) (start s u : State) (x : Symbol) (form : List Symbol) → s.form ≡ x ∷ form → u ≡ next g counts s →
        IsUnderWay g counts most many start s → steps g counts many u < steps g counts many s
    way_shorter many start s u x form first is way =
        subst (λ z. steps g counts many z < steps g counts many s) (sym is)
        (steps_fewer many s (λ none. absurd (cc (sym first ∙ none))) way.ends)

    pub way_over : (many : ℕ) (start s : State) → s.form ≡ [] → IsUnderWay g counts most many start s → start.made ≡ [] →
        Makes g counts start.form start.spare start.number s.made
    way_over many start s over way none = makes_all g counts start s way.goes.leads none over
