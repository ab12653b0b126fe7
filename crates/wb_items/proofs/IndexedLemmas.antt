-- Prefixes as steps: what a further step adds, and the way back.
use Rattle.std.proofs.Common.{◌≡◌, ℕ, ◌+◌, ◌-◌, ◌<◌, ◌≤◌, zero, suc, List, [], ◌∷◌, ◌++◌, length, reverse, Some, refl, sym, ◌∙◌, ap, subst}
use Rattle.std.proofs.Common.{arith, inl, inr, length-append}
use Rattle.std.specs.Prelude.{slice_get, slice_index_or}
use Rattle.std.proofs.lemmas.Option.{gets, same_Some, slice_get-get_or}
use Rattle.std.proofs.lemmas.Grind.{common_steps}
use Rattle.std.proofs.lemmas.List.{append_assoc, reverse-append}
use Rattle.wb_lemmas.proofs.Places.{at_push}
use Rattle.wb_base.specs.declared.symbol.Symbol.{Symbol}
use Rattle.wb_base.specs.declared.symbol.Symbol.TheVariants.{Terminal}
use Rattle.wb_grammar_theory.specs.declared.item.Item.{Item}
use Rattle.wb_items.specs.declared.kernel_index.Step.{Step}
use Rattle.wb_items.specs.Index.{IndexView, prefixes_after, prefixes_of}
use Rattle.wb_items.specs.Inner.Numbering.{GoesOn}
use Rattle.wb_items.specs.Inner.Steps.{IsKernelIndex, AreSteps}
use Rattle.std.specs.List.{insert}
use Rattle.wb_items.specs.Kernels.{AreInOrder}
use Rattle.wb_items.specs.KernelOrder.{IsIndex, LiesWithin}
use Rattle.wb_items.proofs.IndexLemmas.{index_more}

-- the prefix of a step
abbrev pub prefix_by : List (List Symbol) → Step → List Symbol
prefix_by known step = slice_index_or known step.from [] ++ step.symbol ∷ []

after_push : (known : List (List Symbol)) (steps : List Step) (step : Step) →
    prefixes_after known (steps ++ step ∷ []) ≡ prefixes_after known steps ++ prefix_by (prefixes_after known steps) step ∷ []
after_push known [] step = refl
after_push known (s ∷ steps) step = after_push (known ++ prefix_by known s ∷ []) steps step

-- a further step adds its prefix
pub prefixes_push : (steps : List Step) (step : Step) →
    prefixes_of (steps ++ step ∷ []) ≡ prefixes_of steps ++ prefix_by (prefixes_of steps) step ∷ []
prefixes_push steps step = after_push ([] ∷ []) steps step

after_len : (known : List (List Symbol)) (steps : List Step) → length (prefixes_after known steps) ≡ length known + length steps
after_len known [] = omega arith
after_len known (s ∷ steps) =
    omega (arith, after_len (known ++ prefix_by known s ∷ []) steps, length-append {A = List Symbol} known (prefix_by known s ∷ []))

-- there is a prefix for each step and one more
pub prefixes_len : (steps : List Step) → length (prefixes_of steps) ≡ length steps + 1
prefixes_len steps = omega (arith, after_len ([] ∷ []) steps)

known_stays : (known : List (List Symbol)) (steps : List Step) (j : ℕ) → j < length known →
    slice_index_or (prefixes_after known steps) j [] ≡ slice_index_or known j []
known_stays known [] j lt = refl
known_stays known (s ∷ steps) j lt =
    let longer : j < length (known ++ prefix_by known s ∷ []) = omega (
      arith,
      length-append {A =
          List Symbol} known (prefix_by known s ∷ []),
    ) in
    known_stays (known ++ prefix_by known s ∷ []) steps j longer ∙ old known (prefix_by known s) j lt
  where
    old : (xs : List (List Symbol)) (y : List Symbol) (j : ℕ) → j < length xs → slice_index_or (xs ++ y ∷ []) j [] ≡ slice_index_or xs j []
    old xs y j lt = grind (arith, gets, common_steps)

-- the first prefix is empty
pub first_prefix : (steps : List Step) → slice_index_or (prefixes_of steps) 0 [] ≡ []
first_prefix steps = known_stays ([] ∷ []) steps 0 (omega arith)

last_one : (xs : List (List Symbol)) (y : List Symbol) → slice_index_or (xs ++ y ∷ []) (length xs) [] ≡ y
last_one xs y = grind (arith, gets, common_steps)

after_step : (known : List (List Symbol)) (steps : List Step) (n : ℕ) (step : Step) → slice_get steps n ≡ Some step →
    step.from < length known + n →
    slice_index_or (prefixes_after known steps) (length known + n) [] ≡ prefix_by (prefixes_after known steps) step
after_step known [] n step at lt = cc
after_step known (s ∷ steps) zero step at lt =
    let same : s ≡ step = same_Some s step at in
    let more = known ++ prefix_by known s ∷ [] in
    let len : length more ≡ length known + 1 = omega (arith, length-append {A = List Symbol} known (prefix_by known s ∷ [])) in
    let early : s.from < length known = subst (λ (z : Step). z.from < length known) (sym same) (omega arith) in
    let here : slice_index_or (prefixes_after more steps) (length known + 0) [] ≡ prefix_by known s =
    known_stays more steps (length known + 0) (omega arith) ∙
    ap (λ k. slice_index_or more k []) (let e : length known + 0 ≡ length known = omega arith in e) ∙
    last_one known (prefix_by known s) in
    let from : slice_index_or (prefixes_after more steps) s.from [] ≡ slice_index_or known s.from [] = known_stays known
    (s ∷ steps) s.from early in
    here ∙ ap (λ p. p ++ s.symbol ∷ []) (sym from) ∙ ap (λ (z : Step). prefix_by (prefixes_after more steps) z) same
after_step known (s ∷ steps) (suc n) step at lt =
    let more = known ++ prefix_by known s ∷ [] in
    let len : length more ≡ length known + 1 = omega (arith, length-append {A = List Symbol} known (prefix_by known s ∷ [])) in
    let e : length known + suc n ≡ length more + n = omega arith in
    ap (λ k. slice_index_or (prefixes_after more steps) k []) e ∙ after_step more steps n step at (omega arith)

-- the prefix of a number is that of the step before it
pub step_back : (steps : List Step) (kernels : List (List Item)) (n : ℕ) (step : Step) → AreSteps steps kernels →
    slice_get steps n ≡ Some step → slice_index_or (prefixes_of steps) (n + 1) [] ≡ prefix_by (prefixes_of steps) step
step_back steps kernels n step h at =
    let e : n + 1 ≡ 1 + n = omega arith in
    ap (λ k. slice_index_or (prefixes_of steps) k []) e ∙ after_step ([] ∷ []) steps n step at (omega (arith, h.back n step at))

-- the prefix of each number after the first goes on from that of a lower one
pub goes_on : (steps : List Step) (kernels : List (List Item)) → AreSteps steps kernels → (n : ℕ) → suc n < length (prefixes_of steps) →
    GoesOn (prefixes_of steps) (suc n)
goes_on steps kernels h n lt =
    let none : Step = record { from = 0; symbol = Terminal 0 } in
    let step : Step = slice_index_or steps n none in
    let at : slice_get steps n ≡ Some step = slice_get-get_or steps n none (let len = prefixes_len steps in omega (arith, len, lt)) in
    let e : suc n ≡ n + 1 = omega arith in
    record {
      from = step.from;
      symbol = step.symbol;
      before = (let b = h.back n step at in omega (arith, b));
      is = ap (λ k. slice_index_or (prefixes_of steps) k []) e ∙ step_back steps kernels n step h at;
    }

-- a walk back gathers one more symbol
pub walk_more : (prefix before symbols : List Symbol) (x : Symbol) (whole : List Symbol) → whole ≡ prefix ++ reverse symbols →
    prefix ≡ before ++ x ∷ [] → whole ≡ before ++ reverse (symbols ++ x ∷ [])
walk_more prefix before symbols x whole e f = e ∙ ap (λ p. p ++ reverse symbols) f ∙ append_assoc before (x ∷ []) (reverse symbols) ∙
    ap (λ r. before ++ r) (sym (reverse-append symbols (x ∷ [])))

-- a further step keeps what is asked of steps
pub steps_more : (steps : List Step) (kernels : List (List Item)) (step : Step) (kernel : List Item) → AreSteps steps kernels →
    step.from < length kernels → AreSteps (steps ++ step ∷ []) (kernels ++ kernel ∷ [])
steps_more steps kernels step kernel h lt = record {
  len = omega (arith, length-append {A = List Item} kernels (kernel ∷ []), length-append {A = Step} steps (step ∷ []), h.len);
  back = λ s other at. elim (at_push steps step other s at) [
    | inl old ↦ h.back s other old
    | inr (last, same) ↦ subst (λ (z : Step). z.from ≤ s) same (omega (arith, h.len))
  ];
}

-- so does a number more in the order
pub found_more : (steps steps' : List Step) (kernels kernels' : List (List Item)) (order order' : List ℕ) (step : Step) (kernel : List Item)
    (place n : ℕ) → IsKernelIndex steps kernels order → step.from < length kernels → LiesWithin kernels order kernel place place →
    AreInOrder kernel → steps' ≡ steps ++ step ∷ [] → kernels' ≡ kernels ++ kernel ∷ [] → order' ≡ insert order place n →
    n ≡ length kernels → IsKernelIndex steps' kernels' order'
found_more steps steps' kernels kernels' order order' step kernel place n h lt lies sorted e f k last = record {
  back = subst (λ s. AreSteps s kernels') (sym e)
      (subst (AreSteps (steps ++ step ∷ [])) (sym f) (steps_more steps kernels step kernel h.back lt));
  index = subst (λ o. IsIndex o kernels') (sym (k ∙ ap (insert order place) last))
      (subst (IsIndex (insert order place (length kernels))) (sym f) (index_more kernels order kernel place h.index lies sorted));
}

-- what is shown after a further step
pub added : (steps steps' : List Step) (kernels kernels' : List (List Item)) (step : Step) (kernel : List Item) →
    steps' ≡ steps ++ step ∷ [] → kernels' ≡ kernels ++ kernel ∷ [] →
    ◌≡◌ {A = IndexView} (record { prefixes = prefixes_of steps'; kernels = kernels' })
    (record { prefixes = prefixes_of steps ++ prefix_by (prefixes_of steps) step ∷ []; kernels = kernels ++ kernel ∷ [] })
added steps steps' kernels kernels' step kernel e f = λ i. record {
  prefixes = (ap prefixes_of e ∙ prefixes_push steps step) i;
  kernels = f i;
}

-- how many there are
pub shown_len : (steps : List Step) (kernels : List (List Item)) → AreSteps steps kernels → length (prefixes_of steps) ≡ length kernels
shown_len steps kernels h = prefixes_len steps ∙ sym h.len

-- a walk back goes over one step more
pub walked : (steps : List Step) (kernels : List (List Item)) → AreSteps steps kernels →
    (number at : ℕ) (step : Step) (symbols more : List Symbol) → more ≡ symbols ++ step.symbol ∷ [] →
    step ≡ slice_index_or steps (at - 1) step → 0 < at →
    (at < length kernels) × (slice_index_or (prefixes_of steps) number [] ≡ slice_index_or (prefixes_of steps) at [] ++ reverse symbols) →
    (step.from < length kernels) ×
    (slice_index_or (prefixes_of steps) number [] ≡ slice_index_or (prefixes_of steps) step.from [] ++ reverse more)
walked steps kernels h number at step symbols more e is pos (lt, whole) =
    let within : at - 1 < length steps = omega (arith, h.len, lt) in
    let there : slice_get steps (at - 1) ≡ Some step = slice_get-get_or steps (at - 1) step within ∙ ap Some (sym is) in
    let n : at - 1 + 1 ≡ at = omega arith in
    let back = ap (λ k. slice_index_or (prefixes_of steps) k []) (sym n) ∙ step_back steps kernels (at - 1) step h there in (
      (let b = h.back (at - 1) step there in omega (arith, b, lt)),
      walk_more (slice_index_or (prefixes_of steps) at []) (slice_index_or (prefixes_of steps) step.from []) symbols step.symbol
          (slice_index_or (prefixes_of steps) number []) whole back
          ∙ ap (λ m. slice_index_or (prefixes_of steps) step.from [] ++ reverse m) (sym e),
    )

-- it has come to the empty prefix
pub arrived : (steps : List Step) (number at : ℕ) (symbols : List Symbol) → at ≡ 0 →
    slice_index_or (prefixes_of steps) number [] ≡ slice_index_or (prefixes_of steps) at [] ++ reverse symbols →
    reverse symbols ≡ slice_index_or (prefixes_of steps) number []
arrived steps number at symbols none_left whole = sym
    (whole ∙ ap (λ p. p ++ reverse symbols) (ap (λ k. slice_index_or (prefixes_of steps) k []) none_left ∙ first_prefix steps))
