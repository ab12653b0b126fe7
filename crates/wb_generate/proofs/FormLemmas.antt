-- Symbols that are put before a form, the last first.
use Rattle.std.proofs.Common.{◌≡◌, ℕ, ◌+◌, ◌-◌, ◌<◌, ◌≤◌, List, [], ◌∷◌, ◌++◌, length, drop, get_or, sym, ◌∙◌, ap, arith}
use Rattle.wb_base.specs.declared.symbol.Symbol.{Symbol}
use Rattle.wb_lemmas.proofs.Parts.{drop_from, drop_past}

pub put_none : (right form : List Symbol) → form ≡ drop (length right - 0) right ++ form
put_none right form = ap (λ z. z ++ form) (sym (drop_past right (length right - 0) (omega arith)))

pub put_more : (right base form new : List Symbol) (back : ℕ) (x : Symbol) → back < length right → x ≡ get_or right (length right - 1 - back) x →
    form ≡ drop (length right - back) right ++ base → new ≡ x ∷ form → new ≡ drop (length right - (back + 1)) right ++ base
put_more right base form new back x lt is before made =
    let i : ℕ = length right - 1 - back in
    let next : i + 1 ≡ length right - back = omega (arith, lt) in
    let here : i ≡ length right - (back + 1) = omega (arith, lt) in
    let e : drop i right ≡ x ∷ drop (i + 1) right = drop_from right i x (omega (arith, lt)) is in
    let f : drop (length right - (back + 1)) right ≡ x ∷ drop (length right - back) right =
    ap (λ n. drop n right) (sym here) ∙ (e ∙ ap (λ n. x ∷ drop n right) next) in
    made ∙ (ap (λ z. x ∷ z) before ∙ ap (λ z. z ++ base) (sym f))

pub put_all : (right base form : List Symbol) (back : ℕ) → length right ≤ back → form ≡ drop (length right - back) right ++ base →
    form ≡ right ++ base
put_all right base form back past is =
    let none : length right - back ≡ 0 = omega (arith, past) in is ∙ ap (λ n. drop n right ++ base) none

-- a form with a first symbol isn't empty
pub some_form : (x : Symbol) (form : List Symbol) → x ∷ form ≡ [] → ⊥
some_form x form e = absurd (cc)
