use Rattle.std.proofs.Common.{List, ℕ, sym, subst}
use Rattle.std.specs.Borrow.{Bor}
use Rattle.std.specs.Prelude.{Option}
use Rattle.wb_program_words.specs.declared.rows.Form.{Form}
use Rattle.wb_program_words.specs.declared.rows.Form.TheVariants as f
use Rattle.wb_program_words.specs.Inner.Values.{HasNoValue}
use Rattle.wb_program_words.proofs.SplitLemmas.{on_none}
use Rattle.wb_program_words.proofs.ValueLemmas.{no_digits, no_digits_or}
use Rattle.wb_program_words.proofs.values.value_by.Goals as goal

pub returns-in_err-number-in-Number-clause-none : goal.returns-in_err-number-in-Number-clause-none
returns-in_err-number-in-Number-clause-none c =
    let least = c.in-Number.least in
    let most = c.in-Number.most in
    let text = c.in_ok-text-in-Number.text in
    on_none c.from_residual-in_err-number-in-Number.result ((name : List ℕ) → HasNoValue c.args.form name c.args.slot)
    (λ name. subst (λ (form : Form). HasNoValue form name c.args.slot) (sym c.in-Number.is)
    (subst (λ (slot : Option (Bor (List ℕ))). HasNoValue (f.Number least most) name slot) (sym c.in_ok-text-in-Number.was)
    (no_digits least most text c.in_err-number-in-Number.ensures.none name)))

pub returns-in_err-number-in-Some-clause-none : goal.returns-in_err-number-in-Some-clause-none
returns-in_err-number-in-Some-clause-none c =
    let least = c.in-NumberOr.least in
    let most = c.in-NumberOr.most in
    let otherwise = c.in-NumberOr.otherwise in
    let text = c.in-Some.text in
    on_none c.from_residual-in_err-number-in-Some.result ((name : List ℕ) → HasNoValue c.args.form name c.args.slot)
    (λ name. subst (λ (form : Form). HasNoValue form name c.args.slot) (sym c.in-NumberOr.is)
    (subst (λ (slot : Option (Bor (List ℕ))). HasNoValue (f.NumberOr least most otherwise) name slot) (sym c.in-Some.is)
    (no_digits_or least most otherwise text c.in_err-number-in-Some.ensures.none name)))
