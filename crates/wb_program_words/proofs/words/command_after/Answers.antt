use Rattle.std.proofs.Common.{rules, ◌≡◌, ◌-◌, ℕ, List, length, map, take, drop, string_bytes, subst, sym, ◌∙◌}
use Rattle.std.proofs.lemmas.List.{length-map}
use Rattle.wb_base.specs.Different.{Differ}
use Rattle.wb_program_words.specs.Asked.{Asked, asked_by, texts}
use Rattle.wb_program_words.specs.Rows.{IsCount, asked_of, name_of}
use Rattle.wb_program_words.specs.Words.{Says}
use Rattle.wb_program_words.specs.declared.rows.Count.{Count}
use Rattle.wb_program_words.specs.declared.rows.OptionName.{OptionName}
use Rattle.wb_program_words.specs.Inner.Parts.{HasNoSplit, IsSplit}
use Rattle.wb_program_words.specs.Inner.Values.{AreValuesOf, HaveNoValues, value_in}
use Rattle.wb_program_words.proofs.AskLemmas.{miscounted_says, says_by, unsplit_says, valueless_says}
use Rattle.wb_program_words.proofs.PartLemmas.{rest_texts}
use Rattle.wb_program_words.proofs.RowLemmas.{options_apart}
use Rattle.wb_program_words.proofs.SplitLemmas.{on_none}
use Rattle.wb_program_words.proofs.words.command_after.Goals as goal

pub options_of-requires-clause-apart : goal.options_of-requires-clause-apart
options_of-requires-clause-apart c =
    subst (λ (names : List OptionName). Differ (map name_of names)) (sym c.row_of-row.ensures.options) (options_apart c.args.verb)

pub returns-in_err-options-clause-none : goal.returns-in_err-options-clause-none
returns-in_err-options-clause-none c =
    let words = texts c.args.words.now in
    let names = c.row_of-row.result.options.now in
    let never : HasNoSplit (map name_of names) words = search rules in
    on_none c.from_residual.result ((asked : Asked) → ¬ Says c.args.verb words asked)
    (unsplit_says c.args.verb names c.row_of-row.ensures.options words never)

pub returns-in_err-values-clause-none : goal.returns-in_err-values-clause-none
returns-in_err-values-clause-none c =
    let words = texts c.args.words.now in
    let names = c.row_of-row.result.options.now in
    let slots = c.in_ok-options.options.slots in
    let at = c.in_ok-options.options.rest in
    let split : IsSplit (map name_of names) words (drop at words) slots = search rules in
    let none : HaveNoValues names slots = search rules in
    on_none c.from_residual-in_err-values.result ((asked : Asked) → ¬ Says c.args.verb words asked)
    (valueless_says c.args.verb names c.row_of-row.ensures.options words slots (drop at words) split none)

pub returns-then-not-is_count-clause-none : goal.returns-then-not-is_count-clause-none
returns-then-not-is_count-clause-none c =
    let words = texts c.args.words.now in
    let names = c.row_of-row.result.options.now in
    let slots = c.in_ok-options.options.slots in
    let at = c.in_ok-options.options.rest in
    let later = take (length c.args.words.now - at) (drop at c.args.words.now) in
    let split : IsSplit (map name_of names) words (drop at words) slots = search rules in
    let other : ¬ IsCount c.row_of-row.result.words (length later) = search rules in
    miscounted_says c.args.verb names c.row_of-row.ensures.options words slots (drop at words) split
    (subst (λ (count : Count). ¬ IsCount count (length (drop at words))) c.row_of-row.ensures.words
    (subst (λ (n : ℕ). ¬ IsCount c.row_of-row.result.words n) (sym (length-map later string_bytes) ∙ ap_length (rest_texts c.args.words.now at)) other))
  where
    ap_length : {xs ys : List (List ℕ)} → xs ≡ ys → length xs ≡ length ys
    ap_length e = cc

pub returns-clause-some : goal.returns-clause-some
returns-clause-some c =
    let words = texts c.args.words.now in
    let names = c.row_of-row.result.options.now in
    let slots = c.in_ok-options.options.slots in
    let at = c.in_ok-options.options.rest in
    let later = take (length c.args.words.now - at) (drop at c.args.words.now) in
    let list = c.in_ok-values.values.list in
    let split : IsSplit (map name_of names) words (drop at words) slots = search rules in
    let are : AreValuesOf names slots (take (length names) list) = search rules in
    let count : IsCount c.row_of-row.result.words (length later) = search rules in
    let texts_are : texts later ≡ drop at words = rest_texts c.args.words.now at in
    says_by c.args.verb names c.row_of-row.ensures.options words slots (drop at words) split (map value_in (take (length names) list))
    (are split.options split.values)
    (subst (λ (n : Count). IsCount n (length (drop at words))) c.row_of-row.ensures.words
    (subst (λ (n : ℕ). IsCount c.row_of-row.result.words n) (sym (length-map later string_bytes) ∙ ap_length texts_are) count))
    (asked_by c.command_with.result)
    (subst (λ (ws : List (List ℕ)). asked_by c.command_with.result ≡ asked_of c.args.verb (map value_in (take (length names) list)) ws) texts_are
    c.command_with.ensures)
  where
    ap_length : {xs ys : List (List ℕ)} → xs ≡ ys → length xs ≡ length ys
    ap_length e = cc
