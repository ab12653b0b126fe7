-- A text with edits has an answer in a language.
use Rattle.std.proofs.Common.{◌≡◌, ◌<◌, ◌≤◌, ◌⊎◌, [], ℕ, zero, suc, List, Some, inl, inr, length, slice_get, take, refl, sym}
use Rattle.std.proofs.Common.{subst, arith}
use Rattle.std.proofs.lemmas.Bool.{cases_lt}
use Rattle.std.proofs.lemmas.Option.{slice_get_cases, slice_get_within}
use Rattle.wb_compose_texts.specs.EditAnswers.{joined, AreLinesOf, IsEditsAnswerIn, IsLineOf}
use Rattle.wb_compose_texts.specs.Edited.{after, AreDone, IsDone, IsFirstRefused, IsOutOfRange, IsTooLong}
use Rattle.wb_compose_texts.specs.declared.edits_answer.EditsAnswer.{EditsAnswer}
use Rattle.wb_compose_texts.specs.declared.edits_answer.EditsAnswer.TheVariants as a
use Rattle.wb_compose_texts.proofs.WalkLemmas.{after-suc}
use Rattle.wb_compose_texts.specs.Names.{stop_shown}
use Rattle.wb_lemmas.proofs.NotNot.{Chosen, certain, choose, follows}
use Rattle.wb_lemmas.proofs.Places.{at_once, default_at}
use Rattle.wb_report.specs.Lines.{report_of}
use Rattle.wb_report.specs.declared.done.Done.TheVariants as done
use Rattle.wb_report.specs.declared.outcome.Outcome.TheVariants as o
use Rattle.wb_scan_theory.proofs.AnswersExist.{answer_exists}
use Rattle.wb_scan_theory.specs.Facts.{IsLanguage}
use Rattle.wb_scan_theory.specs.Languages.{LanguageView}
use Rattle.wb_scan_theory.specs.Readings.{a_stop, a_tree}
use Rattle.wb_scan_theory.specs.Texts.{HasAnswer}
use Rattle.wb_compose_texts.specs.Sessions.{Fits, MakesText}
use Rattle.wb_session_edits.specs.declared.edit.Edit.{Edit}
use Rattle.wb_compose_texts.specs.Edits.{edited}
use Rattle.wb_terms.specs.Printed.{printed_tree}
use Rattle.wb_values.specs.Signature.{Signature}
use Rattle.wb_program_theory.proofs.TreeReports.{one_shown}

-- the first edit that isn't done, for one reason or the other
data Refusal (text : List ℕ) (edits : List Edit) : Type 0 where
  out : (number : ℕ) → IsFirstRefused text edits IsOutOfRange number → Refusal text edits
  long : (number : ℕ) → IsFirstRefused text edits IsTooLong number → Refusal text edits

module _ (text : List ℕ) (edits : List Edit) where
  -- so many edits are done
  abbrev AreDoneBefore : ℕ → Type 0
  AreDoneBefore k = (j : ℕ) → j < k → IsDone text edits j

  module _ (k : ℕ) (before : AreDoneBefore k) where
    one_more : IsDone text edits k → AreDoneBefore (suc k)
    one_more here j within = elim (cases_lt j k) [
      | inl earlier ↦ before j earlier
      | inr last ↦
          let same : k ≡ j = omega (arith, within, last) in
          subst (IsDone text edits) same here
    ]

    module _ (e : Edit) (at : slice_get edits k ≡ Some e) where
      abbrev now : List ℕ
      now = after text (take k edits)

      out_here : ¬ Fits now e.from e.to → Refusal text edits
      out_here why = Refusal.out (suc k) (record { place = k; counted = refl; edit = e; is = at; before = before; why = why })

      -- an edit that fits makes the text too long, or is done
      fitting : Fits now e.from e.to → AreDoneBefore (suc k) ⊎ Refusal text edits
      fitting fits = elim (cases_lt 1048576 (length (edited now e.from e.to e.bytes))) [
        | inl over ↦
            inr (Refusal.long (suc k) (record { place = k; counted = refl; edit = e; is = at; before = before; why = (fits, over) }))
        | inr short ↦ inl (one_more (done_by fits short))
      ]
        where
          done_by : Fits now e.from e.to → length (edited now e.from e.to e.bytes) ≤ 1048576 → IsDone text edits k
          done_by fits short f there =
              let same : e ≡ f = at_once edits k e f at there in
              subst (λ (z : Edit). MakesText now z.from z.to z.bytes (after text (take (suc k) edits))) same
              (subst (MakesText now e.from e.to e.bytes) (sym (after-suc text edits k e at))
              (record { fits = fits; short = short; is = refl }))

      -- each edit is one of these
      one_edit : AreDoneBefore (suc k) ⊎ Refusal text edits
      one_edit = elim (cases_lt e.to e.from) [
        | inl crossed ↦ inr (out_here (λ fits. let order = fits.order in omega (arith, crossed, order)))
        | inr order ↦ elim (cases_lt (length now) e.to) [
          | inl past ↦ inr (out_here (λ fits. let within = fits.within in omega (arith, past, within)))
          | inr within ↦ fitting (record { order = order; within = within })
        ]
      ]

    next_edit : AreDoneBefore (suc k) ⊎ Refusal text edits
    next_edit = elim (slice_get_cases edits k).1 [
      | inl (e, within, at, is) ↦ one_edit e at
      | inr (past, missing) ↦ inl (one_more (λ e at. absurd (let within = slice_get_within edits k e at in omega (arith, past, within))))
    ]

  -- all edits before a place are done, or one is the first that isn't
  walked : (k : ℕ) → AreDoneBefore k ⊎ Refusal text edits
  walked zero = inl (λ j within. absurd (omega (arith, within)))
  walked (suc k) = elim (walked k) [ inl before ↦ next_edit k before | inr refusal ↦ inr refusal ]

module _ (names : List (List ℕ)) (signatures : List Signature) (l : LanguageView) (ok : IsLanguage l) where
  -- a text that has an answer has a line
  line_by : (text : List ℕ) → HasAnswer l text → (line : List ℕ) × IsLineOf names signatures l text line
  line_by text (a_tree forest parses) =
      let (value, shows) = one_shown forest l.grammar.start parses.is_tree.root in
      let printed = printed_tree signatures value in (
        report_of (o.Done (done.Tree printed)),
        inl (printed, record { root = forest; parses = parses; value = value; shows = shows; is = refl }, refl),
      )
  line_by text (a_stop place kind stops) = (
    report_of (o.Stopped place (stop_shown names kind)),
    inr (place, stop_shown names kind, record { kind = kind; stops = stops; is = refl }, refl),
  )

  -- so each has one
  some_line : (text : List ℕ) → ¬ ¬ ((line : List ℕ) × IsLineOf names signatures l text line)
  some_line text = follows (answer_exists l ok text) (line_by text)

  module _ (text : List ℕ) (edits : List Edit) where
    abbrev IsLineAt : ℕ → List ℕ → Type 0
    IsLineAt i line = IsLineOf names signatures l (after text (take i edits)) line

    -- where all edits are done, the lines are short or long
    by_lines : AreDone text edits → Chosen (suc (length edits)) [] IsLineAt →
        (answer : EditsAnswer) × IsEditsAnswerIn names signatures l text edits answer
    by_lines all c = elim (cases_lt 16777216 (length (joined c.list))) [
      | inl over ↦ (a.TooLong, record { done = all; lines = c.list; are = are; long = over })
      | inr short ↦ (a.Lines (joined c.list), record { done = all; lines = c.list; are = are; is = refl; short = short })
    ]
      where
        are : AreLinesOf names signatures l text edits c.list
        are = record {
          many = c.len;
          each = λ i line at.
              let within : i < suc (length edits) = subst (λ z. i < z) c.len (slice_get_within c.list i line at) in
              subst (IsLineAt i) (default_at c.list i [] line at) (c.each i within);
        }

    by_walk : AreDoneBefore text edits (length edits) ⊎ Refusal text edits →
        ¬ ¬ ((answer : EditsAnswer) × IsEditsAnswerIn names signatures l text edits answer)
    by_walk (inl before) =
        follows (choose (suc (length edits)) [] IsLineAt (λ i within. some_line (after text (take i edits))))
        (by_lines (λ i e at. before i (slice_get_within edits i e at) e at))
    by_walk (inr (Refusal.out number is)) = certain (a.OutOfRange number, is)
    by_walk (inr (Refusal.long number is)) = certain (a.TextTooLong number, is)

    -- so a text with edits has an answer
    pub some_edits_answer : ¬ ¬ ((answer : EditsAnswer) × IsEditsAnswerIn names signatures l text edits answer)
    some_edits_answer = by_walk (walked text edits (length edits))
