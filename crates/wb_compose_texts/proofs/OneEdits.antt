-- A text with edits has one answer, since each of its lines is that of one answer for a text.
use Rattle.std.proofs.Common.{◌≡◌, ◌∙◌, ◌≤◌, ◌+◌, ◌∷◌, ◌⊎◌, [], ℕ, suc, List, Some, length, length-append, slice_get, inl}
use Rattle.std.proofs.Common.{inr, refl, sym, ap, subst, arith}
use lib.Chars.{codes}
use Rattle.std.proofs.lemmas.Bool.{cases_lt}
use Rattle.wb_compose_texts.specs.Answers.{HasSameAnswer, IsAnswerIn}
use Rattle.wb_compose_texts.specs.Names.{terminals_of}
use Rattle.wb_compose_texts.specs.Signatures.{signatures_of}
use Rattle.wb_compose_texts.specs.Unions.{IsLanguageOf, Union}
use Rattle.wb_compose_texts.specs.declared.text_answer.TextAnswer.{TextAnswer}
use Rattle.wb_compose_texts.specs.declared.text_answer.TextAnswer.TheVariants as t
use Rattle.wb_operations.specs.Operations.{OperationSignature}
use Rattle.wb_report.specs.Lines.{report_of}
use Rattle.wb_report.specs.declared.done.Done.TheVariants as done
use Rattle.wb_report.specs.declared.outcome.Outcome.TheVariants as o
use Rattle.wb_scan_theory.specs.Languages.{LanguageView}
use Rattle.wb_session_edits.specs.declared.edit.Edit.{Edit}
use Rattle.wb_syntax_resolved.specs.declared.resolved.ResolvedParts.{ResolvedParts}
use Rattle.wb_values.specs.Signature.{Signature}
use Rattle.wb_compose_texts.specs.EditAnswers.{joined, AreLinesOf, HasOneEditsAnswer, HasShortLines, HasLongLines, IsEditsAnswerIn}
use Rattle.wb_compose_texts.specs.EditAnswers.{IsLineOf}
use Rattle.wb_compose_texts.specs.Edited.{IsOutOfRange, IsTooLong}
use Rattle.wb_compose_texts.specs.declared.edits_answer.EditsAnswer.{EditsAnswer}
use Rattle.wb_compose_texts.specs.declared.edits_answer.EditsAnswer.TheVariants as a
use Rattle.wb_compose_texts.proofs.GatheredLemmas.{line_within}
use Rattle.wb_compose_texts.proofs.RefusedLemmas.{long_fails, not_both, one_number, out_fails}

-- the line of an answer for a text that can be printed
abbrev line_of : TextAnswer → List ℕ
line_of (t.Tree printed) = report_of (o.Done (done.Tree printed))
line_of (t.Stopped place shown) = report_of (o.Stopped place shown)
line_of t.TooLong = []

-- whether it is too long for that
abbrev is_long : TextAnswer → ℕ
is_long (t.Tree printed) = 0
is_long (t.Stopped place shown) = 0
is_long t.TooLong = 1

-- lists of one length with the same at each place are one
same_by_place : (xs ys : List (List ℕ)) → length xs ≡ length ys →
    ((i : ℕ) (x y : List ℕ) → slice_get xs i ≡ Some x → slice_get ys i ≡ Some y → x ≡ y) → xs ≡ ys
same_by_place [] [] many each = refl
same_by_place [] (y ∷ ys) many each = absurd (omega (arith, many))
same_by_place (x ∷ xs) [] many each = absurd (omega (arith, many))
same_by_place (x ∷ xs) (y ∷ ys) many each =
    let first : x ≡ y = each 0 x y refl refl in
    let rest : xs ≡ ys = same_by_place xs ys (omega (arith, many)) (λ i. each (suc i)) in
    ap (λ z. z ∷ xs) first ∙ ap (λ z. y ∷ z) rest

-- in a language
module _ (names : List (List ℕ)) (signatures : List Signature) (l : LanguageView) (text line : List ℕ) where
  -- a line that isn't too long is that of an answer
  short_answer : IsLineOf names signatures l text line → length line ≤ 16777216 →
      (x : TextAnswer) × IsAnswerIn names signatures l text x × (line ≡ line_of x) × (is_long x ≡ 0)
  short_answer (inl (printed, tree, is)) short =
      let whole : length (report_of (o.Done (done.Tree printed))) ≡ length printed + length (codes "\n") =
      length-append printed (codes "\n") in
      let many : length line ≡ length (report_of (o.Done (done.Tree printed))) = ap length is in
      let few : length printed ≤ 16777216 = omega (arith, whole, many, short) in
      (t.Tree printed, (tree, few), is, refl)
  short_answer (inr (place, shown, stops, is)) short = (t.Stopped place shown, stops, is, refl)

  -- any other is that of one that is too long
  any_answer : IsLineOf names signatures l text line →
      (x : TextAnswer) × IsAnswerIn names signatures l text x × ((line ≡ line_of x) ⊎ (is_long x ≡ 1))
  any_answer (inl (printed, tree, is)) = elim (cases_lt 16777216 (length printed)) [
    | inl long ↦ (t.TooLong, record { printed = printed; has = tree; long = long }, inr refl)
    | inr short ↦ (t.Tree printed, (tree, short), inl is)
  ]
  any_answer (inr (place, shown, stops, is)) = (t.Stopped place shown, stops, inl is)

module _ (host : ResolvedParts) (operations : List OperationSignature) (extensions : List ResolvedParts)
    (law : HasSameAnswer host operations extensions extensions) where
  abbrev names : List (List ℕ)
  names = terminals_of host extensions

  abbrev signatures : List Signature
  signatures = signatures_of host extensions

  module _ (u v : Union host operations extensions) (l m : LanguageView) (l_is : IsLanguageOf host operations extensions u l)
      (m_is : IsLanguageOf host operations extensions v m) where
    -- an answer in the one language, and one in the other
    one_text : (text : List ℕ) (x y : TextAnswer) → IsAnswerIn names signatures l text x → IsAnswerIn names signatures m text y → x ≡ y
    one_text text x y one other =
        law text x y (record { whole = u; language = l; is_language = l_is; is = one })
        (record { whole = v; language = m; is_language = m_is; is = other })

    one_line : (text x y : List ℕ) → IsLineOf names signatures l text x → length x ≤ 16777216 → IsLineOf names signatures m text y → x ≡ y
    one_line text x y one short other =
        let (p, p_is, x_is, p_short) = short_answer names signatures l text x one short in
        let (q, q_is, y_is) = any_answer names signatures m text y other in
        let same : p ≡ q = one_text text p q p_is q_is in
        elim y_is [
          | inl is ↦ x_is ∙ (ap line_of same ∙ sym is)
          | inr long ↦
              let clash : is_long (t.Tree []) ≡ 1 = sym p_short ∙ (ap is_long same ∙ long) in
              absurd (omega (arith, clash))
        ]

    module _ (text : List ℕ) (edits : List Edit) where
      -- lines that aren't too long together are all there are
      one_lines : (xs ys : List (List ℕ)) → AreLinesOf names signatures l text edits xs → length (joined xs) ≤ 16777216 →
          AreLinesOf names signatures m text edits ys → xs ≡ ys
      one_lines xs ys one short other =
          same_by_place xs ys (one.many ∙ sym other.many)
          (λ i x y at there.
          let within = line_within xs i x at in
          one_line _ x y (one.each i x at) (omega (arith, within, short)) (other.each i y there))

      short_lines : (bytes : List ℕ) (x : HasShortLines names signatures l text edits bytes) → length (joined x.lines) ≤ 16777216
      short_lines bytes x = subst (λ z. length z ≤ 16777216) x.is x.short

      not_long : (bytes : List ℕ) → HasShortLines names signatures l text edits bytes → HasLongLines names signatures m text edits → ⊥
      not_long bytes x y =
          let short = short_lines bytes x in
          let same = ap (λ z. length (joined z)) (one_lines x.lines y.lines x.are short y.are) in
          let long = y.long in
          omega (arith, short, same, long)

  -- two answers in two languages of one union
  answers : (u v : Union host operations extensions) (l m : LanguageView) (l_is : IsLanguageOf host operations extensions u l)
      (m_is : IsLanguageOf host operations extensions v m) (text : List ℕ) (edits : List Edit) (x y : EditsAnswer) →
      IsEditsAnswerIn names signatures l text edits x → IsEditsAnswerIn names signatures m text edits y → x ≡ y
  answers u v l m l_is m_is text edits (a.Lines bytes) (a.Lines others) one other =
      let short = short_lines u v l m l_is m_is text edits bytes one in
      let same = one_lines u v l m l_is m_is text edits one.lines other.lines one.are short other.are in
      ap a.Lines (one.is ∙ (ap joined same ∙ sym other.is))
  answers u v l m l_is m_is text edits (a.Lines bytes) a.TooLong one other =
      absurd (not_long u v l m l_is m_is text edits bytes one other)
  answers u v l m l_is m_is text edits (a.Lines bytes) (a.OutOfRange n) one other =
      absurd (out_fails text edits n other (one.done other.place))
  answers u v l m l_is m_is text edits (a.Lines bytes) (a.TextTooLong n) one other =
      absurd (long_fails text edits n other (one.done other.place))
  answers u v l m l_is m_is text edits a.TooLong (a.Lines others) one other =
      absurd (not_long v u m l m_is l_is text edits others other one)
  answers u v l m l_is m_is text edits a.TooLong a.TooLong one other = refl
  answers u v l m l_is m_is text edits a.TooLong (a.OutOfRange n) one other = absurd (out_fails text edits n other (one.done other.place))
  answers u v l m l_is m_is text edits a.TooLong (a.TextTooLong n) one other = absurd (long_fails text edits n other (one.done other.place))
  answers u v l m l_is m_is text edits (a.OutOfRange n) (a.Lines others) one other =
      absurd (out_fails text edits n one (other.done one.place))
  answers u v l m l_is m_is text edits (a.OutOfRange n) a.TooLong one other = absurd (out_fails text edits n one (other.done one.place))
  answers u v l m l_is m_is text edits (a.OutOfRange n) (a.OutOfRange k) one other =
      ap a.OutOfRange
      (one_number text edits IsOutOfRange IsOutOfRange n k one other (out_fails text edits n one) (out_fails text edits k other))
  answers u v l m l_is m_is text edits (a.OutOfRange n) (a.TextTooLong k) one other = absurd (not_both text edits n k one other)
  answers u v l m l_is m_is text edits (a.TextTooLong n) (a.Lines others) one other =
      absurd (long_fails text edits n one (other.done one.place))
  answers u v l m l_is m_is text edits (a.TextTooLong n) a.TooLong one other = absurd (long_fails text edits n one (other.done one.place))
  answers u v l m l_is m_is text edits (a.TextTooLong n) (a.OutOfRange k) one other = absurd (not_both text edits k n other one)
  answers u v l m l_is m_is text edits (a.TextTooLong n) (a.TextTooLong k) one other =
      ap a.TextTooLong
      (one_number text edits IsTooLong IsTooLong n k one other (long_fails text edits n one) (long_fails text edits k other))

  pub one_edits_answer : HasOneEditsAnswer host operations extensions
  one_edits_answer text edits x y one other =
      answers one.whole other.whole one.language other.language one.is_language other.is_language text edits x y one.is other.is
