use Rattle.std.proofs.Common.{◌≡◌, ◌∷◌, List, sym, subst}
use Rattle.std.specs.Prelude.{IfOk, MatchOption}
use Rattle.wb_syntax.specs.Expression.{Node}
use Rattle.wb_reader_printer.specs.Inner.Walk.{Continues}
use Rattle.wb_reader_printer.specs.declared.expressions.Waiting.{Waiting}
use Rattle.wb_reader_printer.specs.declared.expressions.Waiting.TheVariants.{Whole, Then}
use Rattle.wb_reader_printer.proofs.WalkLemmas.{same, then_begun, else_begun}
use Rattle.wb_reader_printer.proofs.expressions.resume.Goals as goal

pub returns-in-Whole : goal.returns-in-Whole
returns-in-Whole c = λ nodes.
    subst (λ (w : Waiting). Continues nodes c.args.line.now (w ∷ c.args.stack.now) c.args.line.now
    (Whole c.in-Whole.place ∷ c.args.stack.now) 0) (sym c.in-Whole.is)
    (same nodes c.args.line.now (Whole c.in-Whole.place ∷ c.args.stack.now))

pub returns-in-Arguments : goal.returns-in-Arguments
returns-in-Arguments c =
    subst (λ (w : Waiting). IfOk c.next_argument.result (λ next. (nodes : List Node) → MatchOption next
    (Continues nodes c.args.line.now (w ∷ c.args.stack.now) c.next_argument.new.line c.args.stack.now 0
    × (c.next_argument.new.stack ≡ c.args.stack.now))
    (λ at. Continues nodes c.args.line.now (w ∷ c.args.stack.now) c.next_argument.new.line (Whole at ∷ c.next_argument.new.stack) 0)))
    (sym c.in-Arguments.is) c.next_argument.ensures

pub returns-in_ok-push-in-Then : goal.returns-in_ok-push-in-Then
returns-in_ok-push-in-Then c = λ nodes.
    subst (λ (w : Waiting). Continues nodes c.args.line.now (w ∷ c.args.stack.now) c.word.new.self
    (Whole c.in-Then.holds ∷ c.push.new.self) 0) (sym c.in-Then.is)
    (subst (λ (l : List Waiting). Continues nodes c.args.line.now (Then c.in-Then.holds c.in-Then.fails ∷ c.args.stack.now) c.word.new.self
    (Whole c.in-Then.holds ∷ l) 0)
    (sym c.in_ok-push-in-Then.ensures.ok)
    (then_begun nodes c.in-Then.holds c.in-Then.fails c.args.stack.now c.args.line.now c.word.new.self c.in_ok-word-in-Then.ensures))

pub returns-in_ok-word-in-Else : goal.returns-in_ok-word-in-Else
returns-in_ok-word-in-Else c = λ nodes.
    subst (λ (w : Waiting). Continues nodes c.args.line.now (w ∷ c.args.stack.now) c.word-in-Else.new.self
    (Whole c.in-Else.fails ∷ c.args.stack.now) 0) (sym c.in-Else.is)
    (else_begun nodes c.in-Else.fails c.args.stack.now c.args.line.now c.word-in-Else.new.self c.in_ok-word-in-Else.ensures)
