use Rattle.std.proofs.Common.{◌≡◌, ◌∙◌, false, ap, subst, sym}
use Rattle.std.proofs.lemmas.Bool.{true≢false}
use Rattle.std.proofs.lemmas.Result.{IfOk-weaker}
use Rattle.wb_automata.specs.Inner.Pairs.{Adds, is_stuck}
use Rattle.wb_automata.proofs.PairLemmas.{adds_none, adds_same}
use Rattle.wb_automata.proofs.walk.meet_open.Goals as goal

pub returns-then-is_stuck : goal.returns-then-is_stuck
returns-then-is_stuck c =
    let places = c.args.places.now in
    adds_none (λ d. (d ≡ c.args.pair) × (is_stuck places d ≡ false)) c.args.met.now c.args.next.now
    (λ d (e, f). true≢false (sym c.if-is_stuck.true ∙ c.is_stuck.ensures ∙ ap (is_stuck places) (sym e) ∙ f))

pub returns : goal.returns
returns c =
    let places = c.args.places.now in
    IfOk-weaker c.meet.result (λ _. Adds (λ d. d ≡ c.args.pair) c.args.met.now c.args.next.now c.meet.new.met c.meet.new.next)
    (λ _. Adds (λ d. (d ≡ c.args.pair) × (is_stuck places d ≡ false)) c.args.met.now c.args.next.now c.meet.new.met c.meet.new.next)
    (λ _ h. adds_same (λ d. d ≡ c.args.pair) (λ d. (d ≡ c.args.pair) × (is_stuck places d ≡ false)) c.args.met.now c.args.next.now
    c.meet.new.met c.meet.new.next
    (λ d e. (e, subst (λ z. is_stuck places z ≡ false) (sym e) (sym c.is_stuck.ensures ∙ c.if-is_stuck.false))) (λ d (e, f). e) h)
    c.meet.ensures
