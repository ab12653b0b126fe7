use Rattle.std.proofs.Common.{◌≡◌, ℕ, zero, suc, ◌<◌, ◌≤◌, [], ◌∷◌, ◌++◌, All, length, reverse, refl, subst, arith}
use Rattle.std.proofs.lemmas.List.Elements.{All-append}
use Rattle.wb_text_predictive.specs.declared.table.Placed.{Placed}
use Rattle.wb_text_predictive.specs.Reading.{Spells, none}
use Rattle.wb_text_predictive.proofs.Readings.{spells_more}
use Rattle.wb_text_expected.specs.Inner.Steps.{GoesOn, StepIs}
use Rattle.wb_text_expected.proofs.walk.walk.Goals as goal

one : {X : Type 0} (at : ℕ) (x : Placed X) → x.at < at → All (λ y. y.at < at) (x ∷ [])
one at x h zero d less = h
one at x h (suc k) d less = absurd (omega (arith, less))

pub tokens-init : goal.tokens-init
tokens-init g c = record {
  within = omega arith;
  front = [];
  spelled = none refl;
  before = λ k d h. absurd (omega (arith, h));
  row = c.requires;
}

pub tokens-preserved : goal.tokens-preserved
tokens-preserved g c =
    let t = g.T.Table in let same = g.T.Kind.PartialEq.eq in let i = c.tokens.invariant in
    let is = t.IsNext c.args.table.now c.args.text.now in
    let h = subst (λ s. StepIs same t.end_kind t.entries t.grammar is c.tokens.from c.args.at i.front
    (reverse c.advance.new.stack.items) s) c.in-Went.is (c.in_ok-to.ensures.ok i.front i.row) in
    let on = subst (λ s. GoesOn c.tokens.from (length c.args.text.now) s) c.in-Went.is c.in_ok-to.ensures.progress in
    record {
      within = on.1;
      front = i.front ++ h.x ∷ [];
      spelled = subst (λ to. Spells is 0 (i.front ++ h.x ∷ []) to) h.ends (spells_more is h.x i.spelled h.stands);
      before = All-append (λ x. x.at < c.args.at) i.front (h.x ∷ []) i.before (one c.args.at h.x h.before);
      row = h.row_is;
    }

pub returns-in-There : goal.returns-in-There
returns-in-There g c = λ walked.
    let t = g.T.Table in let same = g.T.Kind.PartialEq.eq in let i = c.tokens.invariant in
    let is = t.IsNext c.args.table.now c.args.text.now in
    let h = subst (λ s. StepIs same t.end_kind t.entries t.grammar is c.tokens.from c.args.at i.front
    (reverse c.advance.new.stack.items) s) c.in-There.is (c.in_ok-to.ensures.ok i.front i.row) in
    record {
      front = i.front;
      from = c.tokens.from;
      next = h.next;
      spelled = i.spelled;
      before = i.before;
      stands = h.stands;
      after = h.after;
      row_is = h.row_is;
    }
