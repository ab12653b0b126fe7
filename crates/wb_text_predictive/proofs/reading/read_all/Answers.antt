use Rattle.std.proofs.Common.{[], ◌∷◌, ◌++◌, length, reverse, refl, sym, ap, ◌∙◌, subst, arith}
use Rattle.wb_text_predictive.specs.declared.symbol.Symbol.TheVariants.{Nonterminal}
use Rattle.wb_text_predictive.specs.Reading.{Spells, none}
use Rattle.wb_text_predictive.specs.Stack.{Stands, Any}
use Rattle.wb_text_predictive.specs.Inner.Steps.{StepIs, GoesOn}
use Rattle.wb_text_predictive.proofs.Stacks.{stands_first, can_go_on}
use Rattle.wb_text_predictive.specs.declared.reading.Outcome.TheVariants.{Whole, Stopped}
use Rattle.wb_text_predictive.proofs.CallerLemmas.{one_outcome}
use Rattle.wb_text_predictive.proofs.Readings.{spells_more}
use Rattle.wb_text_predictive.proofs.reading.read_all.Goals as goal

pub read-init : goal.read-init
read-init g c =
    let t = g.T.Table in let same = g.T.Kind.PartialEq.eq in
    let items = c.in_ok-push.ensures.items ∙ ap (λ x. x ++ Nonterminal c.start.result ∷ []) c.new-stack.ensures.items
    ∙ ap (λ n. Nonterminal n ∷ []) c.start.ensures in
    record {
      within = omega arith;
      read = [];
      spelled = none refl;
      stands = subst (λ s. Stands same t.end_kind t.entries t.grammar c.args.values [] (reverse s) c.args.values Any) (sym items)
          (stands_first same g.met.T.Table.same t.end_kind t.entries t.grammar g.met.T.Table.decided g.met.T.Table.ends c.args.values);
    }

pub read-preserved : goal.read-preserved
read-preserved g c =
    let t = g.T.Table in let same = g.T.Kind.PartialEq.eq in let i = c.read.invariant in
    let is = t.IsNext c.args.table.now c.args.text.now in
    let h = subst (λ s. StepIs same t.end_kind t.entries t.grammar is c.read.from c.args.values i.read
    (reverse c.advance.new.stack.items) c.advance.new.values s) c.in-Went.is (c.in_ok-to.ensures.ok c.args.values i.read i.stands) in
    let on = subst (λ s. GoesOn c.read.from (length c.args.text.now) s) c.in-Went.is c.in_ok-to.ensures.progress in
    record {
      within = on.1;
      read = i.read ++ h.0 ∷ [];
      spelled = subst (λ to. Spells is 0 (i.read ++ h.0 ∷ []) to) h.2 (spells_more is h.0 i.spelled h.1);
      stands = h.3;
    }

pub returns-in-Done-clause-ok : goal.returns-in-Done-clause-ok
returns-in-Done-clause-ok g c =
    let t = g.T.Table in let same = g.T.Kind.PartialEq.eq in let i = c.read.invariant in
    let is = t.IsNext c.args.table.now c.args.text.now in
    let h = subst (λ s. StepIs same t.end_kind t.entries t.grammar is c.read.from c.args.values i.read
    (reverse c.advance.new.stack.items) c.advance.new.values s) c.in-Done.is (c.in_ok-to.ensures.ok c.args.values i.read i.stands) in
    record { tokens = i.read; to = c.read.from; at = h.0; spelled = i.spelled; ended = h.1; text = h.2 }

pub returns-in-Done-clause-only : goal.returns-in-Done-clause-only
returns-in-Done-clause-only g c =
    let t = g.T.Table in let m = g.met.T.Table in
    one_outcome g.T.Kind.PartialEq.eq m.same t.end_kind t.entries t.grammar m.decided m.ends
    (t.IsNext c.args.table.now c.args.text.now) (m.one_next c.args.table.now c.args.text.now) c.args.values (Whole c.advance.new.values) (returns-in-Done-clause-ok g c)

pub returns-in-Stuck-clause-ok : goal.returns-in-Stuck-clause-ok
returns-in-Stuck-clause-ok g c =
    let t = g.T.Table in let same = g.T.Kind.PartialEq.eq in let i = c.read.invariant in
    let is = t.IsNext c.args.table.now c.args.text.now in
    let h = subst (λ s. StepIs same t.end_kind t.entries t.grammar is c.read.from c.args.values i.read
    (reverse c.advance.new.stack.items) c.advance.new.values s) c.in-Stuck.is (c.in_ok-to.ensures.ok c.args.values i.read i.stands) in
    record {
      front = i.read;
      from = c.read.from;
      next = h.0;
      spelled = i.spelled;
      before =
          can_go_on same g.met.T.Table.same t.end_kind t.entries t.grammar g.met.T.Table.decided g.met.T.Table.sampled c.args.values i.read
          (reverse c.read.stack.items) c.read.made Any i.stands;
      stands = h.1;
      fault = h.2;
      place = h.3;
    }

pub returns-in-Stuck-clause-only : goal.returns-in-Stuck-clause-only
returns-in-Stuck-clause-only g c =
    let t = g.T.Table in let m = g.met.T.Table in
    one_outcome g.T.Kind.PartialEq.eq m.same t.end_kind t.entries t.grammar m.decided m.ends
    (t.IsNext c.args.table.now c.args.text.now) (m.one_next c.args.table.now c.args.text.now) c.args.values (Stopped c.in-Stuck.at) (returns-in-Stuck-clause-ok g c)
