use Rattle.std.proofs.Common.{◌≡◌, List, [], ◌∷◌, ◌++◌, ◌<◌, reverse, sym, ap, ◌∙◌, subst}
use Rattle.std.proofs.lemmas.List.{reverse-append, nil_from_length}
use Rattle.wb_text_predictive.specs.declared.symbol.Symbol.TheVariants.{Token, Nonterminal, Act}
use Rattle.wb_text_predictive.specs.Entries.{weight_of}
use Rattle.wb_text_predictive.specs.Stack.{Stands, Begins}
use Rattle.wb_text_predictive.proofs.Stacks.{acts, expands, stuck_nonterminal}
use Rattle.wb_text_predictive.proofs.Weights.{lighter}
use Rattle.wb_text_predictive.proofs.machine.expand.Goals as goal

on_top : {S : Type 0} (old new : List S) (x : S) → old ≡ new ++ x ∷ [] → reverse old ≡ x ∷ reverse new
on_top old new x e = ap reverse e ∙ reverse-append new (x ∷ [])

pub returns-in-None : goal.returns-in-None
returns-in-None g c = record {
  ok = λ first read s.
      let t = g.T.Table in
      let n : c.expand.stack.items ≡ [] = nil_from_length c.expand.stack.items (sym c.expand.stack.ok.0 ∙ c.in-None.ensures.cases.0) in
      subst (λ items. Stands g.T.Kind.PartialEq.eq t.end_kind t.entries t.grammar first read
      (reverse items) c.expand.values (Begins t.grammar.kind_of t.end_kind c.args.kind)) n (c.expand.invariant first read s);
}

pub returns-in-Some-Token : goal.returns-in-Some-Token
returns-in-Some-Token g c = record {
  ok = λ first read s.
      let t = g.T.Table in let a = c.in-Some-Token in
      let e = on_top c.expand.stack.items c.pop.new.self.items (Token a.wanted) (a.ensures.items
      ∙ ap (λ x. c.pop.new.self.items ++ x ∷ []) a.field-0-is) in
      subst (λ row. Stands g.T.Kind.PartialEq.eq t.end_kind t.entries t.grammar first read row c.expand.values
      (Begins t.grammar.kind_of t.end_kind c.args.kind)) e (c.expand.invariant first read s);
}

pub returns-in-None-right_at : goal.returns-in-None-right_at
returns-in-None-right_at g c = record {
  ok = λ first read s.
      let t = g.T.Table in let same = g.T.Kind.PartialEq.eq in let a = c.in-Some-Nonterminal in
      let e = on_top c.expand.stack.items c.pop.new.self.items (Nonterminal a.nonterminal) (a.ensures.items
      ∙ ap (λ x. c.pop.new.self.items ++ x ∷ []) a.field-0-is) in
      stuck_nonterminal same g.met.T.Table.same t.end_kind t.entries t.grammar g.met.T.Table.decided first read a.nonterminal
      (reverse c.pop.new.self.items) c.expand.values c.args.kind c.in-None-right_at.ensures
      (subst (λ row. Stands same t.end_kind t.entries t.grammar first read row c.expand.values
      (Begins t.grammar.kind_of t.end_kind c.args.kind)) e (c.expand.invariant first read s));
}

pub expand-preserved-in-Continue-1 : goal.expand-preserved-in-Continue-1
expand-preserved-in-Continue-1 g c = λ first read s.
    let t = g.T.Table in let same = g.T.Kind.PartialEq.eq in let a = c.in-Some-Act in
    let fits = Begins t.grammar.kind_of t.end_kind c.args.kind in
    let e = on_top c.expand.stack.items c.pop.new.self.items (Act a.action) (a.ensures.items
    ∙ ap (λ x. c.pop.new.self.items ++ x ∷ []) a.field-0-is) in
    subst (λ v. Stands same t.end_kind t.entries t.grammar first read (reverse c.pop.new.self.items) v fits)
    (sym c.in_ok-act-in-Some-Act.ensures.ok)
    (acts same g.met.T.Table.same t.end_kind t.entries t.grammar g.met.T.Table.decided first read a.action
    (reverse c.pop.new.self.items) c.expand.values fits
    (subst (λ row. Stands same t.end_kind t.entries t.grammar first read row c.expand.values fits) e (c.expand.invariant first read s)))

pub expand-preserved : goal.expand-preserved
expand-preserved g c = λ first read s.
    let t = g.T.Table in let same = g.T.Kind.PartialEq.eq in let a = c.in-Some-Nonterminal in
    let fits = Begins t.grammar.kind_of t.end_kind c.args.kind in
    let e = on_top c.expand.stack.items c.pop.new.self.items (Nonterminal a.nonterminal) (a.ensures.items
    ∙ ap (λ x. c.pop.new.self.items ++ x ∷ []) a.field-0-is) in
    subst (λ row. Stands same t.end_kind t.entries t.grammar first read row c.expand.values fits) (sym c.in_ok-push_row-in-Some.ensures.ok)
    (expands same g.met.T.Table.same t.end_kind t.entries t.grammar g.met.T.Table.decided first read a.nonterminal
    (reverse c.pop.new.self.items) c.expand.values c.args.kind c.in-Some.right.now c.in-Some.ensures
    (subst (λ row. Stands same t.end_kind t.entries t.grammar first read row c.expand.values fits) e (c.expand.invariant first read s)))

pub expand-smaller : goal.expand-smaller
expand-smaller g c =
    let t = g.T.Table in let same = g.T.Kind.PartialEq.eq in let a = c.in-Some-Nonterminal in
    let e = on_top c.expand.stack.items c.pop.new.self.items (Nonterminal a.nonterminal) (a.ensures.items
    ∙ ap (λ x. c.pop.new.self.items ++ x ∷ []) a.field-0-is) in
    let m = lighter same t.end_kind t.entries t.grammar.rights g.met.T.Table.decided a.nonterminal
    (reverse c.pop.new.self.items) c.in-Some.right.now c.args.kind c.in-Some.ensures in
    subst (λ row. weight_of t.entries row < weight_of t.entries (reverse c.expand.stack.items)) (sym c.in_ok-push_row-in-Some.ensures.ok)
    (subst (λ row. weight_of t.entries (c.in-Some.right.now ++ reverse c.pop.new.self.items) < weight_of t.entries row) (sym e) m)
