use Rattle.std.proofs.Common.{◌≡◌, List, [], ◌∷◌, ◌++◌, ◌<◌, reverse, sym, ap, ◌∙◌, subst}
use Rattle.std.proofs.lemmas.List.{reverse-append, nil_from_length}
use Rattle.wb_text_predictive.specs.declared.symbol.Symbol.TheVariants.{Token, Nonterminal, Act}
use Rattle.wb_text_predictive.specs.Entries.{weight_of}
use Rattle.wb_text_predictive.specs.Stack.{Begins}
use Rattle.wb_text_predictive.proofs.Stacks.{acts, expands, stuck_nonterminal}
use Rattle.wb_text_predictive.proofs.Weights.{lighter}
use Rattle.wb_text_expected.specs.Inner.Bare.{StandsBare, bare}
use Rattle.wb_text_expected.proofs.machine.expand.Goals as goal

on_top : {S : Type 0} (old new : List S) (x : S) → old ≡ new ++ x ∷ [] → reverse old ≡ x ∷ reverse new
on_top old new x e = ap reverse e ∙ reverse-append new (x ∷ [])

pub returns-in-None : goal.returns-in-None
returns-in-None g c = record {
  ok = λ read s.
      let t = g.T.Table in
      let n : c.expand.stack.items ≡ [] = nil_from_length c.expand.stack.items (sym c.expand.stack.ok.0 ∙ c.in-None.ensures.cases.0) in
      subst (λ items. StandsBare g.T.Kind.PartialEq.eq t.end_kind t.entries t.grammar read
      (reverse items) (Begins t.grammar.kind_of t.end_kind c.args.kind)) n (c.expand.invariant read s);
}

pub returns-in-Some-Token : goal.returns-in-Some-Token
returns-in-Some-Token g c = record {
  ok = λ read s.
      let t = g.T.Table in let a = c.in-Some-Token in
      let e = on_top c.expand.stack.items c.pop.new.self.items (Token a.wanted) (a.ensures.items
      ∙ ap (λ x. c.pop.new.self.items ++ x ∷ []) a.field-0-is) in
      subst (λ row. StandsBare g.T.Kind.PartialEq.eq t.end_kind t.entries t.grammar read row
      (Begins t.grammar.kind_of t.end_kind c.args.kind)) e (c.expand.invariant read s);
}

pub returns-in-None-right_at : goal.returns-in-None-right_at
returns-in-None-right_at g c = record {
  ok = λ read s.
      let t = g.T.Table in let same = g.T.Kind.PartialEq.eq in let a = c.in-Some-Nonterminal in
      let e = on_top c.expand.stack.items c.pop.new.self.items (Nonterminal a.nonterminal) (a.ensures.items
      ∙ ap (λ x. c.pop.new.self.items ++ x ∷ []) a.field-0-is) in
      stuck_nonterminal same g.met.T.Table.same t.end_kind t.entries (bare t.grammar) g.met.T.Table.decided tt read a.nonterminal
      (reverse c.pop.new.self.items) tt c.args.kind c.in-None-right_at.ensures
      (subst (λ row. StandsBare same t.end_kind t.entries t.grammar read row
      (Begins t.grammar.kind_of t.end_kind c.args.kind)) e (c.expand.invariant read s));
}

pub expand-preserved-in-Some-Act : goal.expand-preserved-in-Some-Act
expand-preserved-in-Some-Act g c = λ read s.
    let t = g.T.Table in let same = g.T.Kind.PartialEq.eq in let a = c.in-Some-Act in
    let fits = Begins t.grammar.kind_of t.end_kind c.args.kind in
    let e = on_top c.expand.stack.items c.pop.new.self.items (Act a.field-0-0) (a.ensures.items
    ∙ ap (λ x. c.pop.new.self.items ++ x ∷ []) a.field-0-is) in
    acts same g.met.T.Table.same t.end_kind t.entries (bare t.grammar) g.met.T.Table.decided tt read a.field-0-0
    (reverse c.pop.new.self.items) tt fits
    (subst (λ row. StandsBare same t.end_kind t.entries t.grammar read row fits) e (c.expand.invariant read s))

pub expand-preserved : goal.expand-preserved
expand-preserved g c = λ read s.
    let t = g.T.Table in let same = g.T.Kind.PartialEq.eq in let a = c.in-Some-Nonterminal in
    let fits = Begins t.grammar.kind_of t.end_kind c.args.kind in
    let e = on_top c.expand.stack.items c.pop.new.self.items (Nonterminal a.nonterminal) (a.ensures.items
    ∙ ap (λ x. c.pop.new.self.items ++ x ∷ []) a.field-0-is) in
    subst (λ row. StandsBare same t.end_kind t.entries t.grammar read row fits) (sym c.in_ok-push_row-in-Some.ensures.ok)
    (expands same g.met.T.Table.same t.end_kind t.entries (bare t.grammar) g.met.T.Table.decided tt read a.nonterminal
    (reverse c.pop.new.self.items) tt c.args.kind c.in-Some.right.now c.in-Some.ensures
    (subst (λ row. StandsBare same t.end_kind t.entries t.grammar read row fits) e (c.expand.invariant read s)))

pub expand-smaller : goal.expand-smaller
expand-smaller g c =
    let t = g.T.Table in let same = g.T.Kind.PartialEq.eq in let a = c.in-Some-Nonterminal in
    let e = on_top c.expand.stack.items c.pop.new.self.items (Nonterminal a.nonterminal) (a.ensures.items
    ∙ ap (λ x. c.pop.new.self.items ++ x ∷ []) a.field-0-is) in
    let m = lighter same t.end_kind t.entries t.grammar.rights g.met.T.Table.decided a.nonterminal
    (reverse c.pop.new.self.items) c.in-Some.right.now c.args.kind c.in-Some.ensures in
    subst (λ row. weight_of t.entries row < weight_of t.entries (reverse c.expand.stack.items)) (sym c.in_ok-push_row-in-Some.ensures.ok)
    (subst (λ row. weight_of t.entries (c.in-Some.right.now ++ reverse c.pop.new.self.items) < weight_of t.entries row) (sym e) m)
