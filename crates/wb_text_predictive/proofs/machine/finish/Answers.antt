use Rattle.std.proofs.Common.{reverse, subst}
use Rattle.wb_text_predictive.specs.declared.machine.Top.TheVariants.{Token, Bottom, Stuck}
use Rattle.wb_text_predictive.specs.Inner.Machine.{TopIs}
use Rattle.wb_text_predictive.proofs.Stacks.{token_at_end, finished, none_ends}
use Rattle.wb_text_predictive.proofs.machine.finish.Goals as goal

pub returns-in-Token : goal.returns-in-Token
returns-in-Token g c = record {
  ok = λ first read s.
      let t = g.T.Table in let same = g.T.Kind.PartialEq.eq in
      let row = reverse c.expand.new.stack.items in let now = c.expand.new.values in
      let top = subst (λ top. TopIs same t.end_kind t.entries t.grammar c.end.result first read row now top) c.in-Token.is
      (c.in_ok-expand.ensures.ok first read s) in
      let h = subst (λ kind. TopIs same t.end_kind t.entries t.grammar kind first read row now
      (Token c.in-Token.field-0)) c.end.ensures top in
      token_at_end same g.met.T.Table.same t.end_kind t.entries t.grammar g.met.T.Table.decided first read c.in-Token.field-0 row now h;
}

pub returns-in-Bottom : goal.returns-in-Bottom
returns-in-Bottom g c = record {
  ok = λ first read s.
      let t = g.T.Table in let same = g.T.Kind.PartialEq.eq in
      let row = reverse c.expand.new.stack.items in let now = c.expand.new.values in
      let top = subst (λ top. TopIs same t.end_kind t.entries t.grammar c.end.result first read row now top) c.in-Bottom.is
      (c.in_ok-expand.ensures.ok first read s) in
      let h = subst (λ kind. TopIs same t.end_kind t.entries t.grammar kind first read row now Bottom) c.end.ensures top in
      finished same g.met.T.Table.same t.end_kind t.entries t.grammar g.met.T.Table.decided first read now h;
}

pub returns-in-Stuck : goal.returns-in-Stuck
returns-in-Stuck g c = record {
  ok = λ first read s.
      let t = g.T.Table in let same = g.T.Kind.PartialEq.eq in
      let row = reverse c.expand.new.stack.items in let now = c.expand.new.values in
      let top = subst (λ top. TopIs same t.end_kind t.entries t.grammar c.end.result first read row now top) c.in-Stuck.is
      (c.in_ok-expand.ensures.ok first read s) in
      let h = subst (λ kind. TopIs same t.end_kind t.entries t.grammar kind first read row now Stuck) c.end.ensures top in
      none_ends same g.met.T.Table.same t.end_kind t.entries t.grammar g.met.T.Table.decided first read h;
}
