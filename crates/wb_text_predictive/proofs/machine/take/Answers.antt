use Rattle.std.proofs.Common.{◌≡◌, [], ◌∷◌, ◌++◌, reverse, sym, ◌∙◌, subst}
use Rattle.wb_text_predictive.specs.declared.machine.Top.TheVariants.{Token, Bottom, Stuck}
use Rattle.wb_text_predictive.specs.Stack.{Stands, Any}
use Rattle.wb_text_predictive.specs.Inner.Machine.{TopIs}
use Rattle.wb_text_predictive.proofs.Stacks.{takes, other_token, none_starts, nothing_follows}
use Rattle.wb_text_predictive.proofs.machine.take.Goals as goal

pub returns-in_ok-shift-in-Token : goal.returns-in_ok-shift-in-Token
returns-in_ok-shift-in-Token g c = record {
  ok = λ first read s.
      let t = g.T.Table in let same = g.T.Kind.PartialEq.eq in
      let row = reverse c.expand.new.stack.items in let now = c.expand.new.values in
      let top = subst (λ top. TopIs same t.end_kind t.entries t.grammar c.kind-kind.result first read row now top) c.in-Token.is
      (c.in_ok-wanted.ensures.ok first read s) in
      let h = subst (λ kind. TopIs same t.end_kind t.entries t.grammar kind first read row now
      (Token c.in-Token.wanted)) c.kind-kind.ensures top in
      let e : c.in-Token.wanted ≡ c.kind-kind.result = (g.met.T.Table.same c.in-Token.wanted c.kind-kind.result).0
      (sym c.eq.ensures ∙ c.if-eq.true) in
      subst (λ v. Stands same t.end_kind t.entries t.grammar first (read ++ c.args.token ∷ []) row v Any)
      (sym c.in_ok-shift-in-Token.ensures.ok)
      (takes same g.met.T.Table.same t.end_kind t.entries t.grammar g.met.T.Table.decided first read c.args.token row now c.in-Token.wanted
      (e ∙ c.kind-kind.ensures) h);
}

pub returns-else-eq : goal.returns-else-eq
returns-else-eq g c = record {
  ok = λ first read s.
      let t = g.T.Table in let same = g.T.Kind.PartialEq.eq in
      let row = reverse c.expand.new.stack.items in let now = c.expand.new.values in
      let top = subst (λ top. TopIs same t.end_kind t.entries t.grammar c.kind-kind.result first read row now top) c.in-Token.is
      (c.in_ok-wanted.ensures.ok first read s) in
      let h = subst (λ kind. TopIs same t.end_kind t.entries t.grammar kind first read row now
      (Token c.in-Token.wanted)) c.kind-kind.ensures top in
      let differ : c.in-Token.wanted ≡ t.grammar.kind_of c.args.token.token → ⊥ = λ e.
      (let i = sym c.if-eq.false ∙ c.eq.ensures
      ∙ (g.met.T.Table.same c.in-Token.wanted c.kind-kind.result).1 (e ∙ sym c.kind-kind.ensures) in absurd (cc)) in
      none_starts same g.met.T.Table.same t.end_kind t.entries t.grammar g.met.T.Table.decided first read c.args.token
      (other_token same g.met.T.Table.same t.end_kind t.entries t.grammar g.met.T.Table.decided first read c.in-Token.wanted row now
      (t.grammar.kind_of c.args.token.token) differ h);
}

pub returns-in-Bottom : goal.returns-in-Bottom
returns-in-Bottom g c = record {
  ok = λ first read s.
      let t = g.T.Table in let same = g.T.Kind.PartialEq.eq in
      let row = reverse c.expand.new.stack.items in let now = c.expand.new.values in
      let top = subst (λ top. TopIs same t.end_kind t.entries t.grammar c.kind-kind.result first read row now top) c.in-Bottom.is
      (c.in_ok-wanted.ensures.ok first read s) in
      let h = subst (λ kind. TopIs same t.end_kind t.entries t.grammar kind first read row now Bottom) c.kind-kind.ensures top in
      nothing_follows same g.met.T.Table.same t.end_kind t.entries t.grammar g.met.T.Table.decided first read c.args.token now h;
}

pub returns-in-Stuck : goal.returns-in-Stuck
returns-in-Stuck g c = record {
  ok = λ first read s.
      let t = g.T.Table in let same = g.T.Kind.PartialEq.eq in
      let row = reverse c.expand.new.stack.items in let now = c.expand.new.values in
      let top = subst (λ top. TopIs same t.end_kind t.entries t.grammar c.kind-kind.result first read row now top) c.in-Stuck.is
      (c.in_ok-wanted.ensures.ok first read s) in
      let h = subst (λ kind. TopIs same t.end_kind t.entries t.grammar kind first read row now Stuck) c.kind-kind.ensures top in
      none_starts same g.met.T.Table.same t.end_kind t.entries t.grammar g.met.T.Table.decided first read c.args.token h;
}
