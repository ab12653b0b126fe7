use Rattle.std.proofs.Common.{◌≡◌, [], ◌∷◌, ◌++◌, reverse, sym, ◌∙◌, subst}
use Rattle.wb_text_predictive.specs.Stack.{Begins}
use Rattle.wb_text_predictive.specs.declared.symbol.Symbol.TheVariants as Symbols
use Rattle.wb_text_expected.specs.declared.machine.Top.TheVariants.{Token}
use Rattle.wb_text_expected.specs.Inner.Bare.{StandsBare}
use Rattle.wb_text_expected.specs.Inner.Machine.{TopIs}
use Rattle.wb_text_expected.proofs.ComesLemmas.{bottom_comes, either_comes, none_comes, taken_by}
use Rattle.wb_text_expected.proofs.machine.take.Goals as goal

pub returns-in-Token-clause-ok : goal.returns-in-Token-clause-ok
returns-in-Token-clause-ok g c = λ read x e s took.
    let t = g.T.Table in let same = g.T.Kind.PartialEq.eq in let row = reverse c.expand.new.stack.items in
    let top = subst (λ top. TopIs same t.end_kind t.entries t.grammar c.args.kind read row top) c.in-Token.is
    (c.in_ok-wanted.ensures.ok read s) in
    let i : c.in-Token.wanted ≡ c.args.kind = (g.met.T.Table.same c.in-Token.wanted c.args.kind).0 (sym c.eq.ensures ∙ took) in
    taken_by same g.met.T.Table.same t.end_kind t.entries t.grammar g.met.T.Table.decided read x c.args.kind row e
    (subst (λ k. StandsBare same t.end_kind t.entries t.grammar read (Symbols.Token k ∷ row)
    (Begins t.grammar.kind_of t.end_kind c.args.kind)) i top)

pub returns-in-Token-clause-comes : goal.returns-in-Token-clause-comes
returns-in-Token-clause-comes g c = λ read first s.
    let t = g.T.Table in let same = g.T.Kind.PartialEq.eq in let row = reverse c.expand.new.stack.items in
    let top = subst (λ top. TopIs same t.end_kind t.entries t.grammar c.args.kind read row top) c.in-Token.is
    (c.in_ok-wanted.ensures.ok read s) in
    either_comes same g.met.T.Table.same t.end_kind t.entries t.grammar g.met.T.Table.decided g.met.T.Table.sampled first read c.in-Token.wanted
    c.args.kind row c.eq.result (sym c.eq.ensures) top

pub returns-in-Bottom-clause-comes : goal.returns-in-Bottom-clause-comes
returns-in-Bottom-clause-comes g c = λ read first s.
    let t = g.T.Table in let same = g.T.Kind.PartialEq.eq in let row = reverse c.expand.new.stack.items in
    let top = subst (λ top. TopIs same t.end_kind t.entries t.grammar c.args.kind read row top) c.in-Bottom.is
    (c.in_ok-wanted.ensures.ok read s) in
    bottom_comes same g.met.T.Table.same t.end_kind t.entries t.grammar g.met.T.Table.decided first read c.args.kind top

pub returns-in-Stuck-clause-comes : goal.returns-in-Stuck-clause-comes
returns-in-Stuck-clause-comes g c = λ read first s.
    let t = g.T.Table in let same = g.T.Kind.PartialEq.eq in let row = reverse c.expand.new.stack.items in
    let top = subst (λ top. TopIs same t.end_kind t.entries t.grammar c.args.kind read row top) c.in-Stuck.is
    (c.in_ok-wanted.ensures.ok read s) in
    none_comes same g.met.T.Table.same t.end_kind t.entries t.grammar g.met.T.Table.decided first read c.args.kind top
