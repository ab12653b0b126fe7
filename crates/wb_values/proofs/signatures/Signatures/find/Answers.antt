use Rattle.std.proofs.Common.{List, subst, arith}
use Rattle.std.proofs.lemmas.Option.{slice_get_within}
use Rattle.wb_values.specs.Signature.{Signature, HasNone, IsFirst}
use Rattle.wb_values.proofs.SignatureLemmas.{none-named, first-named}
use Rattle.wb_values.proofs.signatures.Signatures.find.Goals as goal

pub returns-in_err-number-clause-none : goal.returns-in_err-number-clause-none
returns-in_err-number-clause-none c =
    rw c.from_residual.ensures (subst (λ (xs : List Signature). HasNone xs c.args.name.now) c.self.view_is
    (none-named c.self.inside.names c.self.inside.entries.items c.args.name.now c.self.invariant.below c.in_err-number.ensures.none))

pub prove-unreachable-requires : goal.prove-unreachable-requires
prove-unreachable-requires c =
    let lt = slice_get_within c.self.inside.names c.in_ok-number.number c.args.name.now c.in_ok-number.ensures.found in
    omega (arith, lt, c.len.ensures.count, c.if-prove.true)

pub returns-clause-found : goal.returns-clause-found
returns-clause-found c =
    subst (λ (xs : List Signature). IsFirst xs c.args.name.now c.index.result.now) c.self.view_is
    (first-named c.self.inside.names c.self.inside.entries.items c.self.inside.firsts.items c.in_ok-number.number c.args.name.now
    c.index.result.now c.len.ensures.different c.self.invariant c.in_ok-number.ensures.found c.index.ensures)
