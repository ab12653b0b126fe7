use Rattle.std.proofs.Common.{◌≡◌, ◌<◌, [], length, sym, ap, arith}
use Rattle.std.proofs.lemmas.Option.{get_or_from_slice_get}
use Rattle.wb_values.proofs.SignatureLemmas.{length-signatures, number-below, at-entry}
use Rattle.wb_values.proofs.signatures.Signatures.name.Goals as goal

pub name-requires : goal.name-requires
name-requires c =
    let es = c.self.inside.entries.items in
    let lt : c.args.production < length es = omega
    (arith, ap length c.self.view_is, length-signatures c.self.inside.names es, c.requires) in
    number-below (length c.self.inside.names) es c.args.production c.index-entry.result.now c.self.invariant.below lt
    (sym c.index-entry.ensures)

pub returns : goal.returns
returns c =
    let es = c.self.inside.entries.items in
    let e = c.index-entry.result.now in
    let lt : c.args.production < length es = omega
    (arith, ap length c.self.view_is, length-signatures c.self.inside.names es, c.requires) in
    at-entry c.self.inside.names es c.args.self.now c.args.production e (λ s. c.name.result.now ≡ s.name) c.self.view_is lt
    (sym c.index-entry.ensures)
    (sym (get_or_from_slice_get c.self.inside.names e.name c.name.result.now [] c.name.ensures))
