use Rattle.std.proofs.Common.{arith, length, refl}
use Rattle.std.proofs.lemmas.Option.{slice_get_read}
use Rattle.wb_lemmas.proofs.Elements.{all_at}
use Rattle.wb_compose_language.specs.Inner.Known.{HasOwnRows}
use Rattle.wb_compose_language.proofs.KnownLemmas.{bases_more}
use Rattle.wb_compose_language.proofs.known.owns_of.Goals as goal

pub extensions-preserved : goal.extensions-preserved
extensions-preserved c =
    let xs = c.args.extensions.now in
    let i = c.extensions.extension-index in
    let x = c.extension-item.result in
    bases_more c.args.own c.args.hosts xs i x c.extensions.owns.patterns.items c.add_extension.new.owns.patterns.items c.extensions.owns.bases.items
    c.add_extension.new.owns.bases.items
    (all_at (HasOwnRows c.args.own c.args.hosts) xs i x c.requires (slice_get_read xs (length xs) i x refl (omega arith) c.extension-item.is)).0
    (slice_get_read xs (length xs) i x refl (omega arith) c.extension-item.is)
    c.in_ok-add_extension.ensures c.extensions.invariant
