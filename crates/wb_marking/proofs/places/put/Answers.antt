use Rattle.std.proofs.Common.{refl, subst, sym, arith}
use Rattle.wb_marking.specs.Inner.Begun.{BeginsOnHost}
use Rattle.wb_marking.specs.Markers.{IsHosts}
use Rattle.wb_marking.proofs.PlaceLemmas as p
use Rattle.wb_marking.proofs.places.put.Goals as goal

pub returns-in_default : goal.returns-in_default
returns-in_default c =
    p.begun_skipped c.args.scope.now.parts.now c.args.scope.now.grammar.now c.args.number _ c.requires.table
    (λ marker is b. c.in_default.ensures.none marker is b.begins)

pub index_mut-requires : goal.index_mut-requires
index_mut-requires c =
    let within = p.marker_within c.args.scope.now.parts.now c.in-Some.marker c.in-Some.ensures.some.0 in
    let len = c.requires.table.len in
    let same = c.args.table.now.ok.0 in
    omega (arith, within, len, same)

pub returns-then-is_hosts : goal.returns-then-is_hosts
returns-then-is_hosts c =
    let r = c.args.scope.now.parts.now in
    let g = c.args.scope.now.grammar.now in
    let begins = c.in-Some.ensures.some.1 in
    let left = p.left_is g c.args.number c.left.result c.left.ensures.left c.in-Some.marker 0 begins in
    let b : BeginsOnHost r g c.in-Some.marker c.args.number =
    record { begins = begins; host = subst (IsHosts r) left (c.if-is_hosts.ensures.0 refl) } in
    p.begun_put r g c.args.number c.args.table.now.items _ c.in-Some.marker c.requires.table c.in-Some.ensures.some.0 b refl

pub returns-else-is_hosts : goal.returns-else-is_hosts
returns-else-is_hosts c =
    let r = c.args.scope.now.parts.now in
    let g = c.args.scope.now.grammar.now in
    p.begun_skipped r g c.args.number c.args.table.now.items c.requires.table (λ marker is b.
    let left = p.left_is g c.args.number c.left.result c.left.ensures.left marker 0 b.begins in
    let bad = c.if-is_hosts.ensures.1 (subst (IsHosts r) (sym left) b.host) in
    cc)
