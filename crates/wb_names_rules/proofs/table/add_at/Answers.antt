use Rattle.std.proofs.Common.{Some, sym, ap, ◌∙◌}
use Rattle.std.proofs.lemmas.Option.{slice_get-get_or}
use Rattle.wb_names_rules.proofs.IndexLemmas.{skips, uncounted, new_there}
use Rattle.wb_names_rules.proofs.SymbolLemmas.{knows}
use Rattle.wb_names_rules.proofs.TwiceLemmas.{refused_twice, twice}
use Rattle.wb_names_rules.proofs.table.add_at.Goals as goal

pub returns-then-not-is_in-clause-ok : goal.returns-then-not-is_in-clause-ok
returns-then-not-is_in-clause-ok c =
    let ds = c.args.declarations.now in
    let here = slice_get-get_or ds c.args.place c.index-declarations-place.result c.requires.within
    ∙ ap Some (sym c.index-declarations-place.is) in
    skips ds c.args.table.now.keys c.args.table.now.places.items c.args.pass c.args.place c.index-declarations-place.result c.requires.indexed
    here (λ is. absurd (let t = c.is_in.ensures.1 is in let f = c.if-not-is_in.true in cc))

pub counts-requires : goal.counts-requires
counts-requires c =
    λ is. knows c.args.declarations.now c.args.table.now.keys c.args.table.now.places.items c.args.pass c.args.place
    c.index-declarations-place.result c.requires.indexed (c.is_in.ensures.0 c.if-not-is_in.false) is

pub returns-then-not-branch-clause-ok : goal.returns-then-not-branch-clause-ok
returns-then-not-branch-clause-ok c =
    let ds = c.args.declarations.now in
    let here = slice_get-get_or ds c.args.place c.index-declarations-place.result c.requires.within
    ∙ ap Some (sym c.index-declarations-place.is) in
    uncounted ds c.args.table.now.keys c.args.table.now.places.items c.args.pass c.args.place c.index-declarations-place.result c.requires.indexed
    here (c.is_in.ensures.0 c.if-not-is_in.false) (λ is. absurd (let t = c.in_ok-counts.ensures.1 is in let f = c.if-not-branch.true in cc))

pub returns-in-None-clause-ok : goal.returns-in-None-clause-ok
returns-in-None-clause-ok c =
    let ds = c.args.declarations.now in
    let here = slice_get-get_or ds c.args.place c.index-declarations-place.result c.requires.within
    ∙ ap Some (sym c.index-declarations-place.is) in
    let added = rw c.in-None.is at c.in_ok-add_key.ensures.new in
    new_there ds c.args.table.now.keys c.args.table.now.places.items c.args.pass c.args.place c.index-declarations-place.result c.requires.indexed
    here (c.is_in.ensures.0 c.if-not-is_in.false) c.add_key.new.self.keys c.add_key.new.self.places.items added.0
    (c.in_ok-counts.ensures.0 c.if-not-branch.false) added.1 added.2

pub returns-in-Some-clause-refused : goal.returns-in-Some-clause-refused
returns-in-Some-clause-refused c =
    let ds = c.args.declarations.now in
    let here = slice_get-get_or ds c.args.place c.index-declarations-place.result c.requires.within
    ∙ ap Some (sym c.index-declarations-place.is) in
    let present = rw c.in-Some.is at c.in_ok-add_key.ensures.present in
    refused_twice ds c.index-declarations-place.result
    (twice ds c.args.table.now.keys c.args.table.now.places.items c.args.pass c.args.place c.index-declarations-place.result c.requires.indexed
    here (c.is_in.ensures.0 c.if-not-is_in.false) c.in-Some.field-0 present.0 (c.in_ok-counts.ensures.0 c.if-not-branch.false))
    c.duplicate.result c.duplicate.ensures
