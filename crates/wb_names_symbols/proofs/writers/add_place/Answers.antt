use Rattle.std.proofs.Common.{◌<◌, inl, inr, length, subst, arith}
use Rattle.std.proofs.lemmas.Option.{slice_get_within}
use Rattle.std.proofs.lemmas.Result.{on_ok_weaker}
use Rattle.wb_base.specs.declared.names.Added.TheVariants.{New, Present}
use Rattle.wb_base.specs.Names.{AddsName}
use Rattle.wb_names_symbols.proofs.WritersLemmas.{longer_lists, more_lists}
use Rattle.wb_names_symbols.proofs.writers.add_place.Goals as goal

pub index_mut-requires : goal.index_mut-requires
index_mut-requires c =
    let names = c.args.made.now.names in
    let number = c.in-Present.number in
    let added : AddsName names c.args.name.now (Present number) c.add.new.self =
    subst (λ z. AddsName names c.args.name.now z c.add.new.self) c.in-Present.is c.in_ok-add.ensures.ok in
    let i = slice_get_within names number c.args.name.now added.0 in let l = c.requires in omega (arith, i, l)

pub returns-in-Present : goal.returns-in-Present
returns-in-Present c =
    let names = c.args.made.now.names in
    let rows = c.args.made.now.places.items in
    let number = c.in-Present.number in
    let added : AddsName names c.args.name.now (Present number) c.add.new.self =
    subst (λ z. AddsName names c.args.name.now z c.add.new.self) c.in-Present.is c.in_ok-add.ensures.ok in
    let within : number < length rows =
    let i = slice_get_within names number c.args.name.now added.0 in let l = c.requires in omega (arith, i, l) in
    on_ok_weaker c.push-in-Present.result (λ pushed.
    inr (
      number,
      added.0,
      added.1,
      longer_lists rows number c.args.place c.index_mut.result.now c.push-in-Present.new.list within
          c.index_mut.ensures.value pushed,
    )) c.push-in-Present.ensures.ok

pub returns-in_ok-list_of_one-in-New : goal.returns-in_ok-list_of_one-in-New
returns-in_ok-list_of_one-in-New c =
    let names = c.args.made.now.names in
    let added : AddsName names c.args.name.now (New c.in-New.field-0) c.add.new.self =
    subst (λ z. AddsName names c.args.name.now z c.add.new.self) c.in-New.is c.in_ok-add.ensures.ok in
    on_ok_weaker c.push.result (λ pushed.
    inl (
      added.0,
      added.2,
      more_lists c.args.made.now.places.items c.push.new.list.items c.args.place c.in_ok-list_of_one-in-New.field-0
          c.in_ok-list_of_one-in-New.ensures pushed,
    )) c.push.ensures.ok
