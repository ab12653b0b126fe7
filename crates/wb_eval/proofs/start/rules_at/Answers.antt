use Rattle.std.proofs.Common.{rules, ◌∙◌, ◌<◌, length, slice_get, refl, sym, ap, subst, arith}
use Rattle.wb_lemmas.proofs.Places.{read_at}
use Rattle.wb_eval.proofs.ReachedLemmas.{production_here, number_within}
use Rattle.wb_eval.proofs.start.rules_at.Goals as goal

pub tree_at-tree-requires : goal.tree_at-tree-requires
tree_at-tree-requires c = (c.requires.production.0, c.requires.production.1)

pub production-number-requires : goal.production-number-requires
production-number-requires c =
    (production_here c.args.definitions.now.attributes.now c.args.store.now c.args.machine.now c.args.site c.requires.production
    c.tree_at-tree.result c.tree_at-tree.ensures).0

pub bounds-productions-number : goal.bounds-productions-number
bounds-productions-number c =
    subst (λ ps. c.production-number.result < length ps) (sym c.as_slice-productions.ensures)
    (number_within c.args.definitions.now.attributes.now c.args.store.now c.args.machine.now c.args.site c.requires.production
    c.tree_at-tree.result c.tree_at-tree.ensures c.production-number.result c.production-number.ensures)

pub index-requires : goal.index-requires
index-requires c =
    let within = number_within c.args.definitions.now.attributes.now c.args.store.now c.args.machine.now c.args.site c.requires.production
    c.tree_at-tree.result c.tree_at-tree.ensures c.production-number.result c.production-number.ensures in
    let count = c.requires.rules.count in
    let rows = c.args.definitions.now.rules.now.rows.ok.0 in
    omega (arith, within, count, rows)

pub returns-clause-production : goal.returns-clause-production
returns-clause-production c =
    let productions = c.args.definitions.now.attributes.now.productions in
    let within = number_within c.args.definitions.now.attributes.now c.args.store.now c.args.machine.now c.args.site c.requires.production
    c.tree_at-tree.result c.tree_at-tree.ensures c.production-number.result c.production-number.ensures in (
      c.tree_at-tree.result,
      c.tree_at-tree.ensures,
      sym (ap (slice_get productions) c.production-number.ensures)
          ∙ read_at productions c.as_slice-productions.result.now c.production-number.result c.index-productions-number.result
          c.as_slice-productions.ensures within c.index-productions-number.is,
    )

pub returns-clause-equations : goal.returns-clause-equations
returns-clause-equations c =
    let productions = c.args.definitions.now.attributes.now.productions in
    let rows = c.args.definitions.now.rules.now.rows.items in
    let within = number_within c.args.definitions.now.attributes.now c.args.store.now c.args.machine.now c.args.site c.requires.production
    c.tree_at-tree.result c.tree_at-tree.ensures c.production-number.result c.production-number.ensures in
    let count = c.requires.rules.count in
    c.requires.rules.each c.production-number.result c.index-productions-number.result c.index.result.now
    (read_at productions c.as_slice-productions.result.now c.production-number.result c.index-productions-number.result
    c.as_slice-productions.ensures within c.index-productions-number.is)
    (read_at rows rows c.production-number.result c.index.result.now refl (omega (arith, within, count)) c.index.ensures)

pub offset_bounds-productions-number : goal.offset_bounds-productions-number
offset_bounds-productions-number c =
    let within : c.production-number.result < length c.as_slice-productions.result.now =
    subst (λ ps. c.production-number.result < length ps) (sym c.as_slice-productions.ensures)
    (number_within c.args.definitions.now.attributes.now c.args.store.now c.args.machine.now c.args.site c.requires.production
    c.tree_at-tree.result c.tree_at-tree.ensures c.production-number.result c.production-number.ensures) in
    search rules

pub index-requires-2 : goal.index-requires-2
index-requires-2 c =
    let within = number_within c.args.definitions.now.attributes.now c.args.store.now c.args.machine.now c.args.site c.requires.production
    c.tree_at-tree.result c.tree_at-tree.ensures c.production-number.result c.production-number.ensures in
    let count = c.requires.coded.1.count in
    let rows = c.args.definitions.now.rules.now.codes.ok.0 in
    omega (arith, within, count, rows)

pub returns-clause-codes : goal.returns-clause-codes
returns-clause-codes c = λ signatures coded.
    let productions = c.args.definitions.now.attributes.now.productions in
    let codes = c.args.definitions.now.rules.now.codes.items in
    let within = number_within c.args.definitions.now.attributes.now c.args.store.now c.args.machine.now c.args.site c.requires.production
    c.tree_at-tree.result c.tree_at-tree.ensures c.production-number.result c.production-number.ensures in
    let count = coded.count in
    coded.each c.production-number.result c.index-productions-number.result c.index-2.result.now
    (read_at productions c.as_slice-productions.result.now c.production-number.result c.index-productions-number.result
    c.as_slice-productions.ensures within c.index-productions-number.is)
    (read_at codes codes c.production-number.result c.index-2.result.now refl (omega (arith, within, count)) c.index-2.ensures)
