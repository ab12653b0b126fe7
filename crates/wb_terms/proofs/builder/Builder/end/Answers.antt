use Rattle.std.proofs.Common.{◌∙◌, refl, ap, arith}
use Rattle.std.specs.Prelude.{◌-◌}
use Rattle.wb_terms.proofs.EndLemmas.{popped, all_within, sizes, children_within, ended_ok}
use Rattle.wb_terms.proofs.builder.Builder.end.Goals as goal

pub faults_with-self-requires-clause-within : goal.faults_with-self-requires-clause-within
faults_with-self-requires-clause-within c =
    all_within c.args.signatures.now c.args.store.now c.requires.events c.args.self.now c.requires.holds

pub faults_with-self-requires-clause-places : goal.faults_with-self-requires-clause-places
faults_with-self-requires-clause-places c =
    (sizes c.args.signatures.now c.args.store.now c.requires.events c.args.self.now.values.items c.args.self.now.places.items
    c.in-Some.frame c.pop.new.self.items
    (popped c.args.signatures.now c.args.store.now c.requires.events c.args.self.now c.in-Some.frame c.pop.new.self.items
    c.in-Some.ensures.items c.requires.holds)).1

pub faults_with-self-requires-clause-start : goal.faults_with-self-requires-clause-start
faults_with-self-requires-clause-start c =
    omega (
      arith,
      (sizes c.args.signatures.now c.args.store.now c.requires.events c.args.self.now.values.items c.args.self.now.places.items
          c.in-Some.frame c.pop.new.self.items
          (popped c.args.signatures.now c.args.store.now c.requires.events c.args.self.now c.in-Some.frame c.pop.new.self.items
          c.in-Some.ensures.items c.requires.holds)).0,
    )

pub overflow_sub-count : goal.overflow_sub-count
overflow_sub-count c =
    omega (
      arith,
      c.len.ensures,
      c.args.self.now.values.ok.0,
      (sizes c.args.signatures.now c.args.store.now c.requires.events c.args.self.now.values.items c.args.self.now.places.items
          c.in-Some.frame c.pop.new.self.items
          (popped c.args.signatures.now c.args.store.now c.requires.events c.args.self.now c.in-Some.frame c.pop.new.self.items
          c.in-Some.ensures.items c.requires.holds)).0,
    )

pub build_from-requires-clause-children : goal.build_from-requires-clause-children
build_from-requires-clause-children c =
    children_within c.args.signatures.now c.args.store.now c.requires.events c.args.self.now.values.items c.args.self.now.places.items
    c.in-Some.frame c.pop.new.self.items (c.len.result - c.in-Some.frame.start)
    (popped c.args.signatures.now c.args.store.now c.requires.events c.args.self.now c.in-Some.frame c.pop.new.self.items
    c.in-Some.ensures.items c.requires.holds)
    (ap (λ n. n - c.in-Some.frame.start) (c.len.ensures ∙ c.args.self.now.values.ok.0))

pub returns-clause-ok : goal.returns-clause-ok
returns-clause-ok c =
    ended_ok c.args.signatures.now c.args.store.now c.build_from.new.self c.args.self.now
    (record c.args.self.now {
      values = c.build_from.new.values;
      places = c.truncate.new.self;
      frames = c.pop.new.self;
      faults = c.faults_with-self.result;
    })
    c.add.new.self c.in-Some.frame c.pop.new.self.items c.in_ok-tree.tree
    (c.len.result - c.in-Some.frame.start) c.add.result c.in-Some.ensures.items
    (ap (λ n. n - c.in-Some.frame.start) (c.len.ensures ∙ c.args.self.now.values.ok.0))
    c.in_ok-tree.ensures.id c.in_ok-tree.ensures.ok c.in_ok-tree.ensures.taken c.truncate.ensures.items refl c.add.ensures.ok
    c.faults_with-self.ensures
