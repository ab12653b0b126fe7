use Rattle.std.proofs.Common.{◌<◌, length, subst}
use Rattle.wb_values.specs.ValuesIn.{tree_in}
use Rattle.wb_terms.specs.TreeOf.{IsTreeOf}
use Rattle.wb_terms.proofs.AnswerLemmas.{unknown_least, wrong_least, all_known, root, root_popped, root_id}
use Rattle.wb_terms.proofs.builder.Builder.into_tree.Goals as goal

pub returns-in-Some-clause-refused : goal.returns-in-Some-clause-refused
returns-in-Some-clause-refused c =
    λ term h. unknown_least c.args.signatures.now c.args.store.now term c.args.self h c.in-Some.at c.in-Some.is

pub returns-in-Some-wrong-clause-refused : goal.returns-in-Some-wrong-clause-refused
returns-in-Some-wrong-clause-refused c = λ term h. (
  all_known c.args.signatures.now c.args.store.now term c.args.self h c.in_default.is,
  wrong_least c.args.signatures.now c.args.store.now term c.args.self h c.in-Some-wrong.at c.in-Some-wrong.is,
)

pub unreachable-requires : goal.unreachable-requires
unreachable-requires c =
    let r = root c.args.signatures.now c.args.store.now c.requires.term c.args.self c.requires.holds in
    let p = root_popped c.args.self.values.items _ r.id c.pop.result c.args.self.values.ok.0 r.is c.pop.ensures.value in
    let none = c.in-None.is in
    absurd (cc)

pub unreachable-requires-in-Int : goal.unreachable-requires-in-Int
unreachable-requires-in-Int c =
    let r = root c.args.signatures.now c.args.store.now c.requires.term c.args.self c.requires.holds in
    let p = root_popped c.args.self.values.items _ r.id c.pop.result c.args.self.values.ok.0 r.is c.pop.ensures.value in
    let q = c.in-Some-pop.is in
    let v = c.in-Int.is in
    absurd (cc)

pub unreachable-requires-in-Bool : goal.unreachable-requires-in-Bool
unreachable-requires-in-Bool c =
    let r = root c.args.signatures.now c.args.store.now c.requires.term c.args.self c.requires.holds in
    let p = root_popped c.args.self.values.items _ r.id c.pop.result c.args.self.values.ok.0 r.is c.pop.ensures.value in
    let q = c.in-Some-pop.is in
    let v = c.in-Bool.is in
    absurd (cc)

pub unreachable-requires-in-Text : goal.unreachable-requires-in-Text
unreachable-requires-in-Text c =
    let r = root c.args.signatures.now c.args.store.now c.requires.term c.args.self c.requires.holds in
    let p = root_popped c.args.self.values.items _ r.id c.pop.result c.args.self.values.ok.0 r.is c.pop.ensures.value in
    let q = c.in-Some-pop.is in
    let v = c.in-Text.is in
    absurd (cc)

pub returns-clause-ok : goal.returns-clause-ok
returns-clause-ok c = λ term h.
    let r = root c.args.signatures.now c.args.store.now term c.args.self h in
    let p = root_popped c.args.self.values.items _ r.id c.pop.result c.args.self.values.ok.0 r.is c.pop.ensures.value in
    let t = root_id c.pop.result c.in-Some-pop.value r.id c.in-Tree.tree p c.in-Some-pop.is c.in-Tree.is in
    subst (λ i. IsTreeOf c.args.signatures.now term (tree_in c.args.store.now i.0)) t (r.tree c.in_default.is c.in_default-wrong.is)

pub returns-clause-within : goal.returns-clause-within
returns-clause-within c =
    let r = root c.args.signatures.now c.args.store.now c.requires.term c.args.self c.requires.holds in
    let p = root_popped c.args.self.values.items _ r.id c.pop.result c.args.self.values.ok.0 r.is c.pop.ensures.value in
    let t = root_id c.pop.result c.in-Some-pop.value r.id c.in-Tree.tree p c.in-Some-pop.is c.in-Tree.is in
    subst (λ i. i.0 < length c.args.store.now) t r.within
