use Rattle.std.proofs.Common.{◌≡◌, Some, refl, subst}
use Rattle.std.specs.Prelude.{◌↔◌, IsTrue, slice_get}
use Rattle.std.proofs.lemmas.Result.{IfOk-weaker}
use Rattle.wb_lemmas.proofs.Places.{at_once, read_at}
use Rattle.wb_regex.specs.Matches.{ShareText}
use Rattle.wb_regex.specs.Tree.{Tree}
use Rattle.wb_compose_language.proofs.KnownLemmas.{text_answer, told_answer}
use Rattle.wb_compose_language.proofs.known.shares.Goals as goal

pub returns-in-Some : goal.returns-in-Some
returns-in-Some c p q at at' = text_answer c.args.known.now.owns.now.patterns.items c.args.known.now.texts.now c.args.one c.args.other
    c.in-Some.same p q c.requires.known.texts c.in-Some.ensures at at'

pub returns-in-Some-told_flag : goal.returns-in-Some-told_flag
returns-in-Some-told_flag c p q at at' = told_answer c.args.known.now.owns.now.patterns.items c.args.one c.args.other
    c.in-Some-told_flag.flag p q (c.in-Some-told_flag.ensures c.args.known.now.owns.now.patterns.items c.requires.known.told) at at'

pub returns : goal.returns
returns c =
    let patterns = c.args.known.now.owns.now.patterns.items in
    let read = c.as_slice-patterns.result.now in
    let same = c.as_slice-patterns.ensures.value in
    IfOk-weaker c.have_common_text.result (λ s. IsTrue s ↔ ShareText c.index-patterns-one.result c.index-patterns-other.result)
    (λ s. (p q : Tree) → slice_get patterns c.args.one ≡ Some p → slice_get patterns c.args.other ≡ Some q → IsTrue s ↔ ShareText p q)
    (λ s h p q at at'.
    let e = at_once patterns c.args.one c.index-patterns-one.result p
    (read_at patterns read c.args.one c.index-patterns-one.result same c.requires.one c.index-patterns-one.is) at in
    let f = at_once patterns c.args.other c.index-patterns-other.result q
    (read_at patterns read c.args.other c.index-patterns-other.result same c.requires.other c.index-patterns-other.is) at' in
    subst (λ z. IsTrue s ↔ ShareText z q) e (subst (λ z. IsTrue s ↔ ShareText c.index-patterns-one.result z) f h)) c.have_common_text.ensures
