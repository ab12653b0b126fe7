use Rattle.std.proofs.Common.{◌≡◌, ◌<◌, ◌+◌, ◌*◌, ◌^◌, ◌∙◌, rules, length, subst, sym}
use Rattle.std.proofs.lemmas.List.{get_or_default}
use Rattle.wb_automata.proofs.AnswerLemmas.{pair_fits}
use Rattle.wb_automata.proofs.common_texts.seed_of.Goals as goal

pub overflow_add-result : goal.overflow_add-result
overflow_add-result c =
    let m = c.args.machine.now in
    let left : c.index.result.now < length m.places.items = subst (λ z. z < length m.places.items)
    (sym (c.index.ensures ∙ get_or_default m.starts.items c.args.pair.0 c.index.result.now 0 c.requires.left))
    (c.requires.starts c.args.pair.0 c.requires.left) in
    let right : c.index-2.result.now < length m.places.items = subst (λ z. z < length m.places.items)
    (sym (c.index-2.ensures ∙ get_or_default m.starts.items c.args.pair.1 c.index-2.result.now 0 c.requires.right))
    (c.requires.starts c.args.pair.1 c.requires.right) in
    let count : c.len.result ≡ length m.places.items = c.len.ensures ∙ m.places.ok.0 in
    let fits : c.index.result.now * c.len.result + c.index-2.result.now < 2 ^ 64 = rw (count)
    (pair_fits c.index.result.now c.index-2.result.now (length m.places.items) left right c.requires.fits) in
    search rules
