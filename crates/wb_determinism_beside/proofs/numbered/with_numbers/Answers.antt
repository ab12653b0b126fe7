use Rattle.std.proofs.Common.{◌≡◌, ◌+◌, ◌-◌, ◌∙◌, ℕ, List, Option, ap, arith, length, refl, subst, sym}
use Rattle.wb_determinism.specs.Extensions.{IsPartOf, numbers_of}
use Rattle.wb_determinism.specs.Images.{stands_for}
use Rattle.wb_syntax_resolved.specs.declared.resolved.ResolvedParts.{ResolvedParts}
use Rattle.wb_determinism_beside.specs.Given.{moved_by}
use Rattle.wb_determinism_beside.specs.Inner.Asking.{asked_in, numbers_in}
use Rattle.wb_determinism_beside.specs.Inner.Images.{AreImagesBy}
use Rattle.wb_determinism_beside.proofs.AskedLemmas.{nonterminals_within, part_is, with_holes_len}
use Rattle.wb_determinism_beside.proofs.ImageLemmas.{images_in}
use Rattle.wb_determinism_beside.proofs.numbered.with_numbers.Goals as goal

pub numbers_of-moved-requires-clause-part : goal.numbers_of-moved-requires-clause-part
numbers_of-moved-requires-clause-part c =
    let x = c.args.fit.now in
    let many : c.len.result ≡ length (asked_in x).resolved.now.extensible =
    c.len.ensures ∙ ap (λ (p : ResolvedParts). length p.extensible) c.parts-parts.ensures.parts in
    subst (λ (n : ℕ). IsPartOf (asked_in x).host.now.grammar x.holes.now n) (sym many) (part_is x c.requires)

pub numbers_of-moved-requires-clause-nonterminals : goal.numbers_of-moved-requires-clause-nonterminals
numbers_of-moved-requires-clause-nonterminals c = nonterminals_within c.args.fit.now c.requires

pub images_of-requires : goal.images_of-requires
images_of-requires c =
    let x = c.args.fit.now in
    let e = with_holes_len x c.requires in
    let many = ap (λ (p : ResolvedParts). length p.extensible) c.parts-parts.ensures.parts in
    omega (arith, e, many, c.in_ok-count.ensures.count)

pub with_beside-answer-requires-clause-beside : goal.with_beside-answer-requires-clause-beside
with_beside-answer-requires-clause-beside c =
    let x = c.args.fit.now in
    let host = (asked_in x).host.now.grammar in
    let more = x.holes.now.nonterminals - host.nonterminals in
    let many : c.len.result ≡ length (asked_in x).resolved.now.extensible =
    c.len.ensures ∙ ap (λ (p : ResolvedParts). length p.extensible) c.parts-parts.ensures.parts in
    let numbers : c.numbers_of-moved.result ≡ moved_by (numbers_in x) host.nonterminals more =
    c.numbers_of-moved.ensures ∙ ap (λ (n : ℕ). moved_by (numbers_of host x.holes.now n) host.nonterminals more) many in
    let phi = stands_for (asked_in x).resolved.now (asked_in x).grammar.now in record {
      host = refl;
      own = refl;
      grammar = refl;
      numbers = numbers;
      images = images_in (numbers_in x) host.nonterminals more (x.holes.now.terminals + 1) c.numbers_of-moved.result phi c.deref.result.now
          numbers (subst (λ (l : List (Option ℕ)). AreImagesBy c.numbers_of-moved.result.terminals.own
          c.numbers_of-moved.result.terminals.more phi (x.holes.now.terminals + 1) l) (sym c.deref.ensures.value)
          (subst (λ (n : ℕ). AreImagesBy c.numbers_of-moved.result.terminals.own c.numbers_of-moved.result.terminals.more phi n
          c.in_ok-images.images.items) c.in_ok-count.ensures.count
          (subst (λ (p : ResolvedParts). AreImagesBy c.numbers_of-moved.result.terminals.own c.numbers_of-moved.result.terminals.more
          (stands_for p (asked_in x).grammar.now) c.in_ok-count.count c.in_ok-images.images.items) c.parts-parts.ensures.parts
          c.in_ok-images.ensures)));
    }
