-- Before the first token there is none, and each is the next of those before it.
use Rattle.std.proofs.Common.{arith, refl}
use Rattle.wb_reader_places.proofs.TokenLemmas.{none_yet, one_more, ends_within}
use Rattle.wb_reader_places.proofs.tokens.push_tokens.Goals as goal

pub tokens-init : goal.tokens-init
tokens-init c = record {
  within = omega arith;
  first = none_yet c.args.dialect c.args.text.now c.args.places.now.items c.requires;
}

pub tokens-preserved : goal.tokens-preserved
tokens-preserved c = record {
  within = ends_within c.tokens.from c.args.text.now c.in_ok-place.field-0 c.in-Some.place c.in-Some.is c.in_ok-place.ensures.forward;
  first =
      one_more c.args.dialect c.args.text.now c.tokens.places.items c.push.new.self.items c.tokens.from c.in_ok-place.field-0
      c.in-Some.place c.in-Some.is c.tokens.invariant.first c.in_ok-place.ensures.next c.in_ok-push-in-Some.ensures.items;
}
