use Rattle.std.proofs.Common.{rules, ◌≡◌, ◌<◌, ◌≤◌, ◌+◌, ◌∷◌, length, string_bytes, drop, inl, arith}
use Rattle.std.proofs.lemmas.List.{length-map}
use Rattle.wb_program_words.specs.Options.{IsPositional}
use Rattle.wb_program_words.specs.Asked.{texts}
use Rattle.wb_program_words.proofs.PartLemmas.{last_place, two_words, no_value_at_all, no_value_apart}
use Rattle.wb_program_words.proofs.options.option_apart.Goals as goal

pub returns-then-words-at-eq1-clause-part : goal.returns-then-words-at-eq1-clause-part
returns-then-words-at-eq1-clause-part c =
    let count : length (texts c.args.words.now) ≡ length c.args.words.now = length-map c.args.words.now string_bytes in
    let last : length (texts c.args.words.now) ≤ c.args.at + 1 =
    (let one = c.if-words-at-eq1.true in let at = c.requires.at in omega (arith, count, one, at)) in
    no_value_at_all (drop c.args.at (texts c.args.words.now)) c.args.name.now c.requires.name
    (last_place (texts c.args.words.now) c.args.at (45 ∷ 45 ∷ c.args.name.now) c.requires.there last)

pub returns-then-is_positional-clause-part : goal.returns-then-is_positional-clause-part
returns-then-is_positional-clause-part c =
    let within : c.args.at + 1 < length c.args.words.now =
    (let more = c.if-words-at-eq1.false in let at = c.requires.at in omega (arith, more, at)) in
    let value : IsPositional c.as_str-value.result.now = search rules in
    record {
      is_name = c.requires.name;
      is_value = value;
      written = inl (two_words c.args.words.now c.args.at c.index-words-at.result c.args.name.now c.as_str-value.result.now c.requires.there
          within c.index-words-at.is c.as_str-value.ensures.value);
    }

pub returns-clause-part : goal.returns-clause-part
returns-clause-part c =
    let within : c.args.at + 1 < length c.args.words.now =
    (let more = c.if-words-at-eq1.false in let at = c.requires.at in omega (arith, more, at)) in
    let bad : ¬ IsPositional c.as_str-value.result.now = search rules in
    no_value_apart (drop c.args.at (texts c.args.words.now)) (drop (c.args.at + 2) (texts c.args.words.now)) c.args.name.now
    c.as_str-value.result.now c.requires.name bad
    (two_words c.args.words.now c.args.at c.index-words-at.result c.args.name.now c.as_str-value.result.now c.requires.there
    within c.index-words-at.is c.as_str-value.ensures.value)
