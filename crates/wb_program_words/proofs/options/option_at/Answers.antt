use Rattle.std.proofs.Common.{rules, ◌≡◌, ◌+◌, ◌++◌, ◌∷◌, ℕ, List, Some, drop, inr, ap, ◌∙◌, arith}
use lib.Chars.{codes}
use Rattle.wb_program_words.specs.Options.{IsOptionName, IsPositional}
use Rattle.wb_program_words.specs.Asked.{texts}
use Rattle.wb_program_words.proofs.PartLemmas.{from_place, no_value_joined}
use Rattle.wb_program_words.proofs.options.option_at.Goals as goal

pub returns-then-is_positional-clause-part : goal.returns-then-is_positional-clause-part
returns-then-is_positional-clause-part c =
    let both : IsOptionName c.in-Some.name.now × (c.args.option.now ≡ c.in-Some.name.now ++ (codes "=" ++ c.in-Some.value.now)) = search rules in
    let value : IsPositional c.in-Some.value.now = search rules in
    record {
      is_name = both.0;
      is_value = value;
      written = inr (from_place (texts c.args.words.now) c.args.at (45 ∷ 45 ∷ (c.in-Some.name.now ++ 61 ∷ c.in-Some.value.now))
          (c.requires.there ∙ ap (λ (o : List ℕ). Some (45 ∷ 45 ∷ o)) both.1));
    }

pub returns-then-is_positional-clause-within : goal.returns-then-is_positional-clause-within
returns-then-is_positional-clause-within c = let at = c.requires.at in (omega arith, omega (arith, at))

pub returns-else-is_positional-clause-part : goal.returns-else-is_positional-clause-part
returns-else-is_positional-clause-part c =
    let both : IsOptionName c.in-Some.name.now × (c.args.option.now ≡ c.in-Some.name.now ++ (codes "=" ++ c.in-Some.value.now)) = search rules in
    let bad : ¬ IsPositional c.in-Some.value.now = search rules in
    no_value_joined (drop c.args.at (texts c.args.words.now)) (drop (c.args.at + 1) (texts c.args.words.now)) c.in-Some.name.now
    c.in-Some.value.now both.0 bad
    (from_place (texts c.args.words.now) c.args.at (45 ∷ 45 ∷ (c.in-Some.name.now ++ 61 ∷ c.in-Some.value.now))
    (c.requires.there ∙ ap (λ (o : List ℕ). Some (45 ∷ 45 ∷ o)) both.1))
