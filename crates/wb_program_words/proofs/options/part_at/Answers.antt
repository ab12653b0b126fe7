use Rattle.std.proofs.Common.{rules, ◌≡◌, ◌≢◌, ◌-◌, ◌+◌, ◌∷◌, ℕ, List, All, Some, length, take, drop, slice_get, string_bytes, sym, ap, ◌∙◌}
use Rattle.std.proofs.Common.{arith}
use Rattle.wb_program_words.specs.Options.{IsPositional}
use Rattle.wb_program_words.specs.Asked.{texts}
use Rattle.wb_program_words.proofs.PartLemmas.{from_place, no_option_first, positional_rest, rest_positional, text_at}
use Rattle.wb_program_words.proofs.options.part_at.Goals as goal

pub returns-then-are_positional-clause-part : goal.returns-then-are_positional-clause-part
returns-then-are_positional-clause-part c =
    let all : All (λ word. IsPositional (string_bytes word)) (take (length c.args.words.now - c.args.at) (drop c.args.at c.args.words.now)) = search rules in
    rest_positional c.args.words.now c.args.at all

pub returns-else-are_positional-clause-part : goal.returns-else-are_positional-clause-part
returns-else-are_positional-clause-part c =
    let words = texts c.args.words.now in
    let bad : ¬ All (λ word. IsPositional (string_bytes word)) (take (length c.args.words.now - c.args.at) (drop c.args.at c.args.words.now)) = search rules in
    let other : (x : List ℕ) → c.as_str.result.now ≢ 45 ∷ 45 ∷ x = search rules in
    let at : slice_get words c.args.at ≡ Some c.as_str.result.now =
    text_at c.args.words.now c.args.at c.index-words-at.result
    (let few = c.requires in let differs = c.if-at-words.false in omega (arith, few, differs)) c.index-words-at.is
    ∙ ap Some (sym c.as_str.ensures.value) in
    no_option_first (drop c.args.at words) (drop (c.args.at + 1) words) c.as_str.result.now
    (from_place words c.args.at c.as_str.result.now at) other (λ all. bad (positional_rest c.args.words.now c.args.at all))
