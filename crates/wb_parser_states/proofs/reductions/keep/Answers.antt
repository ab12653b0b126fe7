use Rattle.std.proofs.Common.{◌∙◌, ap, inr}
use Rattle.wb_parser_states.specs.Kept.{end_of, key_of}
use Rattle.wb_parser_states.proofs.reductions.keep.Goals as goal

pub returns-then-is_empty : goal.returns-then-is_empty
returns-then-is_empty c place kept at =
    let same = c.filled.ensures place kept at in
    inr (ap key_of same ∙ c.in-Some.ensures.key, ap end_of same ∙ c.in-Some.ensures.end)
