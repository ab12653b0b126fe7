use Rattle.std.proofs.Common.{rules}
use Rattle.wb_scan_theory.specs.Facts.{IsLanguage}
use Rattle.wb_parser.specs.Parses.{IsParsed}
use Rattle.wb_session.specs.KeptTexts.{answer_of, store_of, text_of}
use Rattle.wb_session.proofs.KeptLemmas.{same_answer}
use Rattle.wb_session.proofs.kept_text.KeptText.release.Goals as goal

pub returns-in-Ok-clause-same : goal.returns-in-Ok-clause-same
returns-in-Ok-clause-same c =
    let l = c.args.language.now.language in
    let kept = c.args.self.now in
    let ok : IsLanguage l = search rules in
    let new : IsParsed l (text_of kept) c.swap.new.x.stacks.store c.in-Ok.answer = search rules in
    same_answer l ok (text_of kept) (store_of kept) c.swap.new.x.stacks.store (answer_of kept) c.in-Ok.answer c.requires.parsed new
