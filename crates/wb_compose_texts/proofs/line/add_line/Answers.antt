-- The line is that of what the text was parsed to.
use Rattle.std.proofs.Common.{List, sym, subst}
use Rattle.wb_compose_texts.specs.Names.{terminals_of}
use Rattle.wb_compose_texts.specs.Signatures.{signatures_of}
use Rattle.wb_compose_texts.specs.Unions.{all_resolved}
use Rattle.wb_session.specs.Parses.{IsParsed}
use Rattle.wb_session.specs.parsed.Parsed.{Parsed}
use Rattle.wb_values.specs.Tree.{Tree}
use Rattle.wb_compose_texts.proofs.LineLemmas.{none_more, on_ok}
use Rattle.wb_compose_texts.proofs.line.add_line.Goals as goal

pub returns-then-lines : goal.returns-then-lines
returns-then-lines c = λ before gathered.
    let names = terminals_of c.args.host.now.resolved (all_resolved c.args.extensions.now) in
    let signatures = signatures_of c.args.host.now.resolved (all_resolved c.args.extensions.now) in
    let session = c.args.session.now in
    none_more names signatures session.language session.text before c.args.lines.now session.store session.answer
    c.answer-parsed.ensures.parsed c.if-lines.true gathered

pub united_parsed_answer-requires : goal.united_parsed_answer-requires
united_parsed_answer-requires c =
    let session = c.args.session.now in (
      session.language,
      (
        session.text,
        subst (λ (store : List Tree). IsParsed session.language session.text store c.answer-parsed.result.now) (sym c.store.ensures)
            (subst (λ (parsed : Parsed). IsParsed session.language session.text session.store parsed) (sym c.answer-parsed.ensures.answer)
            c.answer-parsed.ensures.parsed),
      ),
    )

pub returns : goal.returns
returns c =
    let names = terminals_of c.args.host.now.resolved (all_resolved c.args.extensions.now) in
    let signatures = signatures_of c.args.host.now.resolved (all_resolved c.args.extensions.now) in
    let session = c.args.session.now in
    let parsed : IsParsed session.language session.text c.store.result.now c.answer-parsed.result.now =
    subst (λ (store : List Tree). IsParsed session.language session.text store c.answer-parsed.result.now) (sym c.store.ensures)
    (subst (λ (p : Parsed). IsParsed session.language session.text session.store p) (sym c.answer-parsed.ensures.answer)
    c.answer-parsed.ensures.parsed) in
    on_ok c.push_answer.result (λ pushed before gathered.
    pushed names signatures session.language session.text before (c.in_ok-answer.ensures session.language session.text parsed) gathered)
    c.push_answer.ensures
