use Rattle.std.proofs.Common.{refl}
use Rattle.std.specs.Prelude.{None}
use Rattle.wb_compose_language.proofs.TextMachineLemmas.{ends, followed_more, stops}
use Rattle.wb_compose_language.proofs.text_machine.is_match.Goals as goal

pub returns-in_default : goal.returns-in_default
returns-in_default c = (
  λ on. cc,
  λ is. absurd (stops c.args.machine.now c.args.number c.args.text.now c.requires c.bytes.place c.bytes.state _ None c.bytes.invariant
      c.bytes-test.true refl c.in_default.ensures.none refl is),
)

pub bytes-preserved : goal.bytes-preserved
bytes-preserved c =
    followed_more c.args.machine.now c.args.number c.args.text.now c.bytes.place c.bytes.state c.in-Some.next _ c.bytes.invariant
    c.bytes-test.true refl c.in-Some.ensures.state c.in-Some.ensures.leads

pub returns : goal.returns
returns c =
    ends c.args.machine.now c.args.number c.args.text.now c.requires c.bytes.place c.bytes.state c.accepts.result c.bytes.invariant
    c.bytes-test.false (λ s x leads. c.accepts.ensures s x leads)
