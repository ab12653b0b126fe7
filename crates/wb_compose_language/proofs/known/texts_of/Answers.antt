use Rattle.std.proofs.Common.{◌+◌, take, subst, sym}
use Rattle.std.specs.Prelude.{IfSome}
use Rattle.wb_automata.specs.Sharing.{IsOnlyMatch}
use Rattle.wb_compose_language.specs.Inner.Known.{AreTexts}
use Rattle.wb_compose_language.proofs.KnownLemmas.{texts_more}
use Rattle.wb_compose_language.proofs.known.texts_of.Goals as goal

pub patterns-preserved : goal.patterns-preserved
patterns-preserved c =
    subst (AreTexts (take (c.patterns.pattern-index + 1) c.args.patterns.now)) (sym c.in_ok-push.ensures.ok)
    (texts_more c.args.patterns.now c.patterns.pattern-index c.pattern-item.result c.patterns.texts.items
    c.in_ok-only_text.field-0 c.patterns-test.true c.patterns.invariant
    (subst (λ t. IfSome c.in_ok-only_text.field-0 (IsOnlyMatch t)) c.pattern-item.is c.in_ok-only_text.ensures))
