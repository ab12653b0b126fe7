use Rattle.std.proofs.Common.{ap, subst, ◌∙◌}
use Rattle.wb_scan_theory.specs.Parts.{AreLanguageParts}
use Rattle.wb_scan.proofs.FoundLemmas.{enough, none_wins, won_sought}
use Rattle.wb_scan.proofs.LandingLemmas.{ranked_from}
use Rattle.wb_scan.proofs.next_token.sought_unlisted.Goals as goal

pub returns-then-last-at-clause-won : goal.returns-then-last-at-clause-won
returns-then-last-at-clause-won c =
    none_wins (subst (λ z. AreLanguageParts z.language z.tables c.language.inside.automaton) c.language.view_is c.language.invariant.0)
    c.requires.state c.last_match-last.ensures.longest c.if-last-at.true

pub returns-then-last-at-clause-enough : goal.returns-then-last-at-clause-enough
returns-then-last-at-clause-enough c =
    enough (subst (λ z. AreLanguageParts z.language z.tables c.language.inside.automaton) c.language.view_is c.language.invariant.0)
    c.requires.state c.last_match-last.ensures.examined

pub won_at-requires-clause-ranked : goal.won_at-requires-clause-ranked
won_at-requires-clause-ranked c =
    ranked_from c.language.invariant.0 c.deref.result.now c.deref-2.result.now c.language.inside.preferences c.deref.ensures.value
    c.deref-2.ensures.value

pub returns-clause-won : goal.returns-clause-won
returns-clause-won c =
    won_sought (subst (λ z. AreLanguageParts z.language z.tables c.language.inside.automaton) c.language.view_is c.language.invariant.0)
    c.requires.state c.last_match-last.ensures.longest c.if-last-at.false c.deref.result.now c.deref-2.result.now
    c.language.inside.preferences (c.deref.ensures.value ∙ ap (λ z. z.language.forms) c.language.view_is)
    (c.deref-2.ensures.value ∙ ap (λ z. z.language.layout) c.language.view_is) (ap (λ z. z.language.preferences) c.language.view_is)
    c.won_at.result c.won_at.ensures

pub returns-clause-enough : goal.returns-clause-enough
returns-clause-enough c =
    enough (subst (λ z. AreLanguageParts z.language z.tables c.language.inside.automaton) c.language.view_is c.language.invariant.0)
    c.requires.state c.last_match-last.ensures.examined
