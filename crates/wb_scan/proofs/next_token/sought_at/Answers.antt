use Rattle.std.proofs.Common.{ap, subst, sym, ◌∙◌}
use Rattle.wb_scan_theory.specs.Parts.{AreLanguageParts}
use Rattle.wb_scan.specs.Inner.Rankings.{AreMarked}
use Rattle.wb_scan.specs.Landings.{AreLandings, ranked}
use Rattle.wb_scan.proofs.FoundLemmas.{enough, reached_sought}
use Rattle.wb_scan.proofs.LandingLemmas.{marks}
use Rattle.wb_scan.proofs.next_token.sought_at.Goals as goal

pub longest-reach-requires-clause-landings : goal.longest-reach-requires-clause-landings
longest-reach-requires-clause-landings c =
    subst (AreMarked c.language.inside.automaton) (sym c.deref.ensures.value) (marks _ c.language.inside.automaton
    c.language.inside.landings.items c.language.invariant.1)

pub returns-clause-won : goal.returns-clause-won
returns-clause-won c =
    reached_sought (subst (λ z. AreLanguageParts z.language z.tables c.language.inside.automaton) c.language.view_is c.language.invariant.0)
    c.requires.state c.language.inside.forms.items c.language.inside.layout.items c.language.inside.preferences
    (ap (λ z. z.language.forms) c.language.view_is) (ap (λ z. z.language.layout) c.language.view_is)
    (ap (λ z. z.language.preferences) c.language.view_is) c.deref.result.now
    (subst (AreLandings (ranked c.language.inside.forms.items c.language.inside.layout.items c.language.inside.preferences)
    c.language.inside.automaton) (sym c.deref.ensures.value) c.language.invariant.1) c.in-Some.reach c.in-Some.ensures c.in-Some-won.won
    (sym c.won.ensures ∙ c.in-Some-won.is)

pub returns-clause-enough : goal.returns-clause-enough
returns-clause-enough c =
    enough (subst (λ z. AreLanguageParts z.language z.tables c.language.inside.automaton) c.language.view_is c.language.invariant.0)
    c.requires.state c.in-Some.ensures.seen
