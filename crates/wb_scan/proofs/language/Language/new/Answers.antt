use Rattle.std.proofs.Common.{List, ℕ, subst, sym}
use Rattle.wb_scan_theory.specs.Parts.{AreLanguageParts}
use Rattle.wb_scan.specs.Views.{language_in}
use Rattle.wb_scan.proofs.LandingLemmas.{landings_from}
use Rattle.wb_scan.proofs.language.Language.new.Goals as goal

pub invariant_of-result : goal.invariant_of-result
invariant_of-result c = (
  subst (λ (preferences : List (ℕ × ℕ)). AreLanguageParts (language_in c.args.grammar c.args.forms.items c.args.layout.items
      c.args.spans.items c.args.automaton.terminals preferences) c.args.tables c.args.automaton) (sym c.new-preferences.ensures) c.requires,
  landings_from c.args.automaton c.landings_of-landings.result.items c.deref.result.now c.args.forms.items c.deref-2.result.now
      c.args.layout.items c.new-preferences.result c.deref.ensures.value c.deref-2.ensures.value c.landings_of-landings.ensures,
)
