-- What is asked and answered where a text is made of what was composed.
use Rattle.std.proofs.Common.{◌≡◌, ◌<◌, ◌≤◌, ◌∙◌, ℕ, List, Option, length, ap, sym, subst}
use Rattle.std.specs.Prelude.{IfSome}
use Rattle.wb_base.specs.Grammar.{GrammarView}
use Rattle.wb_compose.specs.Kept.{ExtensionView}
use Rattle.wb_compose.specs.Hosts.{CertifiedView}
use Rattle.wb_compose.specs.Composed.{IsComposed}
use Rattle.wb_generate.specs.Outcomes.{IsOutcome}
use Rattle.wb_generate.specs.declared.generated.Generated.{Generated}
use Rattle.wb_scan_theory.specs.Bounds.{HasNoCycle}
use Rattle.wb_scan_theory.specs.Facts.{IsLanguage}
use Rattle.wb_scan_theory.specs.Languages.{LanguageView}
use Rattle.wb_regex.specs.Tree.{Tree}
use Rattle.wb_compose_texts.specs.Expressions.{AreUnitedExpressions}
use Rattle.wb_compose_texts.specs.Unions.{all_resolved, united_of}
use Rattle.wb_compose_texts.specs.Generated.{IsGeneratedText, first_layout, place_behind}
use Rattle.wb_compose_texts.proofs.ComposedLemmas.{union_is}
use Rattle.wb_compose_texts.proofs.LengthLemmas.{enough_expressions, layout_there, union_grammar}

-- a language's grammar has neither cycle
pub no_cycle : (l : LanguageView) → IsLanguage l → HasNoCycle l.grammar
no_cycle l ok = record { unit = ok.deterministic.no_unit_cycle; hidden = ok.deterministic.no_hidden_left_recursion }

module _ (host : CertifiedView) (es : List ExtensionView) (l : LanguageView) (withdrawn : List ℕ)
    (composed : IsComposed host es l withdrawn) (grammar : GrammarView) (same : grammar ≡ l.grammar) (made : List Tree)
    (written : AreUnitedExpressions host.resolved (all_resolved es) made) where
  united_is : grammar ≡ united_of host.resolved host.operations (all_resolved es) (union_is host es l withdrawn composed)
  united_is = same ∙ union_grammar host es l withdrawn composed

  -- there are enough expressions
  pub enough_there : grammar.terminals ≤ length made
  enough_there = subst (λ (g : GrammarView). g.terminals ≤ length made) (sym united_is)
      (enough_expressions host.resolved host.operations (all_resolved es) (union_is host es l withdrawn composed) made written)

  module _ (layout : Option ℕ) (layout_is : layout ≡ place_behind grammar.terminals (first_layout host.resolved)) where
    -- and one for the first layout
    pub layout_is_there : IfSome layout (λ place. place < length made)
    layout_is_there = subst (λ o. IfSome o (λ place. place < length made))
        (sym (layout_is ∙ ap (λ (g : GrammarView). place_behind g.terminals (first_layout host.resolved)) united_is))
        (layout_there host.resolved host.operations (all_resolved es) (union_is host es l withdrawn composed) made written)

    -- what is answered is the text that the number makes
    pub generated : (number size : ℕ) (answer : Generated) → IsOutcome grammar made layout number size answer →
        IsGeneratedText host.resolved host.operations (all_resolved es) number size answer
    generated number size answer is = record {
      whole = union_is host es l withdrawn composed;
      expressions = made;
      written = written;
      is = subst (λ (g : GrammarView). IsOutcome g made (place_behind g.terminals (first_layout host.resolved)) number size answer) united_is
          (subst (λ o. IsOutcome grammar made o number size answer) layout_is is);
    }
