-- A language that extends another: what is scanned of the other is scanned alike.
use Rattle.std.specs.Prelude.{◌≡◌, ◌<◌, ◌≤◌, ◌+◌, ◌↔◌, ℕ, Bool, List, None, Some, length, slice_get, slice_index_or}
use Rattle.wb_base.specs.declared.symbol.Symbol.{Symbol}
use Rattle.wb_base.specs.Different.{Differ}
use Rattle.wb_automata.specs.Automata.{IsMatch}
use Rattle.wb_scan_theory.specs.declared.form.Form.{Form}
use Rattle.wb_grammar_theory.specs.Items.{IsViablePrefix}
use Rattle.wb_scan_theory.specs.Languages.{LanguageView}
use Rattle.wb_scan_theory.specs.Winners.{HoldsOne}
use Rattle.wb_compose_theory_order.specs.Languages.{IsPreferred}
use Rattle.wb_reading_theory.specs.Grammars.{ExtendsGrammar, KeepsValid}

module _ (h u : LanguageView) where
  -- the form at the one place is that at the other: the same form of a terminal, or that of the same layout
  pub data IsSameForm (p q : ℕ) : Type 0 where
    of_terminal : (form : Form) → slice_get h.forms p ≡ Some form → slice_get u.forms q ≡ Some form → IsSameForm p q
    of_layout : (k : ℕ) → k < length h.layout → p ≡ length h.forms + k → q ≡ length u.forms + k → IsSameForm p q

  -- the forms of the first language's terminals and its layout are the same in the second: each form is there, once, and no further one is
  -- of its terminals; its layout comes first there, and is considered at each prefix in both; and the same forms match the same texts and
  -- are preferred alike
  pub record KeepsForms : Type 0 where
    pub form_to : (p : ℕ) (form : Form) → slice_get h.forms p ≡ Some form → (q : ℕ) × (slice_get u.forms q ≡ Some form)
    pub form_from : (q : ℕ) (form : Form) → slice_get u.forms q ≡ Some form → form.terminal < h.grammar.terminals →
        (p : ℕ) × (slice_get h.forms p ≡ Some form)
    pub once : Differ h.forms
    pub layout : length h.layout ≤ length u.layout
    pub everywhere : (k : ℕ) → k < length h.layout → (slice_index_or h.spans k None ≡ None) × (slice_index_or u.spans k None ≡ None)
    pub matches : (p q : ℕ) → IsSameForm p q → (text : List ℕ) → IsMatch h.expressions p text ↔ IsMatch u.expressions q text
    pub preferences : (p q r s : ℕ) → IsSameForm p q → IsSameForm r s → IsPreferred h p r ↔ IsPreferred u q s

  -- at no prefix of the first language's grammar further layout is considered
  abbrev pub HasNoFurtherLayout : Type 0
  HasNoFurtherLayout =
      (prefix : List Symbol) → IsViablePrefix h.grammar prefix → (k : ℕ) → length h.layout ≤ k → k < length u.layout →
      ¬ HoldsOne u.grammar prefix (slice_index_or u.spans k None)

  -- the second language extends the first, where these terminals are markers
  pub record ExtendsLanguage (markers : List Bool) : Type 0 where
    pub grammar : ExtendsGrammar h.grammar u.grammar markers
    pub valid : KeepsValid h.grammar u.grammar markers
    pub forms : KeepsForms
    pub layout : HasNoFurtherLayout
