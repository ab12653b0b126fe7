-- A language in other numbers, whatever the order of its forms.
use Rattle.std.specs.Prelude.{◌≡◌, ◌<◌, ◌≤◌, ◌+◌, ℕ, List, Contains, Option, Some, None, length, slice_get}
use Rattle.wb_automata.specs.Automata.{IsMatch}
use Rattle.wb_compose_theory.specs.Renamings.{Renaming}
use Rattle.wb_scan_theory.specs.declared.form.Form.{Form}
use Rattle.wb_scan_theory.specs.Languages.{LanguageView, forms_of, IsLayout, span_at}
use Rattle.wb_compose_theory_order.specs.Grammars.{GrammarLeadsTo, IsUndoneBy}

-- where the numbers of terminals, nonterminals and productions go, and the places of forms
pub record Renumbering : Type 0 where
  pub names : Renaming
  pub place : ℕ → ℕ

-- the form with the new number of its terminal
abbrev pub renamed_form : Renaming → Form → Form
renamed_form r form = record form { terminal = r.terminal form.terminal }

-- of the forms at two places, the terminal of the one is preferred to that of the other
pub record IsPreferred (l : LanguageView) (place other : ℕ) : Type 0 where
  pub one : Form
  pub two : Form
  pub at : slice_get (forms_of l) place ≡ Some one
  pub to : slice_get (forms_of l) other ≡ Some two
  pub preferred : Contains l.preferences (one.terminal, two.terminal)

-- both layouts are considered at each prefix; or the productions by which the one is considered become some by which the other is
pub data SpanLeadsTo (r : Renaming) : (span other : Option (ℕ × ℕ)) → Type 0 where
  everywhere : SpanLeadsTo r None None
  among : (span other : ℕ × ℕ) → ((p : ℕ) → span.0 ≤ p → p < span.1 → (other.0 ≤ r.production p) × (r.production p < other.1)) →
      SpanLeadsTo r (Some span) (Some other)

-- the renumbering leads from the one language to the other: its names lead from grammar to grammar; each form is there a form with the
-- same prefix, and layout is layout there, and considered by the productions that become of its own; what matches a text matches it there,
-- and what is preferred is preferred there
pub record LanguageLeadsTo (r : Renumbering) (l m : LanguageView) : Type 0 where
  pub grammar : GrammarLeadsTo r.names l.grammar m.grammar
  pub forms : (place : ℕ) (form : Form) → slice_get l.forms place ≡ Some form →
      slice_get m.forms (r.place place) ≡ Some (renamed_form r.names form)
  pub layout : (place : ℕ) → IsLayout l place → IsLayout m (r.place place)
  pub spans : (place : ℕ) → IsLayout l place → SpanLeadsTo r.names (span_at l place) (span_at m (r.place place))
  pub expressions : (place : ℕ) (text : List ℕ) → IsMatch l.expressions place text → IsMatch m.expressions (r.place place) text
  pub preferences : (place other : ℕ) → IsPreferred l place other → IsPreferred m (r.place place) (r.place other)

-- the second renumbering undoes the first
pub record AreUndoneBy (r s : Renumbering) : Type 0 where
  pub names : IsUndoneBy r.names s.names
  pub place : (place : ℕ) → s.place (r.place place) ≡ place

-- the two are one language, in two numberings: a renumbering leads from the first to the second, another leads back, and each undoes the
-- other
pub record IsSameLanguage (r s : Renumbering) (l m : LanguageView) : Type 0 where
  pub there : LanguageLeadsTo r l m
  pub back : LanguageLeadsTo s m l
  pub undone : AreUndoneBy r s
  pub redone : AreUndoneBy s r

-- the two are one language by these renamings, with some maps of places that undo each other
abbrev pub IsSameBy : Renaming → Renaming → LanguageView → LanguageView → Type 0
IsSameBy r s l m =
    (there back : ℕ → ℕ) × IsSameLanguage (record { names = r; place = there }) (record { names = s; place = back }) l m

-- layout is numbered on after the terminals, and there is an expression for each form and each layout terminal
pub record IsNumberedOn (l : LanguageView) : Type 0 where
  pub layout : (k t : ℕ) → slice_get l.layout k ≡ Some t → t ≡ l.grammar.terminals + k
  pub expressions : length l.expressions ≡ length l.forms + length l.layout
