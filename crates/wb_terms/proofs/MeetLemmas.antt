-- What a builder holds once a plain value is met.
use Rattle.std.proofs.Common.{◌≡◌, ℕ, List, ◌∷◌, Result, Ok, Err, Bool, ℤ, refl, sym, ap, subst}
use Rattle.std.specs.Result.{OnOk}
use Rattle.wb_values.specs.Signature.{Signature}
use Rattle.wb_values.specs.Tree.{Tree, int, bool, text}
use Rattle.wb_values.specs.declared.value.Value.TheVariants as s
use Rattle.wb_terms.specs.declared.event.Event.{Event}
use Rattle.wb_terms.specs.declared.event.Event.TheVariants.{Int, Bool as Truth, Text}
use Rattle.wb_terms.specs.declared.builder.Builder.{Builder}
use Rattle.wb_terms.specs.Term.{plain}
use Rattle.wb_terms.specs.Inner.Holding.{Holds, AddsValue}
use Rattle.wb_terms.proofs.HoldLemmas.{holds_with}

module _ {X E : Type 0} (ss : List Signature) (ts : List Tree) (b c : Builder) (event : Event) (at : ℕ) where
  pub int_met : (z : ℤ) (r : Result X E) → event ≡ Int z at → OnOk r (AddsValue (s.Int z) at b c)
      → OnOk r ((events : List Event) → Holds ss ts events b → Holds ss ts (event ∷ events) c)
  int_met z (Err x) is adds = tt
  int_met z (Ok x) is adds =
      λ events h. subst (λ e. Holds ss ts (e ∷ events) c) (sym is)
      (holds_with ss ts events (Int z at ∷ events) (plain (int z) at) (s.Int z) at b c h refl
      (record { within = tt; built = refl }) refl adds h.unknown h.wrong)

  pub bool_met : (t : Bool) (r : Result X E) → event ≡ Truth t at → OnOk r (AddsValue (s.Bool t) at b c)
      → OnOk r ((events : List Event) → Holds ss ts events b → Holds ss ts (event ∷ events) c)
  bool_met t (Err x) is adds = tt
  bool_met t (Ok x) is adds =
      λ events h. subst (λ e. Holds ss ts (e ∷ events) c) (sym is)
      (holds_with ss ts events (Truth t at ∷ events) (plain (bool t) at) (s.Bool t) at b c h refl
      (record { within = tt; built = refl }) refl adds h.unknown h.wrong)

  pub text_met : (l m : List ℕ) (r : Result X E) → event ≡ Text l at → m ≡ l → OnOk r (AddsValue (s.Text m) at b c)
      → OnOk r ((events : List Event) → Holds ss ts events b → Holds ss ts (event ∷ events) c)
  text_met l m (Err x) is same adds = tt
  text_met l m (Ok x) is same adds =
      λ events h. subst (λ e. Holds ss ts (e ∷ events) c) (sym is)
      (holds_with ss ts events (Text l at ∷ events) (plain (text l) at) (s.Text m) at b c h refl
      (record { within = tt; built = ap text (sym same) }) refl adds h.unknown h.wrong)
