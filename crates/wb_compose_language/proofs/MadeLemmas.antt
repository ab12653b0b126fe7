-- Forms, expressions and withdrawn markers with one terminal more.
use Rattle.std.proofs.Common.{◌≡◌, ◌≢◌, ◌∙◌, ◌<◌, ◌+◌, ◌⊎◌, ◌++◌, ◌∷◌, [], ℕ, Bool, true, false, List, Some, inl, inr, length, slice_get}
use Rattle.std.proofs.Common.{refl}
use Rattle.std.proofs.Common.{sym}
use Rattle.std.proofs.Common.{ap, subst, arith, length-append}
use Rattle.std.specs.Prelude.{◌↔◌, IsTrue}
use Rattle.wb_scan_theory.specs.declared.form.Form.{Form}
use Rattle.wb_scan_theory.specs.Languages.{bare}
use Rattle.wb_regex.specs.Tree.{Tree}
use Rattle.wb_syntax_resolved.specs.declared.terminal.Terminal.{Terminal}
use Rattle.wb_compose_theory_grammar.specs.Laws.{IsOwn}
use Rattle.wb_compose_theory_language.specs.Apart.{IsMarkerRow, colon}
use Rattle.wb_compose_theory_language.specs.Forms.{kept, of_extension, of_host, prefix_of, prefixed}
use Rattle.wb_compose_theory_language.specs.Written.{pieces_of}
use Rattle.wb_compose_language.specs.declared.addition.Addition.{Addition}
use Rattle.wb_compose_language.specs.declared.addition.Lent.{Lent}
use Rattle.wb_compose_language.specs.declared.union_forms.UnitedForms.{UnitedForms}
use Rattle.wb_compose_language.specs.Inner.FormsMade.{AreFormsBelow, AreMadeBelow, AreWithdrawnBelow, IsBareAdded, IsChosen, IsFormIn}
use Rattle.wb_compose_language.specs.Inner.FormsMade.{IsPrefixedAdded, IsWithdrawnIn, Writes}
use Rattle.wb_compose_language.specs.Lents.{IsUnitable, all_in, own_in, written_beside}
use Rattle.wb_compose_language.proofs.FormLemmas.{one_more, two_more}
use Rattle.wb_compose_language.proofs.KindLemmas.{bare_writes, host_form, host_writes, listed, marker_form, number_in, own_marker}
use Rattle.wb_compose_language.proofs.KindLemmas.{plain_form}
use Rattle.wb_compose_language.proofs.KindLemmas.{prefixed_writes, same_form}
use Rattle.wb_compose_language.proofs.WithdrawnLemmas.{host_kept, none_more, one_withdrawn, plain_kept}

-- a prefix isn't empty
some_prefix : (name : List ℕ) → name ++ colon ∷ colon ∷ [] ≢ []
some_prefix name e =
    let len = ap length e in let a = length-append name (colon ∷ colon ∷ []) in omega (arith, len, a)

module _ (lent : Lent) where
  -- the lists alone matter
  pub made_as : (n : ℕ) (forms : List Form) (expressions : List Tree) (withdrawn : List ℕ) (made : UnitedForms) →
      AreFormsBelow lent n forms expressions → AreWithdrawnBelow lent n withdrawn → made.forms.items ≡ forms →
      made.expressions.items ≡ expressions → made.withdrawn.items ≡ withdrawn → AreMadeBelow lent n made
  made_as n forms expressions withdrawn made f w e g h = record {
    forms = subst (λ xs. AreFormsBelow lent n xs made.expressions.items) (sym e) (subst (AreFormsBelow lent n forms) (sym g) f);
    withdrawn = subst (AreWithdrawnBelow lent n) (sym h) w;
  }

  -- a terminal with its bare form alone
  pub bare_step : (n : ℕ) (pattern : Tree) (made new : UnitedForms) → IsFormIn lent (bare n) → Writes lent pattern (bare n) →
      ((f : Form) → IsFormIn lent f → f.terminal ≡ n → f ≡ bare n) → ¬ IsWithdrawnIn lent n → IsBareAdded made new n pattern →
      AreMadeBelow lent n made → AreMadeBelow lent (n + 1) new
  bare_step n pattern made new is writes only kept_is added was =
      made_as (n + 1) (made.forms.items ++ bare n ∷ []) (made.expressions.items ++ pattern ∷ []) made.withdrawn.items new
      (one_more lent n made.forms.items made.expressions.items (bare n) pattern was.forms is refl writes only)
      (none_more lent n made.withdrawn.items kept_is was.withdrawn) added.forms_are added.expressions_are added.withdrawn_are

  module _ (ok : IsUnitable lent) where
    -- a terminal of the host
    pub host_step : (n : ℕ) (row : Terminal) (made new : UnitedForms) → n < lent.grammar.now.terminals →
        slice_get lent.terminals.now n ≡ Some row → IsBareAdded made new n row.pattern → AreMadeBelow lent n made →
        AreMadeBelow lent (n + 1) new
    host_step n row made new less at added was = bare_step n row.pattern made new (of_host less refl) (host_writes lent ok n row less at)
        (λ f f_is e. host_form lent ok f n f_is e less) (host_kept lent ok n less) added was

    module _ (k : ℕ) (x : Addition) (at : slice_get lent.extensions.now k ≡ Some x) (t : ℕ) (row : Terminal)
        (row_at : slice_get x.terminals.now t ≡ Some row) where
      -- a terminal of an extension that is no marker
      pub plain_step : (made new : UnitedForms) →
          IsOwn lent.grammar.now lent.extensible.now (pieces_of (all_in lent)) (written_beside lent x).piece t → IsBareAdded made new (number_in lent ok k t) row.pattern → AreMadeBelow lent (number_in lent ok k t) made →
          AreMadeBelow lent (number_in lent ok k t + 1) new
      plain_step made new mine added was = bare_step (number_in lent ok k t) row.pattern made new
          (of_extension k (written_beside lent x) t (listed lent ok k x at) mine refl refl)
          (bare_writes lent ok k x at t row mine.within row_at)
          (λ f f_is e. plain_form lent ok k (written_beside lent x) (listed lent ok k x at) t mine f f_is e)
          (plain_kept lent ok k (written_beside lent x) (listed lent ok k x at) t mine) added was

      module _ (marker : IsMarkerRow lent.grammar.now lent.extensible.now (own_in lent) (written_beside lent x) t) where
        within : t < x.grammar.now.terminals
        within = (own_marker lent ok k (written_beside lent x) (listed lent ok k x at) t marker).1

        abbrev the_prefixed : Form
        the_prefixed = record { terminal = number_in lent ok k t; prefix = prefix_of (written_beside lent x) }

        prefixed_is : IsFormIn lent the_prefixed
        prefixed_is =
            prefixed k (written_beside lent x) (record { listed = listed lent ok k x at; terminal = t; marker = marker; is = refl }) refl

        -- a marker that is withdrawn
        pub withdrawn_step : (tree : Tree) (made new : UnitedForms) → Writes lent tree the_prefixed →
            IsWithdrawnIn lent (number_in lent ok k t) → new.forms.items ≡ made.forms.items ++ the_prefixed ∷ [] →
            new.expressions.items ≡ made.expressions.items ++ tree ∷ [] →
            new.withdrawn.items ≡ made.withdrawn.items ++ number_in lent ok k t ∷ [] →
            AreMadeBelow lent (number_in lent ok k t) made → AreMadeBelow lent (number_in lent ok k t + 1) new
        withdrawn_step tree made new writes out e f g was =
            made_as (number_in lent ok k t + 1) (made.forms.items ++ the_prefixed ∷ []) (made.expressions.items ++ tree ∷ [])
            (made.withdrawn.items ++ number_in lent ok k t ∷ []) new
            (one_more lent (number_in lent ok k t) made.forms.items made.expressions.items the_prefixed tree was.forms prefixed_is refl
            writes only) (one_withdrawn lent (number_in lent ok k t) made.withdrawn.items out was.withdrawn) e f g
          where
            only : (form : Form) → IsFormIn lent form → form.terminal ≡ number_in lent ok k t → form ≡ the_prefixed
            only form is n_is =
                elim (marker_form lent ok k (written_beside lent x) (listed lent ok k x at) t marker form is n_is) [
                  | inl p ↦ same_form form the_prefixed n_is p
                  | inr (p, kept_is) ↦ absurd (kept_is out)
                ]

        -- a marker that isn't
        pub kept_step : (tree : Tree) (made new : UnitedForms) → Writes lent tree the_prefixed →
            (¬ IsWithdrawnIn lent (number_in lent ok k t)) →
            new.forms.items ≡ (made.forms.items ++ the_prefixed ∷ []) ++ bare (number_in lent ok k t) ∷ [] →
            new.expressions.items ≡ (made.expressions.items ++ tree ∷ []) ++ row.pattern ∷ [] →
            new.withdrawn.items ≡ made.withdrawn.items → AreMadeBelow lent (number_in lent ok k t) made →
            AreMadeBelow lent (number_in lent ok k t + 1) new
        kept_step tree made new writes kept_is e f g was =
            made_as (number_in lent ok k t + 1) ((made.forms.items ++ the_prefixed ∷ []) ++ bare (number_in lent ok k t) ∷ [])
            ((made.expressions.items ++ tree ∷ []) ++ row.pattern ∷ []) made.withdrawn.items new
            (two_more lent (number_in lent ok k t) made.forms.items made.expressions.items the_prefixed (bare (number_in lent ok k t)) tree
            row.pattern was.forms prefixed_is bare_is refl refl (λ same. some_prefix x.name.now (ap (λ (z : Form). z.prefix) same)) writes
            (bare_writes lent ok k x at t row within row_at) only)
            (none_more lent (number_in lent ok k t) made.withdrawn.items kept_is was.withdrawn) e f g
          where
            bare_is : IsFormIn lent (bare (number_in lent ok k t))
            bare_is =
                kept k (written_beside lent x) (record { listed = listed lent ok k x at; terminal = t; marker = marker; is = refl }) kept_is refl

            only : (form : Form) → IsFormIn lent form → form.terminal ≡ number_in lent ok k t →
                (form ≡ the_prefixed) ⊎ (form ≡ bare (number_in lent ok k t))
            only form is n_is =
                elim (marker_form lent ok k (written_beside lent x) (listed lent ok k x at) t marker form is n_is) [
                  | inl p ↦ inl (same_form form the_prefixed n_is p)
                  | inr (p, kept_is) ↦ inr (same_form form (bare (number_in lent ok k t)) n_is p)
                ]

        -- as they are made: the prefixed form, and then the bare one or none
        pub marker_step : (withdrawn : Bool) (made mid new : UnitedForms) →
            IsPrefixedAdded made.forms.items mid.forms.items made.expressions.items mid.expressions.items (number_in lent ok k t)
            (prefix_of (written_beside lent x)) row.pattern → mid.withdrawn.items ≡ made.withdrawn.items →
            IsTrue withdrawn ↔ IsWithdrawnIn lent (number_in lent ok k t) →
            IsChosen withdrawn mid new (number_in lent ok k t) row.pattern → AreMadeBelow lent (number_in lent ok k t) made →
            AreMadeBelow lent (number_in lent ok k t + 1) new
        marker_step true made mid new p same is chosen was = withdrawn_step p.tree made new
            (prefixed_writes lent ok k x at t row the_prefixed p.tree within row_at refl p.is) (is.0 refl)
            (chosen.forms_are ∙ p.forms_are) (chosen.expressions_are ∙ p.expressions_are)
            (chosen.withdrawn_are ∙ ap (λ xs. xs ++ number_in lent ok k t ∷ []) same) was
        marker_step false made mid new p same is chosen was = kept_step p.tree made new
            (prefixed_writes lent ok k x at t row the_prefixed p.tree within row_at refl p.is)
            (λ out. let bad : false ≡ true = is.1 out in cc)
            (chosen.forms_are ∙ ap (λ xs. xs ++ bare (number_in lent ok k t) ∷ []) p.forms_are)
            (chosen.expressions_are ∙ ap (λ xs. xs ++ row.pattern ∷ []) p.expressions_are) (chosen.withdrawn_are ∙ same) was
