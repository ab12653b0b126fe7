-- Forms of the union, terminal by terminal.
use Rattle.std.proofs.Common.{◌≡◌, ◌≢◌, ◌∙◌, ◌+◌, ◌<◌, ◌≤◌, ◌⊎◌, ◌++◌, ◌∷◌, [], ℕ, List, Some, length, slice_get, sym, ap, subst}
use Rattle.std.proofs.Common.{inl, inr, arith, length-append}
use Rattle.std.specs.Prelude.{Contains}
use Rattle.std.proofs.lemmas.Bool.{cases_lt}
use Rattle.std.proofs.lemmas.Option.{same_Some, slice_get_within}
use Rattle.wb_lemmas.proofs.Members.{push_contains, push_contains_last}
use Rattle.wb_lemmas.proofs.Places.{append_seam, push_before}
use Rattle.wb_scan_theory.specs.declared.form.Form.{Form}
use Rattle.wb_regex.specs.Tree.{Tree}
use Rattle.wb_compose_language.specs.declared.addition.Lent.{Lent}
use Rattle.wb_compose_language.specs.Inner.FormsMade.{AreFormsBelow, AreSound, IsFormIn, Writes}

-- where the last of a list is
at_end : {X : Type 0} (xs : List X) (x y : X) (i : ℕ) → slice_get (xs ++ x ∷ []) i ≡ Some y →
    (slice_get xs i ≡ Some y) ⊎ ((i ≡ length xs) × (x ≡ y))
at_end xs x y i at = elim (cases_lt i (length xs)) [
  | inl less ↦ inl (sym (push_before xs x i less) ∙ at)
  | inr far ↦
      let within = slice_get_within (xs ++ x ∷ []) i y at in
      let long = length-append xs (x ∷ []) in
      let e : i ≡ length xs = omega (arith, within, long, far) in
      inr (e, same_Some x y (sym (append_seam xs x []) ∙ (ap (slice_get (xs ++ x ∷ [])) (sym e) ∙ at)))
]

module _ (lent : Lent) where
  -- one form more
  pub sound_push : (bound : ℕ) (forms : List Form) (expressions : List Tree) (form : Form) (tree : Tree) →
      AreSound lent bound forms expressions → IsFormIn lent form → form.terminal < bound →
      ((place : ℕ) → slice_get forms place ≡ Some form → ⊥) → Writes lent tree form →
      AreSound lent bound (forms ++ form ∷ []) (expressions ++ tree ∷ [])
  sound_push bound forms expressions form tree s is less fresh writes = record {
    each = λ place f at. elim (at_end forms form f place at) [
      | inl here ↦ s.each place f here
      | inr (e, same) ↦ (subst (IsFormIn lent) same is, subst (λ (z : Form). z.terminal < bound) same less)
    ];
    once = λ f i j at to. elim (at_end forms form f i at) [
      | inl here ↦ elim (at_end forms form f j to) [
        | inl there ↦ s.once f i j here there
        | inr (e, same) ↦ absurd (fresh i (here ∙ ap Some (sym same)))
      ]
      | inr (e, same) ↦ elim (at_end forms form f j to) [
        | inl there ↦ absurd (fresh j (there ∙ ap Some (sym same)))
        | inr (e', same') ↦ e ∙ sym e'
      ]
    ];
    len = (let a = length-append expressions (tree ∷ []) in let b = length-append forms (form ∷ []) in let c = s.len in
        omega (arith, a, b, c));
    written = λ place f t at of. elim (at_end forms form f place at) [
      | inl here ↦ elim (at_end expressions tree t place of) [
        | inl there ↦ s.written place f t here there
        | inr (e, same) ↦ (let w = slice_get_within forms place f here in let c = s.len in absurd (omega (arith, w, c, e)))
      ]
      | inr (e, same) ↦ elim (at_end expressions tree t place of) [
        | inl there ↦ (let w = slice_get_within expressions place t there in let c = s.len in absurd (omega (arith, w, c, e)))
        | inr (e', same') ↦ subst (λ z. Writes lent z f) same' (subst (Writes lent tree) same writes)
      ]
    ];
  }

  -- a greater bound
  pub sound_wider : (bound more : ℕ) (forms : List Form) (expressions : List Tree) → bound ≤ more → AreSound lent bound forms expressions →
      AreSound lent more forms expressions
  sound_wider bound more forms expressions le s = record {
    each = λ place f at. (let (is, less) = s.each place f at in (is, omega (arith, less, le)));
    once = s.once;
    len = s.len;
    written = s.written;
  }

  -- a form of a terminal that isn't below the bound is new
  pub fresh_form : (bound : ℕ) (forms : List Form) (expressions : List Tree) (form : Form) → AreSound lent bound forms expressions →
      form.terminal ≡ bound → (place : ℕ) → slice_get forms place ≡ Some form → ⊥
  fresh_form bound forms expressions form s e place at = let less = (s.each place form at).1 in omega (arith, less, e)

  -- a terminal with one form
  pub one_more : (n : ℕ) (forms : List Form) (expressions : List Tree) (form : Form) (tree : Tree) →
      AreFormsBelow lent n forms expressions → IsFormIn lent form → form.terminal ≡ n → Writes lent tree form →
      ((f : Form) → IsFormIn lent f → f.terminal ≡ n → f ≡ form) →
      AreFormsBelow lent (n + 1) (forms ++ form ∷ []) (expressions ++ tree ∷ [])
  one_more n forms expressions form tree b is e writes only = record {
    sound = sound_push (n + 1) forms expressions form tree (sound_wider n (n + 1) forms expressions (omega arith) b.sound) is
        (omega (arith, e)) (fresh_form n forms expressions form b.sound e) writes;
    every = λ f f_is less. elim (cases_lt f.terminal n) [
      | inl low ↦ push_contains forms form f (b.every f f_is low)
      | inr far ↦ subst (Contains (forms ++ form ∷ [])) (sym (only f f_is (omega (arith, less, far)))) (push_contains_last forms form)
    ];
  }

  -- a terminal with two
  pub two_more : (n : ℕ) (forms : List Form) (expressions : List Tree) (one two : Form) (first second : Tree) →
      AreFormsBelow lent n forms expressions → IsFormIn lent one → IsFormIn lent two → one.terminal ≡ n → two.terminal ≡ n → one ≢ two →
      Writes lent first one → Writes lent second two → ((f : Form) → IsFormIn lent f → f.terminal ≡ n → (f ≡ one) ⊎ (f ≡ two)) →
      AreFormsBelow lent (n + 1) ((forms ++ one ∷ []) ++ two ∷ []) ((expressions ++ first ∷ []) ++ second ∷ [])
  two_more n forms expressions one two first second b one_is two_is e f differ w v only = record {
    sound = sound_push (n + 1) (forms ++ one ∷ []) (expressions ++ first ∷ []) two second
        (sound_push (n + 1) forms expressions one first (sound_wider n (n + 1) forms expressions (omega arith) b.sound) one_is
        (omega (arith, e)) (fresh_form n forms expressions one b.sound e) w) two_is (omega (arith, f)) new_two v;
    every = λ g g_is less. elim (cases_lt g.terminal n) [
      | inl low ↦ push_contains (forms ++ one ∷ []) two g (push_contains forms one g (b.every g g_is low))
      | inr far ↦ elim (only g g_is (omega (arith, less, far))) [
        | inl same ↦ push_contains (forms ++ one ∷ []) two g (subst (Contains (forms ++ one ∷ [])) (sym same)
            (push_contains_last forms one))
        | inr same ↦ subst (Contains ((forms ++ one ∷ []) ++ two ∷ [])) (sym same) (push_contains_last (forms ++ one ∷ []) two)
      ]
    ];
  }
    where
      new_two : (place : ℕ) → slice_get (forms ++ one ∷ []) place ≡ Some two → ⊥
      new_two place at = elim (at_end forms one two place at) [
        | inl here ↦ fresh_form n forms expressions two b.sound f place here
        | inr (z, same) ↦ differ same
      ]
