-- Plain values that are stored, and what an operation gives.
use Rattle.std.proofs.Common.{◌≡◌, ℕ, List, [], ◌∷◌, Some, All, length, refl, sym, ap, subst}
use Rattle.std.specs.Prelude.{Ok, Err}
use Rattle.wb_operations.specs.declared.meaning.OperationRefusal.TheVariants as refusal
use Rattle.std.proofs.lemmas.List.Elements.{All-head, All-tail}
use Rattle.std.proofs.lemmas.Option.{same_Some}
use Rattle.wb_base.specs.declared.symbol.Kind.{Kind}
use Rattle.wb_base.specs.declared.symbol.Kind.TheVariants as kd
use Rattle.wb_operations.specs.Given.{Given, FitKinds, IsPlainKind, plains_of, plain_of}
use Rattle.wb_operations.specs.Given as given
use Rattle.wb_values.specs.declared.value.Value.{Value}
use Rattle.wb_values.specs.declared.value.Value.TheVariants as stored
use Rattle.wb_values.specs.Fits.{FitsValue, FitAll}
use Rattle.wb_values.specs.Tree.{Plain, int, bool, text, Tree, plain}
use Rattle.wb_values.specs.ValuesIn.{value_in, values_in, IsIn}
use Rattle.wb_eval_theory.specs.Walks.{plains}

-- the plain ones of stored values
pub plains_stored : (trees : List Tree) (xs : List Value) → plains (values_in trees xs) ≡ plains_of xs
plains_stored trees [] = refl
plains_stored trees (stored.Int z ∷ xs) = ap (λ (l : List Plain). int z ∷ l) (plains_stored trees xs)
plains_stored trees (stored.Bool b ∷ xs) = ap (λ (l : List Plain). bool b ∷ l) (plains_stored trees xs)
plains_stored trees (stored.Text s ∷ xs) = ap (λ (l : List Plain). text s ∷ l) (plains_stored trees xs)
plains_stored trees (stored.Tree id ∷ xs) = plains_stored trees xs

one_kind : (signatures : _) (trees : List Tree) (x : Value) (k : Kind) → FitsValue signatures (value_in trees x) k → IsPlainKind k
    → given.HasKind k x
one_kind signatures trees (stored.Int z) kd.Int fit is = tt
one_kind signatures trees (stored.Bool z) kd.Bool fit is = tt
one_kind signatures trees (stored.Text z) kd.Text fit is = tt
one_kind signatures trees (stored.Int z) kd.Bool fit is = absurd (cc fit)
one_kind signatures trees (stored.Int z) kd.Text fit is = absurd (cc fit)
one_kind signatures trees (stored.Bool z) kd.Int fit is = absurd (cc fit)
one_kind signatures trees (stored.Bool z) kd.Text fit is = absurd (cc fit)
one_kind signatures trees (stored.Text z) kd.Int fit is = absurd (cc fit)
one_kind signatures trees (stored.Text z) kd.Bool fit is = absurd (cc fit)
one_kind signatures trees (stored.Tree id) kd.Int fit is = let e = fit.1 in absurd (cc e)
one_kind signatures trees (stored.Tree id) kd.Bool fit is = let e = fit.1 in absurd (cc e)
one_kind signatures trees (stored.Tree id) kd.Text fit is = let e = fit.1 in absurd (cc e)
one_kind signatures trees x (kd.Tree n) fit is = absurd is

-- values of plain kinds fit them
pub kinds_fit : (signatures : _) (trees : List Tree) (xs : List Value) (ks : List Kind) → FitAll signatures (values_in trees xs) ks
    → All IsPlainKind ks → FitKinds ks xs
kinds_fit signatures trees [] ks fit plain_ones = subst (λ (l : List Kind). FitKinds l []) (sym fit) tt
kinds_fit signatures trees (x ∷ xs) ks (k, rest, same, first, others) plain_ones =
    let ones = subst (All IsPlainKind) same plain_ones in
    subst (λ (l : List Kind). FitKinds l (x ∷ xs)) (sym same) (
      one_kind signatures trees x k first (All-head IsPlainKind k rest ones),
      kinds_fit signatures trees xs rest others (All-tail IsPlainKind k rest ones),
    )

pub plain_is : (trees : List Tree) (w : Value) (c : Plain) → plain_of w ≡ Some c → value_in trees w ≡ plain c
plain_is trees (stored.Int z) c is = ap plain (same_Some (int z) c is)
plain_is trees (stored.Bool z) c is = ap plain (same_Some (bool z) c is)
plain_is trees (stored.Text z) c is = ap plain (same_Some (text z) c is)
plain_is trees (stored.Tree id) c is = absurd (cc is)

pub plain_inside : (trees : List Tree) (w : Value) (c : Plain) → plain_of w ≡ Some c → IsIn (length trees) w
plain_inside trees (stored.Int z) c is = tt
plain_inside trees (stored.Bool z) c is = tt
plain_inside trees (stored.Text z) c is = tt
plain_inside trees (stored.Tree id) c is = absurd (cc is)

-- what an operation answers is what it gives
pub given_value : (g : Given) (w : Value) → given.IsGiven g (Ok w) → (c : Plain) × (g ≡ given.gives c) × (plain_of w ≡ Some c)
given_value (given.gives c) w is = (c, refl, is)
given_value (given.fails code) w is = absurd is

pub given_fault : (g : Given) (code : ℕ) → given.IsGiven g (Err (refusal.Fault code)) → g ≡ given.fails code
given_fault (given.gives c) code is = absurd is
given_fault (given.fails other) code is = ap given.fails (sym is)
