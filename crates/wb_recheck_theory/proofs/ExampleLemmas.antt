-- Items and entries of small grammars, by their numbers.
use Rattle.std.proofs.Common.{◌≡◌, ℕ, List, [], ◌∷◌, ◌++◌, Option, Some, sym, ◌∙◌, ap, subst}
use Rattle.std.specs.Prelude.{slice_get}
use Rattle.std.proofs.lemmas.Option.{same_Some}
use Rattle.wb_base.specs.declared.symbol.Symbol.{Symbol}
use Rattle.wb_base.specs.declared.symbol.Symbol.TheVariants.{Terminal}
use Rattle.wb_base.specs.Grammar.{GrammarView}
use Rattle.wb_grammar_theory.specs.declared.item.Item.{Item}
use Rattle.wb_grammar_theory.specs.Derives.{IsFirst}
use Rattle.wb_grammar_theory.specs.Items.{after_dot}
use Rattle.wb_grammar_theory.proofs.DotLemmas.{Begun, begun, within, behind}
use Rattle.wb_recheck_theory.specs.declared.entry.Entry.{Entry}
use Rattle.wb_recheck_theory.specs.Entries.{IsListed}

abbrev pub item : ℕ → ℕ → Item
item p d = record { production = p; dot = d }

abbrev pub entry : ℕ → Item → ℕ → Option ℕ → Entry
entry k i t o = record { kernel = k; item = i; terminal = t; origin = o }

-- what is after the dot of an item that is known
pub after_is : (g : GrammarView) {i : Item} {w : List Symbol} (p d : ℕ) → i ≡ item p d → after_dot g i ≡ w → after_dot g (item p d) ≡ w
after_is g p d e is = sym (ap (after_dot g) e) ∙ is

-- equal entries have equal numbers
pub entry_parts : (k : ℕ) (i : Item) (t : ℕ) (o : Option ℕ) (k' : ℕ) (i' : Item) (t' : ℕ) (o' : Option ℕ) →
    Some (entry k i t o) ≡ Some (entry k' i' t' o') → (k' ≡ k) × (i' ≡ i) × (t' ≡ t)
entry_parts k i t o k' i' t' o' e =
    let f : entry k i t o ≡ entry k' i' t' o' = same_Some (entry k i t o) (entry k' i' t' o') e in
    (sym (ap (λ (z : Entry). z.kernel) f), sym (ap (λ (z : Entry). z.item) f), sym (ap (λ (z : Entry). z.terminal) f))

-- an entry at a place is listed
pub listed_at : (entries : List Entry) (n k : ℕ) (i : Item) (t : ℕ) (o : Option ℕ) {k' : ℕ} {i' : Item} {t' : ℕ} →
    slice_get entries n ≡ Some (entry k i t o) → k' ≡ k → i' ≡ i → t' ≡ t → IsListed entries k' i' t'
listed_at entries n k i t o {k'} {i'} {t'} at a b c =
    subst (λ z. IsListed entries z i' t') (sym a)
    (subst (λ z. IsListed entries k z t') (sym b) (subst (λ z. IsListed entries k i z) (sym c) (n, o, at)))

-- after nothing comes the lookahead alone
pub first_of_end : (g : GrammarView) (rest : List Symbol) (t u : ℕ) → rest ≡ [] → IsFirst g (rest ++ Terminal t ∷ []) u → u ≡ t
first_of_end g rest t u e first = alone (begun g [] t u (subst (λ w. IsFirst g (w ++ Terminal t ∷ []) u) e first))
  where
    alone : Begun g [] t u → u ≡ t
    alone (within v d) = elim d [ ]
    alone (behind d is) = is
