-- When something is declared twice: what a table shows of it, and that where no name shows it nothing is.
use Rattle.std.proofs.Common.{◌≡◌, ◌<◌, ℕ, true, false, List, Some, slice_get, inl, inr, refl, sym, ◌∙◌, subst, arith}
use Rattle.std.proofs.lemmas.Bool.{cases_lt}
use Rattle.wb_names_theory.specs.declared.declaration.Declaration.{Declaration}
use Rattle.wb_names_theory.specs.declared.declaration.Declaration.TheVariants as d
use Rattle.wb_names_theory.specs.declared.declaration.Sort.{Sort}
use Rattle.wb_names_theory.specs.declared.refusal.NameRefusal.{NameRefusal}
use Rattle.wb_names_theory.specs.declared.refusal.NameRefusal.TheVariants as r
use Rattle.wb_names_theory.specs.Duplicate.{AreSame, Counts, FailsDuplicate, IsSymbolOnce, IsProductionOnce, shown_name}
use Rattle.wb_names_theory.specs.Duplicate as s
use Rattle.wb_names_rules.specs.declared.table.Pass.{Pass}
use Rattle.wb_names_rules.specs.declared.table.Pass.TheVariants.{Symbols, Others}
use Rattle.wb_names_rules.specs.Index.{CountOnce, IsEachShown}
use Rattle.wb_names_rules.specs.Indexed.{IsIndexed, IsCovered, IsKept, is_symbol}
use Rattle.wb_names_rules.specs.Keys.{key_of}
use Rattle.wb_names_rules.specs.Inner.Indexed.{IsIn, IsRefusedAs, IsDuplicate}
use Rattle.wb_names_rules.proofs.IndexLemmas.{same_back, same_counts}
use Rattle.wb_names_rules.proofs.KeyLemmas.{key_apart}
use Rattle.wb_names_rules.proofs.SymbolLemmas.{same_symbols, production_once}

module _ (declared : List Declaration) (keys : List (List ℕ)) (places : List ℕ) (pass : Pass) (upto : ℕ) (here : Declaration) where
  -- the key of the declaration at a place is kept for another one, so it is declared twice
  pub twice : IsIndexed declared keys places pass upto → slice_get declared upto ≡ Some here → IsIn pass here
      → (place : ℕ) → IsKept keys places (key_of here) place → Counts declared here → FailsDuplicate declared (shown_name here)
  twice known is_here within place kept counts =
      let has = known.sound (key_of here) place kept in
      let same : AreSame has.declaration here = key_apart has.declaration here (sym has.is_key) in
      record {
        first = place;
        second = upto;
        order = earlier pass has.declaration has.covered within (same_symbols same);
        one = has.declaration;
        other = here;
        at_first = has.at;
        at_second = is_here;
        same = same;
        counts = counts;
        production = production_once declared keys places pass upto here known within;
        shown = refl;
      } where
        earlier : {at : ℕ} (p : Pass) (one : Declaration) → IsCovered p upto at one → IsIn p here
            → is_symbol one ≡ is_symbol here → at < upto
        earlier Symbols one (is, below) is_in same = below
        earlier Others one (inl is) is_in same = absurd (let e : true ≡ false = sym is ∙ same ∙ is_in in cc)
        earlier Others one (inr below) is_in same = below

-- a declaration that is refused as one that is there already is declared twice, where that is shown
pub refused_twice : (declared : List Declaration) (one : Declaration) → FailsDuplicate declared (shown_name one) → (refusal : NameRefusal)
    → IsRefusedAs one refusal → IsDuplicate declared refusal
refused_twice declared one fails (r.Duplicate name) is = subst (FailsDuplicate declared) (sym is) fails
refused_twice declared one fails (r.NoMemory error) is = tt
refused_twice declared one fails (r.Unknown name) is = absurd is
refused_twice declared one fails (r.Orphan name) is = absurd is
refused_twice declared one fails (r.WrongKind name) is = absurd is
refused_twice declared one fails (r.WrongHost name) is = absurd is

-- where declarations of the same thing that count are one, nothing is declared twice
pub nothing_twice : (declared : List Declaration) → CountOnce declared → (name : List ℕ) → ¬ FailsDuplicate declared name
nothing_twice declared once name fails =
    let same = once fails.first fails.second fails.one fails.other fails.at_first fails.at_second
    (same_counts declared (same_back fails.same) fails.counts) fails.same in
    let before = fails.order in
    absurd (omega (arith, same, before))

module _ (declared : List Declaration) (none : (name : List ℕ) → ¬ FailsDuplicate declared name) where
  -- no two symbols of a name are at places of which one is before the other
  symbols_apart : (name : List ℕ) (first second : ℕ) (is other : Sort) → slice_get declared first ≡ Some (d.Symbol name is)
      → slice_get declared second ≡ Some (d.Symbol name other) → ¬ (first < second)
  symbols_apart name first second is other at_first at_second order = none name (record {
    first = first;
    second = second;
    order = order;
    one = d.Symbol name is;
    other = d.Symbol name other;
    at_first = at_first;
    at_second = at_second;
    same = s.symbol;
    counts = tt;
    production = tt;
    shown = refl;
  })

  -- so a name is declared as a symbol once
  symbol_once : (name : List ℕ) → IsSymbolOnce declared name
  symbol_once name first second is other at_first at_second = elim (cases_lt first second) [
    | inl below ↦ absurd (symbols_apart name first second is other at_first at_second below)
    | inr above ↦ elim (cases_lt second first) [
      | inl below ↦ absurd (symbols_apart name second first other is at_second at_first below)
      | inr too ↦ omega (arith, above, too)
    ]
  ]

  -- and so is the production in which a declaration stands
  each_once : (one : Declaration) → IsProductionOnce declared one
  each_once (d.Symbol a b) = tt
  each_once (d.Attribute a b) = tt
  each_once (d.Occurrence a b) = tt
  each_once (d.Left a b) = tt
  each_once (d.Label p l is) = symbol_once p
  each_once (d.Equation p a at) = symbol_once p
  each_once (d.Forward p) = symbol_once p
  each_once (d.Start a) = tt
  each_once (d.Extensible a) = tt
  each_once (d.Closed a) = tt
  each_once (d.ForwardNeeds a) = tt
  each_once (d.Preference a b) = tt

  -- no two declarations of the same thing that count are at places of which one is before the other
  none_apart : (i j : ℕ) (one other : Declaration) → slice_get declared i ≡ Some one → slice_get declared j ≡ Some other
      → Counts declared other → AreSame one other → ¬ (i < j)
  none_apart i j one other at_one at_other counts same order = none (shown_name other) (record {
    first = i;
    second = j;
    order = order;
    one = one;
    other = other;
    at_first = at_one;
    at_second = at_other;
    same = same;
    counts = counts;
    production = each_once other;
    shown = refl;
  })

  -- where no name shows that something is declared twice, declarations of the same thing that count are one
  count_once : CountOnce declared
  count_once i j one other at_one at_other counts same = elim (cases_lt i j) [
    | inl below ↦ absurd (none_apart i j one other at_one at_other (same_counts declared same counts) same below)
    | inr above ↦ elim (cases_lt j i) [
      | inl below ↦ absurd (none_apart j i other one at_other at_one counts (same_back same) below)
      | inr too ↦ omega (arith, above, too)
    ]
  ]

-- what is declared twice is shown by some name
pub each_shown : (declared : List Declaration) → IsEachShown declared
each_shown declared = (nothing_twice declared, count_once declared)
