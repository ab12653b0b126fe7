-- What a table knows of declarations, one place after another.
use Rattle.std.proofs.Common.{◌≡◌, ◌⊎◌, ◌<◌, ◌+◌, ◌∷◌, ◌++◌, [], ℕ, Bool, true, false, List, Some, length, slice_get, Contains, inl, inr}
use Rattle.std.proofs.Common.{refl, sym, ◌∙◌, subst, arith, length-append}
use Rattle.std.proofs.lemmas.Option.{slice_get_within}
use Rattle.std.proofs.lemmas.Bool.{cases_lt}
use Rattle.wb_lemmas.proofs.Members.{push_contains, push_contains_last}
use Rattle.wb_lemmas.proofs.Places.{at_once, at_push, nothing_at}
use Rattle.wb_names_theory.specs.declared.declaration.Declaration.{Declaration}
use Rattle.wb_names_theory.specs.Duplicate.{AreSame, Counts}
use Rattle.wb_names_theory.specs.Duplicate as s
use Rattle.wb_names_rules.specs.declared.table.Pass.{Pass}
use Rattle.wb_names_rules.specs.declared.table.Pass.TheVariants.{Symbols, Others}
use Rattle.wb_names_rules.specs.Keys.{key_of}
use Rattle.wb_names_rules.specs.Indexed.{IsIndexed, IsCovered, IsKept, HasKey, is_symbol}
use Rattle.wb_names_rules.specs.Inner.Indexed.{IsIn}
use Rattle.wb_names_rules.proofs.KeyLemmas.{key_same}

-- of two declarations of the same thing both count or none does
pub same_counts : (declared : List Declaration) {one other : Declaration} → AreSame one other → Counts declared one → Counts declared other
same_counts declared s.symbol counts = counts
same_counts declared s.attribute counts = counts
same_counts declared s.occurrence counts = counts
same_counts declared s.left counts = counts
same_counts declared s.label counts = counts
same_counts declared s.equation counts = counts
same_counts declared s.forward counts = counts
same_counts declared s.start counts = counts
same_counts declared s.extensible counts = counts
same_counts declared s.closed counts = counts
same_counts declared s.forward_needs counts = counts
same_counts declared s.preference counts = counts

-- a declaration is of the same thing as itself read backwards
pub same_back : {one other : Declaration} → AreSame one other → AreSame other one
same_back s.symbol = s.symbol
same_back s.attribute = s.attribute
same_back s.occurrence = s.occurrence
same_back s.left = s.left
same_back s.label = s.label
same_back s.equation = s.equation
same_back s.forward = s.forward
same_back s.start = s.start
same_back s.extensible = s.extensible
same_back s.closed = s.closed
same_back s.forward_needs = s.forward_needs
same_back s.preference = s.preference

module _ (declared : List Declaration) where
  -- what is known of covered declarations, where the same ones are covered
  pub moved : (keys : List (List ℕ)) (places : List ℕ) (pass next : Pass) (upto other : ℕ) → IsIndexed declared keys places pass upto
      → ((at : ℕ) (one : Declaration) → slice_get declared at ≡ Some one → IsCovered pass upto at one → IsCovered next other at one)
      → ((at : ℕ) (one : Declaration) → slice_get declared at ≡ Some one → IsCovered next other at one → IsCovered pass upto at one)
      → IsIndexed declared keys places next other
  moved keys places pass next upto other known forth back = record {
    len = known.len;
    sound = λ key place kept. let has = known.sound key place kept in
        record {
          declaration = has.declaration;
          at = has.at;
          is_key = has.is_key;
          covered = forth place has.declaration has.at has.covered;
          counts = has.counts;
        };
    complete = λ at one there covered counts. known.complete at one there (back at one there covered) counts;
    once = λ i j one two at_one at_two first second counts same.
        known.once i j one two at_one at_two (back i one at_one first) (back j two at_two second) counts same;
  }

  -- no declaration was passed over
  pub none_indexed : IsIndexed declared [] [] Symbols 0
  none_indexed = record {
    len = refl;
    sound = λ key place kept. absurd (nothing_at key kept.number kept.at_key);
    complete = λ at one there covered counts. absurd (omega (arith, covered.1));
    once = λ i j one two at_one at_two first second counts same. absurd (omega (arith, first.1));
  }

  -- all symbols were passed over, so the second pass may begin
  pub symbols_indexed : (keys : List (List ℕ)) (places : List ℕ) → IsIndexed declared keys places Symbols (length declared)
      → IsIndexed declared keys places Others 0
  symbols_indexed keys places known =
      moved keys places Symbols Others (length declared) 0 known (λ at one there covered. inl covered.0)
      (λ at one there covered. elim covered [ inl is ↦ (is, slice_get_within declared at one there) | inr below ↦ absurd (omega (arith, below)) ])

  -- what is covered stays so
  keeps : (pass : Pass) (upto at : ℕ) (one : Declaration) → IsCovered pass upto at one → IsCovered pass (upto + 1) at one
  keeps Symbols upto at one (is, below) = (is, omega (arith, below))
  keeps Others upto at one (inl is) = inl is
  keeps Others upto at one (inr below) = inr (omega (arith, below))

  -- below the next place
  below_more : (m n : ℕ) → m < n + 1 → (m < n) ⊎ (m ≡ n)
  below_more m n lt = elim (cases_lt m n) [ inl below ↦ inl below | inr above ↦ inr (omega (arith, lt, above)) ]

  -- what is covered then was before, or is at the place itself
  before : (pass : Pass) (upto at : ℕ) (one : Declaration) → IsCovered pass (upto + 1) at one → IsCovered pass upto at one ⊎ (at ≡ upto)
  before Symbols upto at one (is, below) = elim (below_more at upto below) [ inl lt ↦ inl (is, lt) | inr same ↦ inr same ]
  before Others upto at one (inl is) = inl (inl is)
  before Others upto at one (inr below) = elim (below_more at upto below) [ inl lt ↦ inl (inr lt) | inr same ↦ inr same ]

  -- a declaration of another pass is covered already, or never
  skipped : (pass : Pass) (upto : ℕ) (one : Declaration) → ¬ IsIn pass one → IsCovered pass (upto + 1) upto one → IsCovered pass upto upto one
  skipped Symbols upto one other (is, below) = absurd (other is)
  skipped Others upto one other (inl is) = inl is
  skipped Others upto one other (inr below) = inl (not_false (is_symbol one) other) where
    not_false : (b : Bool) → ¬ (b ≡ false) → b ≡ true
    not_false true h = refl
    not_false false h = absurd (h refl)

  -- the pass isn't over the declaration at the place
  pub skips : (keys : List (List ℕ)) (places : List ℕ) (pass : Pass) (upto : ℕ) (here : Declaration)
      → IsIndexed declared keys places pass upto → slice_get declared upto ≡ Some here → ¬ IsIn pass here
      → IsIndexed declared keys places pass (upto + 1)
  skips keys places pass upto here known is_here other =
      moved keys places pass pass upto (upto + 1) known (λ at one there covered. keeps pass upto at one covered)
      (λ at one there covered. elim (before pass upto at one covered) [
        | inl was ↦ was
        | inr same ↦ let e : one ≡ here = at_once declared upto one here (subst (λ (z : ℕ). slice_get declared z ≡ Some one) same there) is_here in
            subst (λ (z : ℕ). IsCovered pass upto z one) (sym same) (skipped pass upto one (λ is. other (subst (IsIn pass) e is))
            (subst (λ (z : ℕ). IsCovered pass (upto + 1) z one) same covered))
      ])

  -- the declaration at the place is covered next
  now : (pass : Pass) (upto : ℕ) (one : Declaration) → IsIn pass one → IsCovered pass (upto + 1) upto one
  now Symbols upto one is = (is, omega arith)
  now Others upto one is = inr (omega arith)

  module _ (keys : List (List ℕ)) (places : List ℕ) (pass : Pass) (upto : ℕ) (here : Declaration)
      (known : IsIndexed declared keys places pass upto) (is_here : slice_get declared upto ≡ Some here) (within : IsIn pass here) where
    -- what is at the place is this declaration
    at_here : (at : ℕ) (one : Declaration) → at ≡ upto → slice_get declared at ≡ Some one → one ≡ here
    at_here at one same there = at_once declared upto one here (subst (λ (z : ℕ). slice_get declared z ≡ Some one) same there) is_here

    -- a key that was kept is still one of a covered declaration
    kept_has : (key : List ℕ) (place : ℕ) → IsKept keys places key place → HasKey declared pass (upto + 1) key place
    kept_has key place kept = let has = known.sound key place kept in
        record {
          declaration = has.declaration;
          at = has.at;
          is_key = has.is_key;
          covered = keeps pass upto place has.declaration has.covered;
          counts = has.counts;
        }

    -- declarations before the place and the one there are of different things
    first_once : ((other : Declaration) (j : ℕ) → slice_get declared j ≡ Some other → IsCovered pass upto j other → Counts declared other
        → AreSame other here → ⊥)
        → (i j : ℕ) (one other : Declaration) → slice_get declared i ≡ Some one → slice_get declared j ≡ Some other
        → IsCovered pass (upto + 1) i one → IsCovered pass (upto + 1) j other → Counts declared one → AreSame one other → i ≡ j
    first_once never i j one other at_one at_other first second counts same =
        elim (before pass upto i one first) [
          | inl was ↦ elim (before pass upto j other second) [
            | inl old ↦ known.once i j one other at_one at_other was old counts same
            | inr last ↦ absurd (never one i at_one was counts (subst (AreSame one) (at_here j other last at_other) same))
          ]
          | inr last ↦ elim (before pass upto j other second) [
            | inl old ↦ absurd (never other j at_other old (same_counts declared same counts)
                (subst (AreSame other) (at_here i one last at_one) (same_back same)))
            | inr too ↦ last ∙ sym too
          ]
        ]

    -- the declaration at the place doesn't count
    pub uncounted : ¬ Counts declared here → IsIndexed declared keys places pass (upto + 1)
    uncounted none = record {
      len = known.len;
      sound = kept_has;
      complete = λ at one there covered counts. elim (before pass upto at one covered) [
        | inl was ↦ known.complete at one there was counts
        | inr same ↦ absurd (none (subst (Counts declared) (at_here at one same there) counts))
      ];
      once = first_once (λ other j there was counts same. none (same_counts declared same counts));
    }

    -- its key is new
    pub new_there : (added : List (List ℕ)) (longer : List ℕ) → ¬ Contains keys (key_of here) → Counts declared here
        → added ≡ keys ++ key_of here ∷ [] → longer ≡ places ++ upto ∷ [] → IsIndexed declared added longer pass (upto + 1)
    new_there added longer absent counts e f =
        subst (λ (z : List (List ℕ)). IsIndexed declared z longer pass (upto + 1)) (sym e)
        (subst (λ (z : List ℕ). IsIndexed declared (keys ++ key_of here ∷ []) z pass (upto + 1)) (sym f) made) where
          last_has : (key : List ℕ) (place number : ℕ) → number ≡ length keys → key_of here ≡ key
              → slice_get (places ++ upto ∷ []) number ≡ Some place → HasKey declared pass (upto + 1) key place
          last_has key place number last same there =
              let e : upto ≡ place = elim (at_push places upto place number there) [
                | inl old ↦ absurd (let w = slice_get_within places number place old in omega (arith, w, last, known.len))
                | inr (at, is) ↦ is
              ] in
              record {
                declaration = here;
                at = subst (λ (z : ℕ). slice_get declared z ≡ Some here) e is_here;
                is_key = sym same;
                covered = subst (λ (z : ℕ). IsCovered pass (upto + 1) z here) e (now pass upto here within);
                counts = counts;
              }

          old_has : (key : List ℕ) (place number : ℕ) → slice_get keys number ≡ Some key
              → slice_get (places ++ upto ∷ []) number ≡ Some place → HasKey declared pass (upto + 1) key place
          old_has key place number at there = elim (at_push places upto place number there) [
            | inl old ↦ kept_has key place (record { number = number; at_key = at; at_place = old })
            | inr (last, is) ↦ absurd (let w = slice_get_within keys number key at in omega (arith, w, last, known.len))
          ]

          made : IsIndexed declared (keys ++ key_of here ∷ []) (places ++ upto ∷ []) pass (upto + 1)
          made = record {
            len = omega (arith, known.len, length-append places (upto ∷ []), length-append keys (key_of here ∷ []));
            sound = λ key place kept. elim (at_push keys (key_of here) key kept.number kept.at_key) [
              | inl old ↦ old_has key place kept.number old kept.at_place
              | inr (last, same) ↦ last_has key place kept.number last same kept.at_place
            ];
            complete = λ at one there covered counts. elim (before pass upto at one covered) [
              | inl was ↦ push_contains keys (key_of here) (key_of one) (known.complete at one there was counts)
              | inr same ↦ subst (λ (z : Declaration). Contains (keys ++ key_of here ∷ []) (key_of z)) (sym (at_here at one same there))
                  (push_contains_last keys (key_of here))
            ];
            once = first_once (λ other j there was counts same. absent (subst (Contains keys) (key_same same)
                (known.complete j other there was counts)));
          }
