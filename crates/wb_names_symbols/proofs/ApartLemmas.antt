-- Rows of nonterminals that are added to two lists are grouped rows, when the one list goes before the other.
use Rattle.std.proofs.Common.{◌≡◌, ◌<◌, ◌+◌, ◌++◌, ◌∷◌, ◌⊎◌, inl, inr, [], ℕ, suc, Bool, true, false, List, Contains, length, map, take}
use Rattle.std.proofs.Common.{get_or, ap, sym, refl}
use Rattle.std.proofs.Common.{subst, ◌∙◌, append_assoc}
use Rattle.std.specs.List.{AllZip}
use Rattle.std.proofs.lemmas.List.{take_more, append-nil}
use Rattle.wb_lemmas.proofs.Members.{contains_first, contains_later}
use Rattle.wb_lemmas.proofs.Zips.{zip_weaker}
use Rattle.wb_syntax_resolved.specs.declared.attributes.Nonterminal.{Nonterminal}
use Rattle.wb_names_numbers_theory.specs.Sources.{sources, IsFrom, Splits}
use Rattle.wb_names_numbers_theory.specs.Sources.Splits.{nothing, leads, follows}
use Rattle.wb_names_rows.specs.Plains.{AddsEach}
use Rattle.wb_names_rows.proofs.GroupLemmas.{zip_sources}
use Rattle.wb_names_rows.proofs.PlainLemmas.{each_nothing}
use Rattle.wb_names_rows.proofs.ZipLemmas.{zip_append}
use Rattle.wb_names_symbols.specs.declared.nonterminals.Nonterminals.{Nonterminals}
use Rattle.wb_names_symbols.specs.Inner.Nonterminals.{AddsApart, AddsRow}
use Rattle.wb_names_symbols.specs.Rows.{AreGroupedBy}

-- as many on both sides
pub zip_length : {A B : Type 0} (R : A → B → Type 0) (xs : List A) (ys : List B) → AllZip R xs ys → length xs ≡ length ys
zip_length R [] [] all = refl
zip_length R [] (y ∷ ys) all = absurd all
zip_length R (x ∷ xs) [] all = absurd all
zip_length R (x ∷ xs) (y ∷ ys) all = ap (λ n. suc n) (zip_length R xs ys all.1)

-- rows in two parts are grouped rows, of which as many lead as the first part has
pub grouped_parts : {X Y : Type 0} (P : X → Type 0) (R : X → Y → Type 0) (xs a b : List X) (ys zs : List Y) → Splits P xs a b
    → AllZip R a ys
    → AllZip R b zs → AreGroupedBy (length ys) P R xs (ys ++ zs)
grouped_parts P R xs a b ys zs s all more = (
  record { leading = a; following = b; splits = s; are_rows = zip_append R a b ys zs all more },
  zip_length R a ys all,
)

-- two lists, one after the other
splits_append : {X : Type 0} (P : X → Type 0) (xs us a b c d : List X) → Splits P xs a b → Splits P us c d
    → Splits P (xs ++ us) (a ++ c) (b ++ d)
splits_append P xs us a b c d nothing s = s
splits_append P xs us a b c d (leads {x = x} {xs = ys} {leading = l} p rest) s = leads p (splits_append P ys us l b c d rest s)
splits_append P xs us a b c d (follows {x = x} {xs = ys} {following = g} p rest) s = follows p (splits_append P ys us a g c d rest s)

-- images
splits_map : {A X : Type 0} (f : A → X) (P : X → Type 0) (xs a b : List A) → Splits (λ x. P (f x)) xs a b
    → Splits P (map f xs) (map f a) (map f b)
splits_map f P xs a b nothing = nothing
splits_map f P xs a b (leads {x = x} {xs = ys} {leading = l} p rest) = leads p (splits_map f P ys l b rest)
splits_map f P xs a b (follows {x = x} {xs = ys} {following = g} p rest) = follows p (splits_map f P ys a g rest)

-- the same is told otherwise
splits_change : {X : Type 0} (P Q : X → Type 0) (xs a b : List X) → ((x : X) → Contains xs x → P x → Q x)
    → ((x : X) → Contains xs x → Q x → P x) → Splits P xs a b → Splits Q xs a b
splits_change P Q xs a b to from nothing = nothing
splits_change P Q xs a b to from (leads {x = x} {xs = ys} {leading = l} p rest) =
    leads (to x (contains_first x ys) p)
    (splits_change P Q ys l b (λ z has. to z (contains_later x z ys has)) (λ z has. from z (contains_later x z ys has)) rest)
splits_change P Q xs a b to from (follows {x = x} {xs = ys} {following = g} p rest) =
    follows (λ q. p (from x (contains_first x ys) q))
    (splits_change P Q ys a g (λ z has. to z (contains_later x z ys has)) (λ z has. from z (contains_later x z ys has)) rest)

module _ {X : Type 0} (P : X → Type 0) (R : X → Nonterminal → Type 0) where
  -- nothing is added for nothing
  pub apart_nothing : (old : Nonterminals) → AddsApart P R [] old old
  apart_nothing old = record {
    leading = [];
    following = [];
    splits = nothing;
    of_grammar = each_nothing R old.of_grammar.items;
    others = each_nothing R old.others.items;
  }

  each_both : (xs us : List X) (old mid new : List Nonterminal) → AddsEach R xs old mid → AddsEach R us mid new
      → AddsEach R (xs ++ us) old new
  each_both xs us old mid new (own, is, all) (more, added, zipped) =
      (own ++ more, added ∙ (ap (λ z. z ++ more) is ∙ append_assoc old own more), zip_append R xs us own more all zipped)

  pub apart_append : (xs us : List X) (old mid new : Nonterminals) → AddsApart P R xs old mid → AddsApart P R us mid new
      → AddsApart P R (xs ++ us) old new
  apart_append xs us old mid new a b = record {
    leading = a.leading ++ b.leading;
    following = a.following ++ b.following;
    splits = splits_append P xs us a.leading a.following b.leading b.following a.splits b.splits;
    of_grammar = each_both a.leading b.leading old.of_grammar.items mid.of_grammar.items new.of_grammar.items a.of_grammar b.of_grammar;
    others = each_both a.following b.following old.others.items mid.others.items new.others.items a.others b.others;
  }

  -- one row
  pub apart_row : (first : Bool) (x : X) (row : Nonterminal) (old new : Nonterminals) → (first ≡ true → P x) → (P x → first ≡ true)
      → R x row
      → AddsRow first row old new → AddsApart P R (x ∷ []) old new
  apart_row true x row old new to from is adds = record {
    leading = x ∷ [];
    following = [];
    splits = leads (to refl) nothing;
    of_grammar = (row ∷ [], adds.0, (is, tt));
    others = ([], adds.1 ∙ sym (append-nil old.others.items), tt);
  }
  apart_row false x row old new to from is adds = record {
    leading = [];
    following = x ∷ [];
    splits = follows (λ p. let e = from p in absurd (cc e)) nothing;
    of_grammar = ([], adds.0 ∙ sym (append-nil old.of_grammar.items), tt);
    others = (row ∷ [], adds.1, (is, tt));
  }

  -- the next element of a slice
  pub apart_more : (xs : List X) (i : ℕ) (x : X) (old mid new : Nonterminals) → AddsApart P R (take i xs) old mid → i < length xs
      → x ≡ get_or xs i x → AddsApart P R (x ∷ []) mid new → AddsApart P R (take (i + 1) xs) old new
  apart_more xs i x old mid new so_far within is adds =
      subst (λ z. AddsApart P R z old new) (sym (take_more xs i x within ∙ ap (λ z. take i xs ++ z ∷ []) (sym is)))
      (apart_append (take i xs) (x ∷ []) old mid new so_far adds)

  pub apart_change : (Q : X → Type 0) (xs : List X) (old new : Nonterminals) → ((x : X) → Contains xs x → P x → Q x)
      → ((x : X) → Contains xs x → Q x → P x) → AddsApart P R xs old new → AddsApart Q R xs old new
  apart_change Q xs old new to from a = record {
    leading = a.leading;
    following = a.following;
    splits = splits_change P Q xs a.leading a.following to from a.splits;
    of_grammar = a.of_grammar;
    others = a.others;
  }

  -- the same rows are others as well
  pub apart_rows : (S : X → Nonterminal → Type 0) → ((x : X) (row : Nonterminal) → R x row → S x row)
      → (xs : List X) (old new : Nonterminals)
      → AddsApart P R xs old new → AddsApart P S xs old new
  apart_rows S weaker xs old new a = record {
    leading = a.leading;
    following = a.following;
    splits = a.splits;
    of_grammar = (a.of_grammar.0, a.of_grammar.1, zip_weaker R S weaker a.leading a.of_grammar.0 a.of_grammar.2);
    others = (a.others.0, a.others.1, zip_weaker R S weaker a.following a.others.0 a.others.2);
  }

-- rows of what was there and of what is declared are added to nothing
pub apart_grouped : {A B : Type 0} (P : A ⊎ B → Type 0) (M : A → Nonterminal → Type 0) (W : B → Nonterminal → Type 0) (xs : List A)
    (us : List B)
    (old mid new : Nonterminals) → old.of_grammar.items ≡ [] → old.others.items ≡ [] → AddsApart (λ x. P (inl x)) M xs old mid
    → AddsApart (λ x. P (inr x)) W us mid new
    → AreGroupedBy (length new.of_grammar.items) P (IsFrom M W) (sources xs us) (new.of_grammar.items ++ new.others.items)
apart_grouped {A} {B} P M W xs us old mid new none_first none_after a b =
    let left : A → A ⊎ B = inl in
    let right : B → A ⊎ B = inr in
    let first : a.of_grammar.0 ++ b.of_grammar.0 ≡ new.of_grammar.items =
    sym (b.of_grammar.1 ∙ ap (λ z. z ++ b.of_grammar.0) (a.of_grammar.1 ∙ ap (λ z. z ++ a.of_grammar.0) none_first)) in
    let second : a.others.0 ++ b.others.0 ≡ new.others.items =
    sym (b.others.1 ∙ ap (λ z. z ++ b.others.0) (a.others.1 ∙ ap (λ z. z ++ a.others.0) none_after)) in
    grouped_parts P (IsFrom M W) (sources xs us) (sources a.leading b.leading) (sources a.following b.following) new.of_grammar.items
    new.others.items
    (splits_append P (map left xs) (map right us) (map left a.leading) (map left a.following) (map right b.leading) (map right b.following)
    (splits_map left P xs a.leading a.following a.splits) (splits_map right P us b.leading b.following b.splits))
    (subst (AllZip (IsFrom M W) (sources a.leading b.leading)) first
    (zip_sources M W a.leading b.leading a.of_grammar.0 b.of_grammar.0 a.of_grammar.2 b.of_grammar.2))
    (subst (AllZip (IsFrom M W) (sources a.following b.following)) second
    (zip_sources M W a.following b.following a.others.0 b.others.0 a.others.2 b.others.2))
