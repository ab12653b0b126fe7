-- Where all tests pass the name rules hold.
use Rattle.std.proofs.Common.{◌≡◌, ◌≢◌, ◌⊎◌, ◌++◌, [], ℕ, List, All, Contains, length, take, drop, refl, sym, ap, ◌∙◌}
use Rattle.std.proofs.Common.{subst, inl, inr}
use Rattle.std.proofs.Math.Seq.{drop-append_seam, take-append_seam}
use Rattle.wb_lemmas.proofs.Elements.{all_contained}
use Rattle.wb_lemmas.proofs.Members.{contains_at, append_contains_left, append_contains_right, contains_append}
use Rattle.wb_syntax_resolved.specs.declared.resolved.ResolvedParts.{ResolvedParts}
use Rattle.wb_syntax_resolved.specs.Resolved.{IsResolved}
use Rattle.wb_names_theory.specs.declared.declaration.Declaration.{Declaration}
use Rattle.wb_names_theory.specs.declared.declaration.Declaration.TheVariants as d
use Rattle.wb_names_theory.specs.declared.declaration.Site.{Site}
use Rattle.wb_names_theory.specs.declared.declaration.Site.TheVariants as site
use Rattle.wb_names_theory.specs.declared.declaration.Sort.TheVariants as sort
use Rattle.wb_names_theory.specs.declared.usage.LabelWanted.{LabelWanted}
use Rattle.wb_names_theory.specs.declared.usage.LabelWanted.TheVariants as wanted
use Rattle.wb_names_theory.specs.declared.usage.Usage.{Usage}
use Rattle.wb_names_theory.specs.declared.usage.Usage.TheVariants as u
use Rattle.wb_names_theory.specs.declared.usage.Wanted.{Wanted}
use Rattle.wb_names_theory.specs.declared.usage.Wanted.TheVariants as w
use Rattle.wb_names_theory.specs.Declarations.{Items}
use Rattle.wb_names_theory.specs.Declares.{base_declarations, item_declarations, declarations}
use Rattle.wb_names_theory.specs.Duplicate.{Counts}
use Rattle.wb_names_theory.specs.Hold.{AreOnce, IsMeant, LabelFor, AttributeAt, AreMeant, AreOwned, NamesHold}
use Rattle.wb_names_theory.specs.Meaning.{IsSymbol, HasSite, HasLeft}
use Rattle.wb_names_theory.specs.NamesOk.{bounds_of, scope_of, NamesOk}
use Rattle.wb_names_theory.specs.Orphan.{Bounds, FailsOrphan}
use Rattle.wb_names_theory.specs.Orphan as o
use Rattle.wb_names_theory.specs.Uses.{uses}
use Rattle.wb_names_theory.specs.WrongKind.{misplaced}
use Rattle.wb_names_rules.specs.Index.{CountOnce}
use Rattle.wb_names_rules.specs.Inner.Closed.{IsOver}
use Rattle.wb_names_rules.specs.Inner.Owners.{MayDeclare}
use Rattle.wb_names_rules.specs.Inner.Passing.{UsesPass, OwnerPasses}
use Rattle.wb_names_rules.specs.Inner.Tests.{IsKnown, IsOfKind}
use Rattle.wb_names_rules.proofs.KindLemmas.{all_of_kind}
use Rattle.wb_names_rules.proofs.RootLemmas.{IsRooted, IsGrounded, IsKnownProduction, items_rooted, items_grounded, base_rooted}
use Rattle.wb_names_rules.proofs.TwiceLemmas.{nothing_twice}
use Rattle.wb_names_rules.proofs.UnknownLemmas.{all_known}

-- where an extension may declare all that it does, each of its declarations is as the rule asks
pub all_owned : (declared own host : List Declaration) (from : ℕ) (bounds : Bounds) → host ≡ take from declared
    → own ≡ drop from declared → declared ≡ host ++ own → All (MayDeclare declared from bounds) own → AreOwned host own bounds
all_owned declared own host from bounds is_host is_own whole all = record {
  start = λ name has. all_contained (MayDeclare declared from bounds) own (d.Start name) all has;
  extensible = λ name has. all_contained (MayDeclare declared from bounds) own (d.Extensible name) all has;
  closed = λ name has. all_contained (MayDeclare declared from bounds) own (d.Closed name) all has;
  layout = λ first name has. all_contained (MayDeclare declared from bounds) own (d.Symbol name sort.Layout) all has first refl;
  forward_needs = λ name has.
      subst (λ (z : List Declaration). o.IsOwnSymbol z name) (sym is_own)
      (all_contained (MayDeclare declared from bounds) own (d.ForwardNeeds name) all has);
  occurrences = λ a n has.
      subst (λ (z : List Declaration). o.IsOwnAttribute z a ⊎ o.IsOwnSymbol z n) (sym is_own)
      (all_contained (MayDeclare declared from bounds) own (d.Occurrence a n) all has).is_own;
  on_closed = λ a n has. (all_contained (MayDeclare declared from bounds) own (d.Occurrence a n) all has).is_open;
  preferences = λ first second has.
      subst (λ (z : List Declaration). o.IsOwnSymbol z first ⊎ o.IsOwnSymbol z second) (sym is_own)
      (all_contained (MayDeclare declared from bounds) own (d.Preference first second) all has);
  equations = λ p a n at has of_host there.
      subst (λ (z : List Declaration). o.IsOwnOccurrence z a n ⊎ o.IsOwnLocal z p at) (sym is_own)
      (all_contained (MayDeclare declared from bounds) own (d.Equation p a at) all has
      (subst (λ (z : List Declaration). o.IsOfHost z p) is_host of_host) n
      (subst (λ (z : List Declaration). HasSite z p at n) (sym whole) there));
}

-- so no name shows the contrary
pub none_orphan : (host own : List Declaration) (bounds : Bounds) → AreOwned host own bounds → (name : List ℕ)
    → ¬ FailsOrphan host own bounds name
none_orphan host own bounds owned name (o.start has) = owned.start name has
none_orphan host own bounds owned name (o.extensible has) = owned.extensible name has
none_orphan host own bounds owned name (o.closed has) = owned.closed name has
none_orphan host own bounds owned name (o.layout first has) = owned.layout first name has
none_orphan host own bounds owned name (o.forward_needs has not) = not (owned.forward_needs name has)
none_orphan host own bounds owned name (o.occurrence {nonterminal = n} has not nor) =
    elim (owned.occurrences name n has) [ inl a ↦ not a | inr b ↦ nor b ]
none_orphan host own bounds owned name (o.on_closed {nonterminal = n} has shut) = owned.on_closed name n has shut
none_orphan host own bounds owned name (o.preference {second = second} has not nor) =
    elim (owned.preferences name second has) [ inl a ↦ not a | inr b ↦ nor b ]
none_orphan host own bounds owned name (o.equation {production = p} {nonterminal = n} {at = at} has of_host there not nor) =
    elim (owned.equations p name n at has of_host there) [ inl a ↦ not a | inr b ↦ nor b ]

module _ (declared : List Declaration) (used : List Usage) (known : All (IsKnown declared) used) (kinds : All (IsOfKind declared) used) where
  -- a name in its place
  named : (name : List ℕ) (is : Wanted) → Contains used (u.Name name is) → IsMeant declared is name
  named name w.Lexical has = let k = all_contained (IsKnown declared) used (u.Name name w.Lexical) known has in
      record { is = k.0; there = k.1; suits = (all_contained (IsOfKind declared) used (u.Name name w.Lexical) kinds has).0 k.0 k.1 }
  named name w.GrammarSymbol has = let k = all_contained (IsKnown declared) used (u.Name name w.GrammarSymbol) known has in
      record { is = k.0; there = k.1; suits = (all_contained (IsOfKind declared) used (u.Name name w.GrammarSymbol) kinds has).0 k.0 k.1 }
  named name w.Nonterminal has = let k = all_contained (IsKnown declared) used (u.Name name w.Nonterminal) known has in
      record { is = k.0; there = k.1; suits = (all_contained (IsOfKind declared) used (u.Name name w.Nonterminal) kinds has).0 k.0 k.1 }
  named name w.Production has = let k = all_contained (IsKnown declared) used (u.Name name w.Production) known has in
      record { is = k.0; there = k.1; suits = (all_contained (IsOfKind declared) used (u.Name name w.Production) kinds has).0 k.0 k.1 }
  named name w.Attribute has = let k = all_contained (IsKnown declared) used (u.Name name w.Attribute) known has in
      record { direction = k.0; there = k.1; suits = (all_contained (IsOfKind declared) used (u.Name name w.Attribute) kinds has).1 k.0 k.1 }
  named name w.Synthesized has = let k = all_contained (IsKnown declared) used (u.Name name w.Synthesized) known has in
      record { direction = k.0; there = k.1; suits = (all_contained (IsOfKind declared) used (u.Name name w.Synthesized) kinds has).1 k.0 k.1 }
  named name w.Inherited has = let k = all_contained (IsKnown declared) used (u.Name name w.Inherited) known has in
      record { direction = k.0; there = k.1; suits = (all_contained (IsOfKind declared) used (u.Name name w.Inherited) kinds has).1 k.0 k.1 }

  -- a nonterminal
  nonterminal_named : (m : List ℕ) → Contains used (u.Name m w.Nonterminal) → IsSymbol declared m sort.Nonterminal
  nonterminal_named m has = let k = named m w.Nonterminal has in subst (IsSymbol declared m) k.suits k.there

  -- a production that is known is declared
  production_named : (p : List ℕ) → IsKnownProduction declared used p → IsSymbol declared p sort.Production
  production_named p (inl here) = here
  production_named p (inr has) = let k = named p w.Production has in subst (IsSymbol declared p) k.suits k.there

  module _ (rooted : (one : Declaration) → Contains declared one → IsRooted declared used one)
      (grounded : (usage : Usage) → Contains used usage → IsGrounded declared used usage) where
    -- each declaration counts
    each_counts : (one : Declaration) → Contains declared one → Counts declared one
    each_counts (d.Symbol a b) has = tt
    each_counts (d.Attribute a b) has = tt
    each_counts (d.Occurrence a b) has = tt
    each_counts (d.Left a b) has = tt
    each_counts (d.Label p l is) has = production_named p (rooted (d.Label p l is) has)
    each_counts (d.Equation a b c) has = tt
    each_counts (d.Forward a) has = tt
    each_counts (d.Start a) has = tt
    each_counts (d.Extensible a) has = tt
    each_counts (d.Closed a) has = tt
    each_counts (d.ForwardNeeds a) has = tt
    each_counts (d.Preference a b) has = tt

    -- so declarations of the same thing are one
    pub all_once : CountOnce declared → AreOnce declared
    all_once once i j one other at_one at_other same =
        once i j one other at_one at_other (each_counts one (contains_at declared one i at_one)) same

    -- the left side of a production is a nonterminal
    left_side : (p : List ℕ) → IsSymbol declared p sort.Production → (m : List ℕ) × HasLeft declared p m × IsSymbol declared m sort.Nonterminal
    left_side p here =
        let (m, left) = rooted (d.Symbol p sort.Production) here in
        (m, left, elim (rooted (d.Left p m) left) [ inl is ↦ is | inr has ↦ nonterminal_named m has ])

    -- a label in its place
    labelled : (p l : List ℕ) (is : LabelWanted) → Contains used (u.Label p l is) → LabelFor declared p l is
    labelled p l is has =
        let here = production_named p (grounded (u.Label p l is) has) in
        let (what, there) = all_contained (IsKnown declared) used (u.Label p l is) known has here in
        record { is = what; there = there; suits = all_contained (IsOfKind declared) used (u.Label p l is) kinds has here what there }

    -- an attribute in its place
    attribute_at : (p a : List ℕ) (at : Site) → Contains used (u.Attribute p a at) → AttributeAt declared p a at
    attribute_at p a site.Top has =
        let here = production_named p (grounded (u.Attribute p a site.Top) has).0 in
        let (m, left, is) = left_side p here in
        record {
          nonterminal = m;
          there = (left, is);
          occurs = (all_contained (IsKnown declared) used (u.Attribute p a site.Top) known has here).0 m (left, is);
        }
    attribute_at p a site.Forward has =
        let here = production_named p (grounded (u.Attribute p a site.Forward) has).0 in
        let (m, left, is) = left_side p here in
        record {
          nonterminal = m;
          there = (left, is);
          occurs = (all_contained (IsKnown declared) used (u.Attribute p a site.Forward) known has here).0 m (left, is);
        }
    attribute_at p a (site.Label l) has =
        let g = grounded (u.Attribute p a (site.Label l)) has in
        let here = production_named p g.0 in
        let k = labelled p l wanted.Tree g.1 in
        record {
          nonterminal = k.suits.0;
          there = (k.is, k.there, k.suits.1);
          occurs = (all_contained (IsKnown declared) used (u.Attribute p a (site.Label l)) known has here).0 k.suits.0 (k.is, k.there, k.suits.1);
        }

    -- each name means what its place asks for
    pub all_meant : AreMeant declared used
    all_meant = record {
      names = named;
      labels = labelled;
      attributes = attribute_at;
      forward = λ p a has. let here = production_named p (grounded (u.Attribute p a site.Forward) has).0 in
          (all_contained (IsKnown declared) used (u.Attribute p a site.Forward) known has here).1 refl;
      needs = λ a m has. all_contained (IsKnown declared) used (u.Needs a m) known has (nonterminal_named m (grounded (u.Needs a m) has));
    }

module _ (base : ResolvedParts) (items : Items) where
  -- what was declared before is the first part, and what the items declare the rest
  pub split_host : take (length (base_declarations base)) (declarations base items) ≡ base_declarations base
  split_host = take-append_seam (base_declarations base) (item_declarations items)

  pub split_own : drop (length (base_declarations base)) (declarations base items) ≡ item_declarations items
  split_own = drop-append_seam (base_declarations base) (item_declarations items)

  -- a list of all that is declared, in which what the items declare begins at this place
  pub record AreListed (declared : List Declaration) (from : ℕ) : Type 0 where
    pub all : declared ≡ declarations base items
    pub place : from ≡ length (base_declarations base)

  -- it is made of none, by adding what the base declares and then what the items declare
  pub listed : (none first all declared : List Declaration) (from : ℕ) → none ≡ [] → first ≡ none ++ base_declarations base
      → from ≡ length first → all ≡ first ++ item_declarations items → declared ≡ all → AreListed declared from
  listed none first all declared from is_none is_first is_from is_all is =
      let e : first ≡ base_declarations base = is_first ∙ ap (λ (l : List Declaration). l ++ base_declarations base) is_none in
      record {
        all = is ∙ is_all ∙ ap (λ (l : List Declaration). l ++ item_declarations items) e;
        place = is_from ∙ ap length e;
      }

  -- it begins with what the base declares
  pub begins_with : (declared : List Declaration) (from : ℕ) → AreListed declared from → IsOver base declared
  begins_with declared from l = ap (take (length (base_declarations base))) l.all ∙ split_host

  -- an extension says what it may, where its own declarations pass
  owned_of : (bounds : Bounds) (from : ℕ) → from ≡ length (base_declarations base)
      → All (MayDeclare (declarations base items) from bounds) (drop from (declarations base items))
      → AreOwned (base_declarations base) (item_declarations items) bounds
  owned_of bounds from e all =
      let host : base_declarations base ≡ take from (declarations base items) =
      sym split_host ∙ ap (λ (n : ℕ). take n (declarations base items)) (sym e) in
      let own : item_declarations items ≡ drop from (declarations base items) =
      sym split_own ∙ ap (λ (n : ℕ). drop n (declarations base items)) (sym e) in
      all_owned (declarations base items) (item_declarations items) (base_declarations base) from bounds host own refl
      (subst (All (MayDeclare (declarations base items) from bounds)) (sym own) all)

module _ (base : ResolvedParts) (owner format : ℕ) (items : Items) (declared : List Declaration) (from : ℕ)
    (l : AreListed base items declared from) (once : CountOnce declared) (used : UsesPass declared owner items)
    (owned : OwnerPasses declared from owner (bounds_of base format)) where
  -- the same of what the base and the items declare
  once_there : CountOnce (declarations base items)
  once_there = subst CountOnce l.all once

  used_there : UsesPass (declarations base items) owner items
  used_there = subst (λ (z : List Declaration). UsesPass z owner items) l.all used

  owned_there : owner ≢ 0 → AreOwned (base_declarations base) (item_declarations items) (bounds_of base format)
  owned_there extension =
      owned_of base items (bounds_of base format) from l.place
      (subst (λ (z : List Declaration). All (MayDeclare z from (bounds_of base format)) (drop from z)) l.all (owned extension))

  -- no rule fails where all tests pass
  pub rules_ok : NamesOk (scope_of base owner format items)
  rules_ok = record {
    once = nothing_twice (declarations base items) once_there;
    declared = all_known (declarations base items) (uses items) used_there.known;
    kinds = all_of_kind (declarations base items) (uses items) (misplaced owner items) used_there.kinds used_there.placed;
    owned = λ extension. none_orphan (base_declarations base) (item_declarations items) (bounds_of base format) (owned_there extension);
  }

  -- and each name means what its place asks for
  pub rules_hold : IsResolved base → NamesHold (scope_of base owner format items)
  rules_hold resolved =
      let ds = declarations base items in
      let us = uses items in
      let host = base_declarations base in
      let own = item_declarations items in
      let rooted = λ (one : Declaration) (has : Contains ds one). elim (contains_append host own one has) as (λ x. IsRooted ds us one) [
        | inl there ↦ base_rooted ds us base resolved (λ x h. append_contains_left host own x h) one there
        | inr there ↦ items_rooted ds us items (λ x h. append_contains_right host own x h) (λ x h. h) one there
      ] in
      let grounded = items_grounded ds us items (λ x h. append_contains_right host own x h) (λ x h. h) in
      record {
        once = all_once ds us used_there.known used_there.kinds rooted grounded once_there;
        meant = all_meant ds us used_there.known used_there.kinds rooted grounded;
        placed = used_there.placed;
        owned = owned_there;
      }
