-- What follows from an entry, in parts: what is listed, and what isn't.
use Rattle.std.proofs.Common.{◌≡◌, ℕ, ◌<◌, ◌≤◌, ◌+◌, Bool, List, [], ◌∷◌, length, true, false, Some, Contains, refl}
use Rattle.std.proofs.Common.{sym, ap, ◌∙◌}
use Rattle.std.proofs.Common.{subst, inl, inr, arith}
use Rattle.std.specs.Prelude.{◌↔◌, MatchBool, slice_get}
use Rattle.std.proofs.lemmas.Bool.{cases_lt}
use Rattle.std.proofs.lemmas.Option.{slice_get_within}
use Rattle.wb_lemmas.proofs.Members.{contains_push, nothing_in, place_of}
use Rattle.wb_lemmas.proofs.Places.{at_once}
use Rattle.wb_base.specs.declared.symbol.Symbol.{Symbol}
use Rattle.wb_base.specs.declared.symbol.Symbol.TheVariants.{Terminal, Nonterminal}
use Rattle.wb_base.specs.Grammar.{GrammarView}
use Rattle.wb_termset.specs.Sets.{IsMember, HasNoneFrom, IsNextMember}
use Rattle.wb_grammar_theory.specs.declared.item.Item.{Item}
use Rattle.wb_grammar_theory.specs.Derives.{Derives, IsFirst}
use Rattle.wb_grammar_theory.specs.Items.{after_dot, advance, initial_item}
use Rattle.wb_items.specs.Table.{AreProductionsOf}
use Rattle.wb_recheck_theory.specs.declared.line.Line.{Line}
use Rattle.wb_recheck_theory.specs.Entries.{opens, moves_on}
use Rattle.wb_recheck_theory.specs.Lines.{IsMoveOf}
use Rattle.wb_recheck_entries.specs.declared.known.Known.{Known}
use Rattle.wb_recheck_entries.specs.Keys.{Key, key_at}
use Rattle.wb_recheck_entries.specs.Inner.Inserted.{IsInserted}
use Rattle.wb_recheck_entries.specs.Inner.Steps.{AreFirstsListed, AreFollowersIn, AreInitialsListed, AreMembersListed, AreNumbersListed}
use Rattle.wb_recheck_entries.specs.Inner.Steps.{AreOpenedListed, AreOpenersListed, IsFirstUnlisted, IsFollowerOut, IsInitialUnlisted}
use Rattle.wb_recheck_entries.specs.Inner.Steps.{IsMemberUnlisted, IsMovedListed, IsMovedUnlisted, IsNumberUnlisted, IsOpenedUnlisted}
use Rattle.wb_recheck_entries.specs.Inner.Steps.{IsOpenerUnlisted}
use Rattle.wb_recheck_entries.specs.Inner.Walks.{IsKnown}
use Rattle.wb_recheck_entries.proofs.FollowLemmas.{heads, tails}
use Rattle.wb_recheck_entries.proofs.BeginLemmas.{first_then, nothing_first, terminal_first}
use Rattle.wb_grammar_theory.proofs.DerivesLemmas.{First-cons, First-of_head, First-of_tail}

module _ {g : GrammarView} (keys : List Key) (k b : ℕ) where
  -- a nonterminal's productions, as numbers
  pub numbers_all : (numbers : List ℕ) (u : ℕ) → AreProductionsOf g b numbers → AreNumbersListed keys k numbers u →
      AreOpenedListed g keys k b u
  numbers_all numbers u are all q (right, rule) = all q (are.complete q right rule)

  pub numbers_out : (numbers : List ℕ) (u : ℕ) → AreProductionsOf g b numbers → IsNumberUnlisted keys k numbers u →
      IsOpenedUnlisted g keys k b u
  numbers_out numbers u are out = record {
    production = out.production;
    of_nonterminal = are.sound out.production out.within;
    unlisted = out.unlisted;
  }

  -- the first of the symbols is a terminal
  pub terminal_all : (v : ℕ) (w : List Symbol) → AreOpenedListed g keys k b v → AreFirstsListed g keys k b (Terminal v ∷ w)
  terminal_all v w all u f = subst (AreOpenedListed g keys k b) ((terminal_first v w u).0 f) all

  pub terminal_out : (v : ℕ) (w : List Symbol) → IsOpenedUnlisted g keys k b v → IsFirstUnlisted g keys k b (Terminal v ∷ w)
  terminal_out v w out = record { terminal = v; begins = (terminal_first v w v).1 refl; unlisted = out }

  -- or a nonterminal, of which what begins it is known
  module _ (c : ℕ) (w : List Symbol) (set : List Bool) (is : (t : ℕ) → IsMember set t ↔ IsFirst g (Nonterminal c ∷ []) t) where
    pub members_out : IsMemberUnlisted g keys k b set → IsFirstUnlisted g keys k b (Nonterminal c ∷ w)
    members_out out = record {
      terminal = out.terminal;
      begins = First-of_head (Nonterminal c) w out.terminal ((is out.terminal).0 out.member);
      unlisted = out.unlisted;
    }

    pub members_stop : AreMembersListed g keys k b set → (Derives g (Nonterminal c ∷ []) [] → ⊥) →
        AreFirstsListed g keys k b (Nonterminal c ∷ w)
    members_stop all not u f = elim (First-cons (Nonterminal c) w u f) [
      | inl here ↦ all u ((is u).1 here)
      | inr (r, later) ↦ absurd (not r)
    ]

    pub members_on : AreMembersListed g keys k b set → AreFirstsListed g keys k b w → AreFirstsListed g keys k b (Nonterminal c ∷ w)
    members_on all more u f = elim (First-cons (Nonterminal c) w u f) [
      | inl here ↦ all u ((is u).1 here)
      | inr (r, later) ↦ more u later
    ]

  -- what is later unlisted is so
  pub later_out : (c : ℕ) (w : List Symbol) → Derives g (Nonterminal c ∷ []) [] → IsFirstUnlisted g keys k b w →
      IsFirstUnlisted g keys k b (Nonterminal c ∷ w)
  later_out c w nullable out = record {
    terminal = out.terminal;
    begins = First-of_tail (Nonterminal c) w out.terminal nullable out.begins;
    unlisted = out.unlisted;
  }

  -- nothing begins no symbols
  pub none_all : AreFirstsListed g keys k b []
  none_all u f = absurd (nothing_first u f)

  module _ (rest : List Symbol) (t : ℕ) where
    -- what begins symbols with a terminal after them
    pub initials_all : (Derives g rest [] → AreOpenedListed g keys k b t) → AreFirstsListed g keys k b rest →
        AreInitialsListed g keys k b rest t
    initials_all itself firsts u f = elim ((first_then rest t u).0 f) [
      | inl here ↦ firsts u here
      | inr (empty, same) ↦ subst (AreOpenedListed g keys k b) same (itself empty)
    ]

    pub itself_out : Derives g rest [] → IsOpenedUnlisted g keys k b t → IsInitialUnlisted g keys k b rest t
    itself_out empty out = record { terminal = t; begins = (first_then rest t t).1 (inr (empty, refl)); unlisted = out }

    pub first_out : IsFirstUnlisted g keys k b rest → IsInitialUnlisted g keys k b rest t
    first_out out = record {
      terminal = out.terminal;
      begins = (first_then rest t out.terminal).1 (inl out.begins);
      unlisted = out.unlisted;
    }

module _ (g : GrammarView) (keys : List Key) (k : ℕ) (item : Item) (t : ℕ) where
  -- what a terminal opens
  pub terminal_opens : (v : ℕ) → ((rest : List Symbol) × (after_dot g item ≡ Terminal v ∷ rest)) → AreOpenersListed g keys k item t
  terminal_opens v (rest, is) b more here = (let e : Terminal v ≡ Nonterminal b = heads (Terminal v) (Nonterminal b) rest more (sym is ∙
      here) in cc)

  -- and a nonterminal
  pub opens_all : (b : ℕ) (rest : List Symbol) → after_dot g item ≡ Nonterminal b ∷ rest → AreInitialsListed g keys k b rest t →
      AreOpenersListed g keys k item t
  opens_all b rest is all c more here =
      let same_b : b ≡ c = number (heads (Nonterminal b) (Nonterminal c) rest more (sym is ∙ here)) in
      subst (λ z. AreInitialsListed g keys k z more t) same_b
      (subst (λ z. AreInitialsListed g keys k b z t) (tails (Nonterminal b) (Nonterminal c) rest more (sym is ∙ here)) all)
    where
      number : Nonterminal b ≡ Nonterminal c → b ≡ c
      number e = cc

  pub opens_out : (b : ℕ) (rest : List Symbol) → after_dot g item ≡ Nonterminal b ∷ rest → IsInitialUnlisted g keys k b rest t →
      IsOpenerUnlisted g keys k item t
  opens_out b rest is out = record { nonterminal = b; rest = rest; is = is; unlisted = out }

  module _ (lines : List Line) where
    -- from an item with nothing after its dot nothing follows
    pub followers_none : after_dot g item ≡ [] → AreFollowersIn g lines keys k item t
    followers_none none k' item' t' (opens b rest q right is rule first same is_item) =
        (let e : [] ≡ Nonterminal b ∷ rest = sym none ∙ is in cc)
    followers_none none k' item' t' (moves_on x rest is lt is_move is_item same) = (let e : [] ≡ x ∷ rest = sym none ∙ is in cc)

    -- all that follows, by the move and by what is opened
    pub followers_all : (x : Symbol) → ((rest : List Symbol) × (after_dot g item ≡ x ∷ rest)) →
        IsMovedListed g lines keys k item t x → AreOpenersListed g keys k item t → AreFollowersIn g lines keys k item t
    followers_all x (more, here) moved opened k' item' t' (opens b rest q right is rule first same is_item) =
        subst (λ z. Contains keys (key_at z item' t')) (sym same)
        (subst (λ z. Contains keys (key_at k z t')) (sym is_item) (opened b rest is t' first q (right, rule)))
    followers_all x (more, here) moved opened k' item' t' (moves_on y rest is lt is_move is_item same) =
        let one : y ≡ x = heads y x rest more (sym is ∙ here) in
        subst (λ z. Contains keys (key_at k' item' z)) (sym same)
        (subst (λ z. Contains keys (key_at k' z t)) (sym is_item)
        (moved k' lt (subst (λ z. IsMoveOf g lines k z k') one is_move)))

    -- the move is missing
    pub moved_out : (x : Symbol) → ((rest : List Symbol) × (after_dot g item ≡ x ∷ rest)) → IsMovedUnlisted g lines keys k item t x →
        IsFollowerOut g lines keys k item t
    moved_out x (rest, here) out = record {
      kernel = out.kernel;
      follower = advance item;
      terminal = t;
      follows = moves_on x rest here out.within out.moves refl refl;
      unlisted = out.unlisted;
    }

    -- or something that is opened
    pub opened_out : IsOpenerUnlisted g keys k item t → IsFollowerOut g lines keys k item t
    opened_out out =
        let first = out.unlisted in
        let one = first.unlisted in
        record {
          kernel = k;
          follower = initial_item one.production;
          terminal = first.terminal;
          follows = opens out.nonterminal out.rest one.production one.of_nonterminal.0 out.is one.of_nonterminal.1 first.begins refl refl;
          unlisted = one.unlisted;
        }

-- what is known, when a key was added
module _ (g : GrammarView) (keys : List Key) (known : Known) (are : IsKnown g keys known) where
  pub known_opened : (k b u : ℕ) (new : List Key) (r : Bool) → AreOpenedListed g keys k b u →
      IsInserted known.opened ((k, b), (u, 0)) new r →
      (k' b' u' z : ℕ) → Contains new ((k', b'), (u', z)) → AreOpenedListed g keys k' b' u'
  known_opened k b u new true all (fresh, is) k' b' u' z has =
      elim (contains_push known.opened ((k, b), (u, 0)) ((k', b'), (u', z)) (subst (λ y. Contains y ((k', b'), (u', z))) is has)) [
        | inl old ↦ are.opened k' b' u' z old
        | inr same ↦ subst (λ (y : Key). AreOpenedListed g keys y.0.0 y.0.1 y.1.0) same all
      ]
  known_opened k b u new false all (had, is) k' b' u' z has =
      are.opened k' b' u' z (subst (λ y. Contains y ((k', b'), (u', z))) is has)

  pub known_rests : (k : ℕ) (item : Item) (b : ℕ) (rest : List Symbol) (new : List Key) (r : Bool) →
      after_dot g item ≡ Nonterminal b ∷ rest → AreFirstsListed g keys k b rest →
      IsInserted known.rests ((k, item.production), (item.dot, 0)) new r →
      (k' p d z b' : ℕ) (rest' : List Symbol) → Contains new ((k', p), (d, z)) →
      after_dot g (record { production = p; dot = d }) ≡ Nonterminal b' ∷ rest' → AreFirstsListed g keys k' b' rest'
  known_rests k item b rest new true here all (fresh, is) k' p d z b' rest' has is' =
      elim (contains_push known.rests ((k, item.production), (item.dot, 0)) ((k', p), (d, z))
      (subst (λ y. Contains y ((k', p), (d, z))) is has)) [
        | inl old ↦ are.rests k' p d z b' rest' old is'
        | inr same ↦ (
            let e : Nonterminal b ∷ rest ≡ Nonterminal b' ∷ rest' =
            sym here ∙ (ap (λ (y : Key). after_dot g (item_of y.0.1 y.1.0)) same ∙ is') in
            subst (λ (y : Key). AreFirstsListed g keys y.0.0 b' rest') same
            (subst (λ y. AreFirstsListed g keys k b' y) (tails (Nonterminal b) (Nonterminal b') rest rest' e)
            (subst (λ y. AreFirstsListed g keys k y rest) (number b b' (heads (Nonterminal b) (Nonterminal b') rest rest' e)) all))
            )
      ]
    where
      item_of : ℕ → ℕ → Item
      item_of p d = record { production = p; dot = d }

      number : (a c : ℕ) → Nonterminal a ≡ Nonterminal c → a ≡ c
      number a c e = cc
  known_rests k item b rest new false here all (had, is) k' p d z b' rest' has is' =
      are.rests k' p d z b' rest' (subst (λ y. Contains y ((k', p), (d, z))) is has) is'

-- nothing is known at first
pub known_nothing : (g : GrammarView) (keys : List Key) (known : Known) → known.opened ≡ [] → known.rests ≡ [] → IsKnown g keys known
known_nothing g keys known no_opened no_rests = record {
  opened = λ k b u z has. absurd (nothing_in ((k, b), (u, z)) (subst (λ (y : List Key). Contains y ((k, b), (u, z))) no_opened has));
  rests = λ k p d z b rest has. absurd (nothing_in ((k, p), (d, z)) (subst (λ (y : List Key). Contains y ((k, p), (d, z))) no_rests has));
}

-- the numbers before a place
pub numbers_more : (keys : List Key) (k : ℕ) (numbers : List ℕ) (u place q : ℕ) →
    ((n p : ℕ) → n < place → slice_get numbers n ≡ Some p → Contains keys (key_at k (initial_item p) u)) →
    slice_get numbers place ≡ Some q → Contains keys (key_at k (initial_item q) u) → (n p : ℕ) → n < place + 1 →
    slice_get numbers n ≡ Some p → Contains keys (key_at k (initial_item p) u)
numbers_more keys k numbers u place q before at has n p lt there = elim (cases_lt n place) [
  | inl less ↦ before n p less there
  | inr past ↦ (
      let same : place ≡ n = omega (arith, lt, past) in
      let one : q ≡ p = at_once numbers n q p (ap (slice_get numbers) (sym same) ∙ at) there in
      subst (λ z. Contains keys (key_at k (initial_item z) u)) one has
      )
]

pub numbers_done : (keys : List Key) (k : ℕ) (numbers : List ℕ) (u place : ℕ) →
    ((n p : ℕ) → n < place → slice_get numbers n ≡ Some p → Contains keys (key_at k (initial_item p) u)) → length numbers ≤ place →
    AreNumbersListed keys k numbers u
numbers_done keys k numbers u place all past q has =
    let (n, at) = place_of numbers q has in
    all n q (let within = slice_get_within numbers n q at in omega (arith, within, past)) at

-- the members below a number
pub members_more : (g : GrammarView) (keys : List Key) (k b : ℕ) (set : List Bool) (from next : ℕ) →
    ((u : ℕ) → u < from → IsMember set u → AreOpenedListed g keys k b u) → IsNextMember set from next → AreOpenedListed g keys k b next →
    (u : ℕ) → u < next + 1 → IsMember set u → AreOpenedListed g keys k b u
members_more g keys k b set from next before is all u lt member = elim (cases_lt u from) [
  | inl less ↦ before u less member
  | inr past ↦ elim (cases_lt u next) [
    | inl between ↦ absurd (is.least u (omega (arith, past)) between member)
    | inr not ↦ (let same : next ≡ u = omega (arith, lt, not) in subst (AreOpenedListed g keys k b) same all)
  ]
]

pub members_done : (g : GrammarView) (keys : List Key) (k b : ℕ) (set : List Bool) (from : ℕ) →
    ((u : ℕ) → u < from → IsMember set u → AreOpenedListed g keys k b u) → HasNoneFrom set from → AreMembersListed g keys k b set
members_done g keys k b set from before none u member = elim (cases_lt u from) [
  | inl less ↦ before u less member
  | inr past ↦ absurd (none u (omega (arith, past)) member)
]

-- an answer in other words
pub match_weaker : {A B C D : Type 0} (r : Bool) → (A → C) → (B → D) → MatchBool r A B → MatchBool r C D
match_weaker true f g h = f h
match_weaker false f g h = g h

-- what is behind a nonterminal after the dot
pub behind : (g : GrammarView) (item : Item) (x : Symbol) (b : ℕ) → x ≡ Nonterminal b →
    ((rest : List Symbol) × (after_dot g item ≡ x ∷ rest)) →
    (found : List Symbol) → ((y : Symbol) (rest : List Symbol) → after_dot g item ≡ y ∷ rest → found ≡ rest) →
    after_dot g item ≡ Nonterminal b ∷ found
behind g item x b is (rest, here) found only =
    here ∙ (ap (λ z. z ∷ rest) is ∙ ap (λ z. Nonterminal b ∷ z) (sym (only x rest here)))

pub terminal_opens_at : (g : GrammarView) (keys : List Key) (k : ℕ) (item : Item) (t : ℕ) (x : Symbol) (v : ℕ) → x ≡ Terminal v →
    ((rest : List Symbol) × (after_dot g item ≡ x ∷ rest)) → AreOpenersListed g keys k item t
terminal_opens_at g keys k item t x v is (rest, here) =
    terminal_opens g keys k item t v (rest, here ∙ ap (λ z. z ∷ rest) is)

pub match_true : (A B : Type 0) (r : Bool) → r ≡ true → MatchBool r A B → A
match_true A B r is h = subst (λ z. MatchBool z A B) is h

pub match_false : (A B : Type 0) (r : Bool) → r ≡ false → MatchBool r A B → B
match_false A B r is h = subst (λ z. MatchBool z A B) is h
