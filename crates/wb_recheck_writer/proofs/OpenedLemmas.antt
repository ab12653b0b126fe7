-- What follows from an entry: initial items, by production and then by terminal, and then the item that moved on.
use Rattle.std.proofs.Common.{◌≡◌, ℕ, ◌<◌, ◌≤◌, ◌+◌, ◌^◌, List, [], ◌∷◌, ◌++◌, length, Some, refl, sym, ◌∙◌}
use Rattle.std.proofs.Common.{ap, subst, inl, inr, arith}
use Rattle.std.specs.Prelude.{◌⊎◌, slice_get, All}
use Rattle.std.proofs.lemmas.Bool.{cases_lt}
use Rattle.std.proofs.lemmas.List.Elements.{All-head}
use Rattle.std.proofs.lemmas.Option.{slice_get_within}
use Rattle.wb_lemmas.proofs.Members.{contains_at, place_of}
use Rattle.wb_lemmas.proofs.Places.{at_once}
use Rattle.wb_base.specs.declared.symbol.Symbol.{Symbol}
use Rattle.wb_base.specs.declared.symbol.Symbol.TheVariants.{Terminal, Nonterminal}
use Rattle.wb_base.specs.Grammar.{GrammarView, IsGrammar, IsSymbolBelow}
use Rattle.wb_termset.specs.Sets.{IsMember, IsNextMember, HasNoneFrom}
use Rattle.wb_grammar_theory.specs.declared.item.Item.{Item}
use Rattle.wb_grammar_theory.specs.Derives.{IsFirst}
use Rattle.wb_grammar_theory.specs.Items.{advance, initial_item}
use Rattle.wb_grammar_theory.specs.Productions.{IsProduction}
use Rattle.wb_grammar_theory.proofs.LiveLemmas.{after_below}
use Rattle.wb_items.specs.Table.{AreProductionsOf}
use Rattle.wb_recheck_theory.specs.declared.line.Line.{Line}
use Rattle.wb_recheck_theory.specs.declared.entry.Entry.{Entry}
use Rattle.wb_recheck_theory.specs.Lines.{kernel_count, AreGoodLines, IsMoveOf}
use Rattle.wb_recheck_theory.specs.Entries.{IsFollowed, IsListed, opens, moves_on}
use Rattle.wb_recheck_theory.proofs.LinesLemmas.{move_once}
use Rattle.wb_recheck_writer.specs.Order.{FollowerPrecedes, by_production, by_terminal, by_move}
use Rattle.wb_recheck_writer.specs.declared.opened.Opening.{Opening}
use Rattle.wb_recheck_writer.specs.declared.source.Source.{Source}
use Rattle.wb_recheck_writer.specs.Inner.Reached.{Adds, AreInitialIn, AreOpened, AreReached, IsBefore, IsOpening, IsRowUpTo, IsSource}
use Rattle.wb_recheck_writer.proofs.ReachedLemmas.{Keeps, reached_added, reached_next}

-- the first of two lists of symbols that are one
first_same : (x y : Symbol) (v w : List Symbol) → x ∷ v ≡ y ∷ w → (x ≡ y) × (v ≡ w)
first_same x y v w e = (cc, cc)

nonterminal_same : (a b : ℕ) → Nonterminal a ≡ Nonterminal b → a ≡ b
nonterminal_same a b e = cc

no_dot : (d : ℕ) → d + 1 ≡ 0 → ⊥
no_dot d e = omega (arith, e)

-- the entry of an initial item
abbrev pub initial_entry : Opening → ℕ → ℕ → Entry
initial_entry opening q u = record {
  kernel = opening.source.entry.kernel;
  item = initial_item q;
  terminal = u;
  origin = Some opening.source.place;
}

-- the entry of the item that moved on
abbrev pub moved_entry : Source → ℕ → Entry
moved_entry source kernel = record {
  kernel = kernel;
  item = advance source.entry.item;
  terminal = source.entry.terminal;
  origin = Some source.place;
}

-- what follows at the same kernel is an initial item of the nonterminal with a member of the set
record IsInitial (g : GrammarView) (opening : Opening) (k : ℕ) (item : Item) (t : ℕ) : Type 0 where
  q : ℕ
  right : List Symbol
  rule : IsProduction g q opening.nonterminal right
  is : item ≡ initial_item q
  kernel : k ≡ opening.source.entry.kernel
  member : IsMember opening.set.now t

module _ {g : GrammarView} {lines : List Line} (opening : Opening) (opens_it : IsOpening g opening) where
  initial_of : (k : ℕ) (item : Item) (t : ℕ) →
      IsFollowed g lines opening.source.entry.kernel opening.source.entry.item opening.source.entry.terminal k item t → item.dot ≡ 0 →
      IsInitial g opening k item t
  initial_of k item t (opens b rest q right is rule first same is_item) zero_dot =
      let (b_is, rest_is) = first_same (Nonterminal b) (Nonterminal opening.nonterminal) rest opens_it.rest
      (sym is ∙ opens_it.before_dot) in
      record {
        q = q;
        right = right;
        rule = subst (λ z. IsProduction g q z right) (nonterminal_same b opening.nonterminal b_is) rule;
        is = is_item;
        kernel = same;
        member = (opens_it.set.each t).1
            (subst (λ z. IsFirst g (z ++ Terminal opening.source.entry.terminal ∷ []) t) rest_is first);
      }
  initial_of k item t (moves_on x rest is lt is_move is_item same) zero_dot =
      absurd (no_dot opening.source.entry.item.dot (sym (ap (λ (i : Item). i.dot) is_item) ∙ zero_dot))

  module _ (entries : List Entry) (production terminal : ℕ) (right : List Symbol)
      (rule : IsProduction g production opening.nonterminal right) (member : IsMember opening.set.now terminal)
      (row : IsRowUpTo g lines entries opening production terminal) where
    follows : IsFollowed g lines opening.source.entry.kernel opening.source.entry.item opening.source.entry.terminal
        opening.source.entry.kernel (initial_item production) terminal
    follows = opens opening.nonterminal opens_it.rest production right opens_it.before_dot rule ((opens_it.set.each terminal).0 member)
        refl refl

    earlier : (k : ℕ) (item : Item) (t : ℕ) →
        IsFollowed g lines opening.source.entry.kernel opening.source.entry.item opening.source.entry.terminal k item t →
        FollowerPrecedes item t (initial_item production) terminal → IsListed entries k item t
    earlier k item t followed first = by first where
      listed : item.dot ≡ 0 → ((item.production < production) ⊎ ((item.production ≡ production) × (t < terminal))) → IsListed entries k
          item t
      listed zero_dot before =
          let i = initial_of k item t followed zero_dot in
          let q_is : item.production ≡ i.q = ap (λ (z : Item). z.production) i.is in
          subst (λ z. IsListed entries z item t) (sym i.kernel) (subst (λ z. IsListed entries opening.source.entry.kernel z t) (sym i.is)
          (row.initial i.q t i.right i.rule i.member
          (subst (λ z. (z < production) ⊎ ((z ≡ production) × (t < terminal))) q_is before)))

      by : FollowerPrecedes item t (initial_item production) terminal → IsListed entries k item t
      by (by_production zero_dot other less) = listed zero_dot (inl less)
      by (by_terminal zero_dot other same less) = listed zero_dot (inr (same, less))
      by (by_move zero_dot other) = absurd (other refl)

    -- one terminal more
    pub row_more : (new : List Entry) → Adds entries (initial_entry opening production terminal) new →
        IsRowUpTo g lines new opening production (terminal + 1)
    row_more new adds =
        let a = reached_added entries opening.source row.reached row.at (initial_entry opening production terminal) refl (omega arith)
        follows earlier new adds in
        record {
          reached = a.reached_now;
          at = a.keeps.places opening.source.place opening.source.entry row.at;
          initial = λ q u r q_rule has before. initial a.here a.keeps q u r q_rule has before;
        }
      where
        initial : IsListed new opening.source.entry.kernel (initial_item production) terminal → Keeps entries new → (q u : ℕ)
            (r : List Symbol) →
            IsProduction g q opening.nonterminal r → IsMember opening.set.now u →
            ((q < production) ⊎ ((q ≡ production) × (u < terminal + 1))) →
            IsListed new opening.source.entry.kernel (initial_item q) u
        initial here keeps q u r q_rule has (inl less) =
            keeps.listed opening.source.entry.kernel (initial_item q) u (row.initial q u r q_rule has (inl less))
        initial here keeps q u r q_rule has (inr (same, lt)) = elim (cases_lt u terminal) [
          | inl less ↦ keeps.listed opening.source.entry.kernel (initial_item q) u (row.initial q u r q_rule has (inr (same, less)))
          | inr past ↦ (
              let u_is : terminal ≡ u = omega (arith, lt, past) in
              subst (λ z. IsListed new opening.source.entry.kernel (initial_item z) u) (sym same)
              (subst (λ z. IsListed new opening.source.entry.kernel (initial_item production) z) u_is here)
              )
        ]

  -- between two members there are none
  pub row_on : (entries : List Entry) (production from terminal : ℕ) → IsRowUpTo g lines entries opening production from →
      IsNextMember opening.set.now from terminal → IsRowUpTo g lines entries opening production terminal
  row_on entries production from terminal row next = record {
    reached = row.reached;
    at = row.at;
    initial = λ q u right rule has before. elim before [
      | inl less ↦ row.initial q u right rule has (inl less)
      | inr (same, lt) ↦ elim (cases_lt u from) [
        | inl less ↦ row.initial q u right rule has (inr (same, less))
        | inr past ↦ absurd (next.least u past lt has)
      ]
    ];
  }

  -- and after the last a production is done
  pub row_done : (entries : List Entry) (production from : ℕ) → IsRowUpTo g lines entries opening production from →
      HasNoneFrom opening.set.now from → IsRowUpTo g lines entries opening (production + 1) 0
  row_done entries production from row past = record {
    reached = row.reached;
    at = row.at;
    initial = λ q u right rule has before. elim before [
      | inl lt ↦ elim (cases_lt q production) [
        | inl less ↦ row.initial q u right rule has (inl less)
        | inr more ↦ elim (cases_lt u from) [
          | inl less ↦ (let same : q ≡ production = omega (arith, lt, more) in row.initial q u right rule has (inr (same, less)))
          | inr more' ↦ absurd (past u more' has)
        ]
      ]
      | inr (same, lt) ↦ absurd (omega (arith, lt))
    ];
  }

  module _ (numbers : List ℕ) (of : AreProductionsOf g opening.nonterminal numbers) where
    -- before the production of the next place all initial items are listed
    pub row_begun : (entries : List Entry) (place production : ℕ) → AreReached g lines entries opening.source.place →
        IsSource entries opening.source → AreInitialIn opening numbers entries place → slice_get numbers place ≡ Some production →
        IsRowUpTo g lines entries opening production 0
    row_begun entries place production reached at before here = record {
      reached = reached;
      at = at;
      initial = λ q u right rule has less. elim less [
        | inl lt ↦ (let (n, there) = place_of numbers q (of.complete q right rule) in earlier q u n lt there has)
        | inr (same, lt) ↦ absurd (omega (arith, lt))
      ];
    }
      where
        earlier : (q u n : ℕ) → q < production → slice_get numbers n ≡ Some q → IsMember opening.set.now u →
            IsListed entries opening.source.entry.kernel (initial_item q) u
        earlier q u n lt there has = elim (cases_lt n place) [
          | inl less ↦ before n q u less there has
          | inr past ↦ elim (cases_lt place n) [
            | inl more ↦ absurd (let rises = of.rising place n production q more here there in omega (arith, rises, lt))
            | inr still ↦ absurd (
                let same : n ≡ place = omega (arith, past, still) in
                let is : q ≡ production = at_once numbers place q production (ap (slice_get numbers) (sym same) ∙ there) here in
                omega (arith, is, lt)
                )
          ]
        ]

    -- and after it
    pub initial_more : (entries : List Entry) (place production : ℕ) → IsRowUpTo g lines entries opening (production + 1) 0 →
        slice_get numbers place ≡ Some production → AreInitialIn opening numbers entries (place + 1)
    initial_more entries place production row here n q u lt there has =
        let (right, rule) = of.sound q (contains_at numbers q n there) in
        row.initial q u right rule has (inl (below q n lt there))
      where
        below : (q n : ℕ) → n < place + 1 → slice_get numbers n ≡ Some q → q < production + 1
        below q n lt there = elim (cases_lt n place) [
          | inl less ↦ (let rises = of.rising n place q production less there here in omega (arith, rises))
          | inr past ↦ (
              let same : n ≡ place = omega (arith, lt, past) in
              let is : q ≡ production = at_once numbers place q production (ap (slice_get numbers) (sym same) ∙ there) here in
              omega (arith, is)
              )
        ]

    -- at the end what follows at the same kernel is listed
    pub opened_whole : (entries : List Entry) (place : ℕ) → AreReached g lines entries opening.source.place → IsSource entries
        opening.source →
        AreInitialIn opening numbers entries place → length numbers ≤ place → AreOpened g lines entries opening.source
    opened_whole entries place reached at before past = record {
      reached = reached;
      at = at;
      opened = λ k item t followed zero_dot. (
          let i = initial_of k item t followed zero_dot in
          let (n, there) = place_of numbers i.q (of.complete i.q i.right i.rule) in
          let lt : n < place = (let w = slice_get_within numbers n i.q there in omega (arith, w, past)) in
          subst (λ z. IsListed entries z item t) (sym i.kernel)
          (subst (λ z. IsListed entries opening.source.entry.kernel z t) (sym i.is) (before n i.q t lt there i.member))
          );
    }

-- the nonterminal after a dot is one of the grammar
pub opening_within : {g : GrammarView} (opening : Opening) → IsOpening g opening → IsGrammar g → opening.nonterminal < g.nonterminals
opening_within {g} opening opens_it ok =
    All-head (IsSymbolBelow g.terminals g.nonterminals) (Nonterminal opening.nonterminal) opens_it.rest
    (subst (All (IsSymbolBelow g.terminals g.nonterminals)) opens_it.before_dot (after_below g ok opening.source.entry.item))

-- before a terminal there is nothing at the same kernel
pub opened_none : {g : GrammarView} {lines : List Line} (entries : List Entry) (source : Source) (t : ℕ) →
    AreReached g lines entries source.place → IsSource entries source → IsBefore g source (Terminal t) → AreOpened g lines entries source
opened_none {g} {lines} entries source t reached at (rest, is) = record {
  reached = reached;
  at = at;
  opened = λ k item u followed zero_dot. absurd (nothing k item u followed zero_dot);
}
  where
    nothing : (k : ℕ) (item : Item) (u : ℕ) →
        IsFollowed g lines source.entry.kernel source.entry.item source.entry.terminal k item u → item.dot ≡ 0 → ⊥
    nothing k item u (opens b more q right is_b rule first same is_item) zero_dot =
        let (e, _) = first_same (Nonterminal b) (Terminal t) more rest (sym is_b ∙ is) in cc
    nothing k item u (moves_on x more is_x lt is_move is_item same) zero_dot =
        no_dot source.entry.item.dot (sym (ap (λ (i : Item). i.dot) is_item) ∙ zero_dot)

module _ {g : GrammarView} {lines : List Line} (good : AreGoodLines g lines) (entries : List Entry) (source : Source)
    (room : source.entry.item.dot + 1 < 2 ^ 64) (x : Symbol) (before : IsBefore g source x) (kernel : ℕ)
    (within : kernel < kernel_count lines)
    (is_move : IsMoveOf g lines source.entry.kernel x kernel) (opened : AreOpened g lines entries source) where
  follows_on : IsFollowed g lines source.entry.kernel source.entry.item source.entry.terminal kernel (advance source.entry.item)
      source.entry.terminal
  follows_on = moves_on x before.0 before.1 within is_move refl refl

  first_on : (k : ℕ) (item : Item) (t : ℕ) →
      IsFollowed g lines source.entry.kernel source.entry.item source.entry.terminal k item t →
      FollowerPrecedes item t (advance source.entry.item) source.entry.terminal → IsListed entries k item t
  first_on k item t followed (by_production zero_dot other less) = opened.opened k item t followed zero_dot
  first_on k item t followed (by_terminal zero_dot other same less) = opened.opened k item t followed zero_dot
  first_on k item t followed (by_move zero_dot other) = opened.opened k item t followed zero_dot

  -- with it all that follows is listed
  pub moved_more : (new : List Entry) → Adds entries (moved_entry source kernel) new → AreReached g lines new (source.place + 1)
  moved_more new adds =
      let a = reached_added entries source opened.reached opened.at (moved_entry source kernel) refl room follows_on first_on new adds in
      reached_next new source a.reached_now (a.keeps.places source.place source.entry opened.at)
      (λ k item t followed. all a.here a.keeps k item t followed)
    where
      all : IsListed new kernel (advance source.entry.item) source.entry.terminal → Keeps entries new → (k : ℕ) (item : Item) (t : ℕ) →
          IsFollowed g lines source.entry.kernel source.entry.item source.entry.terminal k item t → IsListed new k item t
      all here keeps k item t (opens b rest q right is rule first same is_item) =
          keeps.listed k item t (opened.opened k item t (opens b rest q right is rule first same is_item)
          (ap (λ (i : Item). i.dot) is_item))
      all here keeps k item t (moves_on y rest is lt move_is is_item same) =
          let (y_is, _) = first_same y x rest before.0 (sym is ∙ before.1) in
          let one : k ≡ kernel = move_once g lines good source.entry.kernel x k kernel lt within
          (subst (λ z. IsMoveOf g lines source.entry.kernel z k) y_is move_is) is_move in
          subst (λ z. IsListed new z item t) (sym one)
          (subst (λ z. IsListed new kernel z t) (sym is_item)
          (subst (λ z. IsListed new kernel (advance source.entry.item) z) (sym same) here))
