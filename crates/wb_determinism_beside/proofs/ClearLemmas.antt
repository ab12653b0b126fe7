-- What a row of a prefix's items shows of the prefix: whether it has a conflict, and what is considered there.
use Rattle.std.proofs.Common.{◌≡◌, ◌<◌, ◌+◌, ◌++◌, ◌∷◌, ◌∙◌, ◌⊎◌, [], ℕ, Bool, List, Option, Some, None, length, refl, sym, ap, subst}
use Rattle.std.proofs.Common.{inl, inr, arith, length-append}
use Rattle.std.specs.Prelude.{◌↔◌, Contains, slice_get}
use Rattle.std.specs.Option.{option_map}
use Rattle.std.proofs.lemmas.Bool.{cases_eq, cases_lt}
use Rattle.std.proofs.lemmas.Option.{slice_get-map, slice_get_within, same_Some, none-some}
use Rattle.wb_lemmas.proofs.Members.{contains_at, place_of}
use Rattle.wb_lemmas.proofs.Elements.{all_at}
use Rattle.wb_lemmas.proofs.Places.{at_push, at_within, nothing_at}
use Rattle.wb_base.specs.declared.symbol.Symbol.{Symbol}
use Rattle.wb_base.specs.Grammar.{GrammarView}
use Rattle.wb_determinism.specs.Conflicts.{HasNoConflictIn}
use Rattle.wb_determinism.specs.Valid.{IsReduced, IsShifted}
use Rattle.wb_determinism_contexts.specs.Considered.{IsConsideredAt, LexiconView}
use Rattle.wb_grammar_theory.specs.declared.item.Item.{Item}
use Rattle.wb_grammar_theory.specs.Items.{HasItem, after_dot}
use Rattle.wb_grammar_theory.specs.Lookaheads.{CanReduce, CanShift, HasConflict, IsLookahead, IsValidTerminal}
use Rattle.wb_items.specs.declared.item_lookahead.ItemLookahead.{ItemLookahead}
use Rattle.wb_items.specs.Lookaheads.{items_in}
use Rattle.wb_lexical.specs.Clash.{HasNoClash}
use Rattle.wb_regex.specs.Tree.{Tree}
use Rattle.wb_syntax_resolved.specs.declared.resolved.ResolvedParts.{ResolvedParts}
use Rattle.wb_termset.specs.Sets.{IsEmpty, IsMember}
use Rattle.wb_determinism_beside.specs.declared.found.Found.{Found}
use Rattle.wb_determinism_beside.specs.Inner.Found.{AreClear, IsClear, IsClearAtNew, both_in, lexicon_for, new_in, prefix_at}
use Rattle.wb_determinism_beside.specs.Inner.Rows.{HasLooks, IsRow}

-- an item that a row has, has an entry there
pub entry_at : (row : List ItemLookahead) (item : Item) → Contains (items_in row) item
    → (looks : ItemLookahead) × (n : ℕ) × (slice_get row n ≡ Some looks) × (looks.item ≡ item)
entry_at row item has =
    let (n, at) = place_of (items_in row) item has in by n at (slice_get row n) refl
  where
    by : (n : ℕ) → slice_get (items_in row) n ≡ Some item → (o : Option ItemLookahead) → slice_get row n ≡ o
        → (looks : ItemLookahead) × (n : ℕ) × (slice_get row n ≡ Some looks) × (looks.item ≡ item)
    by n at None is =
        absurd (none-some item (sym (ap (option_map (λ (l : ItemLookahead). l.item)) is)
        ∙ sym (slice_get-map (λ (l : ItemLookahead). l.item) row n) ∙ at))
    by n at (Some looks) is = (
      looks,
      n,
      is,
      same_Some looks.item item (sym (ap (option_map (λ (l : ItemLookahead). l.item)) is)
          ∙ sym (slice_get-map (λ (l : ItemLookahead). l.item) row n) ∙ at),
    )

-- an entry's item is listed
item_listed : (row : List ItemLookahead) (n : ℕ) (looks : ItemLookahead) → slice_get row n ≡ Some looks → Contains (items_in row) looks.item
item_listed row n looks at =
    contains_at (items_in row) looks.item n
    (slice_get-map (λ (l : ItemLookahead). l.item) row n ∙ ap (option_map (λ (l : ItemLookahead). l.item)) at)

module _ (k : GrammarView) (prefix : List Symbol) (row : List ItemLookahead) (is : IsRow k prefix row) where
  entry_of : (item : Item) → HasItem k prefix item
      → (looks : ItemLookahead) × (n : ℕ) × (slice_get row n ≡ Some looks) × (looks.item ≡ item)
  entry_of item has = entry_at row item ((is.items item).1 has)

  has_of : (n : ℕ) (looks : ItemLookahead) → slice_get row n ≡ Some looks → HasItem k prefix looks.item
  has_of n looks at = (is.items looks.item).0 (item_listed row n looks at)

  set_of : (n : ℕ) (looks : ItemLookahead) → slice_get row n ≡ Some looks → HasLooks k prefix looks
  set_of n looks at = all_at (HasLooks k prefix) row n looks is.sets at

  -- a lookahead of a complete item is in its entry
  looks_in : (n : ℕ) (looks : ItemLookahead) → slice_get row n ≡ Some looks → (item : Item) → looks.item ≡ item → after_dot k item ≡ []
      → (t : ℕ) → IsLookahead k prefix item t → IsMember looks.set t
  looks_in n looks at item same complete t look =
      ((set_of n looks at).each (ap (after_dot k) same ∙ complete) t).1
      (subst (λ (i : Item). IsLookahead k prefix i t) (sym same) look)

  -- what is shifted
  shifted_out : (t : ℕ) → IsShifted k row (length row) t → CanShift k prefix t
  shifted_out t x = record {
    item = x.looks.item;
    rest = x.before.0;
    has = has_of x.place x.looks x.at;
    before_dot = x.before.1;
  }

  shifted_in : (t : ℕ) → CanShift k prefix t → IsShifted k row (length row) t
  shifted_in t can =
      let (looks, n, at, same) = entry_of can.item can.has in
      record {
        place = n;
        looks = looks;
        below = slice_get_within row n looks at;
        at = at;
        before = (can.rest, ap (after_dot k) same ∙ can.before_dot);
      }

  -- what is reduced
  reduced_out : (t : ℕ) → IsReduced k row (length row) t → (p : ℕ) × CanReduce k prefix p t
  reduced_out t x = (
    x.looks.item.production,
    record {
      item = x.looks.item;
      production = refl;
      complete = x.complete;
      has = has_of x.place x.looks x.at;
      lookahead = ((set_of x.place x.looks x.at).each x.complete t).0 x.has;
    },
  )

  reduced_in : (p t : ℕ) → CanReduce k prefix p t → IsReduced k row (length row) t
  reduced_in p t can =
      let (looks, n, at, same) = entry_of can.item can.has in
      record {
        place = n;
        looks = looks;
        below = slice_get_within row n looks at;
        at = at;
        complete = ap (after_dot k) same ∙ can.complete;
        has = looks_in n looks at can.item same can.complete t can.lookahead;
      }

  module _ (shifts : List Bool) (each : (t : ℕ) → IsMember shifts t ↔ IsShifted k row (length row) t) where
    -- where no two entries have a conflict, and none has one with a shift, the prefix has none
    no_conflict : HasNoConflictIn k shifts row → (t : ℕ) → ¬ HasConflict k prefix t
    no_conflict apart t (inl (p, can, red)) =
        let (looks, n, at, same) = entry_of red.item red.has in
        (apart n (slice_get_within row n looks at)).shift looks at t (record {
          complete = ap (after_dot k) same ∙ red.complete;
          shift = (each t).1 (shifted_in t can);
          reduce = looks_in n looks at red.item same red.complete t red.lookahead;
        })
    no_conflict apart t (inr (p, q, differ, one, two)) =
        let (looks, n, at, same) = entry_of one.item one.has in
        let (others, o, at', same') = entry_of two.item two.has in
        let first : looks.item.production ≡ p = ap (λ (i : Item). i.production) same ∙ one.production in
        let second : others.item.production ≡ q = ap (λ (i : Item). i.production) same' ∙ two.production in
        let complete : after_dot k looks.item ≡ [] = ap (after_dot k) same ∙ one.complete in
        let complete' : after_dot k others.item ≡ [] = ap (after_dot k) same' ∙ two.complete in
        let has = looks_in n looks at one.item same one.complete t one.lookahead in
        let has' = looks_in o others at' two.item same' two.complete t two.lookahead in
        elim (cases_lt n o) [
          | inl before ↦
              (apart o (slice_get_within row o others at')).pairs others at' n looks before at t (record {
                differ = λ e. differ (sym first ∙ e ∙ second);
                complete = complete;
                conflict = record { complete = complete'; shift = has; reduce = has' };
              })
          | inr after ↦ elim (cases_eq o n) [
            | inl equal ↦
                let one_entry : others ≡ looks = same_Some others looks
                (sym (subst (λ (i : ℕ). slice_get row i ≡ Some others) equal at') ∙ at) in
                differ (sym first ∙ sym (ap (λ (l : ItemLookahead). l.item.production) one_entry) ∙ second)
            | inr other ↦
                (apart n (slice_get_within row n looks at)).pairs looks at o others (omega (arith, after, other)) at' t (record {
                  differ = λ e. differ (sym first ∙ sym e ∙ second);
                  complete = complete';
                  conflict = record { complete = complete; shift = has'; reduce = has };
                })
          ]
        ]

    -- the set of what is considered
    pub clear_of : (lexicon : LexiconView) (set : List Bool) → HasNoConflictIn k shifts row
        → ((t : ℕ) → IsMember set t ↔ (((t < lexicon.scanned) × (IsMember shifts t ⊎ IsReduced k row (length row) t))
        ⊎ IsMember lexicon.layout t))
        → IsClear k lexicon prefix set
    clear_of lexicon set apart members = record {
      no_conflict = no_conflict apart;
      each = λ t. (λ has. there t ((members t).0 has), λ considered. (members t).1 (back t considered));
    }
      where
        valid_out : (t : ℕ) → IsMember shifts t ⊎ IsReduced k row (length row) t → IsValidTerminal k prefix t
        valid_out t (inl has) = inl (shifted_out t ((each t).0 has))
        valid_out t (inr x) = inr (reduced_out t x)

        valid_in : (t : ℕ) → IsValidTerminal k prefix t → IsMember shifts t ⊎ IsReduced k row (length row) t
        valid_in t (inl can) = inl ((each t).1 (shifted_in t can))
        valid_in t (inr (p, can)) = inr (reduced_in p t can)

        there : (t : ℕ) → ((t < lexicon.scanned) × (IsMember shifts t ⊎ IsReduced k row (length row) t)) ⊎ IsMember lexicon.layout t
            → ((t < lexicon.scanned) × IsValidTerminal k prefix t) ⊎ IsMember lexicon.layout t
        there t (inl (below, x)) = inl (below, valid_out t x)
        there t (inr has) = inr has

        back : (t : ℕ) → ((t < lexicon.scanned) × IsValidTerminal k prefix t) ⊎ IsMember lexicon.layout t
            → ((t < lexicon.scanned) × (IsMember shifts t ⊎ IsReduced k row (length row) t)) ⊎ IsMember lexicon.layout t
        back t (inl (below, x)) = inl (below, valid_in t x)
        back t (inr has) = inr has

module _ (x : Found) (lexicon : LexiconView) where
  -- no sets
  pub clear_none : (sets : List (List Bool)) → sets ≡ [] → AreClear x lexicon 0 sets
  clear_none sets none = record {
    len = ap (λ (z : List (List Bool)). length z) none;
    each = λ i set at. absurd (nothing_at set i (subst (λ (z : List (List Bool)). slice_get z i ≡ Some set) none at));
  }

  -- one more
  pub clear_more : (n : ℕ) (sets more : List (List Bool)) (set : List Bool) → more ≡ sets ++ set ∷ [] → AreClear x lexicon n sets
      → IsClear (both_in x) lexicon (prefix_at x n) set → AreClear x lexicon (n + 1) more
  clear_more n sets more set more_is are is =
      subst (AreClear x lexicon (n + 1)) (sym more_is) (record {
        len = length-append sets (set ∷ []) ∙ ap (λ k. k + 1) are.len;
        each = λ i found at. elim (at_push sets set found i at) [
          | inl old ↦ are.each i found old
          | inr (here, same) ↦
              subst (λ k. IsClear (both_in x) lexicon (prefix_at x k) found) (sym (here ∙ are.len))
              (subst (IsClear (both_in x) lexicon (prefix_at x n)) same is)
        ];
      })

  -- where no two terminals of one set clash, no new kernel has a clash
  pub clear_all : IsEmpty lexicon.own_layout → (n : ℕ) (sets : List (List Bool)) → new_in x ≡ n → AreClear x lexicon n sets
      → HasNoClash lexicon.expressions sets lexicon.preferences → IsClearAtNew x lexicon
  clear_all none n sets n_is are never = record {
    no_conflict = λ i t below. let (set, at) = at_within sets i (omega (arith, below, n_is, are.len)) in (are.each i set at).no_conflict t;
    no_clash = λ i left right text below clash.
        let (set, at) = at_within sets i (omega (arith, below, n_is, are.len)) in
        never i left right text (record {
          different = clash.different;
          left_in = record { flags = set; at = at; has = ((are.each i set at).each left).1 (plain i left clash.left_considered) };
          right_in = record { flags = set; at = at; has = ((are.each i set at).each right).1 (plain i right clash.right_considered) };
          left_matches = clash.left_matches;
          right_matches = clash.right_matches;
          unordered = clash.unordered;
        });
  }
    where
      plain : (i t : ℕ) → IsConsideredAt (both_in x) lexicon (prefix_at x i) t
          → ((t < lexicon.scanned) × IsValidTerminal (both_in x) (prefix_at x i) t) ⊎ IsMember lexicon.layout t
      plain i t (inl is) = inl is
      plain i t (inr (inl is)) = inr is
      plain i t (inr (inr (is, _))) = absurd (none t is)

-- what is scanned, by its parts
abbrev scanned_by : List Tree → ℕ → List Bool → List Bool → List (ℕ × ℕ) → LexiconView
scanned_by expressions scanned layout own_layout preferences = record {
  expressions = expressions;
  scanned = scanned;
  layout = layout;
  own_layout = own_layout;
  own_productions = (0, 0);
  preferences = preferences;
}

-- with all layout
pub lexicon_is : (r : ResolvedParts) (scanned : ℕ) (expressions : List Tree) (layout own_layout : List Bool) (preferences : List (ℕ × ℕ))
    → expressions ≡ (lexicon_for r scanned).expressions → layout ≡ (lexicon_for r scanned).layout
    → own_layout ≡ (lexicon_for r scanned).own_layout → preferences ≡ (lexicon_for r scanned).preferences
    → scanned_by expressions scanned layout own_layout preferences ≡ lexicon_for r scanned
lexicon_is r scanned expressions layout own_layout preferences one two three four =
    let l = lexicon_for r scanned in
    ap (λ z. scanned_by z scanned layout own_layout preferences) one
    ∙ ap (λ z. scanned_by l.expressions scanned z own_layout preferences) two
    ∙ ap (λ z. scanned_by l.expressions scanned l.layout z preferences) three
    ∙ ap (λ z. scanned_by l.expressions scanned l.layout l.own_layout z) four
