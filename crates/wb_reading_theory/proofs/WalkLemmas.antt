-- The leaves of a tree that are on a text in one language are on it in the other, as long as no marker is next.
use Rattle.std.proofs.Common.{◌≡◌, ◌∙◌, ◌++◌, ◌∷◌, ℕ, Bool, List, [], ap, append_assoc, length, refl, subst, sym}
use Rattle.std.specs.Prelude.{Contains}
use Rattle.wb_lemmas.proofs.Members.{contains_at}
use Rattle.wb_lemmas.proofs.Places.{append_seam}
use Rattle.wb_base.specs.declared.symbol.Symbol.{Symbol}
use Rattle.wb_base.specs.declared.symbol.Symbol.TheVariants.{Terminal}
use Rattle.wb_base.specs.Grammar.{GrammarView}
use Rattle.wb_termset.specs.Sets.{IsMember}
use Rattle.wb_grammar_theory.specs.Items.{IsViablePrefix, advance, move, start, start_item}
use Rattle.wb_grammar_theory.specs.Productions.{end_of}
use Rattle.wb_grammar_theory.specs.Trees.{DerivationTree, Forest, Leaf, leaves}
use Rattle.wb_grammar_theory.proofs.ShiftLemmas.{tree_shifts}
use Rattle.wb_scan_theory.specs.Facts.{IsLanguage}
use Rattle.wb_scan_theory.specs.Languages.{LanguageView}
use Rattle.wb_scan_theory.specs.Readings.{AreOnText, Scanner}
use Rattle.wb_scan_theory.specs.Tokens.{Next, NextToken, token}
use Rattle.wb_scan_theory.specs.Texts.{ParsesTo}
use Rattle.wb_scan_theory.proofs.ForestLemmas.{append_nil}
use Rattle.wb_reading_theory.specs.Languages.{ExtendsLanguage}
use Rattle.wb_reading_theory.specs.Markers.{HasNoMarker, IsPlain}
use Rattle.wb_reading_theory.proofs.NextLemmas.{IsUnmarked, next_from, next_to}
use Rattle.wb_reading_theory.proofs.TreeLemmas.{plain_joined, plain_tree, tree_begins, tree_to}

-- after a leaf of a derivation tree is a viable prefix
pub leaf_viable : (g : GrammarView) (tree : Forest) → DerivationTree g tree → (read : List Leaf) (x : Leaf) (rest : List Leaf) →
    leaves [] tree ≡ read ++ x ∷ rest → IsViablePrefix g (x.context ++ Terminal x.terminal ∷ [])
leaf_viable g tree is read x rest e =
    let can = tree_shifts g tree is x (subst (λ z. Contains z x) (sym e)
    (contains_at (read ++ x ∷ rest) x (length read) (append_seam read x rest))) in
    (advance can.item, can.has.0, move can.item (Terminal x.terminal) can.rest x.context can.has.1 can.before_dot refl refl)

-- one leaf more is on a text
on_text_push : (next : Scanner) (prefix : List Symbol) (at : ℕ) (read : List Leaf) (prefix' : List Symbol) (at' : ℕ) →
    AreOnText next prefix at read prefix' at' → (x : Leaf) (begin after : ℕ) → next prefix' at' (token begin x.terminal x.text after) →
    AreOnText next prefix at (read ++ x ∷ []) (x.context ++ Terminal x.terminal ∷ []) after
on_text_push next prefix at [] prefix' at' (same, at_is) x begin after is_next = (
  begin,
  after,
  subst (λ z. next z at (token begin x.terminal x.text after)) (sym same)
      (subst (λ z. next prefix' z (token begin x.terminal x.text after)) (sym at_is) is_next),
  (refl, refl),
)
on_text_push next prefix at (y ∷ read) prefix' at' (begin', after', first, on) x begin after is_next =
    (begin', after', first, on_text_push next (y.context ++ Terminal y.terminal ∷ []) after' read prefix' at' on x begin after is_next)

module _ {h u : LanguageView} {markers : List Bool} (of_host : IsLanguage h) (of_union : IsLanguage u)
    (extends : ExtendsLanguage h u markers)
    (text : List ℕ) (plain : IsPlain u markers text) where
  -- leaves that were read are on the text in both languages, none is a marker, and the prefix after them is viable in both
  pub record Stands (read : List Leaf) (prefix : List Symbol) (at : ℕ) : Type 0 where
    pub on_host : AreOnText (NextToken h text) [] 0 read prefix at
    pub on_union : AreOnText (NextToken u text) [] 0 read prefix at
    pub before : HasNoMarker markers read
    pub viable : IsViablePrefix h.grammar prefix
    pub there : IsViablePrefix u.grammar prefix

  pub first : Stands [] [] 0
  first = record {
    on_host = (refl, refl);
    on_union = (refl, refl);
    before = tt;
    viable = (start_item h.grammar, end_of h.grammar, start);
    there = (start_item u.grammar, end_of u.grammar, start);
  }

  -- no marker is next after the first leaves of a tree
  pub unmarked : {read : List Leaf} {prefix : List Symbol} {at : ℕ} → Stands read prefix at → (tree : Forest) (rest : List Leaf) →
      DerivationTree u.grammar tree → leaves [] tree ≡ read ++ rest → IsUnmarked u markers text prefix at
  unmarked {read} {prefix} {at} s tree rest is e begin t lexeme after n marks = plain begin t (record {
    tree = tree;
    is_tree = is;
    read = read;
    rest = rest;
    is = e;
    before = s.before;
    prefix = prefix;
    from = at;
    on_text = s.on_union;
    lexeme = lexeme;
    after = after;
    is_next = n;
    marks = marks;
  })

  -- what is next after them is next in both
  pub found_to : {read : List Leaf} {prefix : List Symbol} {at : ℕ} → Stands read prefix at → (tree : Forest) (rest : List Leaf) →
      DerivationTree u.grammar tree → leaves [] tree ≡ read ++ rest → {next : Next} → NextToken h text prefix at next →
      NextToken u text prefix at next
  found_to {read} {prefix} {at} s tree rest is e n =
      next_to of_host of_union extends prefix s.viable s.there text (unmarked s tree rest is e) n

  pub found_from : {read : List Leaf} {prefix : List Symbol} {at : ℕ} → Stands read prefix at → (tree : Forest) (rest : List Leaf) →
      DerivationTree u.grammar tree → leaves [] tree ≡ read ++ rest → {next : Next} → NextToken u text prefix at next →
      NextToken h text prefix at next
  found_from {read} {prefix} {at} s tree rest is e n =
      next_from of_host of_union extends prefix s.viable s.there text (unmarked s tree rest is e) n

  -- one leaf further
  further : {read : List Leaf} {prefix : List Symbol} {at : ℕ} → Stands read prefix at → (tree : Forest) (x : Leaf) (rest : List Leaf) →
      DerivationTree u.grammar tree → leaves [] tree ≡ read ++ x ∷ rest → (begin after : ℕ) →
      NextToken h text prefix at (token begin x.terminal x.text after) → NextToken u text prefix at (token begin x.terminal x.text after) →
      Stands (read ++ x ∷ []) (x.context ++ Terminal x.terminal ∷ []) after
  further {read} {prefix} {at} s tree x rest is e begin after here there =
      let not = unmarked s tree (x ∷ rest) is e begin x.terminal x.text after there in
      let before = plain_joined markers read (x ∷ []) s.before (not, tt) in
      let (other, other_is, (more, begins)) = tree_begins extends.grammar of_host.deterministic.in_range of_host.deterministic.reduced tree
      (read ++ x ∷ []) rest is (e ∙ sym (append_assoc read (x ∷ []) rest)) before in
      record {
        on_host = on_text_push (NextToken h text) [] 0 read prefix at s.on_host x begin after here;
        on_union = on_text_push (NextToken u text) [] 0 read prefix at s.on_union x begin after there;
        before = before;
        viable = leaf_viable h.grammar other other_is read x more (begins ∙ append_assoc read (x ∷ []) more);
        there = leaf_viable u.grammar tree is read x rest e;
      }

  -- leaves on the text in the extending language
  pub walk_from : (tree : Forest) → DerivationTree u.grammar tree → (read xs rest : List Leaf) (prefix : List Symbol) (at : ℕ) →
      leaves [] tree ≡ read ++ (xs ++ rest) → Stands read prefix at → (prefix' : List Symbol) (at' : ℕ) →
      AreOnText (NextToken u text) prefix at xs prefix' at' → Stands (read ++ xs) prefix' at'
  walk_from tree is read [] rest prefix at e s prefix' at' (same, at_is) =
      subst (λ z. Stands z prefix' at') (sym (append_nil read)) (subst (λ z. Stands read z at') same (subst (Stands read prefix) at_is s))
  walk_from tree is read (x ∷ xs) rest prefix at e s prefix' at' (begin, after, is_next, on) =
      let here = found_from s tree (x ∷ (xs ++ rest)) is e is_next in
      let s' = further s tree x (xs ++ rest) is e begin after here is_next in
      subst (λ z. Stands z prefix' at') (append_assoc read (x ∷ []) xs)
      (walk_from tree is (read ++ x ∷ []) xs rest (x.context ++ Terminal x.terminal ∷ []) after
      (e ∙ sym (append_assoc read (x ∷ []) (xs ++ rest))) s' prefix' at' on)

  -- leaves on the text in the language that is extended
  pub walk_to : (tree : Forest) → DerivationTree u.grammar tree → (read xs rest : List Leaf) (prefix : List Symbol) (at : ℕ) →
      leaves [] tree ≡ read ++ (xs ++ rest) → Stands read prefix at → (prefix' : List Symbol) (at' : ℕ) →
      AreOnText (NextToken h text) prefix at xs prefix' at' → Stands (read ++ xs) prefix' at'
  walk_to tree is read [] rest prefix at e s prefix' at' (same, at_is) =
      subst (λ z. Stands z prefix' at') (sym (append_nil read)) (subst (λ z. Stands read z at') same (subst (Stands read prefix) at_is s))
  walk_to tree is read (x ∷ xs) rest prefix at e s prefix' at' (begin, after, is_next, on) =
      let there = found_to s tree (x ∷ (xs ++ rest)) is e is_next in
      let s' = further s tree x (xs ++ rest) is e begin after is_next there in
      subst (λ z. Stands z prefix' at') (append_assoc read (x ∷ []) xs)
      (walk_to tree is (read ++ x ∷ []) xs rest (x.context ++ Terminal x.terminal ∷ []) after
      (e ∙ sym (append_assoc read (x ∷ []) (xs ++ rest))) s' prefix' at' on)

  -- a tree of the text in the one language is one in the other
  pub parses_to : (tree : Forest) → ParsesTo h text tree → ParsesTo u text tree
  parses_to tree is =
      let there = tree_to extends.grammar of_host.deterministic.in_range tree is.is_tree in
      let whole = sym (append_nil (leaves [] tree)) in
      let s = walk_to tree there [] (leaves [] tree) [] [] 0 whole first is.prefix is.at is.on_text in
      record {
        is_tree = there;
        prefix = is.prefix;
        at = is.at;
        on_text = s.on_union;
        place = is.place;
        is_over = found_to s tree [] there whole is.is_over;
      }

  pub parses_from : (tree : Forest) → ParsesTo u text tree → ParsesTo h text tree
  parses_from tree is =
      let whole = sym (append_nil (leaves [] tree)) in
      let s = walk_from tree is.is_tree [] (leaves [] tree) [] [] 0 whole first is.prefix is.at is.on_text in
      record {
        is_tree = plain_tree extends.grammar of_host.deterministic.in_range tree is.is_tree s.before;
        prefix = is.prefix;
        at = is.at;
        on_text = s.on_host;
        place = is.place;
        is_over = found_from s tree [] is.is_tree whole is.is_over;
      }
