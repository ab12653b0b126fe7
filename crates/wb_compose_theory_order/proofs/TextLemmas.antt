-- The next tokens, the trees and the stops of a text are the same in other numbers.
use Rattle.std.proofs.Common.{◌++◌, ◌∙◌, ◌∷◌, ◌≡◌, List, [], ap, map, refl, subst, sym, ℕ}
use Rattle.std.proofs.lemmas.List.{map-append}
use Rattle.wb_base.specs.declared.symbol.Symbol.{Symbol}
use Rattle.wb_base.specs.declared.symbol.Symbol.TheVariants.{Nonterminal, Terminal}
use Rattle.wb_base.specs.Grammar.{GrammarView}
use Rattle.wb_grammar_theory.specs.Productions.{IsProduction, end_of}
use Rattle.wb_grammar_theory.specs.Trees.{DerivationTree, Forest, IsDerived, Leaf, leaf, leaves, node, nothing, symbols}
use Rattle.wb_scan_theory.specs.declared.stop_kind.StopKind.{StopKind}
use Rattle.wb_scan_theory.specs.declared.stop_kind.StopKind.TheVariants.{NoToken, Unexpected}
use Rattle.wb_scan_theory.specs.Languages.{LanguageView}
use Rattle.wb_scan_theory.specs.Tokens.{Next, NextToken, ends, fails, missing, over, skipped, token, wins}
use Rattle.wb_scan_theory.specs.Readings.{AreOnText, Begins, Gives, Scanner, StopsFor, terminals_of}
use Rattle.wb_scan_theory.specs.Texts.{ParsesTo, StopsAt}
use Rattle.wb_compose_theory.specs.Renamings.{Renaming, renamed}
use Rattle.wb_compose_theory_order.specs.Grammars.{GrammarLeadsTo, IsUndoneBy}
use Rattle.wb_compose_theory_order.specs.Inner.SameGrammars.{IsSameGrammar}
use Rattle.wb_compose_theory_order.specs.Languages.{IsSameLanguage, Renumbering, renamed_form}
use Rattle.wb_compose_theory_order.specs.Answers.{renamed_forest, renamed_kind}
use Rattle.wb_compose_theory_order.specs.Laws.{HasSameAnswers}
use Rattle.wb_compose_theory_order.proofs.FormLemmas.{grammar_of, same_language_back, wins_back, wins_there}

-- what is next, and a leaf, in other numbers
abbrev pub renamed_next : Renaming → Next → Next
renamed_next r (token begin t lexeme after) = token begin (r.terminal t) lexeme after
renamed_next r (over at) = over at
renamed_next r (missing at) = missing at

abbrev pub renamed_leaf : Renaming → Leaf → Leaf
renamed_leaf r x = record { context = map (renamed r) x.context; terminal = r.terminal x.terminal; text = x.text }

-- what is next there
pub next_there : {r s : Renumbering} {l m : LanguageView} → IsSameLanguage r s l m → (text : List ℕ) (prefix : List Symbol) {at : ℕ}
    {next : Next} → NextToken l text prefix at next → NextToken m text (map (renamed r.names) prefix) at (renamed_next r.names next)
next_there {r} same text prefix {at} (skipped place piece is w rest) =
    skipped (r.place place) piece (same.there.layout place is) (wins_there same prefix text at place piece w)
    (next_there same text prefix rest)
next_there {r} same text prefix {at} (wins place form piece lexeme form_at w is next_is) =
    wins (r.place place) (renamed_form r.names form) piece lexeme (same.there.forms place form form_at)
    (wins_there same prefix text at place piece w) is (ap (renamed_next r.names) next_is)
next_there {r} same text prefix (ends is next_is) = ends is (ap (renamed_next r.names) next_is)
next_there {r} {s} same text prefix {at} (fails less none_wins next_is) =
    fails less (λ place piece w. none_wins (s.place place) piece (wins_back same prefix text at place piece w))
    (ap (renamed_next r.names) next_is)

-- leaves that are on a text are so there
pub on_text_there : (r : Renaming) (here there : Scanner) →
    ((prefix : List Symbol) (at : ℕ) (next : Next) → here prefix at next → there (map (renamed r) prefix) at (renamed_next r next)) →
    (prefix : List Symbol) (at : ℕ) (xs : List Leaf) (prefix' : List Symbol) (at' : ℕ) → AreOnText here prefix at xs prefix' at' →
    AreOnText there (map (renamed r) prefix) at (map (renamed_leaf r) xs) (map (renamed r) prefix') at'
on_text_there r here there f prefix at [] prefix' at' (same, at_is) = (ap (map (renamed r)) same, at_is)
on_text_there r here there f prefix at (x ∷ xs) prefix' at' (begin, after, is_next, rest) = (
  begin,
  after,
  f prefix at (token begin x.terminal x.text after) is_next,
  subst (λ z. AreOnText there z after (map (renamed_leaf r) xs) (map (renamed r) prefix') at')
      (map-append (renamed r) x.context (Terminal x.terminal ∷ []))
      (on_text_there r here there f (x.context ++ Terminal x.terminal ∷ []) after xs prefix' at' rest),
)

module _ (r : Renaming) where
  pub symbols_there : (f : Forest) → symbols (renamed_forest r f) ≡ map (renamed r) (symbols f)
  symbols_there nothing = refl
  symbols_there (leaf t text rest) = ap (λ z. Terminal (r.terminal t) ∷ z) (symbols_there rest)
  symbols_there (node p a children rest) = ap (λ z. Nonterminal (r.nonterminal a) ∷ z) (symbols_there rest)

  pub leaves_there : (prefix : List Symbol) (f : Forest) →
      leaves (map (renamed r) prefix) (renamed_forest r f) ≡ map (renamed_leaf r) (leaves prefix f)
  leaves_there prefix nothing = refl
  leaves_there prefix (leaf t text rest) =
      ap (λ z. record { context = map (renamed r) prefix; terminal = r.terminal t; text = text } ∷ z)
      (ap (λ z. leaves z (renamed_forest r rest)) (sym (map-append (renamed r) prefix (Terminal t ∷ []))) ∙
      leaves_there (prefix ++ Terminal t ∷ []) rest)
  leaves_there prefix (node p a children rest) =
      let first = leaves_there prefix children in
      let second = ap (λ z. leaves z (renamed_forest r rest)) (sym (map-append (renamed r) prefix (Nonterminal a ∷ []))) ∙
      leaves_there (prefix ++ Nonterminal a ∷ []) rest in
      (λ z. first z ++ second z) ∙
      sym (map-append (renamed_leaf r) (leaves prefix children) (leaves (prefix ++ Nonterminal a ∷ []) rest))

  pub terminals_there : (xs : List Leaf) → terminals_of (map (renamed_leaf r) xs) ≡ map r.terminal (terminals_of xs)
  terminals_there [] = refl
  terminals_there (x ∷ xs) = ap (λ z. r.terminal x.terminal ∷ z) (terminals_there xs)

-- a derivation tree is one there
pub derived_there : {r : Renaming} {g k : GrammarView} → GrammarLeadsTo r g k → (f : Forest) → IsDerived g f →
    IsDerived k (renamed_forest r f)
derived_there leads nothing d = tt
derived_there leads (leaf t text rest) d = derived_there leads rest d
derived_there {r} {g} {k} leads (node p a children rest) (rule, below, after) = (
  subst (IsProduction k (r.production p) (r.nonterminal a)) (sym (symbols_there r children))
      (leads.production p a (symbols children) rule),
  derived_there leads children below,
  derived_there leads rest after,
)

pub derivation_there : {r : Renaming} {g k : GrammarView} → GrammarLeadsTo r g k → (f : Forest) → DerivationTree g f →
    DerivationTree k (renamed_forest r f)
derivation_there {r} leads f is = record {
  derived = derived_there leads f is.derived;
  root = symbols_there r f ∙ (ap (map (renamed r)) is.root ∙ ap (λ z. Nonterminal z ∷ []) leads.start);
}

-- terminals with which some tree begins
pub begins_there : {r : Renaming} {g k : GrammarView} → GrammarLeadsTo r g k → (ts : List ℕ) → Begins g ts → Begins k (map r.terminal ts)
begins_there {r} {g} {k} leads ts b = record {
  tree = renamed_forest r b.tree;
  is_tree = derivation_there leads b.tree b.is_tree;
  more = map r.terminal b.more;
  is = (λ z. (ap terminals_of (leaves_there r [] b.tree) ∙ terminals_there r (leaves [] b.tree)) z ++ sym leads.end_of_text z ∷ []) ∙
      (sym (map-append r.terminal (terminals_of (leaves [] b.tree)) (end_of g ∷ [])) ∙
      (ap (map r.terminal) b.is ∙ map-append r.terminal ts b.more));
}

-- numbers there and back
numbers_back : {r s : Renaming} → IsUndoneBy r s → (ts : List ℕ) → map s.terminal (map r.terminal ts) ≡ ts
numbers_back u [] = refl
numbers_back u (t ∷ ts) = let head = u.terminal t in let tail = numbers_back u ts in λ z. head z ∷ tail z

-- what stops a text stops it there
stops_there : {r s : Renaming} {g k : GrammarView} → IsSameGrammar r s g k → (next : Next) (ts : List ℕ) (place : ℕ) (kind : StopKind) →
    StopsFor g next ts place kind → StopsFor k (renamed_next r next) (map r.terminal ts) place (renamed_kind r kind)
stops_there {r} same next ts place NoToken is = ap (renamed_next r) is
stops_there {r} {s} {g} {k} same next ts place (Unexpected t) (gives, stops) = (given next gives, go)
  where
    given : (next : Next) → Gives g next t place → Gives k (renamed_next r next) (r.terminal t) place
    given (token begin u lexeme after) (is, begin_is) = (ap r.terminal is, begin_is)
    given (over at) (is, at_is) = (sym same.there.end_of_text ∙ ap r.terminal is, at_is)
    given (missing at) nothing_given = absurd nothing_given

    go : Begins k (map r.terminal ts ++ r.terminal t ∷ []) → ⊥
    go b = stops (subst (Begins g) (numbers_back same.undone (ts ++ t ∷ []))
        (begins_there same.back (map r.terminal (ts ++ t ∷ []))
        (subst (Begins k) (sym (map-append r.terminal ts (t ∷ []))) b)))

module _ {r s : Renumbering} {l m : LanguageView} (same : IsSameLanguage r s l m) (text : List ℕ) where
  scanned : (prefix : List Symbol) (at : ℕ) (next : Next) → NextToken l text prefix at next →
      NextToken m text (map (renamed r.names) prefix) at (renamed_next r.names next)
  scanned prefix at next is = next_there same text prefix is

  -- a tree of the text is one there
  pub tree_there : (tree : Forest) → ParsesTo l text tree → ParsesTo m text (renamed_forest r.names tree)
  tree_there tree is = record {
    is_tree = derivation_there same.there.grammar tree is.is_tree;
    prefix = map (renamed r.names) is.prefix;
    at = is.at;
    on_text = subst (λ z. AreOnText (NextToken m text) [] 0 z (map (renamed r.names) is.prefix) is.at)
        (sym (leaves_there r.names [] tree))
        (on_text_there r.names (NextToken l text) (NextToken m text) scanned [] 0 (leaves [] tree) is.prefix is.at is.on_text);
    place = is.place;
    is_over = scanned is.prefix is.at (over is.place) is.is_over;
  }

  -- a stop of the text is one there
  pub stop_there : (place : ℕ) (kind : StopKind) → StopsAt l text place kind → StopsAt m text place (renamed_kind r.names kind)
  stop_there place kind is = record {
    tree = renamed_forest r.names is.tree;
    is_tree = derivation_there same.there.grammar is.tree is.is_tree;
    read = map (renamed_leaf r.names) is.read;
    rest = map (renamed_leaf r.names) is.rest;
    is = leaves_there r.names [] is.tree ∙
        (ap (map (renamed_leaf r.names)) is.is ∙ map-append (renamed_leaf r.names) is.read is.rest);
    prefix = map (renamed r.names) is.prefix;
    at = is.at;
    on_text = on_text_there r.names (NextToken l text) (NextToken m text) scanned [] 0 is.read is.prefix is.at is.on_text;
    found = renamed_next r.names is.found;
    is_next = scanned is.prefix is.at is.found is.is_next;
    stops = subst (λ z. StopsFor m.grammar (renamed_next r.names is.found) z place (renamed_kind r.names kind))
        (sym (terminals_there r.names is.read))
        (stops_there (grammar_of same) is.found (terminals_of is.read) place kind is.stops);
  }

-- trees and kinds there and back
forest_back : {r s : Renaming} → IsUndoneBy r s → (f : Forest) → renamed_forest s (renamed_forest r f) ≡ f
forest_back u nothing = refl
forest_back u (leaf t text rest) =
    let head = u.terminal t in let tail = forest_back u rest in λ z. leaf (head z) text (tail z)
forest_back u (node p a children rest) =
    let rule = u.production p in
    let left = u.nonterminal a in
    let below = forest_back u children in
    let tail = forest_back u rest in λ z. node (rule z) (left z) (below z) (tail z)

kind_back : {r s : Renaming} → IsUndoneBy r s → (kind : StopKind) → renamed_kind s (renamed_kind r kind) ≡ kind
kind_back u NoToken = refl
kind_back u (Unexpected t) = ap Unexpected (u.terminal t)

-- the answers are the same
pub same_answers : {r s : Renumbering} {l m : LanguageView} → IsSameLanguage r s l m → HasSameAnswers r.names l m
same_answers {r} {l = l} same = record {
  trees = λ text tree. (
    tree_there same text tree,
    λ h. subst (ParsesTo l text) (forest_back same.undone.names tree)
        (tree_there (same_language_back same) text (renamed_forest r.names tree) h),
  );
  stops = λ text place kind. (
    stop_there same text place kind,
    λ h. subst (StopsAt l text place) (kind_back same.undone.names kind)
        (stop_there (same_language_back same) text place (renamed_kind r.names kind) h),
  );
}
