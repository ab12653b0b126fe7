-- What words ask, by their verb, and what a verb says, by how the words after it split.
use Rattle.std.proofs.Common.{◌≡◌, ◌≢◌, ◌≤◌, ◌-◌, ℕ, List, [], ◌∷◌, Option, Some, None, IfSome, IfNone, String, Global, string_bytes, length}
use Rattle.std.proofs.Common.{take, drop, get_or, map, sym, ap, subst, ◌∙◌, arith}
use Rattle.std.specs.Borrow.{Bor}
use Rattle.wb_lemmas.proofs.Parts.{take_to_end}
use Rattle.wb_program_words.specs.Asked.{Asked, texts}
use Rattle.wb_program_words.specs.Options.{AreOptions, Given}
use Rattle.wb_program_words.specs.OptionValues.{OptionValue}
use Rattle.wb_program_words.specs.Rows.{HaveValues, IsCount, asked_of, name_of, row_of}
use Rattle.wb_program_words.specs.Words.{Asks, Says}
use Rattle.wb_program_words.specs.declared.rows.OptionName.{OptionName}
use Rattle.wb_program_words.specs.declared.rows.Verb.{Verb}
use Rattle.wb_program_words.specs.Inner.Parts.{IsSplit, HasNoSplit}
use Rattle.wb_program_words.specs.Inner.Values.{HaveNoValues}
use Rattle.wb_program_words.proofs.OneAsked.{one_split}
use Rattle.wb_program_words.proofs.RowLemmas.{one_verb}

-- the type of a slot
abbrev Slot : Type 0
Slot = Option (Bor (List ℕ))

-- a list that isn't empty is its first and the rest
one_and_more : {X : Type 0} (xs : List X) (a : X) → 1 ≤ length xs → a ≡ get_or xs 0 a → xs ≡ a ∷ take (length xs - 1) (drop 1 xs)
one_and_more [] a l p = absurd (omega arith)
one_and_more (w ∷ xs) a l p =
    let later : take (length (w ∷ xs) - 1) (drop 1 (w ∷ xs)) ≡ xs = take_to_end 1 (w ∷ xs) in
    cc

-- and so are their texts
pub more_texts : (words : List (String Global)) (first : String Global) (text : List ℕ) → 1 ≤ length words → first ≡ get_or words 0 first
    → text ≡ string_bytes first → texts words ≡ text ∷ texts (take (length words - 1) (drop 1 words))
more_texts words first text long at is =
    ap texts (one_and_more words first long at)
    ∙ ap (λ (s : List ℕ). s ∷ texts (take (length words - 1) (drop 1 words))) (sym is)

-- no words ask nothing
pub nothing_asks : (words : List (List ℕ)) (asked : Asked) → words ≡ [] → ¬ Asks words asked
nothing_asks words asked none asks =
    let line : (row_of asks.verb).verb ∷ asks.rest ≡ [] = sym asks.line ∙ none in
    cc line

module _ (words : List (List ℕ)) (first : List ℕ) (rest : List (List ℕ)) (is : words ≡ first ∷ rest) where
  -- the rest after the verb
  one_rest : (asked : Asked) (asks : Asks words asked) → (first ≡ (row_of asks.verb).verb) × (rest ≡ asks.rest)
  one_rest asked asks =
      let lines : first ∷ rest ≡ (row_of asks.verb).verb ∷ asks.rest = sym is ∙ asks.line in
      (cc lines, cc lines)

  -- words of no verb ask nothing
  pub no_verb_asks : ((verb : Verb) → first ≢ (row_of verb).verb) → (asked : Asked) → ¬ Asks words asked
  no_verb_asks other asked asks = other asks.verb (one_rest asked asks).0

  module _ (verb : Verb) (begins : first ≡ (row_of verb).verb) where
    -- words ask what their verb says
    pub asks_by : (asked : Asked) → Says verb rest asked → Asks words asked
    asks_by asked says = record {
      verb = verb;
      rest = rest;
      line = is ∙ ap (λ (t : List ℕ). t ∷ rest) begins;
      says = says;
    }

    -- and nothing where it says nothing
    pub never_asks : ((asked : Asked) → ¬ Says verb rest asked) → (asked : Asked) → ¬ Asks words asked
    never_asks never asked asks =
        let (text, same) = one_rest asked asks in
        let verbs : asks.verb ≡ verb = one_verb asks.verb verb (sym text ∙ begins) in
        never asked
        (subst (λ (v : Verb). Says v rest asked) verbs
        (subst (λ (ws : List (List ℕ)). Says asks.verb ws asked) (sym same) asks.says))

module _ (verb : Verb) (names : List OptionName) (is_row : names ≡ (row_of verb).options) (rest : List (List ℕ)) where
  -- words that don't split into options of the row say nothing
  pub unsplit_says : HasNoSplit (map name_of names) rest → (asked : Asked) → ¬ Says verb rest asked
  unsplit_says never asked says =
      subst (λ (ns : List OptionName). HasNoSplit (map name_of ns) rest) is_row never says.options says.positional says.splits says.known

  module _ (slots : List Slot) (later : List (List ℕ)) (split : IsSplit (map name_of names) rest later slots) where
    -- what the verb says is of this split
    one : (asked : Asked) (says : Says verb rest asked) → (says.options ≡ split.options) × (says.positional ≡ later)
    one asked says = one_split rest says.options split.options says.positional later says.splits split.splits

    -- where the options of the row have no values, the verb says nothing
    pub valueless_says : HaveNoValues names slots → (asked : Asked) → ¬ Says verb rest asked
    valueless_says none asked says =
        none split.options says.values split.values
        (subst (λ (os : List Given). HaveValues os names says.values) (one asked says).0
        (subst (λ (ns : List OptionName). HaveValues says.options ns says.values) (sym is_row) says.given))

    -- nor where there are fewer or more words
    pub miscounted_says : ¬ IsCount (row_of verb).words (length later) → (asked : Asked) → ¬ Says verb rest asked
    miscounted_says other asked says =
        other (subst (λ (ws : List (List ℕ)). IsCount (row_of verb).words (length ws)) (one asked says).1 says.count)

    -- else it says what it asks with them
    pub says_by : (values : List OptionValue) → HaveValues split.options names values → IsCount (row_of verb).words (length later)
        → (asked : Asked) → asked ≡ asked_of verb values later → Says verb rest asked
    says_by values have count asked same = record {
      options = split.options;
      positional = later;
      values = values;
      splits = split.splits;
      known = subst (λ (ns : List OptionName). AreOptions (map name_of ns) split.options) is_row split.values.known;
      given = subst (λ (ns : List OptionName). HaveValues split.options ns values) is_row have;
      count = count;
      is = same;
    }

-- what holds of an answer, from what holds of it
pub on_some : {X : Type 0} (o : Option X) (P Q : X → Type 0) → ((x : X) → P x → Q x) → IfSome o P → IfSome o Q
on_some None P Q weaker holds = tt
on_some (Some x) P Q weaker holds = weaker x holds

-- and of none
pub on_nothing : {X : Type 0} (o : Option X) (P Q : Type 0) → (P → Q) → IfNone o P → IfNone o Q
on_nothing None P Q weaker holds = weaker holds
on_nothing (Some x) P Q weaker holds = tt
