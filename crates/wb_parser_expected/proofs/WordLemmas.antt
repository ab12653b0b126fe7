-- The longest of the words that are scanned at the states is the longest at any prefix.
use Rattle.std.proofs.Common.{◌≡◌, ◌<◌, ◌≤◌, ◌+◌, ℕ, List, refl, sym, ◌∙◌, subst, inl, inr, arith, slice_range}
use Rattle.std.specs.Prelude.{IfSome, IsNone, Option, Some, None}
use Rattle.std.proofs.lemmas.Bool.{cases_order}
use Rattle.wb_base.specs.declared.symbol.Symbol.{Symbol}
use Rattle.wb_lookahead.specs.Contents.{size_of}
use Rattle.wb_scan_theory.specs.Parts.{IsPrefixOf}
use Rattle.wb_scan_theory.specs.Tokens.{NextToken, token}
use Rattle.wb_scan_theory.proofs.PartLemmas.{state_of}
use Rattle.wb_scan_theory.proofs.TextLemmas.{is_one}
use Rattle.wb_scan.specs.Scans.{next_in}
use Rattle.wb_scan.specs.Views.{LanguageParts}
use Rattle.wb_scan.specs.declared.scanned.Scanned.{Scanned}
use Rattle.wb_scan.specs.declared.scanned.Scanned.TheVariants.{Token, End, NoToken}
use Rattle.wb_parser_states.proofs.TableLemmas.{prefix_at}
use Rattle.wb_parser_expected.specs.declared.word.Word.{Word}
use Rattle.wb_parser_expected.specs.Inner.Longer.{EndsBefore, IsLonger, IsLongestBelow, IsWordOf}
use Rattle.wb_parser_expected.specs.Inner.Trials.{HasTables}
use Rattle.wb_parser_expected.specs.WordsAt.{IsLastEnd, IsWordAt}

-- one ends before itself, and before what a later one ends before
pub ends_itself : (one : Option Word) → EndsBefore one one
ends_itself None = tt
ends_itself (Some word) = omega arith

pub ends_later : (one other longest : Option Word) → EndsBefore one other → EndsBefore other longest → EndsBefore one longest
ends_later None other longest a b = tt
ends_later (Some word) None longest a b = absurd a
ends_later (Some word) (Some other) None a b = absurd b
ends_later (Some word) (Some other) (Some longest) a b = omega (arith, a, b)

module _ (parts : LanguageParts) (has : HasTables parts) (text : List ℕ) (from : ℕ) where
  -- what is scanned at a state
  abbrev pub ScansAt : ℕ → Scanned → Type 0
  ScansAt state scanned =
      (prefix : List Symbol) → IsPrefixOf parts.language.grammar parts.tables state prefix →
      NextToken parts.language text prefix from (next_in text scanned)

  -- its word is one at the place
  word_there : (state : ℕ) → state < size_of parts.tables → (scanned : Scanned) → ScansAt state scanned → (found : Option Word) →
      IsWordOf scanned found →
      IfSome found (λ word. IsWordAt parts.language text from word.terminal word.at word.end)
  word_there state lt (Token terminal at lexeme end) next found is =
      let (prefix, of) = prefix_at has.tables_of state lt in
      subst (λ z. IfSome z (λ word. IsWordAt parts.language text from word.terminal word.at word.end)) (sym is)
      (record { prefix = prefix; viable = of.viable; lexeme = slice_range text lexeme end; is = next prefix of })
  word_there state lt (End at) next found is =
      subst (λ z. IfSome z (λ word. IsWordAt parts.language text from word.terminal word.at word.end)) (sym is) tt
  word_there state lt (NoToken at) next found is =
      subst (λ z. IfSome z (λ word. IsWordAt parts.language text from word.terminal word.at word.end)) (sym is) tt

  -- a token that is next at a prefix of the state is the one that was scanned
  same_word : (scanned : Scanned) (found : Option Word) → IsWordOf scanned found → (terminal at end : ℕ) (lexeme : List ℕ) →
      next_in text scanned ≡ token at terminal lexeme end → found ≡ Some (record { terminal = terminal; at = at; end = end })
  same_word (Token t begin first after) found is terminal at end lexeme e =
      is ∙ (let a : t ≡ terminal = cc in
      let b : begin ≡ at = cc in
      let c : after ≡ end = cc in
      λ k. Some (record { terminal = a k; at = b k; end = c k }))
  same_word (End place) found is terminal at end lexeme e = cc
  same_word (NoToken place) found is terminal at end lexeme e = cc

  -- below the first state nothing was scanned
  pub none_scanned : IsLongestBelow parts text from 0 None
  none_scanned = record { is = tt; before = λ state lt prefix of terminal at end lexeme n. absurd (omega arith) }

  -- one state more
  pub one_scanned : (state : ℕ) → state < size_of parts.tables → (scanned : Scanned) → ScansAt state scanned →
      (word longest longer : Option Word) → IsWordOf scanned word → IsLonger longest word longer →
      IsLongestBelow parts text from state longest → IsLongestBelow parts text from (state + 1) longer
  one_scanned state lt scanned next word longest longer is_word is old = record { is = there; before = before }
    where
      there : IfSome longer (λ word. IsWordAt parts.language text from word.terminal word.at word.end)
      there = elim is.is [
        | inl same ↦ subst (λ z. IfSome z (λ word. IsWordAt parts.language text from word.terminal word.at word.end)) (sym same) old.is
        | inr same ↦ subst (λ z. IfSome z (λ word. IsWordAt parts.language text from word.terminal word.at word.end)) (sym same)
            (word_there state lt scanned next word is_word)
      ]

      before : (s : ℕ) → s < state + 1 → (prefix : List Symbol) → IsPrefixOf parts.language.grammar parts.tables s prefix →
          (terminal at end : ℕ) (lexeme : List ℕ) → NextToken parts.language text prefix from (token at terminal lexeme end) →
          EndsBefore (Some (record { terminal = terminal; at = at; end = end })) longer
      before s less prefix of terminal at end lexeme n = elim (cases_order s state) [
        | inl same ↦
            let here = next prefix (subst (λ z. IsPrefixOf parts.language.grammar parts.tables z prefix) same of) in
            let e = is_one parts.language has.language text prefix from (next_in text scanned) (token at terminal lexeme end) here n in
            subst (λ z. EndsBefore z longer) (same_word scanned word is_word terminal at end lexeme e) is.second
        | inr (inl lower) ↦
            ends_later (Some (record { terminal = terminal; at = at; end = end })) longest longer
            (old.before s lower prefix of terminal at end lexeme n) is.first
        | inr (inr higher) ↦ absurd (omega (arith, higher, less))
      ]

  -- a token that is next at some prefix ends before the longest of all states
  all_before : (count : ℕ) (longest : Option Word) → count ≡ size_of parts.tables → IsLongestBelow parts text from count longest →
      (terminal at end : ℕ) → IsWordAt parts.language text from terminal at end →
      EndsBefore (Some (record { terminal = terminal; at = at; end = end })) longest
  all_before count longest count_is all terminal at end w =
      let (s, of) = state_of has.tables_of w.prefix w.viable in
      let size = of.numbered.are_tables.count in
      let within = of.within in
      all.before s (omega (arith, size, within, count_is)) w.prefix of terminal at end w.lexeme w.is

  pub none_longer : (count : ℕ) (longest : Option Word) → count ≡ size_of parts.tables → IsLongestBelow parts text from count longest →
      IfSome longest (λ word. IsLastEnd parts.language text from word.end)
  none_longer count None count_is all = tt
  none_longer count (Some word) count_is all = λ terminal at end w. all_before count (Some word) count_is all terminal at end w

  pub none_there : (count : ℕ) (longest : Option Word) → count ≡ size_of parts.tables → IsLongestBelow parts text from count longest →
      IsNone longest → (terminal at end : ℕ) → IsWordAt parts.language text from terminal at end → ⊥
  none_there count None count_is all none terminal at end w = all_before count None count_is all terminal at end w
  none_there count (Some word) count_is all none terminal at end w = cc

-- the longer of two
pub first_longer : (one other : Option Word) (first second : Word) → one ≡ Some first → other ≡ Some second → second.end ≤ first.end →
    IsLonger one other one
first_longer one other first second one_is other_is le = record {
  is = inl refl;
  first = ends_itself one;
  second = subst (EndsBefore other) (sym one_is) (subst (λ z. EndsBefore z (Some first)) (sym other_is) le);
}

pub second_longer : (one other : Option Word) (first second : Word) → one ≡ Some first → other ≡ Some second → first.end ≤ second.end →
    IsLonger one other other
second_longer one other first second one_is other_is le = record {
  is = inr refl;
  first = subst (EndsBefore one) (sym other_is) (subst (λ z. EndsBefore z (Some second)) (sym one_is) le);
  second = ends_itself other;
}

pub only_first : (one other : Option Word) → other ≡ None → IsLonger one other one
only_first one other is = record { is = inl refl; first = ends_itself one; second = subst (λ z. EndsBefore z one) (sym is) tt }

pub only_second : (one other : Option Word) → one ≡ None → IsLonger one other other
only_second one other is = record { is = inr refl; first = subst (λ z. EndsBefore z other) (sym is) tt; second = ends_itself other }
