-- Names are in bytes, and rows whose patterns match some text alone match no empty one.
use Rattle.std.proofs.Common.{◌≡◌, ◌<◌, inl, inr, ℕ, List, [], ◌∷◌, map, subst, arith, ◌==◌, true}
use Rattle.std.specs.Prelude.{All}
use Rattle.std.specs.Char.{is_ascii_alphabetic, is_ascii_digit}
use Rattle.std.specs.List.{list_all}
use Rattle.std.proofs.lemmas.Bool.Decides.{nat_tests}
use Rattle.std.proofs.lemmas.List.Elements.{All-nil, All-cons}
use Rattle.wb_automata.specs.Automata.{IsMatch}
use Rattle.wb_base.specs.Identifiers.{IsIdentifier, IsName, is_letter, is_name_byte}
use Rattle.wb_lemmas.proofs.Booleans.{and_parts, or_cases}
use Rattle.wb_lemmas.proofs.Elements.{all_at}
use Rattle.wb_regex.specs.Matches.{Matches}
use Rattle.wb_regex.specs.Tree.{Tree}
use Rattle.wb_compose_theory_grammar.proofs.FactLemmas.{map_at}

letter_byte : (b : ℕ) → is_ascii_alphabetic b ≡ true → b < 256
letter_byte b is = grind (arith, nat_tests, is)

digit_byte : (b : ℕ) → is_ascii_digit b ≡ true → b < 256
digit_byte b is = grind (arith, nat_tests, is)

line_byte : (b : ℕ) → (b == 95) ≡ true → b < 256
line_byte b is = grind (arith, nat_tests, is)

first_byte : (b : ℕ) → is_letter b ≡ true → b < 256
first_byte b is = elim (or_cases (is_ascii_alphabetic b) (b == 95) is) [ inl l ↦ letter_byte b l | inr l ↦ line_byte b l ]

next_byte : (b : ℕ) → is_name_byte b ≡ true → b < 256
next_byte b is = elim (or_cases (is_letter b) (is_ascii_digit b) is) [ inl l ↦ first_byte b l | inr d ↦ digit_byte b d ]

pub name_bytes : (name : List ℕ) → IsName name → All (λ b. b < 256) name
name_bytes name is = go name is.identifier where
  rest : (x : List ℕ) → list_all is_name_byte x ≡ true → All (λ b. b < 256) x
  rest [] e = All-nil (λ b. b < 256)
  rest (b ∷ x) e =
      let (first, later) = and_parts (is_name_byte b) (list_all is_name_byte x) e in
      All-cons (λ c. c < 256) b x (next_byte b first) (rest x later)

  go : (x : List ℕ) → IsIdentifier x → All (λ b. b < 256) x
  go [] no_name = absurd no_name
  go (b ∷ x) (first, later) = All-cons (λ c. c < 256) b x (first_byte b first) (rest x later)

-- rows of patterns, as those of a resolved specification are
pub rows_some : {T : Type 0} (pattern_of : T → Tree) (rows : List T) → All (λ t. ¬ Matches (pattern_of t) []) rows → (k : ℕ)
    → ¬ IsMatch (map pattern_of rows) k []
rows_some pattern_of rows each k m =
    let (t, at, is) = map_at pattern_of rows k m.tree m.at in
    all_at (λ u. ¬ Matches (pattern_of u) []) rows k t each at (subst (λ z. Matches z []) is m.matches)
