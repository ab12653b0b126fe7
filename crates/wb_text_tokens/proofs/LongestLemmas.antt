-- For each kind of token, what the reader of its bytes finds is the longest token.
use Rattle.std.proofs.Common.{◌≡◌, ℕ, suc, ◌+◌, ◌<◌, List, [], ◌∷◌, true, ◌||◌, cond, length, get_or, take, sym, ap, ◌∙◌, subst, arith}
use Rattle.std.proofs.Common.{length-take}
use Rattle.std.proofs.lemmas.List.{get_or-take}
use Rattle.std.proofs.lemmas.List.Folds.{list_all_at}
use Rattle.std.proofs.lemmas.List.Sums.{prefix_len-le-length, prefix_len_stops}
use Rattle.std.specs.Char.{is_ascii_digit}
use Rattle.std.specs.List.{prefix_len}
use Rattle.wb_text_tokens.specs.Inner.Longest.{first_class, IsLongest}
use Rattle.wb_text_tokens.specs.Spelling.{Spells, HasValueInRange}
use Rattle.wb_lemmas.proofs.Runs.{all_before}
use Rattle.wb_base.specs.Identifiers.{is_letter, is_name_byte, IsIdentifier}
use Rattle.wb_text_tokens.specs.declared.token.Dialect.{Dialect}
use Rattle.wb_text_tokens.specs.declared.token.Token.{Token}
use Rattle.wb_text_tokens.proofs.FirstByteLemmas.{class_of, spelled_some, spelled_beginning, name_bytes, letter_is}

-- a prefix that is a token has a byte
pub prefix_some : (dialect : Dialect) (text : List ℕ) (token : Token) (count : ℕ) → Spells dialect token (take count text) → 0 < count
prefix_some dialect text token count s = omega (arith, spelled_some dialect token (take count text) s, length-take count text)

-- the first byte of the text tells the kind of each prefix that is a token
pub prefix_kind : (dialect : Dialect) (text : List ℕ) (token : Token) (count : ℕ) → Spells dialect token (take count text)
    → first_class (get_or text 0 0) ≡ class_of token
prefix_kind dialect text token count s =
    let some = prefix_some dialect text token count s in
    ap first_class (sym (get_or-take count text 0 0 some)) ∙ spelled_beginning dialect token (take count text) s

-- a letter and the bytes that go on a name are an identifier
pub identifier : (text : List ℕ) → 0 < length text → is_letter (get_or text 0 0) ≡ true
    → IsIdentifier (take (prefix_len is_name_byte text) text)
identifier [] some h = absurd (omega (arith, some))
identifier (b ∷ x) some h =
    let e : prefix_len is_name_byte (b ∷ x) ≡ suc (prefix_len is_name_byte x) =
    ap (λ t. cond (t || is_ascii_digit b) (1 + prefix_len is_name_byte x) 0) h ∙ omega arith in
    subst (λ n. IsIdentifier (take n (b ∷ x))) (sym e) (h, all_before is_name_byte x)

-- as far as letters, digits and `_` go, a token is the longest
pub name_longest : (dialect : Dialect) (text : List ℕ) (token : Token) → is_letter (get_or text 0 0) ≡ true → HasValueInRange token
    → Spells dialect token (take (prefix_len is_name_byte text) text) → IsLongest dialect text token (prefix_len is_name_byte text)
name_longest dialect text token begins range s = record {
  some = prefix_some dialect text token _ s;
  within = prefix_len-le-length is_name_byte text;
  spelled = s;
  in_range = range;
  longest = λ other more lt le o.
      let n = prefix_len is_name_byte text in
      let kind = sym (prefix_kind dialect text other more o) ∙ letter_is (get_or text 0 0) begins in
      let all = name_bytes dialect other (take more text) o kind in
      let there : n < length (take more text) = omega (arith, length-take more text) in
      let stops = prefix_len_stops is_name_byte text 0 (omega arith) in
      let none = list_all_at is_name_byte (take more text) n 0 there (ap is_name_byte (get_or-take more text n 0 lt) ∙ stops) in
      cc (all, none);
}
