-- What is between two quotes or slashes is the longest string or regular expression.
use Rattle.std.proofs.Common.{◌≡◌, ℕ, suc, ◌+◌, ◌<◌, ◌≤◌, List, [], ◌∷◌, ◌++◌, Some, None, length, get_or, take, drop, sym, ap, ◌∙◌, subst}
use Rattle.std.proofs.Common.{arith, length-take, length-append, append_assoc}
use Rattle.std.proofs.lemmas.List.{take-append-drop, take_more, drop_more}
use Rattle.wb_text_tokens.specs.Inner.Longest.{first_class, IsLongest}
use Rattle.wb_text_tokens.specs.Inner.Parts.{string_part, regex_part, FindsString, FindsRegex}
use Rattle.wb_text_tokens.specs.Skipping.{HasByte}
use Rattle.wb_text_tokens.specs.Spelling.{IsStringBody, IsString, IsRegexBody}
use Rattle.wb_text_tokens.specs.declared.token_class.TokenClass.TheVariants.{Quote, Slash}
use Rattle.wb_text_tokens.specs.declared.token.Dialect.{Dialect}
use Rattle.wb_text_tokens.specs.declared.token.Token.{Token}
use Rattle.wb_text_tokens.specs.declared.token.Token.TheVariants as t
use Rattle.wb_text_tokens.proofs.FirstByteLemmas.{string_is, regex_is, begins_quote, begins_slash}
use Rattle.wb_text_tokens.proofs.LongestLemmas.{prefix_kind}
use Rattle.wb_lemmas.proofs.Runs.{headed}
use Rattle.wb_text_tokens.proofs.PartLemmas.{same_string, same_regex}

-- up to the closing byte, so many bytes stand
closed : (q place : ℕ) (x : List ℕ) → HasByte x place q → take (place + 2) (q ∷ x) ≡ q ∷ (take place x ++ q ∷ [])
closed q place x h =
    let e : place + 2 ≡ suc (place + 1) = omega arith in
    ap (λ n. take n (q ∷ x)) e ∙ ap (λ l. q ∷ l) (take_more x place 0 h.within ∙ ap (λ b. take place x ++ b ∷ []) h.is)

-- a prefix that ends with the closing byte
record IsClosed (q : ℕ) (x body : List ℕ) (count : ℕ) : Type 0 where
  rest : List ℕ
  joined : x ≡ body ++ q ∷ rest
  counted : count ≡ length body + 2

-- such a prefix goes to a closing byte
is_closed : (q : ℕ) (x body : List ℕ) (count : ℕ) → count ≤ length (q ∷ x) → take count (q ∷ x) ≡ q ∷ (body ++ q ∷ [])
    → IsClosed q x body count
is_closed q x body count le h =
    let all : q ∷ x ≡ q ∷ ((body ++ q ∷ []) ++ drop count (q ∷ x)) = sym (take-append-drop count (q ∷ x)) ∙ ap
    (λ l. l ++ drop count (q ∷ x)) h in
    let behind : x ≡ (body ++ q ∷ []) ++ drop count (q ∷ x) = cc in
    record {
      rest = drop count (q ∷ x);
      joined = behind ∙ append_assoc body (q ∷ []) (drop count (q ∷ x));
      counted = omega (arith, le, ap length h, length-take count (q ∷ x), length-append body (q ∷ []));
    }

-- a closing byte begins no part
no_string_part : (x : List ℕ) (place : ℕ) → HasByte x place 34 → string_part (drop place x) ≡ None
no_string_part x place h = ap string_part (drop_more x place 0 h.within ∙ ap (λ b. b ∷ drop (place + 1) x) h.is)

-- the same of a slash
no_regex_part : (x : List ℕ) (place : ℕ) → HasByte x place 47 → regex_part (drop place x) ≡ None
no_regex_part x place h = ap regex_part (drop_more x place 0 h.within ∙ ap (λ b. b ∷ drop (place + 1) x) h.is)

-- the body of a string that ends at its quote is the one that was found
string_ends : (x text other body : List ℕ) (place count : ℕ) → FindsString x (Some (text, place))
    → IsStringBody body other → IsClosed 34 x body count → count ≡ place + 2
string_ends x text other body place count found stands c =
    let same = same_string (drop place x) c.rest found.0 (no_string_part x place found.1) stands (take-append-drop place x ∙ c.joined) in
    omega (arith, c.counted, sym (ap length same.0), length-take place x, found.1.within)

-- a string that was found is the longest token
pub string_longest : (dialect : Dialect) (x text : List ℕ) (place : ℕ) → FindsString x (Some (text, place)) → IsLongest dialect (34 ∷ x) (t.Text text) (place + 2)
string_longest dialect x text place found =
    let s : IsString (take (place + 2) (34 ∷ x)) text = record
    { body = take place x; stands = found.0; quoted = closed 34 place x found.1 } in
    record {
      some = omega arith;
      within = omega (arith, found.1.within);
      spelled = s;
      in_range = tt;
      longest = λ other more lt le o.
          let i = string_is dialect other (take more (34 ∷ x)) o (sym (prefix_kind dialect (34 ∷ x) other more o)) in
          let c = is_closed 34 x i.2.body more le i.2.quoted in
          omega (arith, lt, string_ends x text i.0 i.2.body place more found i.2.stands c);
    }

-- where none was found, no token begins
string_none : (dialect : Dialect) (x : List ℕ) → FindsString x None → (token : Token) (count : ℕ) → IsLongest dialect (34 ∷ x) token count → ⊥
string_none dialect x none token count l =
    let i = string_is dialect token (take count (34 ∷ x)) l.spelled (sym (prefix_kind dialect (34 ∷ x) token count l.spelled)) in
    let c = is_closed 34 x i.2.body count l.within i.2.quoted in
    none i.2.body i.0 c.rest i.2.stands c.joined

-- the body of a regular expression that ends at its slash is the one that was found
regex_ends : (x body : List ℕ) (place count : ℕ) → FindsRegex x (Some place) → IsRegexBody body
    → IsClosed 47 x body count → count ≡ place + 2
regex_ends x body place count found stands c =
    let same = same_regex (drop place x) c.rest found.0 (no_regex_part x place found.1) stands (take-append-drop place x ∙ c.joined) in
    omega (arith, c.counted, sym (ap length same.0), length-take place x, found.1.within)

-- a regular expression that was found is the longest token
pub regex_longest : (dialect : Dialect) (x : List ℕ) (place : ℕ) → 0 < place → FindsRegex x (Some place)
    → IsLongest dialect (47 ∷ x) (t.Regex (take place x)) (place + 2)
regex_longest dialect x place some found =
    record {
      some = omega arith;
      within = omega (arith, found.1.within);
      spelled = (closed 47 place x found.1, (λ e. omega (arith, ap length e, length-take place x, found.1.within, some)), found.0);
      in_range = tt;
      longest = λ other more lt le o.
          let i = regex_is dialect other (take more (47 ∷ x)) o (sym (prefix_kind dialect (47 ∷ x) other more o)) in
          let c = is_closed 47 x i.0 more le i.2 in
          omega (arith, lt, regex_ends x i.0 place more found i.4 c);
    }

-- where none was found, no token begins
regex_none : (dialect : Dialect) (x : List ℕ) → FindsRegex x None → (token : Token) (count : ℕ) → IsLongest dialect (47 ∷ x) token count → ⊥
regex_none dialect x none token count l =
    let i = regex_is dialect token (take count (47 ∷ x)) l.spelled (sym (prefix_kind dialect (47 ∷ x) token count l.spelled)) in
    let c = is_closed 47 x i.0 count l.within i.2 in
    none i.0 c.rest i.4 c.joined

-- two slashes in a row are no regular expression
regex_empty : (dialect : Dialect) (x : List ℕ) → FindsRegex x (Some 0) → (token : Token) (count : ℕ) → IsLongest dialect (47 ∷ x) token count → ⊥
regex_empty dialect x found token count l =
    let i = regex_is dialect token (take count (47 ∷ x)) l.spelled (sym (prefix_kind dialect (47 ∷ x) token count l.spelled)) in
    let c = is_closed 47 x i.0 count l.within i.2 in
    let same = same_regex x c.rest found.0 (no_regex_part x 0 found.1) i.4 c.joined in
    i.3 (sym same.0)

-- a text that begins with a quote
quote_first : (text : List ℕ) → 0 < length text → first_class (get_or text 0 0) ≡ Quote → 34 ∷ drop 1 text ≡ text
quote_first text some begins = sym (headed text 34 some (begins_quote (get_or text 0 0) begins))

-- a text that begins with a slash
slash_first : (text : List ℕ) → 0 < length text → first_class (get_or text 0 0) ≡ Slash → 47 ∷ drop 1 text ≡ text
slash_first text some begins = sym (headed text 47 some (begins_slash (get_or text 0 0) begins))

-- a string that was found after its quote is the longest token
pub string_found : (dialect : Dialect) (text decoded : List ℕ) (place : ℕ) → 0 < length text → first_class (get_or text 0 0) ≡ Quote
    → FindsString (drop 1 text) (Some (decoded, place)) → IsLongest dialect text (t.Text decoded) (place + 2)
string_found dialect text decoded place some begins found =
    subst (λ l. IsLongest dialect l (t.Text decoded) (place + 2)) (quote_first text some begins) (string_longest dialect (drop 1 text) decoded place found)

-- where no string was found after a quote, no token begins
pub string_missing : (dialect : Dialect) (text : List ℕ) → 0 < length text → first_class (get_or text 0 0) ≡ Quote → FindsString (drop 1 text) None
    → (token : Token) (count : ℕ) → IsLongest dialect text token count → ⊥
string_missing dialect text some begins none token count l =
    string_none dialect (drop 1 text) none token count (subst (λ x. IsLongest dialect x token count) (sym (quote_first text some begins)) l)

-- a regular expression that was found after its slash is the longest token
pub regex_found : (dialect : Dialect) (text : List ℕ) (place : ℕ) → 0 < length text → first_class (get_or text 0 0) ≡ Slash → 0 < place
    → FindsRegex (drop 1 text) (Some place) → IsLongest dialect text (t.Regex (take place (drop 1 text))) (place + 2)
regex_found dialect text place some begins more found =
    subst (λ l. IsLongest dialect l (t.Regex (take place (drop 1 text))) (place + 2)) (slash_first text some begins)
    (regex_longest dialect (drop 1 text) place more found)

-- where none was found after a slash, no token begins
pub regex_missing : (dialect : Dialect) (text : List ℕ) → 0 < length text → first_class (get_or text 0 0) ≡ Slash → FindsRegex (drop 1 text) None
    → (token : Token) (count : ℕ) → IsLongest dialect text token count → ⊥
regex_missing dialect text some begins none token count l =
    regex_none dialect (drop 1 text) none token count (subst (λ x. IsLongest dialect x token count) (sym (slash_first text some begins)) l)

-- where a slash comes after a slash, no token begins
pub regex_without : (dialect : Dialect) (text : List ℕ) → 0 < length text → first_class (get_or text 0 0) ≡ Slash → FindsRegex (drop 1 text) (Some 0)
    → (token : Token) (count : ℕ) → IsLongest dialect text token count → ⊥
regex_without dialect text some begins found token count l =
    regex_empty dialect (drop 1 text) found token count (subst (λ x. IsLongest dialect x token count) (sym (slash_first text some begins)) l)
