-- The first three tokens of a specification, which say its format, and the dialect that they say.
use Rattle.std.proofs.Common.{◌≡◌, ◌⊎◌, ℕ, pos, List, [], ◌∷◌, ◌++◌, Bool, true, false, inl, inr, refl, sym, ap, ◌∙◌, subst}
use Rattle.std.specs.Prelude.{◌==◌, if◌then◌else◌}
use Rattle.wb_text_predictive.specs.declared.table.Next.TheVariants.{Found}
use Rattle.wb_text_predictive.specs.Reading.{Spells, none, next}
use Rattle.wb_text_tokens.specs.declared.token.Dialect.{Dialect}
use Rattle.wb_text_tokens.specs.declared.token.Dialect.TheVariants.{Terms, FormatOne, FormatTwo}
use Rattle.wb_text_tokens.specs.declared.token.Token.{Token}
use Rattle.wb_text_tokens.specs.declared.token.Token.TheVariants as t
use Rattle.wb_text_tokens.specs.declared.word.Word.TheVariants as word
use Rattle.wb_text_tokens.specs.declared.punctuation.Punctuation.TheVariants as p
use Rattle.wb_text_tokens.specs.NextToken.{IsNextIn}
use Rattle.wb_text_tokens.specs.Skipping.{has_comments}
use Rattle.wb_text_tokens.proofs.PlacedLaws.{one_next}
use Rattle.wb_syntax.specs.declared.written.WrittenSpec.{WrittenSpec}
use Rattle.wb_syntax.specs.Tokens.{Lexeme, IsWord, IsMark, IsInt}
use Rattle.wb_syntax.specs.ItemGrammar.{IsFormat, IsSpecification, whole}
use Rattle.wb_syntax.specs.SpecText.{IsWrittenText, dialect_of}
use Rattle.wb_reader.specs.Refusals.{BeginsWithFormat, IsDialectOf, CanBegin}
use Rattle.wb_reader.proofs.DialectLemmas.{IsClosedToken, NoneClosed, tokens_moved}

-- the tokens begin with `format`, this number and `;`
pub record HasHead (number : ℕ) (tokens : List Lexeme) : Type 0 where
  pub first : Lexeme
  pub second : Lexeme
  pub third : Lexeme
  pub rest : List Lexeme
  pub whole : tokens ≡ first ∷ second ∷ third ∷ rest
  pub is_format : IsWord word.Format first
  pub is_number : IsInt (pos number) second
  pub is_semicolon : IsMark p.Semicolon third

-- those of a specification do
pub spec_head : (tokens : List Lexeme) (spec : WrittenSpec) → IsSpecification tokens spec → HasHead spec.format tokens
spec_head tokens spec (whole {f = a} {n = b} {s = c} h known i j k l e) =
    record { first = a; second = b; third = c; rest = _; whole = e; is_format = h; is_number = i; is_semicolon = j }

pub spec_format : (tokens : List Lexeme) (spec : WrittenSpec) → IsSpecification tokens spec → IsFormat spec.format
spec_format tokens spec (whole h known i j k l e) = known

-- none of the three is `closed`
format_clear : (x : Lexeme) → IsWord word.Format x → ¬ IsClosedToken x.token
format_clear x h (inl is) = let bad : t.Word word.Format ≡ t.Word word.Closed = sym h ∙ is in absurd (cc)
format_clear x h (inr is) = absurd (cc)

number_clear : (n : ℕ) (x : Lexeme) → IsInt (pos n) x → ¬ IsClosedToken x.token
number_clear n x h (inl is) = absurd (cc)
number_clear n x h (inr is) = absurd (cc)

mark_clear : (x : Lexeme) → IsMark p.Semicolon x → ¬ IsClosedToken x.token
mark_clear x h (inl is) = absurd (cc)
mark_clear x h (inr is) = absurd (cc)

-- fewer than three tokens
pub data IsShortFront : List Lexeme → Type 0 where
  no_token : IsShortFront []
  one_token : {a : Lexeme} → IsShortFront (a ∷ [])
  two_tokens : {a b : Lexeme} → IsShortFront (a ∷ b ∷ [])

-- fewer than three tokens with which a specification begins aren't `closed`
pub short_clear : (front : List Lexeme) → IsShortFront front → CanBegin front → NoneClosed front
short_clear front no_token c = tt
short_clear front (one_token {a = a}) c =
    let h = spec_head (front ++ c.rest) c.spec c.specification in
    let is : a ≡ h.first = let e = h.whole in cc in
    (format_clear a (subst (λ (x : Lexeme). IsWord word.Format x) (sym is) h.is_format), tt)
short_clear front (two_tokens {a = a} {b = b}) c =
    let h = spec_head (front ++ c.rest) c.spec c.specification in
    let is : a ≡ h.first = let e = h.whole in cc in
    let also : b ≡ h.second = let e = h.whole in cc in (
      format_clear a (subst (λ (x : Lexeme). IsWord word.Format x) (sym is) h.is_format),
      (number_clear c.spec.format b (subst (λ (x : Lexeme). IsInt (pos c.spec.format) x) (sym also) h.is_number), tt),
    )

-- and `closed` can't follow them
pub no_closed_head : (front : List Lexeme) (y : Lexeme) → IsShortFront front → IsClosedToken y.token → ¬ CanBegin (front ++ y ∷ [])
no_closed_head front y no_token closed c =
    let h = spec_head (y ∷ c.rest) c.spec c.specification in
    let is : y ≡ h.first = let e = h.whole in cc in
    format_clear y (subst (λ (x : Lexeme). IsWord word.Format x) (sym is) h.is_format) closed
no_closed_head front y (one_token {a = a}) closed c =
    let h = spec_head (a ∷ y ∷ c.rest) c.spec c.specification in
    let is : y ≡ h.second = let e = h.whole in cc in
    number_clear c.spec.format y (subst (λ (x : Lexeme). IsInt (pos c.spec.format) x) (sym is) h.is_number) closed
no_closed_head front y (two_tokens {a = a} {b = b}) closed c =
    let h = spec_head (a ∷ b ∷ y ∷ c.rest) c.spec c.specification in
    let is : y ≡ h.third = let e = h.whole in cc in
    mark_clear y (subst (λ (x : Lexeme). IsMark p.Semicolon x) (sym is) h.is_semicolon) closed

-- tokens with which a specification begins are fewer than three, or begin with its format
pub front_cases : (front : List Lexeme) (c : CanBegin front) → IsShortFront front ⊎ HasHead c.spec.format front
front_cases [] c = inl no_token
front_cases (a ∷ []) c = inl one_token
front_cases (a ∷ b ∷ []) c = inl two_tokens
front_cases (x ∷ y ∷ z ∷ v) c =
    let h = spec_head (x ∷ y ∷ z ∷ (v ++ c.rest)) c.spec c.specification in
    let first : x ≡ h.first = let e = h.whole in cc in
    let second : y ≡ h.second = let e = h.whole in cc in
    let third : z ≡ h.third = let e = h.whole in cc in
    inr (record {
      first = x;
      second = y;
      third = z;
      rest = v;
      whole = refl;
      is_format = subst (λ (a : Lexeme). IsWord word.Format a) (sym first) h.is_format;
      is_number = subst (λ (a : Lexeme). IsInt (pos c.spec.format) a) (sym second) h.is_number;
      is_semicolon = subst (λ (a : Lexeme). IsMark p.Semicolon a) (sym third) h.is_semicolon;
    })

-- the dialects of specifications have comments
pub own_comments : (bytes : List ℕ) (dialect : Dialect) → IsDialectOf bytes dialect → has_comments dialect ≡ true
own_comments bytes Terms own = absurd own
own_comments bytes FormatOne own = refl
own_comments bytes FormatTwo own = refl

pub format_comments : (format : ℕ) → has_comments (dialect_of format) ≡ true
format_comments format = by_test (format == 2)
  where
    by_test : (b : Bool) → has_comments (if b then FormatTwo else FormatOne) ≡ true
    by_test true = refl
    by_test false = refl

-- the integer has this value
abbrev pub IsNumber : ℕ → Token → Type 0
IsNumber n token = token ≡ t.Int (pos n)

module _ (bytes : List ℕ) where
  -- the first three tokens of bytes
  abbrev pub Reads : Dialect → ℕ → List Lexeme → ℕ → Type 0
  Reads dialect from tokens to = Spells (IsNextIn dialect bytes) from tokens to

  three : (dialect : Dialect) (a b c : Lexeme) (v : List Lexeme) (to : ℕ) → Reads dialect 0 (a ∷ b ∷ c ∷ v) to
      → Reads dialect 0 (a ∷ b ∷ c ∷ []) c.end
  three dialect a b c v to (next h (next i (next j r))) = next h (next i (next j (none refl)))

  -- tokens with such a beginning are the same three in each dialect with comments
  pub head_moved : (d e : Dialect) → has_comments d ≡ true → has_comments e ≡ true → (n : ℕ) (tokens : List Lexeme) (to : ℕ)
      → Reads d 0 tokens to → (h : HasHead n tokens) → Reads e 0 (h.first ∷ h.second ∷ h.third ∷ []) h.third.end
  head_moved d e one other n tokens to r h =
      tokens_moved d e (one ∙ sym other) bytes 0 h.third.end (h.first ∷ h.second ∷ h.third ∷ [])
      (format_clear h.first h.is_format, (number_clear n h.second h.is_number, (mark_clear h.third h.is_semicolon, tt)))
      (three d h.first h.second h.third h.rest to (subst (λ l. Reads d 0 l to) h.whole r))

  -- so the bytes begin with that format
  pub head_begins : (dialect : Dialect) → has_comments dialect ≡ true → (n : ℕ) (tokens : List Lexeme) (to : ℕ) → Reads dialect 0 tokens to
      → HasHead n tokens → BeginsWithFormat bytes (IsNumber n)
  head_begins dialect comments n tokens to r h = record {
    word = h.first;
    number = h.second;
    mark = h.third;
    to = h.third.end;
    spelled = head_moved dialect FormatOne comments refl n tokens to r h;
    is_format = h.is_format;
    is_number = h.is_number;
    is_semicolon = h.is_semicolon;
  }

  one_found : (from : ℕ) (x y : Lexeme) → IsNextIn FormatOne bytes from (Found x) → IsNextIn FormatOne bytes from (Found y) → x ≡ y
  one_found from x y h i = let e = one_next FormatOne bytes from (Found x) (Found y) h i in cc

  same_second : (a b c x y z : Lexeme) (to other : ℕ) → Reads FormatOne 0 (a ∷ b ∷ c ∷ []) to → Reads FormatOne 0 (x ∷ y ∷ z ∷ []) other
      → b ≡ y
  same_second a b c x y z to other (next h (next i r)) (next j (next k s)) =
      let first = one_found 0 a x h j in
      one_found a.end b y i (subst (λ (m : Lexeme). IsNextIn FormatOne bytes m.end (Found y)) (sym first) k)

  -- two such beginnings have one number
  pub one_number : {F G : Token → Type 0} (f : BeginsWithFormat bytes F) (g : BeginsWithFormat bytes G) → f.number ≡ g.number
  one_number f g = same_second f.word f.number f.mark g.word g.number g.mark f.to g.to f.spelled g.spelled

  -- not 1 and 2
  pub not_both : BeginsWithFormat bytes (IsNumber 1) → BeginsWithFormat bytes (IsNumber 2) → ⊥
  not_both f g =
      let e : t.Int (pos 1) ≡ t.Int (pos 2) = sym f.is_number ∙ (ap (λ (x : Lexeme). x.token) (one_number f g) ∙ g.is_number) in absurd (cc)

  -- what bytes begin with says their dialect
  pub own_format : (dialect : Dialect) (n : ℕ) → IsDialectOf bytes dialect → IsFormat n → BeginsWithFormat bytes (IsNumber n)
      → dialect ≡ dialect_of n
  own_format Terms n own known begins = absurd own
  own_format FormatOne n own (inl e) begins = ap dialect_of (sym e)
  own_format FormatOne n own (inr e) begins = absurd (own (subst (λ m. BeginsWithFormat bytes (IsNumber m)) e begins))
  own_format FormatTwo n own (inl e) begins = absurd (not_both (subst (λ m. BeginsWithFormat bytes (IsNumber m)) e begins) own)
  own_format FormatTwo n own (inr e) begins = ap dialect_of (sym e)

  pub format_own : (n : ℕ) → IsFormat n → BeginsWithFormat bytes (IsNumber n) → IsDialectOf bytes (dialect_of n)
  format_own n (inl e) begins =
      subst (λ m. IsDialectOf bytes (dialect_of m)) (sym e)
      (λ two. not_both (subst (λ m. BeginsWithFormat bytes (IsNumber m)) e begins) two)
  format_own n (inr e) begins =
      subst (λ m. IsDialectOf bytes (dialect_of m)) (sym e) (subst (λ m. BeginsWithFormat bytes (IsNumber m)) e begins)

  -- bytes have one dialect
  pub one_dialect : (d e : Dialect) → IsDialectOf bytes d → IsDialectOf bytes e → d ≡ e
  one_dialect Terms e own other = absurd own
  one_dialect FormatOne Terms own other = absurd other
  one_dialect FormatOne FormatOne own other = refl
  one_dialect FormatOne FormatTwo own other = absurd (own other)
  one_dialect FormatTwo Terms own other = absurd other
  one_dialect FormatTwo FormatOne own other = absurd (other own)
  one_dialect FormatTwo FormatTwo own other = refl

  -- that of a specification's text is the one of its format
  pub written_begins : (spec : WrittenSpec) → IsWrittenText bytes spec → BeginsWithFormat bytes (IsNumber spec.format)
  written_begins spec r =
      head_begins (dialect_of spec.format) (format_comments spec.format) spec.format r.tokens r.to r.spelled
      (spec_head r.tokens spec r.specification)

  pub written_own : (spec : WrittenSpec) → IsWrittenText bytes spec → IsDialectOf bytes (dialect_of spec.format)
  written_own spec r = format_own spec.format (spec_format r.tokens spec r.specification) (written_begins spec r)

  -- tokens of the bytes' own dialect that begin with a format say it
  pub head_own : (dialect : Dialect) (n : ℕ) (tokens : List Lexeme) (to : ℕ) → IsDialectOf bytes dialect → IsFormat n
      → Reads dialect 0 tokens to
      → HasHead n tokens → dialect ≡ dialect_of n
  head_own dialect n tokens to own known r h =
      own_format dialect n own known (head_begins dialect (own_comments bytes dialect own) n tokens to r h)
