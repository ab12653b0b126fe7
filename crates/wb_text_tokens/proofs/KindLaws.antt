-- Kinds are equal exactly where they are one value, each but the end has a token, and a kind says what its tokens are.
use Rattle.std.proofs.Common.{◌≡◌, ◌↔◌, ℕ, ℤ, pos, negsuc, List, Bool, true, false, cond, refl, sym, ap, subst}
use Rattle.std.specs.Prelude.{◌==◌}
use Rattle.std.proofs.lemmas.Bool.{eqb-true}
use denote.Enum.Bare.{same_true, true_same}
use Rattle.wb_text_tokens.specs.contracts.word.Word as word_type
use Rattle.wb_text_tokens.specs.contracts.punctuation.Punctuation as mark_type
use Rattle.wb_text_tokens.specs.declared.kind.TokenKind.{TokenKind}
use Rattle.wb_text_tokens.specs.declared.kind.TokenKind.TheVariants.{Word, Mark, Name, One, Two, Number, String, Regex, End}
use Rattle.wb_text_tokens.specs.declared.punctuation.Punctuation.{Punctuation}
use Rattle.wb_text_tokens.specs.declared.token.Token.{Token}
use Rattle.wb_text_tokens.specs.declared.token.Token.TheVariants as t
use Rattle.wb_text_tokens.specs.declared.word.Word.{Word as ReservedWord}
use Rattle.wb_text_tokens.specs.Kinds.{kind_of, integer_kind}
use Rattle.wb_text_tokens.specs.Inner.SameKind.{same_kind}
use Rattle.wb_text_tokens.proofs.SampleLemmas.{sample}

-- where the test fails, it doesn't hold
fails : {X : Type 0} → false ≡ true → X
fails h = absurd (cc)

-- where the test holds, they are
same_kind_true : (a b : TokenKind) → same_kind a b ≡ true → a ≡ b
same_kind_true (Word a) (Word b) h = ap Word (same_true word_type.the_type tt a b h)
same_kind_true (Word a) (Mark b) h = fails h
same_kind_true (Word a) Name h = fails h
same_kind_true (Word a) One h = fails h
same_kind_true (Word a) Two h = fails h
same_kind_true (Word a) Number h = fails h
same_kind_true (Word a) String h = fails h
same_kind_true (Word a) Regex h = fails h
same_kind_true (Word a) End h = fails h
same_kind_true (Mark a) (Word b) h = fails h
same_kind_true (Mark a) (Mark b) h = ap Mark (same_true mark_type.the_type tt a b h)
same_kind_true (Mark a) Name h = fails h
same_kind_true (Mark a) One h = fails h
same_kind_true (Mark a) Two h = fails h
same_kind_true (Mark a) Number h = fails h
same_kind_true (Mark a) String h = fails h
same_kind_true (Mark a) Regex h = fails h
same_kind_true (Mark a) End h = fails h
same_kind_true Name (Word b) h = fails h
same_kind_true Name (Mark b) h = fails h
same_kind_true Name Name h = refl
same_kind_true Name One h = fails h
same_kind_true Name Two h = fails h
same_kind_true Name Number h = fails h
same_kind_true Name String h = fails h
same_kind_true Name Regex h = fails h
same_kind_true Name End h = fails h
same_kind_true One (Word b) h = fails h
same_kind_true One (Mark b) h = fails h
same_kind_true One Name h = fails h
same_kind_true One One h = refl
same_kind_true One Two h = fails h
same_kind_true One Number h = fails h
same_kind_true One String h = fails h
same_kind_true One Regex h = fails h
same_kind_true One End h = fails h
same_kind_true Two (Word b) h = fails h
same_kind_true Two (Mark b) h = fails h
same_kind_true Two Name h = fails h
same_kind_true Two One h = fails h
same_kind_true Two Two h = refl
same_kind_true Two Number h = fails h
same_kind_true Two String h = fails h
same_kind_true Two Regex h = fails h
same_kind_true Two End h = fails h
same_kind_true Number (Word b) h = fails h
same_kind_true Number (Mark b) h = fails h
same_kind_true Number Name h = fails h
same_kind_true Number One h = fails h
same_kind_true Number Two h = fails h
same_kind_true Number Number h = refl
same_kind_true Number String h = fails h
same_kind_true Number Regex h = fails h
same_kind_true Number End h = fails h
same_kind_true String (Word b) h = fails h
same_kind_true String (Mark b) h = fails h
same_kind_true String Name h = fails h
same_kind_true String One h = fails h
same_kind_true String Two h = fails h
same_kind_true String Number h = fails h
same_kind_true String String h = refl
same_kind_true String Regex h = fails h
same_kind_true String End h = fails h
same_kind_true Regex (Word b) h = fails h
same_kind_true Regex (Mark b) h = fails h
same_kind_true Regex Name h = fails h
same_kind_true Regex One h = fails h
same_kind_true Regex Two h = fails h
same_kind_true Regex Number h = fails h
same_kind_true Regex String h = fails h
same_kind_true Regex Regex h = refl
same_kind_true Regex End h = fails h
same_kind_true End (Word b) h = fails h
same_kind_true End (Mark b) h = fails h
same_kind_true End Name h = fails h
same_kind_true End One h = fails h
same_kind_true End Two h = fails h
same_kind_true End Number h = fails h
same_kind_true End String h = fails h
same_kind_true End Regex h = fails h
same_kind_true End End h = refl

-- each is the same as itself
same_kind_self : (a : TokenKind) → same_kind a a ≡ true
same_kind_self (Word a) = true_same word_type.the_type a a refl
same_kind_self (Mark a) = true_same mark_type.the_type a a refl
same_kind_self Name = refl
same_kind_self One = refl
same_kind_self Two = refl
same_kind_self Number = refl
same_kind_self String = refl
same_kind_self Regex = refl
same_kind_self End = refl

-- kinds are equal exactly where they are one value
pub kinds_same : (a b : TokenKind) → (same_kind a b ≡ true) ↔ (a ≡ b)
kinds_same a b = (same_kind_true a b, λ e. subst (λ k. same_kind a k ≡ true) e (same_kind_self a))

-- each kind but the end has a token
pub kinds_sampled : (kind : TokenKind) → same_kind kind End ≡ false → (x : Token) × (kind_of x ≡ kind)
kinds_sampled (Word word) h = (t.Word word, refl)
kinds_sampled (Mark mark) h = (t.Punctuation mark, refl)
kinds_sampled Name h = (sample Name, refl)
kinds_sampled One h = (sample One, refl)
kinds_sampled Two h = (sample Two, refl)
kinds_sampled Number h = (sample Number, refl)
kinds_sampled String h = (sample String, refl)
kinds_sampled Regex h = (sample Regex, refl)
kinds_sampled End h = fails (sym h)

-- what a token of the kind is
abbrev IsOfKind : TokenKind → Token → Type 0
IsOfKind (Word word) x = x ≡ t.Word word
IsOfKind (Mark mark) x = x ≡ t.Punctuation mark
IsOfKind Name x = (text : List ℕ) × (x ≡ t.Name text)
IsOfKind One x = x ≡ t.Int (pos 1)
IsOfKind Two x = x ≡ t.Int (pos 2)
IsOfKind Number x = (value : ℤ) × (x ≡ t.Int value)
IsOfKind String x = (text : List ℕ) × (x ≡ t.Text text)
IsOfKind Regex x = (body : List ℕ) × (x ≡ t.Regex body)
IsOfKind End x = ⊥

-- an integer is of its kind
integer_of_kind : (z : ℤ) → IsOfKind (integer_kind z) (t.Int z)
integer_of_kind (pos n) = by_tests (n == 1) (n == 2) refl refl
  where
    by_tests : (c d : Bool) → (n == 1) ≡ c → (n == 2) ≡ d → IsOfKind (cond c One (cond d Two Number)) (t.Int (pos n))
    by_tests true d h k = ap (λ m. t.Int (pos m)) (eqb-true n 1 h)
    by_tests false true h k = ap (λ m. t.Int (pos m)) (eqb-true n 2 k)
    by_tests false false h k = (pos n, refl)
integer_of_kind (negsuc n) = (negsuc n, refl)

-- each token is of its kind
of_own_kind : (x : Token) → IsOfKind (kind_of x) x
of_own_kind (t.Name text) = (text, refl)
of_own_kind (t.Word word) = refl
of_own_kind (t.Int value) = integer_of_kind value
of_own_kind (t.Text text) = (text, refl)
of_own_kind (t.Regex body) = (body, refl)
of_own_kind (t.Punctuation mark) = refl

of_kind : (x : Token) (kind : TokenKind) → kind_of x ≡ kind → IsOfKind kind x
of_kind x kind e = subst (λ k. IsOfKind k x) e (of_own_kind x)

-- tokens by their kind
pub word_by_kind : (x : Token) (word : ReservedWord) → kind_of x ≡ Word word → x ≡ t.Word word
word_by_kind x word e = of_kind x (Word word) e

pub mark_by_kind : (x : Token) (mark : Punctuation) → kind_of x ≡ Mark mark → x ≡ t.Punctuation mark
mark_by_kind x mark e = of_kind x (Mark mark) e

pub name_by_kind : (x : Token) → kind_of x ≡ Name → (text : List ℕ) × (x ≡ t.Name text)
name_by_kind x e = of_kind x Name e

pub string_by_kind : (x : Token) → kind_of x ≡ String → (text : List ℕ) × (x ≡ t.Text text)
string_by_kind x e = of_kind x String e

pub regex_by_kind : (x : Token) → kind_of x ≡ Regex → (body : List ℕ) × (x ≡ t.Regex body)
regex_by_kind x e = of_kind x Regex e

pub number_by_kind : (x : Token) → kind_of x ≡ Number → (value : ℤ) × (x ≡ t.Int value)
number_by_kind x e = of_kind x Number e

-- an integer of the first kind is 1, and one of the second is 2
pub one_by_kind : (x : Token) → kind_of x ≡ One → x ≡ t.Int (pos 1)
one_by_kind x e = of_kind x One e

pub two_by_kind : (x : Token) → kind_of x ≡ Two → x ≡ t.Int (pos 2)
two_by_kind x e = of_kind x Two e
