-- Bytes have one answer: the causes of refusals exclude each other, and each excludes that the bytes are taken.
use Rattle.std.proofs.Common.{◌≡◌, ℕ, List, [], ◌∷◌, ◌++◌, refl, sym, ap, ◌∙◌, subst, arith, All}
use Rattle.std.specs.List.{AllZip}
use Rattle.std.proofs.lemmas.List.Elements.{All-head, All-tail}
use Rattle.wb_regex.specs.Text.{IsFirstFault}
use Rattle.wb_regex.specs.Answer.{IsEmptyRegex}
use Rattle.wb_regex.specs.Matches.{Matches}
use Rattle.wb_regex.proofs.CallerLemmas.{one, sound, first}
use Rattle.wb_syntax.specs.declared.item.Item.{Item}
use Rattle.wb_syntax.specs.declared.item.ItemForm.{ItemForm}
use Rattle.wb_syntax.specs.declared.item.ItemForm.TheVariants as f
use Rattle.wb_syntax.specs.declared.pattern.Role.{Role}
use Rattle.wb_syntax.specs.declared.pattern.WrittenPattern.{WrittenPattern}
use Rattle.wb_syntax.specs.declared.written.WrittenSpec.{WrittenSpec}
use Rattle.wb_syntax.specs.SpecText.{SpecView, IsWrittenText, IsSpecText, IsReadAs}
use Rattle.wb_reader.specs.declared.refusal.SpecRefusal.{SpecRefusal}
use Rattle.wb_reader.specs.declared.refusal.SpecRefusal.TheVariants.{TooLong, WrongFormat, Syntax, BadRegex, MatchesEmpty, NoMemory}
use Rattle.wb_reader.specs.Refusals.{IsShort, IsTaken, lexical_item, HasPattern, IsBadRegex, IsEmptyPattern, HasCause, IsAcceptedText}
use Rattle.wb_reader.specs.Inner.Patterns.{OnForm, OnItems}
use Rattle.wb_reader.specs.OneAnswer.{IsNoMemory}
use Rattle.wb_reader.specs.OneAnswer.{HasOneAnswer}
use Rattle.wb_reader.proofs.FormatLemmas.{not_written}
use Rattle.wb_reader.proofs.PatternLemmas.{all_taken}
use Rattle.wb_reader.proofs.OneText.{one_written, no_fault, one_fault}

-- the first item that isn't taken is one
one_split : (u v : List (Item WrittenPattern)) (p q : Item WrittenPattern) (x y : List (Item WrittenPattern)) → u ++ p ∷ x ≡ v ++ q ∷ y
    → All IsTaken u → All IsTaken v → ¬ IsTaken p → ¬ IsTaken q → p ≡ q
one_split [] [] p q x y e a b h k = cc
one_split [] (j ∷ v) p q x y e a b h k = let i : p ≡ j = cc in absurd (h (subst IsTaken (sym i) (All-head IsTaken j v b)))
one_split (i ∷ u) [] p q x y e a b h k = let j : i ≡ q = cc in absurd (k (subst IsTaken j (All-head IsTaken i u a)))
one_split (i ∷ u) (j ∷ v) p q x y e a b h k = one_split u v p q x y (cc) (All-tail IsTaken i u a) (All-tail IsTaken j v b) h k

-- an expression with an error, or one that matches the empty text, isn't taken
fault_untaken : (bytes : List ℕ) (offset o at : ℕ) (name : List ℕ) (role : Role) → IsFirstFault bytes o
    → ¬ IsTaken (lexical_item offset role name bytes at)
fault_untaken bytes offset o at name role f t = sound bytes t.0 o t.1.text f

empty_untaken : (bytes : List ℕ) (offset at : ℕ) (name : List ℕ) (role : Role) → IsEmptyRegex bytes
    → ¬ IsTaken (lexical_item offset role name bytes at)
empty_untaken bytes offset at name role f t = t.1.some (subst (λ tree. Matches tree []) (one bytes f.tree t.0 f.reads t.1.text) f.empty)

-- two patterns that come first are one
same_pattern : (text : List ℕ) (n m b c : List ℕ) (at place : ℕ) (r : HasPattern text n b at) (s : HasPattern text m c place)
    → ¬ IsTaken (lexical_item r.offset r.role n b at) → ¬ IsTaken (lexical_item s.offset s.role m c place)
    → lexical_item r.offset r.role n b at ≡ lexical_item s.offset s.role m c place
same_pattern text n m b c at place r s h k =
    let e : r.spec ≡ s.spec = one_written text r.spec s.spec r.written s.written in
    let i : r.spec.items ≡ s.spec.items = ap (λ (w : WrittenSpec). w.items) e in
    one_split r.before s.before _ _ r.after s.after (sym r.items ∙ (i ∙ s.items)) r.taken s.taken h k

-- and so are their names, their bytes and their places
same_parts : (offset other : ℕ) (role kind : Role) (n m b c : List ℕ) (at place : ℕ)
    → lexical_item offset role n b at ≡ lexical_item other kind m c place
    → (n ≡ m) × (b ≡ c) × (at ≡ place)
same_parts offset other role kind n m b c at place e =
    let one : WrittenPattern = record { bytes = b; at = at } in
    let two : WrittenPattern = record { bytes = c; at = place } in
    let here : ItemForm WrittenPattern = f.Lexical role n one in
    let there : ItemForm WrittenPattern = f.Lexical kind m two in
    let form : here ≡ there = ap (λ (x : Item WrittenPattern). x.form) e in
    let name : n ≡ m = cc in
    let pattern : one ≡ two = cc in
    (name, ap (λ (x : WrittenPattern). x.bytes) pattern, ap (λ (x : WrittenPattern). x.at) pattern)

-- what is taken has no such pattern
no_pattern : (text : List ℕ) (spec : SpecView) (n b : List ℕ) (at : ℕ) (r : HasPattern text n b at) → IsSpecText text spec
    → IsTaken (lexical_item r.offset r.role n b at)
no_pattern text spec n b at r s =
    let e : s.written ≡ r.spec = one_written text s.written r.spec s.text r.written in
    let z : AllZip IsReadAs r.spec.items spec.items = subst (λ (w : WrittenSpec). AllZip IsReadAs w.items spec.items) e s.read.items in
    let a = all_taken r.spec.items spec.items z in
    within r.before (lexical_item r.offset r.role n b at) r.after (subst (All IsTaken) r.items a)
  where
    within : (u : List (Item WrittenPattern)) (p : Item WrittenPattern) (x : List (Item WrittenPattern)) → All IsTaken (u ++ p ∷ x)
        → IsTaken p
    within [] p x a = All-head IsTaken p x a
    within (i ∷ u) p x a = within u p x (All-tail IsTaken i (u ++ p ∷ x) a)

-- no refusal has a cause where the bytes are taken
pub none_refused : (bytes : List ℕ) (spec : SpecView) (e : SpecRefusal) → IsAcceptedText bytes spec → HasCause bytes e → IsNoMemory e
none_refused bytes spec TooLong a c = let s = a.0 in absurd (omega (arith, s, c))
none_refused bytes spec WrongFormat a c = not_written bytes a.1.written a.1.text c.1
none_refused bytes spec (Syntax at) a c = no_fault bytes a.1.written at a.1.text c.2
none_refused bytes spec (BadRegex at) a c =
    fault_untaken c.1.bytes c.1.pattern.offset c.1.offset c.1.at c.1.name c.1.pattern.role c.1.fault
    (no_pattern bytes spec c.1.name c.1.bytes c.1.at c.1.pattern a.1)
none_refused bytes spec (MatchesEmpty name) a c =
    empty_untaken c.1.bytes c.1.pattern.offset c.1.at name c.1.pattern.role c.1.empty
    (no_pattern bytes spec name c.1.bytes c.1.at c.1.pattern a.1)
none_refused bytes spec (NoMemory e) a c = tt

-- two bad expressions are one, and have their first error at one place
one_bad : (bytes : List ℕ) (at place : ℕ) → IsBadRegex bytes at → IsBadRegex bytes place → at ≡ place
one_bad bytes at place r s =
    let e = same_pattern bytes r.name s.name r.bytes s.bytes r.at s.at r.pattern s.pattern
    (fault_untaken r.bytes r.pattern.offset r.offset r.at r.name r.pattern.role r.fault)
    (fault_untaken s.bytes s.pattern.offset s.offset s.at s.name s.pattern.role s.fault) in
    let parts = same_parts r.pattern.offset s.pattern.offset r.pattern.role s.pattern.role r.name s.name r.bytes s.bytes r.at s.at e in
    let b = parts.1 in
    let a = parts.2 in
    let o : r.offset ≡ s.offset = first s.bytes r.offset s.offset (subst (λ x. IsFirstFault x r.offset) b r.fault) s.fault in
    let i = r.is in
    let j = s.is in
    omega (arith, a, o, i, j)

not_both : (bytes : List ℕ) (at : ℕ) (name : List ℕ) → IsBadRegex bytes at → ¬ IsEmptyPattern bytes name
not_both bytes at name r s =
    let e = same_pattern bytes r.name name r.bytes s.bytes r.at s.at r.pattern s.pattern
    (fault_untaken r.bytes r.pattern.offset r.offset r.at r.name r.pattern.role r.fault)
    (empty_untaken s.bytes s.pattern.offset s.at name s.pattern.role s.empty) in
    let b = (same_parts r.pattern.offset s.pattern.offset r.pattern.role s.pattern.role r.name name r.bytes s.bytes r.at s.at e).1 in
    sound s.bytes s.empty.tree r.offset s.empty.reads (subst (λ x. IsFirstFault x r.offset) b r.fault)

one_empty : (bytes name other : List ℕ) → IsEmptyPattern bytes name → IsEmptyPattern bytes other → name ≡ other
one_empty bytes name other r s =
    let e = same_pattern bytes name other r.bytes s.bytes r.at s.at r.pattern s.pattern
    (empty_untaken r.bytes r.pattern.offset r.at name r.pattern.role r.empty)
    (empty_untaken s.bytes s.pattern.offset s.at other s.pattern.role s.empty) in
    (same_parts r.pattern.offset s.pattern.offset r.pattern.role s.pattern.role name other r.bytes s.bytes r.at s.at e).0

-- two refusals that both have a cause are one
pub one_refusal : (bytes : List ℕ) (e f : SpecRefusal) → HasCause bytes e → HasCause bytes f → ¬ IsNoMemory e → ¬ IsNoMemory f → e ≡ f
one_refusal bytes (NoMemory a) f c d h k = absurd (h tt)
one_refusal bytes e (NoMemory b) c d h k = absurd (k tt)
one_refusal bytes TooLong TooLong c d h k = refl
one_refusal bytes TooLong WrongFormat c d h k = let s = d.0 in absurd (omega (arith, c, s))
one_refusal bytes TooLong (Syntax b) c d h k = let s = d.0 in absurd (omega (arith, c, s))
one_refusal bytes TooLong (BadRegex b) c d h k = let s = d.0 in absurd (omega (arith, c, s))
one_refusal bytes TooLong (MatchesEmpty b) c d h k = let s = d.0 in absurd (omega (arith, c, s))
one_refusal bytes WrongFormat TooLong c d h k = let s = c.0 in absurd (omega (arith, d, s))
one_refusal bytes (Syntax a) TooLong c d h k = let s = c.0 in absurd (omega (arith, d, s))
one_refusal bytes (BadRegex a) TooLong c d h k = let s = c.0 in absurd (omega (arith, d, s))
one_refusal bytes (MatchesEmpty a) TooLong c d h k = let s = c.0 in absurd (omega (arith, d, s))
one_refusal bytes WrongFormat WrongFormat c d h k = refl
one_refusal bytes WrongFormat (Syntax b) c d h k = absurd (d.1 c.1)
one_refusal bytes (Syntax a) WrongFormat c d h k = absurd (c.1 d.1)
one_refusal bytes WrongFormat (BadRegex b) c d h k = absurd (not_written bytes d.1.pattern.spec d.1.pattern.written c.1)
one_refusal bytes (BadRegex a) WrongFormat c d h k = absurd (not_written bytes c.1.pattern.spec c.1.pattern.written d.1)
one_refusal bytes WrongFormat (MatchesEmpty b) c d h k = absurd (not_written bytes d.1.pattern.spec d.1.pattern.written c.1)
one_refusal bytes (MatchesEmpty a) WrongFormat c d h k = absurd (not_written bytes c.1.pattern.spec c.1.pattern.written d.1)
one_refusal bytes (Syntax a) (Syntax b) c d h k = ap (λ x. Syntax x) (one_fault bytes a b c.2 d.2)
one_refusal bytes (Syntax a) (BadRegex b) c d h k = absurd (no_fault bytes d.1.pattern.spec a d.1.pattern.written c.2)
one_refusal bytes (BadRegex a) (Syntax b) c d h k = absurd (no_fault bytes c.1.pattern.spec b c.1.pattern.written d.2)
one_refusal bytes (Syntax a) (MatchesEmpty b) c d h k = absurd (no_fault bytes d.1.pattern.spec a d.1.pattern.written c.2)
one_refusal bytes (MatchesEmpty a) (Syntax b) c d h k = absurd (no_fault bytes c.1.pattern.spec b c.1.pattern.written d.2)
one_refusal bytes (BadRegex a) (BadRegex b) c d h k = ap (λ x. BadRegex x) (one_bad bytes a b c.1 d.1)
one_refusal bytes (BadRegex a) (MatchesEmpty b) c d h k = absurd (not_both bytes a b c.1 d.1)
one_refusal bytes (MatchesEmpty a) (BadRegex b) c d h k = absurd (not_both bytes b a d.1 c.1)
one_refusal bytes (MatchesEmpty a) (MatchesEmpty b) c d h k = ap (λ x. MatchesEmpty x) (one_empty bytes a b c.1 d.1)

pub one_answer : HasOneAnswer
one_answer = (none_refused, one_refusal)

-- memory may run out at any bytes
only_memory : (text : List ℕ) (e : SpecRefusal) → IsNoMemory e → HasCause text e
only_memory text (NoMemory error) on = tt
only_memory text TooLong on = absurd on
only_memory text WrongFormat on = absurd on
only_memory text (Syntax at) on = absurd on
only_memory text (BadRegex at) on = absurd on
only_memory text (MatchesEmpty name) on = absurd on

-- why a form isn't taken is why the bytes aren't
caused : (text : List ℕ) (spec : WrittenSpec) (before after : List (Item WrittenPattern)) (offset : ℕ) (form : ItemForm WrittenPattern)
    (e : SpecRefusal)
    → IsShort text → IsWrittenText text spec → spec.items ≡ before ++ record { offset = offset; form = form } ∷ after → All IsTaken before
    → OnForm form e
    → HasCause text e
caused text spec before after offset (f.Lexical role name pattern) (BadRegex place) short written items taken on = (
  short,
  record {
    name = name;
    bytes = pattern.bytes;
    at = pattern.at;
    pattern =
        record {
          spec = spec;
          written = written;
          before = before;
          after = after;
          offset = offset;
          role = role;
          items = items;
          taken = taken;
        };
    offset = on.0;
    fault = on.1;
    is = on.2;
  },
)
caused text spec before after offset (f.Lexical role name pattern) (MatchesEmpty other) short written items taken on =
    subst (λ x. HasCause text (MatchesEmpty x)) (sym on.1) (
      short,
      record {
        bytes = pattern.bytes;
        at = pattern.at;
        pattern =
            record {
              spec = spec;
              written = written;
              before = before;
              after = after;
              offset = offset;
              role = role;
              items = items;
              taken = taken;
            };
        empty = on.0;
      },
    )
caused text spec before after offset (f.Lexical role name pattern) (NoMemory error) short written items taken on = tt
caused text spec before after offset (f.Lexical role name pattern) TooLong short written items taken on = absurd on
caused text spec before after offset (f.Lexical role name pattern) WrongFormat short written items taken on = absurd on
caused text spec before after offset (f.Lexical role name pattern) (Syntax at) short written items taken on = absurd on
caused text spec before after offset (f.Plain plain) e short written items taken on = only_memory text e on
caused text spec before after offset (f.Production role production) e short written items taken on = only_memory text e on
caused text spec before after offset (f.Aspect name equations) e short written items taken on = only_memory text e on

-- and so is why the first of the items that isn't taken isn't
pub items_caused : (text : List ℕ) (spec : WrittenSpec) (e : SpecRefusal) → IsShort text → IsWrittenText text spec → OnItems spec.items e
    → HasCause text e
items_caused text spec (BadRegex place) short written on =
    caused text spec on.before on.after on.item.offset on.item.form (BadRegex place) short written on.split on.taken on.refused
items_caused text spec (MatchesEmpty name) short written on =
    caused text spec on.before on.after on.item.offset on.item.form (MatchesEmpty name) short written on.split on.taken on.refused
items_caused text spec (NoMemory error) short written on = tt
items_caused text spec TooLong short written on = absurd on
items_caused text spec WrongFormat short written on = absurd on
items_caused text spec (Syntax at) short written on = absurd on
