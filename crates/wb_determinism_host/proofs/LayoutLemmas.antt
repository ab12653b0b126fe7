-- Layout of the host, and layout of an extension, are layout.
use Rattle.std.proofs.Common.{◌≡◌, ◌≢◌, ◌∙◌, ℕ, zero, suc, Bool, true, false, List, [], ◌∷◌, inl, inr, map, Some, slice_get, refl, ap}
use Rattle.std.specs.Prelude.{◌==◌, if◌then◌else◌}
use Rattle.std.proofs.lemmas.Bool.{eq-eqb, eqb-false, eqb-true, ne_eqb}
use Rattle.std.proofs.lemmas.Option.{same_Some}
use Rattle.wb_base.specs.declared.symbol.Symbol.{Symbol}
use Rattle.wb_base.specs.Grammar.{GrammarView}
use Rattle.wb_determinism_contexts.specs.Considered.{IsClashAt, IsConsideredAt}
use Rattle.wb_syntax_resolved.specs.declared.resolved.ResolvedParts.{ResolvedParts}
use Rattle.wb_syntax_resolved.specs.declared.terminal.Terminal.{Terminal}
use Rattle.wb_syntax_resolved.specs.declared.terminal.TerminalKind.{TerminalKind}
use Rattle.wb_syntax_resolved.specs.declared.terminal.TerminalKind.TheVariants.{Plain, Ignore, Marking}
use Rattle.wb_termset.specs.Sets.{IsEmpty, IsMember}
use Rattle.wb_determinism_host.specs.Lexicons.{is_host_layout, is_layout, is_own_layout, lexicon_beside, lexicon_of}

-- what holds where a condition does, holds
picked : (b x : Bool) → (if b then x else false) ≡ true → x ≡ true
picked true x is = is
picked false x is = absurd (cc is)

left : (b x : Bool) → (if b then false else x) ≡ true → x ≡ true
left true x is = absurd (cc is)
left false x is = is

-- a set of layout within another
within : (f h : Terminal → Bool) → ((t : Terminal) → f t ≡ true → h t ≡ true) → (rows : List Terminal) (t : ℕ)
    → IsMember (map f rows) t → IsMember (map h rows) t
within f h more [] t is = is
within f h more (row ∷ rows) zero is = more row is
within f h more (row ∷ rows) (suc t) is = within f h more rows t is

-- the host's layout is layout
pub host_layout_is : (rows : List Terminal) (t : ℕ) → IsMember (map is_host_layout rows) t
    → IsMember (map (λ (row : Terminal). is_layout row.kind) rows) t
host_layout_is = within is_host_layout (λ (row : Terminal). is_layout row.kind) (λ row is. picked (row.owner == 0) (is_layout row.kind) is)

-- so is an extension's
pub own_layout_is : (rows : List Terminal) (t : ℕ) → IsMember (map is_own_layout rows) t
    → IsMember (map (λ (row : Terminal). is_layout row.kind) rows) t
own_layout_is = within is_own_layout (λ (row : Terminal). is_layout row.kind) (λ row is. left (row.owner == 0) (is_layout row.kind) is)

-- nobody's layout has no member
pub nobody_empty : (rows : List Terminal) → IsEmpty (map (λ (row : Terminal). false) rows)
nobody_empty [] t is = absurd (cc is)
nobody_empty (row ∷ rows) zero is = absurd (cc is)
nobody_empty (row ∷ rows) (suc t) is = nobody_empty rows t is

-- a member of a mapped list is a row
row_of : (f : Terminal → Bool) (rows : List Terminal) (t : ℕ) → IsMember (map f rows) t
    → (row : Terminal) × (slice_get rows t ≡ Some row) × (f row ≡ true)
row_of f [] t is = absurd (cc is)
row_of f (row ∷ rows) zero is = (row, refl, is)
row_of f (row ∷ rows) (suc t) is = row_of f rows t is

-- and the other way round
member_of : (f : Terminal → Bool) (rows : List Terminal) (t : ℕ) (row : Terminal) → slice_get rows t ≡ Some row → f row ≡ true
    → IsMember (map f rows) t
member_of f [] t row at is = absurd (cc at)
member_of f (x ∷ rows) zero row at is = ap f (same_Some x row at) ∙ is
member_of f (x ∷ rows) (suc t) row at is = member_of f rows t row at is

-- layout alone is layout
kind_is : (kind : TerminalKind) → is_layout kind ≡ true → kind ≡ Ignore
kind_is Plain is = absurd (cc is)
kind_is Ignore is = refl
kind_is Marking is = absurd (cc is)

-- whether a number is 0 and something holds, or it isn't
owned : (n : ℕ) (b : Bool) → (if n == 0 then b else false) ≡ true → (n ≡ 0) × (b ≡ true)
owned n b is = by (n == 0) refl is
  where
    by : (q : Bool) → (n == 0) ≡ q → (if q then b else false) ≡ true → (n ≡ 0) × (b ≡ true)
    by true e is = (eqb-true n 0 e, is)
    by false e is = absurd (cc is)

foreign : (n : ℕ) (b : Bool) → (if n == 0 then false else b) ≡ true → (n ≢ 0) × (b ≡ true)
foreign n b is = by (n == 0) refl is
  where
    by : (q : Bool) → (n == 0) ≡ q → (if q then false else b) ≡ true → (n ≢ 0) × (b ≡ true)
    by true e is = absurd (cc is)
    by false e is = (eqb-false n 0 e, is)

owned_back : (n : ℕ) (b : Bool) → n ≡ 0 → b ≡ true → (if n == 0 then b else false) ≡ true
owned_back n b none is = ap (λ (q : Bool). if q then b else false) (eq-eqb n 0 none) ∙ is

foreign_back : (n : ℕ) (b : Bool) → n ≢ 0 → b ≡ true → (if n == 0 then false else b) ≡ true
foreign_back n b some is = ap (λ (q : Bool). if q then false else b) (ne_eqb n 0 some) ∙ is

-- a row of the host's layout, and only such a row, is a member of it
pub host_row : (rows : List Terminal) (t : ℕ) → IsMember (map is_host_layout rows) t
    → (row : Terminal) × (slice_get rows t ≡ Some row) × (row.kind ≡ Ignore) × (row.owner ≡ 0)
host_row rows t has =
    let (row, at, is) = row_of is_host_layout rows t has in
    let (zero_is, kind) = owned row.owner (is_layout row.kind) is in (row, at, kind_is row.kind kind, zero_is)

pub row_host : (rows : List Terminal) (t : ℕ) (row : Terminal) → slice_get rows t ≡ Some row → row.kind ≡ Ignore → row.owner ≡ 0
    → IsMember (map is_host_layout rows) t
row_host rows t row at kind none =
    member_of is_host_layout rows t row at (owned_back row.owner (is_layout row.kind) none (ap is_layout kind))

-- so of an extension's layout
pub own_row : (rows : List Terminal) (t : ℕ) → IsMember (map is_own_layout rows) t
    → (row : Terminal) × (slice_get rows t ≡ Some row) × (row.kind ≡ Ignore) × (row.owner ≢ 0)
own_row rows t has =
    let (row, at, is) = row_of is_own_layout rows t has in
    let (some, kind) = foreign row.owner (is_layout row.kind) is in (row, at, kind_is row.kind kind, some)

pub row_own : (rows : List Terminal) (t : ℕ) (row : Terminal) → slice_get rows t ≡ Some row → row.kind ≡ Ignore → row.owner ≢ 0
    → IsMember (map is_own_layout rows) t
row_own rows t row at kind some =
    member_of is_own_layout rows t row at (foreign_back row.owner (is_layout row.kind) some (ap is_layout kind))

-- what is considered is also where all layout is considered everywhere
pub considered_more : (r : ResolvedParts) (g k : GrammarView) (first : ℕ) (prefix : List Symbol) (t : ℕ)
    → IsConsideredAt k (lexicon_beside r g first) prefix t → IsConsideredAt k (lexicon_of r g) prefix t
considered_more r g k first prefix t (inl is) = inl is
considered_more r g k first prefix t (inr (inl is)) = inr (inl (host_layout_is r.terminals t is))
considered_more r g k first prefix t (inr (inr (is, _))) = inr (inl (own_layout_is r.terminals t is))

-- and so a clash is one there
pub clash_more : (r : ResolvedParts) (g k : GrammarView) (first : ℕ) (prefix : List Symbol) (one other : ℕ) (text : List ℕ)
    → IsClashAt k (lexicon_beside r g first) prefix one other text → IsClashAt k (lexicon_of r g) prefix one other text
clash_more r g k first prefix one other text clash = record {
  viable = clash.viable;
  different = clash.different;
  left_considered = considered_more r g k first prefix one clash.left_considered;
  right_considered = considered_more r g k first prefix other clash.right_considered;
  left_matches = clash.left_matches;
  right_matches = clash.right_matches;
  unordered = clash.unordered;
}
