-- Lists that the table's grammar reads one element after another.
use Rattle.std.proofs.Common.{◌≡◌, ◌≤◌, ◌<◌, ℕ, zero, suc, List, [], ◌∷◌, ◌++◌, ◌⊎◌, inl, inr, refl, sym, ap, ◌∙◌, subst, length, arith}
use Rattle.std.proofs.lemmas.List.{append_assoc, append-nil, length-append}
use Rattle.wb_text_predictive.specs.declared.symbol.Symbol.TheVariants.{Nonterminal}
use Rattle.wb_syntax.specs.Tokens.{Lexeme}
use Rattle.wb_reader.specs.declared.part.Part.{Part}
use Rattle.wb_reader_builder.specs.declared.builder.SpecBuilder.{SpecBuilder}
use Rattle.wb_reader.proofs.Taking.{Row, Makes, Split}

-- one element of a list, and then the others
abbrev pub Element : {T : Type 0} → (List Lexeme → T → Type 0) → Part → Row → (List T → SpecBuilder) → List T → List Lexeme → SpecBuilder
    → Type 0
Element {T} Is n f put front w b =
    (u v : List Lexeme) × (value : T) × Is u value × (0 < length u) × (w ≡ u ++ v)
    × Makes (Nonterminal n ∷ f) v (put (front ++ value ∷ [])) b

-- after an element that has tokens fewer are left
shorter : (u v w : List Lexeme) → 0 < length u → w ≡ u ++ v → suc (length v) ≤ length w
shorter u v w some e = let l = length-append u v in let k : length w ≡ length (u ++ v) = ap length e in omega (arith, l, k, some)

module _ {T : Type 0} (Is : List Lexeme → T → Type 0) (Are : List Lexeme → List T → Type 0) (nothing : Are [] [])
    (next : (u v : List Lexeme) (value : T) (values : List T) → Is u value → Are v values → Are (u ++ v) (value ∷ values)) (n : Part)
    (f : Row) (b : SpecBuilder) (put : List T → SpecBuilder)
    (one : (front : List T) (w : List Lexeme) → Makes (Nonterminal n ∷ f) w (put front) b
    → Makes f w (put front) b ⊎ Element Is n f put front w b) where
  none_left : (front : List T) (w : List Lexeme) → Makes f w (put front) b → Split Are (λ values. put (front ++ values)) f w b
  none_left front w d = ([], w, [], nothing, refl, subst (λ l. Makes f w (put l) b) (sym (append-nil front)) d)

  -- the list from this one on, where lists over fewer tokens are known
  more_left : (m : ℕ) → ((front : List T) (v : List Lexeme) → length v ≤ m → Makes (Nonterminal n ∷ f) v (put front) b → Split Are
      (λ values. put (front ++ values)) f v b) → (front : List T) (w : List Lexeme) → length w ≤ suc m
      → Makes f w (put front) b ⊎ Element Is n f put front w b → Split Are (λ values. put (front ++ values)) f w b
  more_left m again front w h (inl e) = none_left front w e
  more_left m again front w h (inr r) =
      let s = shorter r.0 r.1 w r.4 r.5 in
      let i = again (front ++ r.2 ∷ []) r.1 (omega (arith, s, h)) r.6 in (
        r.0 ++ i.0,
        i.1,
        r.2 ∷ i.2,
        next r.0 i.0 r.2 i.2 r.3 i.3,
        r.5 ∙ (ap (λ y. r.0 ++ y) i.4 ∙ sym (append_assoc r.0 i.0 i.1)),
        subst (λ l. Makes f i.1 (put l) b) (append_assoc front (r.2 ∷ []) i.2) i.5,
      )

  no_tokens : (front : List T) (w : List Lexeme) → length w ≤ zero → Makes f w (put front) b ⊎ Element Is n f put front w b
      → Split Are (λ values. put (front ++ values)) f w b
  no_tokens front w h (inl e) = none_left front w e
  no_tokens front w h (inr r) = let s = shorter r.0 r.1 w r.4 r.5 in absurd (omega (arith, s, h))

  -- a list that is read so is in the grammar
  pub many : (fuel : ℕ) (front : List T) (w : List Lexeme) → length w ≤ fuel → Makes (Nonterminal n ∷ f) w (put front) b
      → Split Are (λ values. put (front ++ values)) f w b
  many zero front w h d = no_tokens front w h (one front w d)
  many (suc m) front w h d = more_left m (many m) front w h (one front w d)
