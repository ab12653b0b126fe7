-- Which format the first three tokens of a text say.
use Rattle.std.proofs.Common.{◌≡◌, ◌↔◌, ℕ, pos, List, [], ◌∷◌, refl, sym, ap, ◌∙◌, subst, ⊎_elim}
use Rattle.wb_text_predictive.specs.declared.table.Next.{Next}
use Rattle.wb_text_predictive.specs.declared.table.Next.TheVariants.{Found, End, NoToken}
use Rattle.wb_text_predictive.specs.Reading.{Spells, none, next}
use Rattle.wb_text_tokens.specs.declared.token.Dialect.TheVariants.{FormatOne}
use Rattle.wb_text_tokens.specs.declared.token.Token.{Token}
use Rattle.wb_text_tokens.specs.declared.token.Token.TheVariants as t
use Rattle.wb_text_tokens.specs.declared.word.Word.TheVariants as word
use Rattle.wb_text_tokens.specs.NextToken.{IsNextIn}
use Rattle.wb_text_tokens.proofs.PlacedLaws.{one_next}
use Rattle.std.specs.Prelude.{Bool, Option, Some, None, IsTrue}
use Rattle.std.specs.Option.{is_some}
use Rattle.wb_syntax.specs.declared.written.WrittenSpec.{WrittenSpec}
use Rattle.wb_syntax.specs.Tokens.{Lexeme}
use Rattle.wb_syntax.specs.SpecText.{IsWrittenText}
use Rattle.wb_reader.specs.declared.format.Wanted.{Wanted}
use Rattle.wb_reader.specs.declared.format.Wanted.TheVariants as w
use Rattle.wb_reader.specs.Refusals.{BeginsWithFormat, IsOtherFormat}
use Rattle.wb_reader.specs.Inner.Format.{IsWanted, IsEndWhere, IsNextEnd}
use Rattle.wb_reader.proofs.HeadLemmas.{spec_format, one_number, written_begins}

module _ (bytes : List ℕ) where
  -- this token comes next, and no token does
  abbrev Stands : ℕ → Lexeme → Type 0
  Stands from x = IsNextIn FormatOne bytes from (Found x)

  abbrev NoneStands : ℕ → Type 0
  NoneStands from = (x : Lexeme) → ¬ Stands from x

  -- where other things come next no token does
  pub ended : (from at : ℕ) → IsNextIn FormatOne bytes from (End at) → NoneStands from
  ended from at e x h = let i = one_next FormatOne bytes from (End at) (Found x) e h in absurd (cc)

  pub no_token : (from at : ℕ) → IsNextIn FormatOne bytes from (NoToken at) → NoneStands from
  no_token from at e x h = let i = one_next FormatOne bytes from (NoToken at) (Found x) e h in absurd (cc)

  parts : (a b c : Lexeme) (to : ℕ) → Spells (IsNextIn FormatOne bytes) 0 (a ∷ b ∷ c ∷ []) to
      → Stands 0 a × Stands a.end b × Stands b.end c
  parts a b c to (next i (next j (next k r))) = (i, j, k)

  one : (from : ℕ) (x y : Lexeme) → Stands from x → Stands from y → x ≡ y
  one from x y h i = let e = one_next FormatOne bytes from (Found x) (Found y) h i in cc

  -- a specification is of no other format
  pub not_written : (spec : WrittenSpec) → IsWrittenText bytes spec → ¬ IsOtherFormat bytes
  not_written spec r o =
      let begins = written_begins bytes spec r in
      let same : t.Int o.is_number.0 ≡ t.Int (pos spec.format) =
      sym o.is_number.1 ∙ (ap (λ (x : Lexeme). x.token) (one_number bytes o begins) ∙ begins.is_number) in
      let value : o.is_number.0 ≡ pos spec.format = cc in
      ⊎_elim (λ e. o.is_number.2 (value ∙ ap pos e)) (λ e. o.is_number.3 (value ∙ ap pos e))
      (spec_format r.tokens spec r.specification)

  -- where the next token is as wanted, from what is next
  pub end_found : (one : Wanted) (from : ℕ) (n : Next Token) → IsNextIn FormatOne bytes from n → (x : Lexeme) → n ≡ Found x
      → (found : Option ℕ)
      → IsEndWhere one x found → IsNextEnd bytes from one found
  end_found wanted from n h x e None isnt =
      λ y k is. isnt (subst (λ (z : Lexeme). IsWanted wanted z.token) (one from y x k (subst
      (λ m. IsNextIn FormatOne bytes from m) e h)) is)
  end_found wanted from n h x e (Some end) is = (x, subst (λ m. IsNextIn FormatOne bytes from m) e h, is.0, is.1)

  pub end_ended : (one : Wanted) (from : ℕ) (n : Next Token) → IsNextIn FormatOne bytes from n → (at : ℕ) → n ≡ End at
      → IsNextEnd bytes from one None
  end_ended one from n h at e = λ x k is. ended from at (subst (λ m. IsNextIn FormatOne bytes from m) e h) x k

  pub end_no_token : (one : Wanted) (from : ℕ) (n : Next Token) → IsNextIn FormatOne bytes from n → (at : ℕ) → n ≡ NoToken at
      → IsNextEnd bytes from one None
  end_no_token one from n h at e = λ x k is. no_token from at (subst (λ m. IsNextIn FormatOne bytes from m) e h) x k

  -- where one of the three is not as wanted the text says nothing
  pub no_word : (wanted : Wanted) (found : Option ℕ) → IsNextEnd bytes 0 w.Format found → found ≡ None
      → ¬ BeginsWithFormat bytes (IsWanted wanted)
  no_word wanted found h e r =
      let s = parts r.word r.number r.mark r.to r.spelled in subst (IsNextEnd bytes 0 w.Format) e h r.word s.0 r.is_format

  pub no_number : (wanted : Wanted) (a : ℕ) (first found : Option ℕ) → IsNextEnd bytes 0 w.Format first → first ≡ Some a
      → IsNextEnd bytes a wanted found → found ≡ None
      → ¬ BeginsWithFormat bytes (IsWanted wanted)
  no_number wanted a first found h e k q r =
      let s = parts r.word r.number r.mark r.to r.spelled in
      let x = subst (IsNextEnd bytes 0 w.Format) e h in
      let at : r.word.end ≡ a = ap (λ (y : Lexeme). y.end) (one 0 r.word x.0 s.0 x.1) ∙ x.3 in
      subst (IsNextEnd bytes a wanted) q k r.number (subst (λ from. Stands from r.number) at s.1) r.is_number

  -- where the first two are so the third decides
  pub decides : (wanted : Wanted) (a b : ℕ) (first second found : Option ℕ) → IsNextEnd bytes 0 w.Format first → first ≡ Some a
      → IsNextEnd bytes a wanted second
      → second ≡ Some b → IsNextEnd bytes b w.Semicolon found → (o : Bool) → o ≡ is_some found
      → IsTrue o ↔ BeginsWithFormat bytes (IsWanted wanted)
  decides wanted a b first second found h e k q m o same =
      let x = subst (IsNextEnd bytes 0 w.Format) e h in
      let y = subst (IsNextEnd bytes a wanted) q k in
      by_mark x.0 y.0 b x.1 x.2 (subst (λ from. Stands from y.0) (sym x.3) y.1) y.2 y.3 found m o same
    where
      by_mark : (x y : Lexeme) (b : ℕ) → Stands 0 x → x.token ≡ t.Word word.Format → Stands x.end y → IsWanted wanted y.token → y.end ≡ b
          → (found : Option ℕ)
          → IsNextEnd bytes b w.Semicolon found → (o : Bool) → o ≡ is_some found → IsTrue o ↔ BeginsWithFormat bytes (IsWanted wanted)
      by_mark x y b i p j q at None isnt o same = (
        λ is. absurd (cc),
        λ r.
            let s = parts r.word r.number r.mark r.to r.spelled in
            let e = one 0 r.word x s.0 i in
            let f = one x.end r.number y (subst (λ (z : Lexeme). Stands z.end r.number) e s.1) j in
            absurd (isnt r.mark (subst (λ from. Stands from r.mark) (ap (λ (z : Lexeme). z.end) f ∙ at) s.2) r.is_semicolon),
      )
      by_mark x y b i p j q at (Some end) is o same = (
        λ yes. record {
          word = x;
          number = y;
          mark = is.0;
          to = is.0.end;
          spelled = next i (next j (next (subst (λ from. Stands from is.0) (sym at) is.1) (none refl)));
          is_format = p;
          is_number = q;
          is_semicolon = is.2;
        },
        λ r. same,
      )
