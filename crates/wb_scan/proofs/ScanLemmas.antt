-- What is found is what is next.
use Rattle.std.proofs.Common.{◌≡◌, ◌<◌, ◌≤◌, ◌+◌, ◌-◌, ℕ, List, length, sym, ◌∙◌, ap, subst, arith}
use Rattle.std.specs.Prelude.{Some, slice_get, slice_range}
use Rattle.wb_scan.proofs.RangeLemmas.{range_length}
use Rattle.wb_base.specs.declared.symbol.Symbol.{Symbol}
use Rattle.wb_scan_theory.specs.declared.form.Form.{Form}
use Rattle.wb_scan_theory.specs.Tokens.{token, over, missing}
use Rattle.wb_scan_theory.specs.Examined.{Scans, skips, takes, finishes, misses}
use Rattle.wb_scan_theory.specs.Parts.{IsPrefixOf}
use Rattle.wb_scan.specs.declared.scanned.Scanned.{Scanned}
use Rattle.wb_scan.specs.declared.scanned.Scanned.TheVariants.{Token, End, NoToken}
use Rattle.wb_scan.specs.declared.won.Won.{Won}
use Rattle.wb_scan.specs.declared.won.Won.TheVariants as sort
use Rattle.wb_scan.specs.Views.{LanguageParts}
use Rattle.wb_scan.specs.Scans.{next_in, IsInside}
use Rattle.wb_scan.specs.Inner.Found.{IsEnough, IsFound, IsNotFound, IsOver, IsSought, SkipsTo}

module _ (parts : LanguageParts) (state : ℕ) (text : List ℕ) where
  piece_end : (at form end : ℕ) → IsFound parts state text at form end → at + length (slice_range text at end) ≡ end
  piece_end at form end found =
      let len : length (slice_range text at end) ≡ end - at = range_length text at end found.within in
      let lt : at < end = found.some in omega arith

  -- layout is skipped
  pub skips_more : (at place form end d e here : ℕ) → SkipsTo parts state text at place d → IsFound parts state text place form end →
      IsEnough parts state text place here → d ≤ e → here ≤ e → length parts.language.forms ≤ form → SkipsTo parts state text at end e
  skips_more at place form end d e here so_far found enough le near past prefix of f further next n =
      so_far prefix of f (omega arith) next
      (skips form here (slice_range text place end) (enough.looked prefix of) (omega arith) (past, found.below) (found.wins prefix of)
      (subst (λ z. Scans parts.language text prefix f z next) (sym (piece_end place form end found)) n))

  -- a form that isn't layout is the token
  pub token_next : (at place form end d e here : ℕ) (f : Form) (result : Scanned) → SkipsTo parts state text at place d →
      IsFound parts state text place form end → IsEnough parts state text place here → d ≤ e → here ≤ e →
      slice_get parts.language.forms form ≡ Some f → result ≡ Token f.terminal place (place + length f.prefix) end →
      (prefix : List Symbol) → IsPrefixOf parts.language.grammar parts.tables state prefix →
      Scans parts.language text prefix e at (next_in text result)
  token_next at place form end d e here f result so_far found enough le near at_f is prefix of =
      subst (λ z. Scans parts.language text prefix e at (next_in text z)) (sym is)
      (so_far prefix of e le _ (takes form here f (slice_range text place end) (slice_range text (place + length f.prefix) end)
      (enough.looked prefix of) near at_f (found.wins prefix of) (found.prefix f at_f).1
      (ap (token place f.terminal (slice_range text (place + length f.prefix) end)) (sym (piece_end place form end found)))))

  pub token_inside : (at place form end : ℕ) (f : Form) (result : Scanned) → f.terminal < parts.language.grammar.terminals → at ≤ place →
      IsFound parts state text place form end →
      slice_get parts.language.forms form ≡ Some f → result ≡ Token f.terminal place (place + length f.prefix) end →
      IsInside parts.language.grammar.terminals (length text) at result
  token_inside at place form end f result below le found at_f is =
      subst (IsInside parts.language.grammar.terminals (length text) at) (sym is)
      (below, le, omega arith, (found.prefix f at_f).0, found.some, found.within)

  -- what is sought, by the sort that it was told to be
  pub sought_as : (place end : ℕ) (won other : Won) → IsSought parts state text place end won → won ≡ other →
      IsSought parts state text place end other
  sought_as place end won other sought is = subst (IsSought parts state text place end) is sought

  -- the same, of the token that is sought
  module _ (place end terminal size : ℕ) (sought : IsSought parts state text place end (sort.Token terminal size)) where
    sought_form : (form : ℕ) × (f : Form) × IsFound parts state text place form end × (slice_get parts.language.forms form ≡ Some f) ×
        (f.terminal ≡ terminal) × (length f.prefix ≡ size)
    sought_form = let (form, found, (f, at, is, len)) = sought in (form, f, found, at, is, len)

    pub sought_fits : place + size ≤ end
    sought_fits =
        let (form, f, found, at, is, len) = sought_form in
        let fits : place + length f.prefix ≤ end = (found.prefix f at).0 in omega arith

    token_of : (f : Form) (result : Scanned) → f.terminal ≡ terminal → length f.prefix ≡ size →
        result ≡ Token terminal place (place + size) end → result ≡ Token f.terminal place (place + length f.prefix) end
    token_of f result is len r = r ∙ (ap (λ t. Token t place (place + size) end) (sym is)
        ∙ ap (λ n. Token f.terminal place (place + n) end) (sym len))

    pub sought_next : (at d e here : ℕ) (result : Scanned) → SkipsTo parts state text at place d → IsEnough parts state text place here →
        d ≤ e → here ≤ e → result ≡ Token terminal place (place + size) end → (prefix : List Symbol) →
        IsPrefixOf parts.language.grammar parts.tables state prefix → Scans parts.language text prefix e at (next_in text result)
    sought_next at d e here result so_far enough le near r prefix of =
        let (form, f, found, at_f, is, len) = sought_form in
        token_next at place form end d e here f result so_far found enough le near at_f (token_of f result is len r) prefix of

    pub sought_inside : (at : ℕ) (result : Scanned) → at ≤ place → result ≡ Token terminal place (place + size) end →
        IsInside parts.language.grammar.terminals (length text) at result
    sought_inside at result le r =
        let (form, f, found, at_f, is, len) = sought_form in
        token_inside at place form end f result (found.terminal f at_f) le found at_f (token_of f result is len r)

  -- and of layout that is sought
  module _ (place end : ℕ) (sought : IsSought parts state text place end sort.Layout) where
    pub sought_goes_on : (place < end) × (end ≤ length text)
    sought_goes_on = let (form, found, past) = sought in (found.some, found.within)

    pub sought_skips : (at d e here : ℕ) → SkipsTo parts state text at place d → IsEnough parts state text place here → d ≤ e → here ≤ e →
        SkipsTo parts state text at end e
    sought_skips at d e here so_far enough le near =
        let (form, found, past) = sought in skips_more at place form end d e here so_far found enough le near past

  -- where nothing is found, the end is next, or nothing
  pub over_next : (at place d e here : ℕ) (result : Scanned) → SkipsTo parts state text at place d → IsNotFound parts state text place →
      IsEnough parts state text place here → d ≤ e → here ≤ e → IsOver (length text) place result → (prefix : List Symbol) →
      IsPrefixOf parts.language.grammar parts.tables state prefix → Scans parts.language text prefix e at (next_in text result)
  over_next at place d e here (Token terminal begin lexeme end) so_far none enough le near is prefix of = absurd is
  over_next at place d e here (End there) so_far none enough le near (same, is) prefix of =
      let on : place < here = enough.on in
      let seen : length text < e = omega arith in
      so_far prefix of e le (over there) (finishes is seen (ap over same))
  over_next at place d e here (NoToken there) so_far none enough le near (same, lt) prefix of =
      so_far prefix of e le (missing there) (misses here (enough.looked prefix of) near lt (none prefix of) (ap missing same))

  pub over_inside : (at place : ℕ) (result : Scanned) → at ≤ place → place ≤ length text → IsOver (length text) place result →
      IsInside parts.language.grammar.terminals (length text) at result
  over_inside at place (Token terminal begin lexeme end) le within is = absurd is
  over_inside at place (End here) le within (same, is) = (omega arith, omega arith)
  over_inside at place (NoToken here) le within (same, lt) = (omega arith, omega arith)
