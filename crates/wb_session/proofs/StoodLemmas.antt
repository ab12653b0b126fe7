-- Where the parser stands beside an older run, from token to token.
use Rattle.std.proofs.Common.{◌≡◌, ◌<◌, ◌≤◌, ℕ, List, take, refl, ◌∙◌, ap, arith}
use Rattle.std.specs.Prelude.{Option, Some, None, IfSome}
use Rattle.wb_grammar_theory.specs.Trees.{symbols}
use Rattle.wb_scan_theory.specs.Facts.{IsLanguage}
use Rattle.wb_scan.specs.Views.{LanguageParts}
use Rattle.wb_session_theory.proofs.ReadLemmas.{reads_once}
use Rattle.wb_session.specs.declared.checkpoint.Checkpoint.{Checkpoint}
use Rattle.wb_session.specs.declared.older.Ahead.{Ahead}
use Rattle.wb_session.specs.declared.older.Older.{Older}
use Rattle.wb_session.specs.declared.place.LeafPlace.{LeafPlace}
use Rattle.wb_session.specs.Stacks.{Roots}
use Rattle.wb_session.specs.Kept.{IsKept}
use Rattle.wb_session.specs.Inner.Older.{IsOlder, IsStanding}
use Rattle.wb_session.specs.Inner.Rounds.{IsTokenAt, IsWithin}
use Rattle.wb_session.specs.Inner.Standing.{Follows, IsAhead, IsAt}
use Rattle.wb_session.proofs.KnownLemmas.{known_token, same_found, same_later}

module _ (parts : LanguageParts) (ok : IsLanguage parts.language) (text : List ℕ) (older : Older) where
  -- at first
  pub stood_first : (roots : Roots) (places : List LeafPlace) (from : Checkpoint) (before number : ℕ) (a : Option Ahead) →
      IsKept parts text roots places from → take older.shared roots.entries ≡ take older.shared older.entries.now →
      IfSome a (λ ahead. IsAhead older from number ahead × IsAt older number from.at ×
      Follows older roots.entries from.link None before number) →
      IfSome a (IsStanding parts text older roots places from number)
  stood_first roots places from before number None k shares is = tt
  stood_first roots places from before number (Some ahead) k shares (is, at, follows) = record {
    is = is;
    at = at;
    kept = k;
    same = λ o. same_found parts ok text older o roots places from number at k shares follows;
  }

  -- and after a token
  pub stood_next : (roots roots' : Roots) (places places' : List LeafPlace) (from next : Checkpoint) (before number : ℕ)
      (b a : Option Ahead) → from.at < next.at → IsKept parts text roots' places' next →
      take older.shared roots'.entries ≡ take older.shared older.entries.now →
      IfSome b (IsStanding parts text older roots places from before) →
      IfSome a (λ ahead. IsAhead older next number ahead × IsAt older number next.at ×
      Follows older roots'.entries next.link b before number) →
      IfSome a (IsStanding parts text older roots' places' next number)
  stood_next roots roots' places places' from next before number b None further k shares stood is = tt
  stood_next roots roots' places places' from next before number None (Some ahead) further k shares stood (is, at, follows) = record {
    is = is;
    at = at;
    kept = k;
    same = λ o. same_found parts ok text older o roots' places' next number at k shares follows;
  }
  stood_next roots roots' places places' from next before number (Some last) (Some ahead) further k shares stood (is, at, follows) = record {
    is = is;
    at = at;
    kept = k;
    same = λ o. same_later parts ok text older o roots roots' places places' from next before number stood.at at stood.kept k further
        (stood.same o);
  }

  module _ (o : IsOlder parts text older) where
    -- then the token is next
    pub known_if : (roots : Roots) (places : List LeafPlace) (from : Checkpoint) (number : ℕ) (a : Option Ahead)
        (k : IsKept parts text roots places from) → IfSome a (IsStanding parts text older roots places from number) →
        IfSome a (IsTokenAt parts.language text (symbols k.stack) from.at)
    known_if roots places from number None k stood = tt
    known_if roots places from number (Some ahead) k stood =
        known_token parts ok text older o roots places from number ahead stood.is stood.at k
        (stood.same o ∙ ap symbols (reads_once parts.language ok text stood.kept.reads k.reads refl refl refl))

    -- and lies in the text
    pub within_if : (roots : Roots) (places : List LeafPlace) (from : Checkpoint) (number : ℕ) (a : Option Ahead) →
        IfSome a (IsStanding parts text older roots places from number) → IfSome a (IsWithin parts.language text from.at)
    within_if roots places from number None stood = tt
    within_if roots places from number (Some ahead) stood =
        let is = stood.is in
        let begins : is.place.begin ≤ is.place.lexeme = is.order.begins in
        let ends : is.place.lexeme ≤ is.place.end = is.order.ends in
        let lexeme_is = is.lexeme in
        let end_is = is.end in
        record {
          terminal = let known = is.known in omega (arith, known, o.terminals);
          order = omega (arith, ends, lexeme_is, end_is);
          within = let within = is.within in omega (arith, within, o.limit);
          further = is.further;
        }
