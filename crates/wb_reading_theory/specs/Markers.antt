-- The first place of a text at which a marker is next.
use Rattle.std.specs.Prelude.{◌≡◌, ◌++◌, ◌∷◌, [], ℕ, Bool, List}
use Rattle.wb_base.specs.declared.symbol.Symbol.{Symbol}
use Rattle.wb_termset.specs.Sets.{IsMember}
use Rattle.wb_grammar_theory.specs.Trees.{Forest, Leaf, leaves, DerivationTree}
use Rattle.wb_scan_theory.specs.Languages.{LanguageView}
use Rattle.wb_scan_theory.specs.Readings.{AreOnText}
use Rattle.wb_scan_theory.specs.Tokens.{NextToken, token}

-- none of the leaves is a marker
abbrev pub HasNoMarker : List Bool → List Leaf → Type 0
HasNoMarker markers [] = Unit {0}
HasNoMarker markers (x ∷ xs) = (¬ IsMember markers x.terminal) × HasNoMarker markers xs

-- the first marker of the text is this one, and begins at the place: some derivation tree begins with leaves that are on the text, none of
-- them a marker, and next after them is this marker
pub record IsMarkerAt (u : LanguageView) (markers : List Bool) (text : List ℕ) (at marker : ℕ) : Type 0 where
  pub tree : Forest
  pub is_tree : DerivationTree u.grammar tree
  pub read : List Leaf
  pub rest : List Leaf
  pub is : leaves [] tree ≡ read ++ rest
  pub before : HasNoMarker markers read
  pub prefix : List Symbol
  pub from : ℕ
  pub on_text : AreOnText (NextToken u text) [] 0 read prefix from
  pub lexeme : List ℕ
  pub after : ℕ
  pub is_next : NextToken u text prefix from (token at marker lexeme after)
  pub marks : IsMember markers marker

-- the text has no marker: wherever it is read, none is next
abbrev pub IsPlain : LanguageView → List Bool → List ℕ → Type 0
IsPlain u markers text = (at marker : ℕ) → ¬ IsMarkerAt u markers text at marker
