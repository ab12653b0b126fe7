-- What a text is to a host with extensions, beside what it is to the host.
use Rattle.std.specs.Prelude.{◌≡◌, ℕ, Bool, List}
use Rattle.wb_scan_theory.specs.Languages.{LanguageView}
use Rattle.wb_operations.specs.Operations.{OperationSignature}
use Rattle.wb_syntax_resolved.specs.declared.resolved.ResolvedParts.{ResolvedParts}
use Rattle.wb_compose_texts.specs.Names.{name_at, terminals_of}
use Rattle.wb_compose_texts.specs.Unions.{IsLanguageOf, Union}
use Rattle.wb_reading.specs.Markers.{IsMarkerAt, IsPlain}
use Rattle.wb_compose_texts.specs.UnionMarkers.{union_markers}
use Rattle.wb_compose_texts.specs.declared.text_reading.TextReading.{TextReading}
use Rattle.wb_compose_texts.specs.declared.text_reading.TextReading.TheVariants.{Host, MarkerAt}

-- in a language whose terminals have these names, of which these are markers
module _ (names : List (List ℕ)) (markers : List Bool) (l : LanguageView) (text : List ℕ) where
  -- the first marker of the text is at the place, and has this name
  pub record HasFirstMarker (place : ℕ) (name : List ℕ) : Type 0 where
    pub terminal : ℕ
    pub first : IsMarkerAt l markers text place terminal
    pub named : name ≡ name_at names terminal

  -- the text has no marker, or this first one
  abbrev pub IsReadingIn : TextReading → Type 0
  IsReadingIn Host = IsPlain l markers text
  IsReadingIn (MarkerAt place name) = HasFirstMarker place name

-- the host has with the extensions a language, in which the text has no marker, or this first one
pub record IsUnionReading (host : ResolvedParts) (operations : List OperationSignature) (extensions : List ResolvedParts) (text : List ℕ)
    (reading : TextReading) : Type 0 where
  pub whole : Union host operations extensions
  pub language : LanguageView
  pub is_language : IsLanguageOf host operations extensions whole language
  pub is : IsReadingIn (terminals_of host extensions) (union_markers host extensions) language text reading

-- a text has one reading at most
abbrev pub HasOneReading : ResolvedParts → List OperationSignature → List ResolvedParts → Type 0
HasOneReading host operations extensions =
    (text : List ℕ) (one other : TextReading) → IsUnionReading host operations extensions text one →
    IsUnionReading host operations extensions text other → one ≡ other

-- with these extensions and with the others a text has one reading at most
abbrev pub HasSameReading : ResolvedParts → List OperationSignature → (extensions others : List ResolvedParts) → Type 0
HasSameReading host operations extensions others =
    (text : List ℕ) (one other : TextReading) → IsUnionReading host operations extensions text one →
    IsUnionReading host operations others text other → one ≡ other
