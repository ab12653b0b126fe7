-- Which bytes are the text of a certificate, and where other bytes first go wrong.
use Rattle.std.specs.Prelude.{◌≡◌, ◌<◌, ◌^◌, ℕ, List, [], ◌∷◌, ◌++◌, length, All, Option, Some, None}
use Rattle.wb_base.specs.Identifiers.{IsName}
use Rattle.wb_base.specs.declared.symbol.Symbol.{Symbol}
use Rattle.wb_base.specs.declared.symbol.Symbol.TheVariants.{Terminal, Nonterminal}
use Rattle.wb_recheck_theory.specs.declared.line.Line.{Line}
use Rattle.wb_recheck_theory.specs.declared.entry.Entry.{Entry}
use Rattle.wb_recheck_text.specs.Text.{certificate_text}
use Rattle.wb_recheck_text.specs.declared.certificate.Certificate.{Certificate}
use Rattle.wb_recheck_text.specs.declared.certificate.Head.{Head}
use Rattle.wb_recheck_text.specs.declared.certificate.Head.TheVariants.{Host, Extension}
use Rattle.wb_recheck_text.specs.declared.refusal.TextRefusal.{TextRefusal}
use Rattle.wb_recheck_text.specs.declared.refusal.TextRefusal.TheVariants as r

-- the number is below 2^64
abbrev pub IsSmall : ℕ → Type 0
IsSmall n = n < 2 ^ 64

-- the symbol's number is below 2^64
abbrev pub IsSymbolSmall : Symbol → Type 0
IsSymbolSmall (Terminal t) = IsSmall t
IsSymbolSmall (Nonterminal a) = IsSmall a

-- the origin's number, if it has one, is below 2^64
abbrev pub IsOriginSmall : Option ℕ → Type 0
IsOriginSmall None = Unit {0}
IsOriginSmall (Some n) = IsSmall n

-- the numbers of a kernel's line are below 2^64
pub record IsLineSmall (line : Line) : Type 0 where
  pub from : IsSmall line.from
  pub symbol : IsSymbolSmall line.symbol

-- the numbers of an entry are below 2^64
pub record IsEntrySmall (e : Entry) : Type 0 where
  pub kernel : IsSmall e.kernel
  pub production : IsSmall e.item.production
  pub dot : IsSmall e.item.dot
  pub terminal : IsSmall e.terminal
  pub origin : IsOriginSmall e.origin

-- the names are names of specifications: identifiers that aren't reserved
abbrev pub AreNames : Head → Type 0
AreNames (Host name) = IsName name
AreNames (Extension name host) = IsName name × IsName host

-- the certificate can be written: its names are names, and its numbers are below 2^64
pub record IsWritable (c : Certificate) : Type 0 where
  pub names : AreNames c.head
  pub lines : All IsLineSmall c.lines
  pub entries : All IsEntrySmall c.entries

-- the bytes are the text of the certificate, which can be written
pub record IsTextOf (text : List ℕ) (c : Certificate) : Type 0 where
  pub writable : IsWritable c
  pub is : text ≡ certificate_text c

-- some certificate's text begins with these bytes
abbrev pub CanGoOn : List ℕ → Type 0
CanGoOn front = (more : List ℕ) × (c : Certificate) × IsTextOf (front ++ more) c

-- after the bytes, which begin some certificate's text, comes a byte with which none goes on, or the end where they are none
abbrev pub IsStuck : List ℕ → List ℕ → Type 0
IsStuck front [] = (c : Certificate) → ¬ IsTextOf front c
IsStuck front (b ∷ after) = ¬ CanGoOn (front ++ b ∷ [])

-- at this place of the text is the first byte that can't follow those before it in any certificate, or the text ends there too early
pub record IsFirstFault (text : List ℕ) (at : ℕ) : Type 0 where
  pub front : List ℕ
  pub rest : List ℕ
  pub split : text ≡ front ++ rest
  pub place : at ≡ length front
  pub before : CanGoOn front
  pub stuck : IsStuck front rest

-- where the text is refused for a fault, that is its first
abbrev pub IsRefused : List ℕ → TextRefusal → Type 0
IsRefused text (r.Syntax at) = IsFirstFault text at
IsRefused text (r.NoMemory error) = Unit {0}
