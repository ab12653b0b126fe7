-- Which tokens are which items, and which are a specification.
use Rattle.std.specs.Prelude.{◌≡◌, ◌⊎◌, ℕ, pos, List, [], ◌∷◌, ◌++◌}
use Rattle.wb_text_tokens.specs.declared.word.Word.TheVariants as w
use Rattle.wb_text_tokens.specs.declared.punctuation.Punctuation.TheVariants as p
use Rattle.wb_syntax.specs.declared.production.Child.{Child}
use Rattle.wb_syntax.specs.declared.production.Production.{Production}
use Rattle.wb_syntax.specs.declared.production.ProductionRole.{ProductionRole}
use Rattle.wb_syntax.specs.declared.production.ProductionRole.TheVariants as k
use Rattle.wb_syntax.specs.declared.item.Item.{Item}
use Rattle.wb_syntax.specs.declared.item.ItemForm.TheVariants as f
use Rattle.wb_syntax.specs.declared.item.PlainForm.{PlainForm}
use Rattle.wb_syntax.specs.declared.item.PlainForm.TheVariants as i
use Rattle.wb_syntax.specs.declared.pattern.Role.{Role}
use Rattle.wb_syntax.specs.declared.pattern.Role.TheVariants as r
use Rattle.wb_syntax.specs.declared.pattern.WrittenPattern.{WrittenPattern}
use Rattle.wb_syntax.specs.declared.expression.Equation.{Equation}
use Rattle.wb_syntax.specs.declared.header.Header.{Header}
use Rattle.wb_syntax.specs.declared.header.Header.TheVariants as h
use Rattle.wb_syntax.specs.declared.written.WrittenSpec.{WrittenSpec}
use Rattle.wb_syntax.specs.Tokens.{Lexeme, IsWord, IsMark, IsName, IsInt, IsRegex}
use Rattle.wb_syntax.specs.PartGrammar.{AreChildren, IsBlock}
use Rattle.wb_syntax.specs.Fields.{Field, AreFields}
use Rattle.wb_syntax.specs.Fields as field

-- the word with which an item with a regular expression begins: 'terminal', 'ignore' or 'marking'
abbrev pub IsRole : Role → Lexeme → Type 0
IsRole r.Terminal x = IsWord w.Terminal x
IsRole r.Ignore x = IsWord w.Ignore x
IsRole r.Marking x = IsWord w.Marking x

-- the word with which a production begins: 'concrete' or 'abstract'
abbrev pub IsProductionRole : ProductionRole → Lexeme → Type 0
IsProductionRole k.Concrete x = IsWord w.Concrete x
IsProductionRole k.Abstract x = IsWord w.Abstract x

-- NAME ':' NAME '::=' child* block
pub data IsProduction : List Lexeme → Production → Type 0 where
  whole : {n c l b : Lexeme} {u v x : List Lexeme} {name left : List ℕ} {children : List Child} {equations : List Equation} → IsName name n
      → IsMark p.Colon c → IsName left l → IsMark p.Becomes b → AreChildren u children → IsBlock v equations → x ≡ n ∷ c ∷ l ∷ b ∷ (u ++ v)
      → IsProduction x (record { name = name; left = left; children = children; equations = equations })

-- the fields of an item of names alone, as they are written
abbrev pub plain_fields : PlainForm → List Field
plain_fields (i.Prefer first second) =
    field.word w.Prefer ∷ field.name first ∷ field.word w.Over ∷ field.name second ∷ field.mark p.Semicolon ∷ []
plain_fields (i.Nonterminal one) = field.word w.Nonterminal ∷ field.name one ∷ field.mark p.Semicolon ∷ []
plain_fields (i.Start one) = field.word w.Start ∷ field.name one ∷ field.mark p.Semicolon ∷ []
plain_fields (i.Extensible one) = field.word w.Extensible ∷ field.name one ∷ field.mark p.Semicolon ∷ []
plain_fields (i.Closed one) = field.word w.Closed ∷ field.name one ∷ field.mark p.Semicolon ∷ []
plain_fields (i.Synthesized one its) = field.word w.Syn ∷ field.name one ∷ field.mark p.Colon ∷ field.kind its ∷ field.mark p.Semicolon ∷ []
plain_fields (i.Inherited one its) = field.word w.Inh ∷ field.name one ∷ field.mark p.Colon ∷ field.kind its ∷ field.mark p.Semicolon ∷ []
plain_fields (i.Occurs attribute nonterminal its) =
    field.word w.Occurs ∷ field.name attribute ∷ field.word w.On ∷ field.name nonterminal ∷ field.optional_needs its
    ∷ field.mark p.Semicolon ∷ []
plain_fields (i.ForwardOn nonterminal its) =
    field.word w.Forward ∷ field.word w.On ∷ field.name nonterminal ∷ field.needs its ∷ field.mark p.Semicolon ∷ []

-- the tokens are this item of names alone
abbrev pub IsPlain : List Lexeme → PlainForm → Type 0
IsPlain tokens form = AreFields tokens (plain_fields form)

-- the tokens are this item, which has the place of its first token
pub data IsItem : List Lexeme → Item WrittenPattern → Type 0 where
  -- 'terminal' NAME REGEX ';' | 'ignore' NAME REGEX ';' | 'marking' NAME REGEX ';'
  lexical : {x n y s : Lexeme} {role : Role} {name bytes : List ℕ} → IsRole role x → IsName name n → IsRegex bytes y → IsMark p.Semicolon s
      → IsItem (x ∷ n ∷ y ∷ s ∷ []) (record { offset = x.at; form = f.Lexical role name (record { bytes = bytes; at = y.at }) })
  -- names alone
  plain : {x : Lexeme} {u : List Lexeme} {form : PlainForm} → IsPlain (x ∷ u) form
      → IsItem (x ∷ u) (record { offset = x.at; form = f.Plain form })
  -- 'concrete' NAME ':' NAME '::=' child* block | 'abstract' NAME ':' NAME '::=' child* block
  production : {x : Lexeme} {u : List Lexeme} {role : ProductionRole} {production : Production} → IsProductionRole role x
      → IsProduction u production
      → IsItem (x ∷ u) (record { offset = x.at; form = f.Production role production })
  -- 'aspect' NAME block
  aspect : {x n : Lexeme} {u : List Lexeme} {name : List ℕ} {equations : List Equation} → IsWord w.Aspect x → IsName name n
      → IsBlock u equations
      → IsItem (x ∷ n ∷ u) (record { offset = x.at; form = f.Aspect name equations })

-- item*
pub data AreItems : List Lexeme → List (Item WrittenPattern) → Type 0 where
  nothing : AreItems [] []
  next : {u v x : List Lexeme} {item : Item WrittenPattern} {rest : List (Item WrittenPattern)} → IsItem u item → AreItems v rest
      → x ≡ u ++ v
      → AreItems x (item ∷ rest)

-- header = 'host' NAME ';' | 'extension' NAME 'for' NAME ';': the specification's name, and whether it is a host or an extension of which
pub data IsHeader : List Lexeme → List ℕ → Header → Type 0 where
  host : {o x b : Lexeme} {name : List ℕ} → IsWord w.Host o → IsName name x → IsMark p.Semicolon b → IsHeader (o ∷ x ∷ b ∷ []) name h.Host
  extension : {e x o y b : Lexeme} {name host_name : List ℕ} → IsWord w.Extension e → IsName name x → IsWord w.For o → IsName host_name y
      → IsMark p.Semicolon b → IsHeader (e ∷ x ∷ o ∷ y ∷ b ∷ []) name (h.Extension host_name)

-- the number is that of a format that is known
abbrev pub IsFormat : ℕ → Type 0
IsFormat format = (format ≡ 1) ⊎ (format ≡ 2)

-- spec = 'format' INT ';' header item*, where the INT is the number of its format
pub data IsSpecification : List Lexeme → WrittenSpec → Type 0 where
  whole : {f n s : Lexeme} {u v x : List Lexeme} {format : ℕ} {name : List ℕ} {header : Header} {items : List (Item WrittenPattern)}
      → IsWord w.Format f
      → IsFormat format → IsInt (pos format) n → IsMark p.Semicolon s → IsHeader u name header → AreItems v items → x ≡ f ∷ n ∷ s ∷ (u ++ v)
      → IsSpecification x (record { format = format; name = name; header = header; items = items })
