-- What is known of the regular expressions of written items, and why they aren't taken.
use Rattle.std.specs.Prelude.{◌≡◌, ◌≤◌, ◌+◌, ℕ, List, ◌∷◌, ◌++◌, All, length}
use Rattle.wb_regex.specs.Text.{IsFirstFault}
use Rattle.wb_regex.specs.Answer.{IsEmptyRegex}
use Rattle.wb_syntax.specs.declared.item.Item.{Item}
use Rattle.wb_syntax.specs.declared.item.ItemForm.{ItemForm}
use Rattle.wb_syntax.specs.declared.item.ItemForm.TheVariants as f
use Rattle.wb_syntax.specs.declared.pattern.WrittenPattern.{WrittenPattern}
use Rattle.wb_reader.specs.declared.refusal.SpecRefusal.{SpecRefusal}
use Rattle.wb_reader.specs.declared.refusal.SpecRefusal.TheVariants.{TooLong, WrongFormat, Syntax, BadRegex, MatchesEmpty, NoMemory}
use Rattle.wb_reader.specs.OneAnswer.{IsNoMemory}
use Rattle.wb_reader.specs.Refusals.{IsTaken, IsSyntaxFault}

-- the regular expression of the form, where it has one, is with its slashes within the bytes that a file may have
abbrev pub IsPlacedForm : ItemForm WrittenPattern → Type 0
IsPlacedForm (f.Lexical role name pattern) = pattern.at + length pattern.bytes + 2 ≤ 1048576
IsPlacedForm (f.Plain plain) = Unit {0}
IsPlacedForm (f.Production role production) = Unit {0}
IsPlacedForm (f.Aspect name equations) = Unit {0}

-- and so is that of the item
abbrev pub IsPlaced : Item WrittenPattern → Type 0
IsPlaced item = IsPlacedForm item.form

-- why a regular expression isn't taken
abbrev pub OnPattern : List ℕ → List ℕ → ℕ → SpecRefusal → Type 0
OnPattern name bytes at TooLong = ⊥
OnPattern name bytes at WrongFormat = ⊥
OnPattern name bytes at (Syntax place) = ⊥
OnPattern name bytes at (BadRegex place) = (offset : ℕ) × IsFirstFault bytes offset × (place ≡ at + 1 + offset)
OnPattern name bytes at (MatchesEmpty other) = IsEmptyRegex bytes × (other ≡ name)
OnPattern name bytes at (NoMemory error) = Unit {0}

-- why a form isn't taken
abbrev pub OnForm : ItemForm WrittenPattern → SpecRefusal → Type 0
OnForm (f.Lexical role name pattern) refusal = OnPattern name pattern.bytes pattern.at refusal
OnForm (f.Plain plain) refusal = IsNoMemory refusal
OnForm (f.Production role production) refusal = IsNoMemory refusal
OnForm (f.Aspect name equations) refusal = IsNoMemory refusal

-- why an item isn't taken
abbrev pub OnItem : Item WrittenPattern → SpecRefusal → Type 0
OnItem item refusal = OnForm item.form refusal

-- one of the items is refused so, and those before it are taken
pub record IsFirstOn (items : List (Item WrittenPattern)) (refusal : SpecRefusal) : Type 0 where
  pub before : List (Item WrittenPattern)
  pub after : List (Item WrittenPattern)
  pub item : Item WrittenPattern
  pub split : items ≡ before ++ item ∷ after
  pub taken : All IsTaken before
  pub refused : OnItem item refusal

-- why the first of the items that isn't taken isn't; memory may run out at any
abbrev pub OnItems : List (Item WrittenPattern) → SpecRefusal → Type 0
OnItems items TooLong = ⊥
OnItems items WrongFormat = ⊥
OnItems items (Syntax place) = ⊥
OnItems items (BadRegex place) = IsFirstOn items (BadRegex place)
OnItems items (MatchesEmpty name) = IsFirstOn items (MatchesEmpty name)
OnItems items (NoMemory error) = Unit {0}

-- of the refusals only that of what can't follow, and out of memory
abbrev pub OnSyntax : List ℕ → SpecRefusal → Type 0
OnSyntax bytes TooLong = ⊥
OnSyntax bytes WrongFormat = ⊥
OnSyntax bytes (Syntax at) = IsSyntaxFault bytes at
OnSyntax bytes (BadRegex at) = ⊥
OnSyntax bytes (MatchesEmpty name) = ⊥
OnSyntax bytes (NoMemory error) = Unit {0}
