-- What a scanner considers at a prefix, and clashes of two terminals that it considers at one prefix.
use Rattle.std.specs.Prelude.{◌<◌, ◌≢◌, ◌⊎◌, ℕ, Bool, List}
use Rattle.wb_automata.specs.Automata.{IsMatch}
use Rattle.wb_base.specs.declared.symbol.Symbol.{Symbol}
use Rattle.wb_base.specs.Grammar.{GrammarView}
use Rattle.wb_grammar_theory.specs.Items.{HoldsFrom, IsViablePrefix}
use Rattle.wb_grammar_theory.specs.Lookaheads.{IsValidTerminal}
use Rattle.wb_lexical.specs.Clash.{AreOrdered}
use Rattle.wb_regex.specs.Tree.{Tree}
use Rattle.wb_termset.specs.Sets.{IsMember}

-- what is scanned: the expressions of terminals and layout, by number; how many of the grammar's terminals, from 0 on, match a text at all;
-- the set of layout that is considered at each prefix; that of the layout of an extension, and the extension's productions, from the first
-- number to before the second; and which terminal is preferred to which
pub record LexiconView : Type 0 where
  pub expressions : List Tree
  pub scanned : ℕ
  pub layout : List Bool
  pub own_layout : List Bool
  pub own_productions : ℕ × ℕ
  pub preferences : List (ℕ × ℕ)

-- the terminal is an extension's layout, and the kernel of the prefix holds an item of one of the extension's productions
abbrev pub IsOwnLayoutAt : GrammarView → LexiconView → List Symbol → ℕ → Type 0
IsOwnLayoutAt g lexicon prefix t = IsMember lexicon.own_layout t × HoldsFrom g prefix lexicon.own_productions.0 lexicon.own_productions.1

-- the terminal is considered at the prefix: it is scanned and valid there, or layout, or an extension's layout by whose productions the
-- kernel holds an item
abbrev pub IsConsideredAt : GrammarView → LexiconView → List Symbol → ℕ → Type 0
IsConsideredAt g lexicon prefix t =
    ((t < lexicon.scanned) × IsValidTerminal g prefix t) ⊎ (IsMember lexicon.layout t ⊎ IsOwnLayoutAt g lexicon prefix t)

-- two different terminals that are considered at a prefix match the text, and no preference orders them
pub record IsClashAt (g : GrammarView) (lexicon : LexiconView) (prefix : List Symbol) (left right : ℕ) (text : List ℕ) : Type 0 where
  pub viable : IsViablePrefix g prefix
  pub different : left ≢ right
  pub left_considered : IsConsideredAt g lexicon prefix left
  pub right_considered : IsConsideredAt g lexicon prefix right
  pub left_matches : IsMatch lexicon.expressions left text
  pub right_matches : IsMatch lexicon.expressions right text
  pub unordered : ¬ AreOrdered lexicon.preferences left right

-- any two terminals that are considered at one prefix and match one text are ordered by a preference
abbrev pub HasNoClashAt : GrammarView → LexiconView → Type 0
HasNoClashAt g lexicon = (prefix : List Symbol) (left right : ℕ) (text : List ℕ) → ¬ IsClashAt g lexicon prefix left right text
