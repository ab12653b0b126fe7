-- What follows from an entry, and what of it isn't listed.
use Rattle.std.specs.Prelude.{◌≡◌, ◌<◌, ℕ, Bool, List, [], ◌∷◌, ◌++◌, Contains}
use Rattle.wb_base.specs.declared.symbol.Symbol.{Symbol}
use Rattle.wb_base.specs.declared.symbol.Symbol.TheVariants.{Terminal, Nonterminal}
use Rattle.wb_base.specs.Grammar.{GrammarView}
use Rattle.wb_grammar_theory.specs.declared.item.Item.{Item}
use Rattle.wb_grammar_theory.specs.Derives.{IsFirst}
use Rattle.wb_grammar_theory.specs.Items.{after_dot, advance, initial_item}
use Rattle.wb_grammar_theory.specs.Productions.{IsProduction}
use Rattle.wb_termset.specs.Sets.{IsMember}
use Rattle.wb_recheck_theory.specs.declared.line.Line.{Line}
use Rattle.wb_recheck_theory.specs.Entries.{IsFollowed}
use Rattle.wb_recheck_theory.specs.Lines.{kernel_count, IsMoveOf}
use Rattle.wb_recheck_entries.specs.Keys.{Key, key_at}

-- the production is one of the nonterminal
abbrev pub IsProductionOf : GrammarView → ℕ → ℕ → Type 0
IsProductionOf g b q = (right : List Symbol) × IsProduction g q b right

-- the production is one of the symbol, which is a nonterminal
abbrev pub IsOpened : GrammarView → Symbol → ℕ → Type 0
IsOpened g (Terminal t) q = ⊥
IsOpened g (Nonterminal b) q = IsProductionOf g b q

-- each production of the nonterminal has the terminal listed at its initial item
abbrev pub AreOpenedListed : GrammarView → List Key → ℕ → ℕ → ℕ → Type 0
AreOpenedListed g keys k b u = (q : ℕ) → IsProductionOf g b q → Contains keys (key_at k (initial_item q) u)

-- some production of the nonterminal hasn't
pub record IsOpenedUnlisted (g : GrammarView) (keys : List Key) (k b u : ℕ) : Type 0 where
  pub production : ℕ
  pub of_nonterminal : IsProductionOf g b production
  pub unlisted : ¬ Contains keys (key_at k (initial_item production) u)

-- each of these productions has the terminal listed at its initial item
abbrev pub AreNumbersListed : List Key → ℕ → List ℕ → ℕ → Type 0
AreNumbersListed keys k numbers u = (q : ℕ) → Contains numbers q → Contains keys (key_at k (initial_item q) u)

-- one of them hasn't
pub record IsNumberUnlisted (keys : List Key) (k : ℕ) (numbers : List ℕ) (u : ℕ) : Type 0 where
  pub production : ℕ
  pub within : Contains numbers production
  pub unlisted : ¬ Contains keys (key_at k (initial_item production) u)

-- each member of the set is listed at each production of the nonterminal
abbrev pub AreMembersListed : GrammarView → List Key → ℕ → ℕ → List Bool → Type 0
AreMembersListed g keys k b set = (u : ℕ) → IsMember set u → AreOpenedListed g keys k b u

-- some member isn't
pub record IsMemberUnlisted (g : GrammarView) (keys : List Key) (k b : ℕ) (set : List Bool) : Type 0 where
  pub terminal : ℕ
  pub member : IsMember set terminal
  pub unlisted : IsOpenedUnlisted g keys k b terminal

-- each terminal that begins the symbols is listed so
abbrev pub AreFirstsListed : GrammarView → List Key → ℕ → ℕ → List Symbol → Type 0
AreFirstsListed g keys k b rest = (u : ℕ) → IsFirst g rest u → AreOpenedListed g keys k b u

-- some terminal that begins them isn't
pub record IsFirstUnlisted (g : GrammarView) (keys : List Key) (k b : ℕ) (rest : List Symbol) : Type 0 where
  pub terminal : ℕ
  pub begins : IsFirst g rest terminal
  pub unlisted : IsOpenedUnlisted g keys k b terminal

-- what begins the symbols with the terminal after them is listed at each production of the nonterminal
abbrev pub AreInitialsListed : GrammarView → List Key → ℕ → ℕ → List Symbol → ℕ → Type 0
AreInitialsListed g keys k b rest t = (u : ℕ) → IsFirst g (rest ++ Terminal t ∷ []) u → AreOpenedListed g keys k b u

-- something that begins them so isn't
pub record IsInitialUnlisted (g : GrammarView) (keys : List Key) (k b : ℕ) (rest : List Symbol) (t : ℕ) : Type 0 where
  pub terminal : ℕ
  pub begins : IsFirst g (rest ++ Terminal t ∷ []) terminal
  pub unlisted : IsOpenedUnlisted g keys k b terminal

-- what the symbol after the dot opens is listed
abbrev pub AreOpenersListed : GrammarView → List Key → ℕ → Item → ℕ → Type 0
AreOpenersListed g keys k item t =
    (b : ℕ) (rest : List Symbol) → after_dot g item ≡ Nonterminal b ∷ rest → AreInitialsListed g keys k b rest t

-- something that it opens isn't
pub record IsOpenerUnlisted (g : GrammarView) (keys : List Key) (k : ℕ) (item : Item) (t : ℕ) : Type 0 where
  pub nonterminal : ℕ
  pub rest : List Symbol
  pub is : after_dot g item ≡ Nonterminal nonterminal ∷ rest
  pub unlisted : IsInitialUnlisted g keys k nonterminal rest t

-- the lookahead is listed where the item is moved over the symbol, at the kernel that is the move
abbrev pub IsMovedListed : GrammarView → List Line → List Key → ℕ → Item → ℕ → Symbol → Type 0
IsMovedListed g lines keys k item t x =
    (m : ℕ) → m < kernel_count lines → IsMoveOf g lines k x m → Contains keys (key_at m (advance item) t)

-- there is a kernel that is the move, and it isn't listed there
pub record IsMovedUnlisted (g : GrammarView) (lines : List Line) (keys : List Key) (k : ℕ) (item : Item) (t : ℕ) (x : Symbol) : Type 0 where
  pub kernel : ℕ
  pub within : kernel < kernel_count lines
  pub moves : IsMoveOf g lines k x kernel
  pub unlisted : ¬ Contains keys (key_at kernel (advance item) t)

-- what follows from the lookahead is listed
abbrev pub AreFollowersIn : GrammarView → List Line → List Key → ℕ → Item → ℕ → Type 0
AreFollowersIn g lines keys k item t =
    (k' : ℕ) (item' : Item) (t' : ℕ) → IsFollowed g lines k item t k' item' t' → Contains keys (key_at k' item' t')

-- something that follows from it isn't
pub record IsFollowerOut (g : GrammarView) (lines : List Line) (keys : List Key) (k : ℕ) (item : Item) (t : ℕ) : Type 0 where
  pub kernel : ℕ
  pub follower : Item
  pub terminal : ℕ
  pub follows : IsFollowed g lines k item t kernel follower terminal
  pub unlisted : ¬ Contains keys (key_at kernel follower terminal)
