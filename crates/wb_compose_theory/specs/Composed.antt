-- What there is at a composition, in numbers: the grammars of a host and of the host with each extension, without holes and with them, and
-- that of the union.
use Rattle.std.specs.Prelude.{◌≡◌, ◌<◌, ℕ, List}
use Rattle.wb_base.specs.declared.symbol.Symbol.{Symbol}
use Rattle.wb_base.specs.Grammar.{GrammarView}
use Rattle.wb_grammar_theory.specs.Lookaheads.{IsValidTerminal}
use Rattle.wb_compose_theory.specs.Worlds.{World, plain, plus, alone, union}
use Rattle.wb_compose_theory.specs.Marks.{IsMarked, phi}
use Rattle.wb_compose_theory.specs.Renamings.{Renaming}
use Rattle.wb_compose_theory.specs.Numbered.{HostKernel, IsNewHostKernel, IsValidInEnvelope, IsFit, IsComposableHost, IsComposable}
use Rattle.wb_compose_theory.specs.Seams.{IsNumbering, AreNumberings}

-- the grammars of an extension with the host, with the names of their numbers in a world, and where the host's numbers go
pub record Extended : Type 0 where
  pub plain_grammar : GrammarView
  pub plain_names : Renaming
  pub grammar : GrammarView
  pub names : Renaming
  pub up : Renaming
  pub phi_of : ℕ → ℕ

-- the grammars of a host, of its extensions with it and of the union, with the names of their numbers
pub record Composition : Type 0 where
  pub plain_grammar : GrammarView
  pub plain_names : Renaming
  pub host_grammar : GrammarView
  pub host_names : Renaming
  pub union_grammar : GrammarView
  pub union_names : Renaming
  pub extended : ℕ → Extended

-- the grammars are those of the extension of the world
pub record IsExtended (w : World) (c : Composition) (e : ℕ) (x : Extended) : Type 0 where
  pub plain_numbering : IsNumbering x.plain_grammar w (alone e) x.plain_names
  pub numberings : AreNumberings c.host_grammar x.grammar x.up x.phi_of w e c.host_names x.names

-- the extension is certified against the host alone
pub record IsCertifiedExtension (c : Composition) (x : Extended) : Type 0 where
  pub fit : IsFit x.plain_grammar x.grammar
  pub composable : IsComposable c.host_grammar x.grammar x.up x.phi_of

-- the grammars are those of the world and its first n extensions, and the host and each extension are certified
pub record IsComposition (w : World) (n : ℕ) (c : Composition) : Type 0 where
  pub is_marked : IsMarked w
  pub of_plain : IsNumbering c.plain_grammar w plain c.plain_names
  pub of_host : IsNumbering c.host_grammar w plus c.host_names
  pub of_union : IsNumbering c.union_grammar w (union n) c.union_names
  pub of_extension : (e : ℕ) → e < n → IsExtended w c e (c.extended e)
  pub host_certified : IsComposableHost c.plain_grammar c.host_grammar
  pub extension_certified : (e : ℕ) → e < n → IsCertifiedExtension c (c.extended e)

-- a number is called what a terminal of the union becomes by phi
abbrev pub IsImage : World → Composition → Renaming → ℕ → ℕ → Type 0
IsImage w c names t number = names.terminal number ≡ phi w (c.union_names.terminal t)

-- what two terminals of the union become by phi is nowhere valid together: not in the host with holes, not in this with an extension, and
-- not in the envelope of a new kernel of host items
pub record AreApartIn (w : World) (n : ℕ) (c : Composition) (t u : ℕ) : Type 0 where
  pub in_host : (prefix : List Symbol) (a b : ℕ) → IsImage w c c.host_names t a → IsImage w c c.host_names u b →
      IsValidTerminal c.host_grammar prefix a → ¬ IsValidTerminal c.host_grammar prefix b
  pub in_extension : (e : ℕ) → e < n → (prefix : List Symbol) (a b : ℕ) → IsImage w c (c.extended e).names t a →
      IsImage w c (c.extended e).names u b → IsValidTerminal (c.extended e).grammar prefix a →
      ¬ IsValidTerminal (c.extended e).grammar prefix b
  pub in_envelope : (e : ℕ) → e < n → (prefix : List Symbol) (a b : ℕ) →
      IsNewHostKernel c.host_grammar (c.extended e).grammar (c.extended e).up prefix → IsImage w c c.host_names t a →
      IsImage w c c.host_names u b →
      IsValidInEnvelope c.host_grammar (HostKernel (c.extended e).grammar (c.extended e).up prefix) a →
      ¬ IsValidInEnvelope c.host_grammar (HostKernel (c.extended e).grammar (c.extended e).up prefix) b
