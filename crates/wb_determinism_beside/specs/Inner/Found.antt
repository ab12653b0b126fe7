-- The new kernels of a host with an extension, and their lookaheads, as references to them.
use Rattle.std.specs.Prelude.{◌≢◌, ◌↔◌, ◌+◌, ◌<◌, ◌≡◌, ◌⊎◌, ℕ, Bool, List, Some, false, length, map, slice_get}
use Rattle.wb_base.specs.declared.symbol.Symbol.{Symbol}
use Rattle.wb_base.specs.Grammar.{GrammarView}
use Rattle.wb_compose_theory.specs.Renamings.{Renaming, renamed_item}
use Rattle.wb_determinism_contexts.specs.Considered.{IsClashAt, LexiconView}
use Rattle.wb_determinism_host.specs.Lexicons.{is_layout, preference_pairs}
use Rattle.wb_determinism_kernels.specs.NewKernels.{AreNewKernels, prefix_with}
use Rattle.wb_determinism_kernels.specs.Numbers.{up_by}
use Rattle.wb_determinism_lookaheads.specs.NewLookaheads.{AreNewLookaheads}
use Rattle.wb_grammar_theory.specs.declared.item.Item.{Item}
use Rattle.wb_grammar_theory.specs.Items.{IsKernelItem}
use Rattle.wb_grammar_theory.specs.Lookaheads.{HasConflict, IsValidTerminal}
use Rattle.wb_grammar_theory.specs.Shape.{IsLive}
use Rattle.wb_items.specs.Kernels.{AreKernels, KernelsView, count_of}
use Rattle.wb_syntax_resolved.specs.declared.resolved.ResolvedParts.{ResolvedParts}
use Rattle.wb_syntax_resolved.specs.declared.terminal.Terminal.{Terminal}
use Rattle.wb_termset.specs.Sets.{IsMember}
use Rattle.wb_determinism_beside.specs.declared.found.Found.{Found}

-- the kernels of the host, and the grammar with the extension
abbrev pub host_in : Found → KernelsView
host_in x = x.beside.now.host.now

abbrev pub both_in : Found → GrammarView
both_in x = x.beside.now.grammar.now

-- the host's numbers in those with the extension
abbrev pub up_in : Found → Renaming
up_in x = up_by x.beside.now.numbers.now

-- how many new kernels there are
abbrev pub new_in : Found → ℕ
new_in x = length x.new.now.index.kernels

-- the prefix of the new kernel at a place
abbrev pub prefix_at : Found → ℕ → List Symbol
prefix_at x i = prefix_with (host_in x) (both_in x) x.beside.now.numbers.now x.beside.now.images.now x.new.now (count_of (host_in x) + i)

-- they are those of the host with the extension
pub record IsFound (x : Found) : Type 0 where
  pub kernels : AreKernels (host_in x)
  pub live : IsLive (both_in x)
  pub new : AreNewKernels (host_in x) (both_in x) x.beside.now.numbers.now x.beside.now.images.now x.new.now
  pub sets : AreNewLookaheads (host_in x) (both_in x) x.beside.now.numbers.now x.beside.now.images.now x.new.now x.sets.now

-- an item of the new kernel at the place isn't the host's
pub record HasForeign (x : Found) (i : ℕ) : Type 0 where
  pub item : Item
  pub has : IsKernelItem (both_in x) (prefix_at x i) item
  pub foreign : (own : Item) → item ≢ renamed_item (up_in x) own

-- so at each place
abbrev pub AreForeign : Found → Type 0
AreForeign x = (i : ℕ) → i < new_in x → HasForeign x i

-- what is scanned of so many terminals, and all layout: at a kernel with an item of the extension its layout is considered beside the host's
abbrev pub lexicon_for : ResolvedParts → ℕ → LexiconView
lexicon_for r scanned = record {
  expressions = map (λ (t : Terminal). t.pattern) r.terminals;
  scanned = scanned;
  layout = map (λ (t : Terminal). is_layout t.kind) r.terminals;
  own_layout = map (λ (t : Terminal). false) r.terminals;
  own_productions = (0, 0);
  preferences = preference_pairs r;
}

-- the prefix has no conflict, and the set has what is scanned and valid there, and layout
pub record IsClear (k : GrammarView) (lexicon : LexiconView) (prefix : List Symbol) (set : List Bool) : Type 0 where
  pub no_conflict : (t : ℕ) → ¬ HasConflict k prefix t
  pub each : (t : ℕ) → IsMember set t ↔ (((t < lexicon.scanned) × IsValidTerminal k prefix t) ⊎ IsMember lexicon.layout t)

-- a set for each of the first new kernels
pub record AreClear (x : Found) (lexicon : LexiconView) (n : ℕ) (sets : List (List Bool)) : Type 0 where
  pub len : length sets ≡ n
  pub each : (i : ℕ) (set : List Bool) → slice_get sets i ≡ Some set → IsClear (both_in x) lexicon (prefix_at x i) set

-- no new kernel has a conflict or a clash
pub record IsClearAtNew (x : Found) (lexicon : LexiconView) : Type 0 where
  pub no_conflict : (i t : ℕ) → i < new_in x → ¬ HasConflict (both_in x) (prefix_at x i) t
  pub no_clash : (i left right : ℕ) (text : List ℕ) → i < new_in x → ¬ IsClashAt (both_in x) lexicon (prefix_at x i) left right text
