-- What a host's lists keep, or those of a host with an extension.
use Rattle.std.specs.Prelude.{◌≡◌, ℕ, Option, Some, None, length, map}
use Rattle.wb_base.specs.Grammar.{GrammarView}
use Rattle.wb_determinism_contexts.specs.Considered.{LexiconView}
use Rattle.wb_syntax_resolved.specs.declared.resolved.ResolvedParts.{ResolvedParts}
use Rattle.wb_syntax_resolved.specs.declared.terminal.Terminal.{Terminal}
use Rattle.wb_determinism_host.specs.declared.judge.Lists.{Lists}
use Rattle.wb_determinism_host.specs.declared.lexicon.LayoutOwner.{LayoutOwner}
use Rattle.wb_determinism_host.specs.declared.lexicon.LayoutOwner.TheVariants.{Any, Host, Extension, Nobody}
use Rattle.wb_determinism_host.specs.Lexicons.{is_layout_of, preference_pairs}

-- whose layout is considered everywhere, where an extension's productions begin at this number, or there is none
abbrev pub everywhere : Option ℕ → LayoutOwner
everywhere None = Any
everywhere (Some first) = Host

-- whose layout is an extension's own
abbrev pub own : Option ℕ → LayoutOwner
own None = Nobody
own (Some first) = Extension

-- the extension's productions
abbrev pub own_productions : GrammarView → Option ℕ → ℕ × ℕ
own_productions g None = (0, 0)
own_productions g (Some first) = (first, length g.productions)

-- what is scanned of a host, or of a host with an extension
abbrev pub lexicon_in : ResolvedParts → GrammarView → Option ℕ → LexiconView
lexicon_in r g first =
    record {
      expressions = map (λ (t : Terminal). t.pattern) r.terminals;
      scanned = g.terminals;
      layout = map (is_layout_of (everywhere first)) r.terminals;
      own_layout = map (is_layout_of (own first)) r.terminals;
      own_productions = own_productions g first;
      preferences = preference_pairs r;
    }

-- the lists are the expressions of the terminals, the sets of these layouts and the preferences
pub record AreLists (r : ResolvedParts) (one other : LayoutOwner) (lists : Lists) : Type 0 where
  pub expressions : lists.expressions.items ≡ map (λ (t : Terminal). t.pattern) r.terminals
  pub layout : lists.layout ≡ map (is_layout_of one) r.terminals
  pub own_layout : lists.own_layout ≡ map (is_layout_of other) r.terminals
  pub pairs : lists.pairs.items ≡ preference_pairs r
