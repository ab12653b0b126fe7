-- What is scanned beside a host: the host's terminals and layout as the host scans them, markers that preferences order where they share a
-- text with one of these, and the extension's layout, which isn't considered at the host's kernels.
use Rattle.std.specs.Prelude.{◌≡◌, ◌≢◌, ◌<◌, ◌≤◌, ◌⊎◌, ℕ, List}
use Rattle.wb_automata.specs.Automata.{IsMatch}
use Rattle.wb_determinism_contexts.specs.Considered.{LexiconView}
use Rattle.wb_lexical.specs.Clash.{AreOrdered}
use Rattle.wb_termset.specs.Sets.{IsMember}
use Rattle.wb_compose_theory.specs.Renamings.{Renaming}

-- l is what is scanned of the host, n what is scanned of the host with an extension
module _ (l n : LexiconView) (up : Renaming) (phi : ℕ → ℕ) where
  -- a terminal that is scanned with the extension and is the host's is scanned there; layout that is considered everywhere is the host's; no
  -- production of the host is one of the extension's; both match the same texts; and preferences of the host stay
  pub record ExtendsLexicon : Type 0 where
    pub scanned : (u : ℕ) → up.terminal u < n.scanned → u < l.scanned
    pub layout : (t : ℕ) → IsMember n.layout t → (u : ℕ) × (t ≡ up.terminal u) × IsMember l.layout u
    pub own : (p : ℕ) → n.own_productions.0 ≤ up.production p → ¬ (up.production p < n.own_productions.1)
    pub matches : (u : ℕ) → (u < l.scanned) ⊎ IsMember l.layout u → (text : List ℕ) → IsMatch n.expressions (up.terminal u) text →
        IsMatch l.expressions u text
    pub ordered : (t u : ℕ) → AreOrdered l.preferences t u → AreOrdered n.preferences (up.terminal t) (up.terminal u)

  -- the terminal is the host's and scanned, or layout that is considered everywhere, or a marker
  abbrev pub IsBesideMarkers : ℕ → Type 0
  IsBesideMarkers t = ((u : ℕ) × (t ≡ up.terminal u) × (u < l.scanned)) ⊎ (IsMember n.layout t ⊎ (phi t ≢ t))

  -- a marker and another of these that match one text are ordered by a preference
  abbrev pub AreMarkersTold : Type 0
  AreMarkersTold = (m t : ℕ) (text : List ℕ) → phi m ≢ m → m ≢ t → IsBesideMarkers t → IsMatch n.expressions m text →
      IsMatch n.expressions t text → AreOrdered n.preferences m t
