-- Sinks in memory.
use Rattle.std.specs.Prelude.{◌≡◌, ◌⊎◌, ℕ, ◌≤◌, ◌-◌, ◌++◌, min, List, length, take, Contains}
use Rattle.wb_world.specs.Cause.{next_count}
use Rattle.wb_world.specs.declared.sink.Put.{Put}
use Rattle.wb_world.specs.declared.sink.Put.TheVariants.{Took, Failed}

-- what a sink in memory holds: the bytes, its limits, the writes that fail, and its counts
pub record SinkView : Type 0 where
  pub bytes : List ℕ
  pub room : ℕ
  pub most : ℕ
  pub fails : List ℕ
  pub calls : ℕ
  pub faults : ℕ

-- it holds no more than it has room for, and takes at least one byte at once
pub record IsSinkSound (len capacity room most : ℕ) : Type 0 where
  pub held : len ≤ room
  pub reserved : room ≤ capacity
  pub takes : 1 ≤ most

-- the bytes and the counts after this answer, as many bytes being taken as the limits let through
abbrev pub AnswersWrite : SinkView → SinkView → List ℕ → Put → Type 0
AnswersWrite old new piece (Took n) =
    (new ≡ record old { calls = next_count old.calls; bytes = old.bytes ++ take n piece })
    × (n ≡ min (min (length piece) old.most) (old.room - length old.bytes)) × (¬ Contains old.fails new.calls)
AnswersWrite old new piece Failed =
    (new ≡ record old { calls = next_count old.calls; faults = next_count old.faults })
    × ((old.room ≤ length old.bytes) ⊎ Contains old.fails new.calls)
