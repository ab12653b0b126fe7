-- Forms that beat each other in a cycle are of terminals that are preferred in a cycle.
use Rattle.std.specs.Prelude.{Contains}
use Rattle.wb_scan_theory.specs.declared.form.Form.{Form}
use Rattle.wb_scan_theory.specs.Languages.{LanguageView}
use Rattle.wb_scan_theory.specs.Winners.{Beats, both_bare, both_prefixed, by_prefix}

module _ (l : LanguageView) where
  -- the terminal of the one is preferred to that of the other
  abbrev pub IsPreferredForm : Form → Form → Type 0
  IsPreferredForm f g = Contains l.preferences (f.terminal, g.terminal)

  pub ring_of_two : (f g : Form) → Beats l f g → Beats l g f → IsPreferredForm f g × IsPreferredForm g f
  ring_of_two f g (by_prefix nf eg) (by_prefix ng ef) = absurd (ng eg)
  ring_of_two f g (by_prefix nf eg) (both_bare eg' ef y) = absurd (nf ef)
  ring_of_two f g (by_prefix nf eg) (both_prefixed ng nf' y) = absurd (ng eg)
  ring_of_two f g (both_bare ef eg x) (by_prefix ng ef') = absurd (ng eg)
  ring_of_two f g (both_bare ef eg x) (both_bare eg' ef' y) = (x, y)
  ring_of_two f g (both_bare ef eg x) (both_prefixed ng nf y) = absurd (ng eg)
  ring_of_two f g (both_prefixed nf ng x) (by_prefix ng' ef) = absurd (nf ef)
  ring_of_two f g (both_prefixed nf ng x) (both_bare eg ef y) = absurd (nf ef)
  ring_of_two f g (both_prefixed nf ng x) (both_prefixed ng' nf' y) = (x, y)

  pub ring_of_three : (f g h : Form) → Beats l f g → Beats l g h → Beats l h f →
      IsPreferredForm f g × IsPreferredForm g h × IsPreferredForm h f
  ring_of_three f g h (by_prefix nf eg) (by_prefix ng eh) c = absurd (ng eg)
  ring_of_three f g h (by_prefix nf eg) (both_prefixed ng nh y) c = absurd (ng eg)
  ring_of_three f g h (by_prefix nf eg) (both_bare eg' eh y) (by_prefix nh ef) = absurd (nh eh)
  ring_of_three f g h (by_prefix nf eg) (both_bare eg' eh y) (both_bare eh' ef z) = absurd (nf ef)
  ring_of_three f g h (by_prefix nf eg) (both_bare eg' eh y) (both_prefixed nh nf' z) = absurd (nh eh)
  ring_of_three f g h (both_bare ef eg x) (by_prefix ng eh) c = absurd (ng eg)
  ring_of_three f g h (both_bare ef eg x) (both_prefixed ng nh y) c = absurd (ng eg)
  ring_of_three f g h (both_bare ef eg x) (both_bare eg' eh y) (by_prefix nh ef') = absurd (nh eh)
  ring_of_three f g h (both_bare ef eg x) (both_bare eg' eh y) (both_bare eh' ef' z) = (x, y, z)
  ring_of_three f g h (both_bare ef eg x) (both_bare eg' eh y) (both_prefixed nh nf z) = absurd (nh eh)
  ring_of_three f g h (both_prefixed nf ng x) (by_prefix ng' eh) (by_prefix nh ef) = absurd (nh eh)
  ring_of_three f g h (both_prefixed nf ng x) (by_prefix ng' eh) (both_bare eh' ef z) = absurd (nf ef)
  ring_of_three f g h (both_prefixed nf ng x) (by_prefix ng' eh) (both_prefixed nh nf' z) = absurd (nh eh)
  ring_of_three f g h (both_prefixed nf ng x) (both_bare eg eh y) c = absurd (ng eg)
  ring_of_three f g h (both_prefixed nf ng x) (both_prefixed ng' nh y) (by_prefix nh' ef) = absurd (nf ef)
  ring_of_three f g h (both_prefixed nf ng x) (both_prefixed ng' nh y) (both_bare eh ef z) = absurd (nf ef)
  ring_of_three f g h (both_prefixed nf ng x) (both_prefixed ng' nh y) (both_prefixed nh' nf' z) = (x, y, z)
