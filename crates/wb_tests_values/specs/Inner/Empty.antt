-- The attributes of a host that declares none.
use Rattle.std.specs.Prelude.{[]}
use Rattle.wb_syntax_resolved.specs.declared.attribution.AttributionParts.{AttributionParts}

abbrev pub no_parts : AttributionParts
no_parts = record { extensions = []; nonterminals = []; attributes = []; occurrences = []; productions = []; signatures = [] }
