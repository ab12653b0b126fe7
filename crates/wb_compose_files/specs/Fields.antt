-- What a composed language shows of its fields.
use Rattle.wb_compose_files.specs.Languages.{TextLanguageParts}
use Rattle.wb_compose_files.specs.declared.language.Fields.{Fields}

-- the host and the extensions, the language with the withdrawn markers, the signatures and the names
abbrev pub parts_of : Fields → TextLanguageParts
parts_of fields = record {
  certified = fields.certified;
  language = fields.composed.language;
  withdrawn = fields.composed.withdrawn.items;
  signatures = fields.shown.signatures;
  terminals = fields.shown.terminals;
}
