-- A file on its base, as private functions are lent it.
use Rattle.wb_names_numbers_theory.specs.Files.{File}
use Rattle.wb_names_symbols.specs.declared.lent.Lent.{Lent}

-- the file
abbrev pub lent_file : Lent → File
lent_file lent =
    record { base = lent.base.now; owner = lent.owner; extensions = lent.extensions.now; items = lent.items.now }
