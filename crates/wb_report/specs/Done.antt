-- The lines of a command that comes to its end.
use Rattle.std.specs.Prelude.{ℕ, List, Option, Some, None, ◌++◌}
use Rattle.std.specs.List.{flat_map}
use Rattle.std.specs.Fmt.{decimal}
use lib.Chars.{codes}
use Rattle.wb_report.specs.declared.done.Done.{Done}
use Rattle.wb_report.specs.declared.done.Done.TheVariants as d

-- an attribute and its printed value
abbrev pub value_line : List ℕ → List ℕ → List ℕ
value_line attribute value = attribute ++ codes " = " ++ value ++ codes "\n"

-- a line for each certified extension
abbrev pub extension_lines : List (List ℕ) → List ℕ
extension_lines names = flat_map (λ name. codes "certified extension " ++ name ++ codes "\n") names

-- a line for each marker that needs its prefix
abbrev pub prefix_lines : List (List ℕ) → List ℕ
prefix_lines markers = flat_map (λ marker. codes "prefix " ++ marker ++ codes "\n") markers

-- the first marker of a text and its place
abbrev pub marker_line : List ℕ → ℕ → List ℕ
marker_line marker place = codes "marker " ++ marker ++ codes " at " ++ decimal place ++ codes "\n"

-- a host that is certified by a certificate, and an extension that is too
abbrev pub rechecked_lines : List ℕ → Option (List ℕ) → List ℕ
rechecked_lines host None = codes "rechecked host " ++ host ++ codes "\n"
rechecked_lines host (Some name) = codes "rechecked host " ++ host ++ codes "\nrechecked extension " ++ name ++ codes "\n"

-- the report of what a command shows that comes to its end
abbrev pub done_lines : Done → List ℕ
done_lines (d.Value attribute value) = value_line attribute value
done_lines (d.Canonical text) = text
done_lines (d.Certified host extensions) = codes "certified host " ++ host ++ codes "\n" ++ extension_lines extensions
done_lines (d.Composed host extensions prefixed) =
    codes "composed " ++ host ++ codes " with " ++ decimal extensions ++ codes " extensions\n" ++ prefix_lines prefixed
done_lines (d.Tree text) = text ++ codes "\n"
done_lines (d.Edited lines) = lines
done_lines (d.Generated leaves bytes attribute value) =
    codes "leaves " ++ decimal leaves ++ codes "\nbytes " ++ decimal bytes ++ codes "\n" ++ value_line attribute value
done_lines (d.Rechecked host extension) = rechecked_lines host extension
done_lines d.HostReading = codes "host reading\n"
done_lines (d.MarkerAt marker place) = marker_line marker place
