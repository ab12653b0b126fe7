-- The text of a certificate: lines, each ended by LF, with one space between words.
use Rattle.std.specs.Prelude.{◌≡◌, ◌<◌, ◌^◌, ℕ, List, [], ◌∷◌, ◌++◌, All, Option, Some, None, codes}
use Rattle.std.specs.Fmt.{decimal}
use Rattle.std.specs.List.{flat_map}
use Rattle.wb_base.specs.Identifiers.{IsName}
use Rattle.wb_base.specs.declared.symbol.Symbol.{Symbol}
use Rattle.wb_base.specs.declared.symbol.Symbol.TheVariants.{Terminal, Nonterminal}
use Rattle.wb_recheck_theory.specs.declared.line.Line.{Line}
use Rattle.wb_recheck_theory.specs.declared.entry.Entry.{Entry}
use Rattle.wb_recheck_text.specs.declared.certificate.Certificate.{Certificate}
use Rattle.wb_recheck_text.specs.declared.certificate.Head.{Head}
use Rattle.wb_recheck_text.specs.declared.certificate.Head.TheVariants.{Host, Extension}

-- a number in decimal, without leading zeros, and the byte after it
abbrev pub number_then : ℕ → ℕ → List ℕ
number_then after n = decimal n ++ after ∷ []

-- a name, and the byte after it
abbrev pub name_then : ℕ → List ℕ → List ℕ
name_then after name = name ++ after ∷ []

-- the last word of a line, which is a symbol: `t` or `n` and the number of the terminal or nonterminal
abbrev pub symbol_text : Symbol → List ℕ
symbol_text (Terminal t) = codes "t" ++ number_then 10 t
symbol_text (Nonterminal a) = codes "n" ++ number_then 10 a

-- the last word of a line, which is an origin: a number, or `-` where there is none
abbrev pub origin_text : Option ℕ → List ℕ
origin_text None = codes "-\n"
origin_text (Some n) = number_then 10 n

-- the line of a kernel: `kernel FROM SYMBOL`
abbrev pub line_text : Line → List ℕ
line_text line = codes "kernel " ++ (number_then 32 line.from ++ symbol_text line.symbol)

-- the line of an entry: `look KERNEL PRODUCTION DOT TERMINAL ORIGIN`
abbrev pub entry_text : Entry → List ℕ
entry_text e =
    codes "look " ++ (number_then 32 e.kernel ++ (number_then 32 e.item.production ++ (number_then 32 e.item.dot
    ++ (number_then 32 e.terminal ++ origin_text e.origin))))

-- the line that says whose certificate it is: `host NAME` or `extension NAME for NAME`
abbrev pub head_text : Head → List ℕ
head_text (Host name) = codes "host " ++ name_then 10 name
head_text (Extension name host) = codes "extension " ++ (name_then 32 name ++ (codes "for " ++ name_then 10 host))

-- the lines of all kernels, and then those of all entries
abbrev pub body_text : List Line → List Entry → List ℕ
body_text lines entries = flat_map line_text lines ++ flat_map entry_text entries

-- the text of a certificate
abbrev pub certificate_text : Certificate → List ℕ
certificate_text c = codes "certificate 1\n" ++ (head_text c.head ++ body_text c.lines c.entries)
