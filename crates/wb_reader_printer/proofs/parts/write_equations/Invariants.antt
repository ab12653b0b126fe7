use Rattle.std.proofs.Common.{◌≡◌, List, drop}
use Rattle.wb_text_tokens.specs.declared.token.Token.{Token}
use Rattle.wb_reader_printer.specs.Inner.Output.{after}
use Rattle.wb_reader_printer.specs.Inner.PartTokens.{AreEquationTokens}
use Rattle.wb_reader_printer.proofs.parts.write_equations.Given as goal

abbrev pub invariant-equations : goal.invariant-equations
invariant-equations l = (tokens : List Token) → AreEquationTokens l.equations tokens
    → (rest : List Token) × AreEquationTokens (drop l.equation-index l.equations) rest × (after l.line rest ≡ after l.fn.line tokens)
