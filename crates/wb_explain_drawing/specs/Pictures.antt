-- A picture, as the bytes of an SVG file.
use Rattle.std.specs.Prelude.{◌≡◌, ◌++◌, ℕ, List}
use lib.Chars.{codes}

-- after what was there comes an SVG element with this in it, after the beginning of its tag
abbrev pub HasPicture : List ℕ → List ℕ → List ℕ → Type 0
HasPicture inside old new = new ≡ old ++ codes "<svg xmlns=\"http://www.w3.org/2000/svg\" " ++ inside ++ codes "</svg>\n"

-- after what was there comes a picture
abbrev pub AddsPicture : List ℕ → List ℕ → Type 0
AddsPicture old new = (inside : List ℕ) × HasPicture inside old new
