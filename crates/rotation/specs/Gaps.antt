-- Document 01, 'Text': 'words parted by bytes 9, 10, 13, 32', which are tab, newline, carriage return and space.
-- Assumes nothing.
use Rattle.std.specs.Prelude.{Bool, not, ◌||◌, ℕ, eqb}

abbrev pub newline : ℕ
newline = 10

unfoldable pub gap : ℕ → Bool
gap b = eqb b 9 || eqb b newline || eqb b 13 || eqb b 32

abbrev pub letter : ℕ → Bool
letter b = not (gap b)
