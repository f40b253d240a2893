-- A number in decimal, and what stands between and behind numbers (02, L2 and L7).
use Rattle.std.specs.Prelude.{ℕ, zero, suc, ◌+◌, ◌-◌, ◌*◌, ◌/◌, ◌%◌, Bool, true, false, cond, not, ◌&&◌}
use Rattle.std.specs.Prelude.{List, [], ◌∷◌, ◌++◌, Result, Ok, Err, eqb, leb, ltb}
use Rattle.entries.specs.Lists.{every}
use Rattle.entries.specs.Entries.{number_limit}
use Rattle.decimal.specs.declared.Misread.{Misread}
use Rattle.decimal.specs.declared.Misread.TheVariants.{Large, Misspelt}

-- ten digits, whose bytes begin with that of 0
abbrev pub base : ℕ
base = 10

abbrev pub zero_digit : ℕ
zero_digit = 48

abbrev pub is_digit : ℕ → Bool
is_digit x = leb zero_digit x && ltb x (zero_digit + base)

-- at most so many digits of a number
abbrev pub digits : ℕ → ℕ → List ℕ
digits zero n = []
digits (suc more) n = cond (ltb n base) ((zero_digit + n) ∷ []) (digits more (n / base) ++ ((zero_digit + n % base) ∷ []))

-- a number in decimal: n has no more than n + 1 digits
unfoldable pub decimal : ℕ → List ℕ
decimal n = digits (suc n) n

-- "digits alone up to the next space or the line's end are a number, by value"
abbrev pub digits_alone : List ℕ → Bool
digits_alone piece = every is_digit piece

abbrev pub value_from : ℕ → List ℕ → ℕ
value_from n [] = n
value_from n (x ∷ more) = value_from (n * base + (x - zero_digit)) more

unfoldable pub value : List ℕ → ℕ
value piece = value_from 0 piece

-- 12: "a number above 255"
unfoldable pub too_large : List ℕ → Bool
too_large piece = digits_alone piece && leb number_limit (value piece)

-- not 13: digits alone, at least one, and no leading zero
abbrev pub unpadded : List ℕ → Bool
unpadded [] = false
unpadded (x ∷ []) = true
unpadded (x ∷ y ∷ more) = not (eqb x zero_digit)

unfoldable pub well_spelled : List ℕ → Bool
well_spelled piece = digits_alone piece && unpadded piece

-- a piece as a number that one byte can be, or why it is none: 12's reason goes before 13's
unfoldable pub number_said : List ℕ → Result ℕ Misread
number_said piece = cond (too_large piece) (Err Large) (cond (well_spelled piece) (Ok (value piece)) (Err Misspelt))

abbrev pub space : ℕ
space = 32

abbrev pub line_feed : ℕ
line_feed = 10
