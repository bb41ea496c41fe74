-- Document 02, W11: numbers in digits, read and written.
use Rattle.std.specs.Prelude.{ℕ, zero, suc, ◌+◌, ◌*◌, ◌-◌, ◌/◌, ◌%◌, Bool, true, ◌&&◌, List, [], ◌∷◌, ◌++◌, ltb, eqb, ℤ, pos, negsuc, if◌then◌else◌, Option, None, Some}
use Rattle.lists.specs.Lists.{within}

-- the bytes of 0 to 9
abbrev pub is_digit : ℕ → Bool
is_digit b = within 48 57 b

unfoldable pub all_digits : List ℕ → Bool
all_digits [] = true
all_digits (b ∷ bs) = is_digit b && all_digits bs

-- the number that further digits make of a number
unfoldable pub number_from : ℕ → List ℕ → ℕ
number_from n [] = n
number_from n (b ∷ bs) = number_from (n * 10 + (b - 48)) bs

-- "in digits": one or more and nothing else; "leading zeros are allowed in 9, 11, 41, 38 and 44"
unfoldable pub in_digits : List ℕ → Option ℕ
in_digits [] = None
in_digits (b ∷ bs) = if all_digits (b ∷ bs) then Some (number_from 0 (b ∷ bs)) else None

-- "a number past 32 bits" is not read
abbrev pub word_within : Option ℕ → Option ℕ
word_within None = None
word_within (Some n) = if ltb n 4294967296 then Some n else None

unfoldable pub word_in : List ℕ → Option ℕ
word_in bytes = word_within (in_digits bytes)

abbrev pub positive : Option ℕ → Option ℤ
positive None = None
positive (Some n) = if ltb n 2147483648 then Some (pos n) else None

-- `negsuc n` is -(n + 1); "minus zero is unreadable"
abbrev pub negative : Option ℕ → Option ℤ
negative None = None
negative (Some zero) = None
negative (Some (suc n)) = if ltb n 2147483648 then Some (negsuc n) else None

-- "price in whole steps, signed 32 bits, a minus sign if negative": 45 is the minus sign
unfoldable pub steps_in : List ℕ → Option ℤ
steps_in [] = None
steps_in (b ∷ bs) = if eqb b 45 then negative (in_digits bs) else positive (in_digits (b ∷ bs))

-- a number's digits, the last by the remainder and those before by the quotient; the first number bounds how many are made
unfoldable pub decimal_by : ℕ → ℕ → List ℕ
decimal_by zero n = []
decimal_by (suc k) n = let before = decimal_by k (n / 10) in if ltb n 10 then (48 + n) ∷ [] else before ++ ((48 + n % 10) ∷ [])

-- "without leading zeros"
unfoldable pub decimal_of : ℕ → List ℕ
decimal_of n = decimal_by (suc n) n

unfoldable pub signed_decimal : ℤ → List ℕ
signed_decimal (pos n) = decimal_of n
signed_decimal (negsuc n) = 45 ∷ decimal_of (suc n)

-- "three digits", of a number below 1000
abbrev pub three_digits : ℕ → List ℕ
three_digits n = (48 + n / 100) ∷ (48 + n / 10 % 10) ∷ (48 + n % 10) ∷ []
