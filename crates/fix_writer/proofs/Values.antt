-- The values that are written are read again.
use Rattle.std.proofs.Common.{Some}
use Prim.Native.Nat.{ℕ, suc, ◌≤◌, ◌<◌}
use native.Mathlib.Omega.{arith}
use mathlib.Core.Path.{◌≡◌, refl, ap, ◌∙◌}
use mathlib.Core.Bool.{true}
use mathlib.Core.List.{List, [], ◌∷◌}
use borrow.Author.Tests.{lt-ltb, ne_eqb}
use lib.IntN.{ℤ, pos, negsuc}
use lib.ListN.{length}
use Rattle.rules.specs.declared.Side.{Side}
use Rattle.rules.specs.declared.Side.TheVariants.{Buy, Sell}
use Rattle.rules.specs.Widths.{Word, SignedWord}
use Rattle.rules.specs.Digits.{is_digit, all_digits, number_from, in_digits, word_within, word_in, positive, negative, steps_in, decimal_of, signed_decimal}
use Rattle.rules.specs.Fields.{same_bytes, good_value}
use Rattle.rules.specs.Messages.{side_in, side_text}
use Rattle.fix_digits.proofs.Numbers.{both, digit_from}
use Rattle.fix_fields.proofs.Pieces.{clear, clear-cons}
use Rattle.fix_writer.proofs.Decimals.{all_digits_lem, number_is, at_least_one}
use Rattle.fix_writer.proofs.Fields.{digits_clear}

-- ---- numbers
in_digits_lem : (l : List ℕ) → all_digits l ≡ true → 1 ≤ length l → in_digits l ≡ Some (number_from 0 l)
unfolding in_digits
in_digits_lem [] h g = absurd (omega arith)
in_digits_lem (b ∷ l) h g = rw h refl

pub number-again : (n : ℕ) → in_digits (decimal_of n) ≡ Some n
number-again n = in_digits_lem (decimal_of n) (all_digits_lem n) (at_least_one n) ∙ ap Some (number_is n)

pub word-again : (n : ℕ) → Word n → word_in (decimal_of n) ≡ Some n
unfolding word_in
word-again n h = ap word_within (number-again n) ∙ rw (lt-ltb n 4294967296 h) refl

-- a number of digits has no minus sign
unsigned : (l : List ℕ) → all_digits l ≡ true → 1 ≤ length l → steps_in l ≡ positive (in_digits l)
unfolding steps_in all_digits
unsigned [] h g = absurd (omega arith)
unsigned (b ∷ l) h g = let low = digit_from b (both (is_digit b) (all_digits l) h).0 in rw (ne_eqb b 45 (λ e. omega arith)) refl

pub steps-again : (z : ℤ) → SignedWord z → steps_in (signed_decimal z) ≡ Some z
unfolding signed_decimal steps_in
steps-again (pos n) h =
    let small : n < 2147483648 = h in
    unsigned (decimal_of n) (all_digits_lem n) (at_least_one n) ∙ ap positive (number-again n) ∙ rw (lt-ltb n 2147483648 small) refl
steps-again (negsuc n) h =
    let small : n < 2147483648 = h in
    ap negative (number-again (suc n)) ∙ rw (lt-ltb n 2147483648 small) refl

pub side_again : (s : Side) → side_in (side_text s) ≡ Some s
unfolding side_in same_bytes
side_again Buy = refl
side_again Sell = refl

-- ---- they are values of fields
pub some_value : (l : List ℕ) → 1 ≤ length l → good_value l ≡ true
some_value [] h = absurd (omega arith)
some_value (b ∷ l) h = refl

pub decimal_clear : (n : ℕ) → clear (decimal_of n) ≡ true
decimal_clear n = digits_clear (decimal_of n) (all_digits_lem n)

pub decimal_value : (n : ℕ) → good_value (decimal_of n) ≡ true
decimal_value n = some_value (decimal_of n) (at_least_one n)

pub signed_clear : (z : ℤ) → clear (signed_decimal z) ≡ true
unfolding signed_decimal
signed_clear (pos n) = decimal_clear n
signed_clear (negsuc n) = clear-cons 45 (decimal_of (suc n)) (λ e. omega arith) (decimal_clear (suc n))

pub signed_value : (z : ℤ) → good_value (signed_decimal z) ≡ true
unfolding signed_decimal
signed_value (pos n) = decimal_value n
signed_value (negsuc n) = refl

pub side_clear : (s : Side) → clear (side_text s) ≡ true
unfolding clear
side_clear Buy = refl
side_clear Sell = refl

pub side_value : (s : Side) → good_value (side_text s) ≡ true
side_value Buy = refl
side_value Sell = refl
