-- Numbers in digits, laid digit by digit.
use Prim.Native.Nat.{ℕ, suc, ◌+◌, ◌-◌, ◌/◌, ◌%◌, ◌≤◌, ◌<◌}
use native.Mathlib.Omega.{arith}
use mathlib.Core.Path.{◌≡◌, sym, ap, ◌∙◌}
use mathlib.Core.List.{List, [], ◌∷◌, ◌++◌}
use lib.IntN.{ℤ, pos, negsuc}
use lib.ListN.{length, length-append}
use Rattle.rules.specs.Widths.{SignedWord}
use Rattle.rules.specs.Records.{unsigned_of}
use Rattle.rules.specs.Digits.{decimal_of, signed_decimal}
use Rattle.fix_writer.specs.Internal.{Laid}
use Rattle.fix_writer.proofs.Laying.{join, named}
use Rattle.fix_writer.proofs.Decimals.{one_digit, last_digit, ten_at_most}

module _ (d : List ℕ) (at n : ℕ) where
  pub one : (b m : ℕ) (e : List ℕ) → n < 10 → b ≡ 48 + n → Laid d at (b ∷ []) m e → Laid d at (decimal_of n) m e
  one b m e h q a = named d at (ap (λ (x : ℕ). x ∷ []) q ∙ sym (one_digit n h)) a

  pub more : (b m k : ℕ) (e f : List ℕ) → 10 ≤ n → b ≡ 48 + n % 10 → Laid d at (decimal_of (n / 10)) m e → Laid e m (b ∷ []) k f
      → Laid d at (decimal_of n) k f
  more b m k e f h q a c = named d at (ap (λ (x : ℕ). decimal_of (n / 10) ++ (x ∷ [])) q ∙ sym (last_digit n h)) (join d at a c)

pub room : (at n : ℕ) → 10 ≤ n → at + length (decimal_of n) ≤ 114 → at + length (decimal_of (n / 10)) + 1 ≤ 114
room at n h g = omega (arith, ap length (last_digit n h), length-append (decimal_of (n / 10)) ((48 + n % 10) ∷ []))

-- ---- a sign
signed_low : (z : ℤ) (w : ℕ) → SignedWord z → w ≡ unsigned_of z → w < 2147483648 → decimal_of w ≡ signed_decimal z
unfolding unsigned_of signed_decimal
signed_low (pos n) w f e h = ap decimal_of e
signed_low (negsuc n) w f e h = absurd (let g : n < 2147483648 = f in omega arith)

signed_high : (z : ℤ) (w : ℕ) → SignedWord z → w ≡ unsigned_of z → 2147483648 ≤ w → 45 ∷ decimal_of (4294967295 - w + 1) ≡ signed_decimal z
unfolding unsigned_of signed_decimal
signed_high (pos n) w f e h = absurd (let g : n < 2147483648 = f in omega arith)
signed_high (negsuc n) w f e h =
    let g : n < 2147483648 = f in
    let k : 4294967295 - w + 1 ≡ suc n = omega arith in
    ap (λ (m : ℕ). 45 ∷ decimal_of m) k

module _ (d : List ℕ) (at : ℕ) (z : ℤ) (w : ℕ) (f : SignedWord z) (e : w ≡ unsigned_of z) where
  pub without_sign : (n : ℕ) (g : List ℕ) → w < 2147483648 → Laid d at (decimal_of w) n g → Laid d at (signed_decimal z) n g
  without_sign n g h a = named d at (signed_low z w f e h) a

  pub with_sign : (m n : ℕ) (g k : List ℕ) → 2147483648 ≤ w → Laid d at (45 ∷ []) m g → Laid g m (decimal_of (4294967295 - w + 1)) n k
      → Laid d at (signed_decimal z) n k
  with_sign m n g k h a b = named d at (signed_high z w f e h) (join d at a b)

-- the bytes of a signed number
pub signed_at_most : (z : ℤ) → SignedWord z → length (signed_decimal z) ≤ 11
unfolding signed_decimal
signed_at_most (pos n) f = let g : n < 2147483648 = f in omega (arith, ten_at_most n (omega arith))
signed_at_most (negsuc n) f = let g : n < 2147483648 = f in omega (arith, ten_at_most (suc n) (omega arith))
