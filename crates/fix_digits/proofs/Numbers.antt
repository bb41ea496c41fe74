-- Numbers in digits, as the loop reads them and as 32 bits hold them.
use Rattle.std.specs.Prelude.{if◌then◌else◌}
use Rattle.std.proofs.Common.{◌≡◌, ℕ, zero, suc, ◌+◌, ◌-◌, ◌*◌, ◌<◌, ◌≤◌, Bool, true, false, ◌&&◌, leb, List, [], ◌∷◌, length, get_or, drop, pos, negsuc, sym, refl, ap, ◌∙◌, true≢false, add-one, arith, drop_of_length-le, drop-cons, le-ltb, lt-ltb, eq-eqb, ne_eqb, le-leb, leb-false, leb-true, Option, None, Some, option_map}
use borrow.Author.Tests.{lt-leb}
use Rattle.rules.specs.Units.{steps}
use Rattle.rules.specs.Digits.{is_digit, all_digits, number_from, in_digits, word_within, positive, negative, steps_in}
use Rattle.fix_digits.specs.Capped.{capped}
use Rattle.fix_digits.specs.Internal.{more_of}

-- ---- digits
pub both : (a b : Bool) → a && b ≡ true → (a ≡ true) × (b ≡ true)
both true b h = (refl, h)
both false b h = absurd (true≢false (sym h))

pub digit_from : (b : ℕ) → is_digit b ≡ true → 48 ≤ b
digit_from b h = leb-true 48 b (both (leb 48 b) (leb b 57) h).0

pub digit_to : (b : ℕ) → is_digit b ≡ true → b ≤ 57
digit_to b h = leb-true b 57 (both (leb 48 b) (leb b 57) h).1

-- the digits of a capped number, as the loop takes them
unfoldable pub capped_from : ℕ → List ℕ → ℕ
capped_from n [] = n
capped_from n (b ∷ bs) = capped_from (more_of n (b - 48)) bs

module _ (n d : ℕ) (h : d ≤ 9) where
  more_small : n ≤ 1844674407370955160 → more_of (capped n) d ≡ capped (n * 10 + d)
  more_small k =
      rw
      (le-leb n 18446744073709551609 (omega arith), le-leb n 1844674407370955160 k, le-leb (n * 10 + d) 18446744073709551609 (omega arith))
      refl

  more_large : 1844674407370955160 < n → (t : Bool) → leb n 18446744073709551609 ≡ t → more_of (capped n) d ≡ capped (n * 10 + d)
  more_large k true e = rw (e, lt-leb n 1844674407370955160 k, lt-leb (n * 10 + d) 18446744073709551609 (omega arith)) refl
  more_large k false e = rw (e, lt-leb (n * 10 + d) 18446744073709551609 (omega arith)) refl

  more_by : (t : Bool) → leb n 1844674407370955160 ≡ t → more_of (capped n) d ≡ capped (n * 10 + d)
  more_by true e = more_small (leb-true n 1844674407370955160 e)
  more_by false e = more_large (leb-false n 1844674407370955160 e) (leb n 18446744073709551609) refl

  more-capped : more_of (capped n) d ≡ capped (n * 10 + d)
  more-capped = more_by (leb n 1844674407370955160) refl

pub capped_from_lem : (n : ℕ) (l : List ℕ) → all_digits l ≡ true → capped_from (capped n) l ≡ capped (number_from n l)
unfolding capped_from number_from all_digits
capped_from_lem n [] h = refl
capped_from_lem n (b ∷ bs) h =
    let hs = both (is_digit b) (all_digits bs) h in
    let d = digit_to b hs.0 in
    ap (λ (x : ℕ). capped_from x bs) (more-capped n (b - 48) (omega arith)) ∙ capped_from_lem (n * 10 + (b - 48)) bs hs.1

-- ---- the loop over digits: the digits that are left decide, and the number that they make of what is read
module _ (v : List ℕ) (i : ℕ) where
  pub digits_turn : i < length v → is_digit (get_or v i 0) ≡ true → all_digits (drop i v) ≡ all_digits (drop (i + 1) v)
  unfolding all_digits
  digits_turn h d = rw (add-one, drop-cons v i 0, d) refl

  pub digits_stop : i < length v → is_digit (get_or v i 0) ≡ false → all_digits (drop i v) ≡ false
  unfolding all_digits
  digits_stop h d = rw (drop-cons v i 0, d) refl

  capped_turn : (n : ℕ) → i < length v
      → capped_from (more_of n (get_or v i 0 - 48)) (drop (i + 1) v) ≡ capped_from n (drop i v)
  unfolding capped_from
  capped_turn n h = rw (add-one, drop-cons v i 0) refl

  pub number-again : (n d r : ℕ) → i < length v → d ≡ get_or v i 0 - 48 → r ≡ more_of n d
      → capped_from r (drop (i + 1) v) ≡ capped_from n (drop i v)
  number-again n d r h e f = rw (f, e) (capped_turn n h)

  pub digits_end : length v ≤ i → all_digits (drop i v) ≡ true
  unfolding all_digits
  digits_end h = rw (drop_of_length-le v h) refl

  pub capped-end : (n : ℕ) → length v ≤ i → capped_from n (drop i v) ≡ n
  unfolding capped_from
  capped-end n h = rw (drop_of_length-le v h) refl

-- ---- what is answered
pub nothing : (v : List ℕ) → length v ≡ 0 → None ≡ option_map capped (in_digits v)
unfolding in_digits
nothing [] h = refl
nothing (b ∷ bs) h = absurd (omega arith)

pub no_number : (v : List ℕ) → all_digits v ≡ false → None ≡ option_map capped (in_digits v)
unfolding in_digits
no_number [] h = refl
no_number (b ∷ bs) h = rw h refl

pub a-number : (v : List ℕ) (n : ℕ) → 0 < length v → all_digits v ≡ true → n ≡ capped (number_from 0 v) → Some n ≡ option_map capped (in_digits v)
unfolding in_digits
a-number [] n h d e = absurd (omega arith)
a-number (b ∷ bs) n h d e = rw (d, e) refl

-- ---- 32 bits: a capped number is within a bound of theirs where the number is, and then it is the number
pub gone : (o : Option ℕ) → None ≡ option_map capped o → o ≡ None
gone None e = refl
gone (Some m) e = absurd (none_some e)
  where
    none_some : None ≡ Some (capped m) → ⊥
    none_some q = let z : ◌≡◌ {A = ℕ} 0 1 = cc in omega arith

module _ (n limit : ℕ) (small : limit ≤ 4294967296) where
  held_by : (m : ℕ) (t : Bool) → leb m 18446744073709551609 ≡ t → n ≡ (if t then m else 18446744073709551615) → n ≤ limit → m ≡ n
  held_by m true e q h = sym q
  held_by m false e q h = absurd (omega arith)

  pub held : (o : Option ℕ) → Some n ≡ option_map capped o → n ≤ limit → o ≡ Some n
  held None e h = absurd (let z : ◌≡◌ {A = ℕ} 0 1 = cc in omega arith)
  held (Some m) e h = ap Some (held_by m (leb m 18446744073709551609) refl (cc) h)

  above_by : (m : ℕ) (t : Bool) → leb m 18446744073709551609 ≡ t → n ≡ (if t then m else 18446744073709551615) → limit < n → limit < m
  above_by m true e q h = omega arith
  above_by m false e q h = omega (arith, leb-false m 18446744073709551609 e)

  pub above : (o : Option ℕ) → Some n ≡ option_map capped o → limit < n → (m : ℕ) × (o ≡ Some m) × (limit < m)
  above None e h = absurd (let z : ◌≡◌ {A = ℕ} 0 1 = cc in omega arith)
  above (Some m) e h = (m, refl, above_by m (leb m 18446744073709551609) refl (cc) h)

module _ (o : Option ℕ) where
  pub word-gone : None ≡ option_map capped o → None ≡ word_within o
  word-gone e = rw (gone o e) refl

  pub word_held : (n : ℕ) → Some n ≡ option_map capped o → n ≤ 4294967295 → Some n ≡ word_within o
  word_held n e h = rw (held n 4294967295 (omega arith) o e h, lt-ltb n 4294967296 (omega arith)) refl

  pub word-above : (n : ℕ) → Some n ≡ option_map capped o → 4294967295 < n → None ≡ word_within o
  word-above n e h =
      let a = above n 4294967295 (omega arith) o e h in
      rw (a.1, le-ltb a.0 4294967296 (omega (arith, a.2))) refl

  pub positive-gone : None ≡ option_map capped o → None ≡ positive o
  positive-gone e = rw (gone o e) refl

  pub positive-held : (n : ℕ) → Some n ≡ option_map capped o → n ≤ 2147483647 → Some (pos n) ≡ positive o
  positive-held n e h = rw (held n 2147483647 (omega arith) o e h, lt-ltb n 2147483648 (omega arith)) refl

  pub positive-above : (n : ℕ) → Some n ≡ option_map capped o → 2147483647 < n → None ≡ positive o
  positive-above n e h =
      let a = above n 2147483647 (omega arith) o e h in
      rw (a.1, le-ltb a.0 2147483648 (omega (arith, a.2))) refl

  pub negative-gone : None ≡ option_map capped o → None ≡ negative o
  negative-gone e = rw (gone o e) refl

-- a number after a minus sign that is not zero
pub minus : (n : ℕ) → (n ≡ 0 → ⊥) → n ≤ 2147483648 → Some (negsuc (n - 1)) ≡ negative (Some n)
minus zero h k = absurd (h refl)
minus (suc n) h k = rw (lt-ltb n 2147483648 (omega arith)) (ap (λ (m : ℕ). Some (negsuc m)) (omega arith))

minus_above : (n : ℕ) → 2147483648 < n → None ≡ negative (Some n)
minus_above zero h = absurd (omega arith)
minus_above (suc n) h = rw (le-ltb n 2147483648 (omega arith)) refl

module _ (o : Option ℕ) (n : ℕ) (e : Some n ≡ option_map capped o) where
  pub negative-held : n ≤ 2147483648 → negative (Some n) ≡ negative o
  negative-held h = ap negative (sym (held n 2147483648 (omega arith) o e h))

  pub negative-above : 2147483648 < n → None ≡ negative o
  negative-above h =
      let a = above n 2147483648 (omega arith) o e h in
      rw a.1 (minus_above a.0 a.2)

-- ---- a minus sign first, or none
pub no_steps : (v : List ℕ) → length v ≡ 0 → None ≡ option_map steps (steps_in v)
unfolding steps_in
no_steps [] h = refl
no_steps (b ∷ bs) h = absurd (omega arith)

pub minus_steps : (b : ℕ) (bs : List ℕ) → b ≡ 45 → negative (in_digits bs) ≡ steps_in (b ∷ bs)
unfolding steps_in
minus_steps b bs e = rw (eq-eqb b 45 e) refl

pub plain_steps : (b : ℕ) (bs : List ℕ) → (b ≡ 45 → ⊥) → positive (in_digits (b ∷ bs)) ≡ steps_in (b ∷ bs)
unfolding steps_in
plain_steps b bs e = rw (ne_eqb b 45 e) refl
