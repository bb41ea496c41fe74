-- What a tag's slot says: which wanted tag it is, or that it is of the frame.
use Rattle.std.specs.Prelude.{if◌then◌else◌}
use Prim.Native.Nat.{ℕ, ◌+◌, ◌*◌, ◌-◌, ◌/◌, ◌%◌, ◌≤◌, ◌<◌}
use native.Mathlib.Omega.{arith}
use mathlib.Core.Path.{◌≡◌, refl, sym, ap, ◌∙◌}
use mathlib.Core.Bool.{Bool, true, false, ◌&&◌, ◌||◌, true≢false}
use mathlib.Core.List.{List, [], ◌∷◌, ◌++◌}
use borrow.Author.Tests.{eqb-true, eqb-false, ne_eqb, leb-true, leb-false, le-leb, lt-leb, ltb-true, ltb-false}
use lib.Dec.{eqb, leb, ltb}
use lib.ListN.{length, get_or}
use Rattle.rules.specs.Digits.{is_digit, all_digits, number_from, decimal_of}
use Rattle.rules.specs.Fields.{good_tag, same_bytes}
use Rattle.fix_fields.specs.Tags.{slot_number, slot_of}
use Rattle.fix_scan_rules.specs.Wanted.{reserved, wanted_tags, place_from, slot_for}
use Rattle.fix_tag_spans.specs.Slots.{SlotTable}
use Rattle.fix_tag_spans.specs.Internal.{tag_slot}
use Rattle.fix_digits.proofs.Numbers.{both, digit_from, digit_to}
use Rattle.fix_fields.proofs.Tags.{tag_ranges}
use Rattle.fix_fields.proofs.SlotTags.{same_is, same_refl}
use Rattle.fix_fields.proofs.Slots.{frame_8, frame_9, frame_10, frame_35}
use Rattle.fix_writer.proofs.Decimals.{one_digit, last_digit, number_is}
use Rattle.fix_tag_spans.proofs.Wanting.{placed, wanted, few, place_few}

-- ---- tags of up to three digits
pub data Short : List ℕ → Type 0 where
  one : (x : ℕ) → 49 ≤ x → x ≤ 57 → Short (x ∷ [])
  two : (x y : ℕ) → 49 ≤ x → x ≤ 57 → 48 ≤ y → y ≤ 57 → Short (x ∷ y ∷ [])
  three : (x y z : ℕ) → 49 ≤ x → x ≤ 57 → 48 ≤ y → y ≤ 57 → 48 ≤ z → z ≤ 57 → Short (x ∷ y ∷ z ∷ [])

a_digit : (y : ℕ) → is_digit y ≡ true → (48 ≤ y) × (y ≤ 57)
a_digit y d = (digit_from y d, digit_to y d)

short : (t : List ℕ) → good_tag t ≡ true → length t ≤ 3 → Short t
unfolding good_tag all_digits
short [] h l = absurd (true≢false (sym h))
short (x ∷ []) h l = let g = tag_ranges x [] h in one x g.low g.high
short (x ∷ y ∷ []) h l =
    let g = tag_ranges x (y ∷ []) h in
    let d = a_digit y (both (is_digit y) true g.digits).0 in
    two x y g.low g.high d.0 d.1
short (x ∷ y ∷ z ∷ []) h l =
    let g = tag_ranges x (y ∷ z ∷ []) h in
    let s = both (is_digit y) (is_digit z && true) g.digits in
    let d = a_digit y s.0 in
    let e = a_digit z (both (is_digit z) true s.1).0 in
    three x y z g.low g.high d.0 d.1 e.0 e.1
short (x ∷ y ∷ z ∷ w ∷ t) h l = absurd (omega arith)

short_number_lem : {t : List ℕ} → Short t → (1 ≤ number_from 0 t) × (number_from 0 t < 1000)
unfolding number_from
short_number_lem (one x a b) = (omega arith, omega arith)
short_number_lem (two x y a b c d) = (omega arith, omega arith)
short_number_lem (three x y z a b c d e f) = (omega arith, omega arith)

-- they are the digits of their number
two_decimal : (n : ℕ) → 10 ≤ n → n < 100 → decimal_of n ≡ (48 + n / 10) ∷ (48 + n % 10) ∷ []
two_decimal n h l = last_digit n h ∙ ap (λ (d : List ℕ). d ++ ((48 + n % 10) ∷ [])) (one_digit (n / 10) (omega arith))

three_decimal : (n : ℕ) → 100 ≤ n → n < 1000 → decimal_of n ≡ (48 + n / 10 / 10) ∷ (48 + n / 10 % 10) ∷ (48 + n % 10) ∷ []
three_decimal n h l = last_digit n (omega arith) ∙ ap (λ (d : List ℕ). d ++ ((48 + n % 10) ∷ [])) (two_decimal (n / 10) (omega arith) (omega arith))

short_decimal : {t : List ℕ} → Short t → t ≡ decimal_of (number_from 0 t)
unfolding number_from
short_decimal (one x a b) = let p : x ≡ 48 + (0 * 10 + (x - 48)) = omega arith in ap (λ (d : ℕ). d ∷ []) p ∙ sym (one_digit (0 * 10 + (x - 48)) (omega arith))
short_decimal (two x y a b c d) =
    let n : ℕ = (0 * 10 + (x - 48)) * 10 + (y - 48) in
    let p : x ≡ 48 + ((0 * 10 + (x - 48)) * 10 + (y - 48)) / 10 = omega arith in
    let q : y ≡ 48 + ((0 * 10 + (x - 48)) * 10 + (y - 48)) % 10 = omega arith in
    (λ i. p i ∷ q i ∷ []) ∙ sym (two_decimal ((0 * 10 + (x - 48)) * 10 + (y - 48)) (omega arith) (omega arith))
short_decimal (three x y z a b c d e f) =
    let p : x ≡ 48 + (((0 * 10 + (x - 48)) * 10 + (y - 48)) * 10 + (z - 48)) / 10 / 10 = omega arith in
    let q : y ≡ 48 + (((0 * 10 + (x - 48)) * 10 + (y - 48)) * 10 + (z - 48)) / 10 % 10 = omega arith in
    let r : z ≡ 48 + (((0 * 10 + (x - 48)) * 10 + (y - 48)) * 10 + (z - 48)) % 10 = omega arith in
    (λ i. p i ∷ q i ∷ r i ∷ []) ∙ sym (three_decimal (((0 * 10 + (x - 48)) * 10 + (y - 48)) * 10 + (z - 48)) (omega arith) (omega arith))

decimal_short : (u : ℕ) → u ≤ 999 → length (decimal_of u) ≤ 3
decimal_short u h = by (ltb u 10) (ltb u 100) refl refl
  where
    by : (a b : Bool) → ltb u 10 ≡ a → ltb u 100 ≡ b → length (decimal_of u) ≤ 3
    by true b p q = rw (one_digit u (ltb-true u 10 p)) (omega arith)
    by false true p q = rw (two_decimal u (ltb-false u 10 p) (ltb-true u 100 q)) (omega arith)
    by false false p q = rw (three_decimal u (ltb-false u 100 q) (omega arith)) (omega arith)

-- ---- the frame's numbers
reserved_seven : (n : ℕ) → 1 ≤ n → reserved n ≡ true → slot_number n ≡ 7
reserved_seven n l h = by (eqb n 0) (eqb n 8) (eqb n 9) (eqb n 10) (eqb n 35) refl refl refl refl refl h
  where
    by : (a b c d e : Bool) → eqb n 0 ≡ a → eqb n 8 ≡ b → eqb n 9 ≡ c → eqb n 10 ≡ d → eqb n 35 ≡ e → a || b || c || d || e ≡ true → slot_number n ≡ 7
    by true b c d e p q r s t h = absurd (omega (arith, eqb-true n 0 p))
    by false true c d e p q r s t h = sym (frame_8 n (eqb-true n 8 q))
    by false false true d e p q r s t h = sym (frame_9 n (eqb-true n 9 r))
    by false false false true e p q r s t h = sym (frame_10 n (eqb-true n 10 s))
    by false false false false true p q r s t h = sym (frame_35 n (eqb-true n 35 t))
    by false false false false false p q r s t h = absurd (true≢false (sym h))

seven_reserved : (n : ℕ) → slot_number n ≡ 7 → reserved n ≡ true
unfolding slot_number
seven_reserved n h =
    by (eqb n 0) (eqb n 8) (eqb n 9) (eqb n 10) (eqb n 35) (eqb n 11) (eqb n 41) (eqb n 54) (eqb n 38) (eqb n 44) (eqb n 60) h
  where
    by : (z a b c d e f g h i j : Bool)
        → ◌≡◌ {A = ℕ} (if a then 7 else if b then 7 else if c then 7 else if d then 7 else if e then 0 else if f then 1 else if g then 2 else if h then 3
        else if i then 4 else if j then 5 else 6) 7
        → z || a || b || c || d ≡ true
    by true a b c d e f g h i j q = refl
    by false true b c d e f g h i j q = refl
    by false false true c d e f g h i j q = refl
    by false false false true d e f g h i j q = refl
    by false false false false true e f g h i j q = refl
    by false false false false false true f g h i j q = absurd (omega arith)
    by false false false false false false true g h i j q = absurd (omega arith)
    by false false false false false false false true h i j q = absurd (omega arith)
    by false false false false false false false false true i j q = absurd (omega arith)
    by false false false false false false false false false true j q = absurd (omega arith)
    by false false false false false false false false false false true q = absurd (omega arith)
    by false false false false false false false false false false false q = absurd (omega arith)

large_free : (n : ℕ) → 100 ≤ n → reserved n ≡ false
large_free n h =
    rw (ne_eqb n 0 (λ e. omega arith), ne_eqb n 8 (λ e. omega arith), ne_eqb n 9 (λ e. omega arith), ne_eqb n 10 (λ e. omega arith), ne_eqb n 35 (λ e. omega arith))
    refl

-- ---- a table
module _ (tags slots : List ℕ) (W : wanted_tags tags ≡ true) (T : SlotTable tags slots) (t : List ℕ) (good : good_tag t ≡ true) where
  long_tag : 3 < length t → tag_slot slots t ≡ 0
  unfolding tag_slot
  long_tag h = rw (lt-leb (length t) 3 h) refl

  short_slot : length t ≤ 3 → tag_slot slots t ≡ slot_for tags (number_from 0 t)
  unfolding tag_slot
  short_slot h = rw (le-leb (length t) 3 h) (T (number_from 0 t) (short_number_lem (short t good h)).1)

  number-slot : (n : ℕ) (d : Bool) → reserved n ≡ d → slot_for tags n ≡ (if d then 255 else place_from 1 n tags)
  unfolding slot_for
  number-slot n d e = rw e refl

-- the frame's
two_long : (t : List ℕ) → Short t → reserved (number_from 0 t) ≡ true → slot_of t ≡ 7
unfolding slot_of number_from
two_long t (one x a b) r = reserved_seven (0 * 10 + (x - 48)) (omega arith) r
two_long t (two x y a b c d) r = reserved_seven ((0 * 10 + (x - 48)) * 10 + (y - 48)) (omega arith) r
two_long t (three x y z a b c d e f) r =
    absurd (true≢false (sym r ∙ large_free (((0 * 10 + (x - 48)) * 10 + (y - 48)) * 10 + (z - 48)) (omega arith)))

module _ (tags slots : List ℕ) (W : wanted_tags tags ≡ true) (T : SlotTable tags slots) (t : List ℕ) (good : good_tag t ≡ true) where
  slot_by_lem : (l : length t ≤ 3) (d : Bool) → reserved (number_from 0 t) ≡ d → tag_slot slots t ≡ (if d then 255 else place_from 1 (number_from 0 t) tags)
  slot_by_lem l d r = short_slot tags slots W T t good l ∙ number-slot tags slots W T t good (number_from 0 t) d r

  pub frame_slot : tag_slot slots t ≡ 255 → slot_of t ≡ 7
  frame_slot e = by (leb (length t) 3) refl
    where
      is : length t ≤ 3 → (d : Bool) → reserved (number_from 0 t) ≡ d → slot_of t ≡ 7
      is l true r = two_long t (short t good l) r
      is l false r = absurd (omega (arith, place_few tags W (number_from 0 t), sym (slot_by_lem l false r) ∙ e))

      by : (d : Bool) → leb (length t) 3 ≡ d → slot_of t ≡ 7
      by true l = is (leb-true (length t) 3 l) (reserved (number_from 0 t)) refl
      by false l = absurd (omega (arith, long_tag tags slots W T t good (leb-false (length t) 3 l), e))

  pub slot_frame : slot_of t ≡ 7 → tag_slot slots t ≡ 255
  unfolding slot_of
  slot_frame e = by (leb (length t) 2) refl e
    where
      by : (d : Bool) → leb (length t) 2 ≡ d → (if d then slot_number (number_from 0 t) else 6) ≡ 7 → tag_slot slots t ≡ 255
      by true l q = slot_by_lem (let k = leb-true (length t) 2 l in omega arith) true (seven_reserved (number_from 0 t) q)
      by false l q = absurd (omega arith)

  -- the wanted ones
  module _ (i : ℕ) (h : i < length tags) where
    to-slot : t ≡ decimal_of (get_or tags i 0) → tag_slot slots t ≡ 1 + i
    to-slot e =
        let w = wanted tags W i h in
        let l : length t ≤ 3 = rw e (decimal_short (get_or tags i 0) w.small) in
        let n : number_from 0 t ≡ get_or tags i 0 = ap (number_from 0) e ∙ number_is (get_or tags i 0) in
        slot_by_lem l false (ap reserved n ∙ w.free) ∙ ap (λ (k : ℕ). place_from 1 k tags) n ∙ w.place

    from_slot : tag_slot slots t ≡ 1 + i → t ≡ decimal_of (get_or tags i 0)
    from_slot e = by (leb (length t) 3) refl
      where
        is : length t ≤ 3 → (d : Bool) → reserved (number_from 0 t) ≡ d → t ≡ decimal_of (get_or tags i 0)
        is l true r = absurd (omega (arith, sym (slot_by_lem l true r) ∙ e, few tags W))
        is l false r =
            let q : place_from 1 (number_from 0 t) tags ≡ 1 + i = sym (slot_by_lem l false r) ∙ e in
            let p = placed 1 (number_from 0 t) tags (λ z. omega arith) in
            let same : p.index ≡ i = omega (arith, p.place, q) in
            short_decimal (short t good l) ∙ ap decimal_of (sym p.is ∙ ap (λ (k : ℕ). get_or tags k 0) same)

        by : (d : Bool) → leb (length t) 3 ≡ d → t ≡ decimal_of (get_or tags i 0)
        by true l = is (leb-true (length t) 3 l) (reserved (number_from 0 t)) refl
        by false l = absurd (omega (arith, long_tag tags slots W T t good (leb-false (length t) 3 l), e))

    pub has_slot : same_bytes t (decimal_of (get_or tags i 0)) ≡ eqb (tag_slot slots t) (1 + i)
    has_slot = by (eqb (tag_slot slots t) (1 + i)) refl
      where
        other_tag : (tag_slot slots t ≡ 1 + i → ⊥) → (d : Bool) → same_bytes t (decimal_of (get_or tags i 0)) ≡ d → d ≡ false
        other_tag n true e = absurd (n (to-slot (same_is t (decimal_of (get_or tags i 0)) e)))
        other_tag n false e = refl

        by : (d : Bool) → eqb (tag_slot slots t) (1 + i) ≡ d → same_bytes t (decimal_of (get_or tags i 0)) ≡ d
        by true e =
            ap (λ (l : List ℕ). same_bytes l (decimal_of (get_or tags i 0))) (from_slot (eqb-true (tag_slot slots t) (1 + i) e)) ∙ same_refl (decimal_of (get_or tags i 0))
        by false e = other_tag (eqb-false (tag_slot slots t) (1 + i) e) (same_bytes t (decimal_of (get_or tags i 0))) refl

  -- a slot that is not 0 is that of a wanted tag, or the frame's
  pub slot-place : (tag_slot slots t ≡ 0 → ⊥) → (tag_slot slots t ≡ 255 → ⊥) → (1 ≤ tag_slot slots t) × (tag_slot slots t ≤ length tags)
  slot-place z f = by (leb (length t) 3) refl
    where
      is : length t ≤ 3 → (d : Bool) → reserved (number_from 0 t) ≡ d → (1 ≤ tag_slot slots t) × (tag_slot slots t ≤ length tags)
      is l true r = absurd (f (slot_by_lem l true r))
      is l false r =
          let p = placed 1 (number_from 0 t) tags (λ q. z (slot_by_lem l false r ∙ q)) in
          (omega (arith, slot_by_lem l false r, p.place), omega (arith, slot_by_lem l false r, p.place, p.inside))

      by : (d : Bool) → leb (length t) 3 ≡ d → (1 ≤ tag_slot slots t) × (tag_slot slots t ≤ length tags)
      by true l = is (leb-true (length t) 3 l) (reserved (number_from 0 t)) refl
      by false l = absurd (z (long_tag tags slots W T t good (leb-false (length t) 3 l)))
