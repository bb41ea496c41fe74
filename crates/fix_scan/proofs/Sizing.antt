-- What a message says of its own length.
use Rattle.std.specs.Prelude.{if◌then◌else◌, Option, None, Some, option_map}
use Prim.Native.Nat.{ℕ, zero, suc, ◌+◌, ◌-◌, ◌≤◌, ◌<◌}
use native.Mathlib.Numerals.{add-one}
use native.Mathlib.Omega.{arith}
use mathlib.Core.Path.{◌≡◌, refl, sym, ap, ◌∙◌}
use mathlib.Core.Bool.{Bool, true, false, ◌&&◌, true≢false, and-false}
use mathlib.Core.List.{List, [], ◌∷◌, ◌++◌}
use borrow.Author.Tests.{eq-eqb, ne_eqb, le-leb, lt-leb, leb-false}
use lib.Dec.{eqb, leb}
use lib.ListN.{length, get_or, take, drop, length-drop, take-append-drop}
use lib.Seq.{get_or-drop, drop-drop, drop-cons, take_all}
use Rattle.rules.specs.Digits.{is_digit, in_digits}
use Rattle.rules.specs.Fields.{same_bytes}
use Rattle.fix_digits.specs.Capped.{capped}
use Rattle.fix_digits.proofs.Numbers.{gone}
use Rattle.fix_fields.proofs.Tags.{digit_not_one}
use Rattle.fix_fields.proofs.SlotTags.{same_is, same_refl}
use Rattle.fix_frame.specs.Frames.{head_right}
use Rattle.fix_frame.proofs.Frames.{head_is, head-holds}
use Rattle.fix_scan_rules.specs.Scans.{digits_front, head, size_by, size_with, size_in}

-- ---- digits at the front
front-take : (k : ℕ) (l : List ℕ) → digits_front k l ≡ take (length (digits_front k l)) l
unfolding digits_front
front-take zero l = refl
front-take (suc k) [] = refl
front-take (suc k) (b ∷ l) = by (is_digit b) (front-take k l)
  where
    by : (t : Bool) → digits_front k l ≡ take (length (digits_front k l)) l
        → (if t then b ∷ digits_front k l else []) ≡ take (length (if t then b ∷ digits_front k l else [])) (b ∷ l)
    by true e = ap (λ (m : List ℕ). b ∷ m) e
    by false e = refl

pub front_most : (k : ℕ) (l : List ℕ) → length (digits_front k l) ≤ k
unfolding digits_front
front_most zero l = omega arith
front_most (suc k) [] = omega arith
front_most (suc k) (b ∷ l) = by (is_digit b) (front_most k l)
  where
    by : (t : Bool) → length (digits_front k l) ≤ k → length (if t then b ∷ digits_front k l else []) ≤ suc k
    by true h = omega arith
    by false h = omega arith

front_fewer : (k : ℕ) (l : List ℕ) → length (digits_front (suc k) l) ≤ k → digits_front (suc k) l ≡ digits_front k l
unfolding digits_front
front_fewer zero [] h = refl
front_fewer zero (b ∷ l) h = by (is_digit b) h
  where
    by : (t : Bool) → length (if t then b ∷ digits_front 0 l else []) ≤ 0 → (if t then b ∷ digits_front 0 l else []) ≡ []
    by true h = absurd (omega arith)
    by false h = refl
front_fewer (suc k) [] h = refl
front_fewer (suc k) (b ∷ l) h = by (is_digit b) (front_fewer k l) h
  where
    by : (t : Bool) → (length (digits_front (suc k) l) ≤ k → digits_front (suc k) l ≡ digits_front k l)
        → length (if t then b ∷ digits_front (suc k) l else []) ≤ suc k
        → (if t then b ∷ digits_front (suc k) l else []) ≡ (if t then b ∷ digits_front k l else [])
    by true again h = ap (λ (m : List ℕ). b ∷ m) (again (omega arith))
    by false again h = refl

front_full : (k : ℕ) (l : List ℕ) → length (digits_front (suc k) l) ≡ suc k → (length (digits_front k l) ≡ k) × (is_digit (get_or l k 0) ≡ true)
unfolding digits_front
front_full zero [] h = absurd (omega arith)
front_full zero (b ∷ l) h = by (is_digit b) h
  where
    by : (t : Bool) → length (if t then b ∷ digits_front 0 l else []) ≡ 1 → ◌≡◌ {A = ℕ} 0 0 × (t ≡ true)
    by true h = (refl, refl)
    by false h = absurd (omega arith)
front_full (suc k) [] h = absurd (omega arith)
front_full (suc k) (b ∷ l) h = by (is_digit b) (front_full k l) h
  where
    by : (t : Bool) → (length (digits_front (suc k) l) ≡ suc k → (length (digits_front k l) ≡ k) × (is_digit (get_or l k 0) ≡ true))
        → length (if t then b ∷ digits_front (suc k) l else []) ≡ suc (suc k)
        → (length (if t then b ∷ digits_front k l else []) ≡ suc k) × (is_digit (get_or l k 0) ≡ true)
    by true again h = let r = again (omega arith) in (omega (arith, r.0), r.1)
    by false again h = absurd (omega arith)

-- ---- the loop: so many digits passed, and those that are left
pub record DigitsTo (b : List ℕ) (from i : ℕ) : Type 0 where
  pub first : from ≤ i
  pub most : i ≤ from + 14
  pub ahead : from + length (digits_front 14 (drop from b)) ≡ i + length (digits_front (14 - (i - from)) (drop i b))

module _ (b : List ℕ) (from : ℕ) (room : from + 14 ≤ length b) where
  pub digits_start : DigitsTo b from from
  digits_start =
      record {
        first = omega arith;
        most = omega arith;
        ahead = ap (λ (k : ℕ). from + length (digits_front k (drop from b))) (let p : 14 ≡ 14 - (from - from) = omega arith in p);
      }

  module _ (i : ℕ) (D : DigitsTo b from i) (h : i < from + 14) where
    split : (t : Bool) → is_digit (get_or b i 0) ≡ t
        → length (digits_front (14 - (i - from)) (drop i b)) ≡ (if t then suc (length (digits_front (14 - (i + 1 - from)) (drop (i + 1) b))) else 0)
    unfolding digits_front
    split t e =
        (λ j. length (digits_front (one j) (drop-cons b i 0 (omega (arith, room)) j)))
        ∙ by t e
      where
        one : 14 - (i - from) ≡ suc (14 - (i + 1 - from))
        one = omega (arith, D.first)

        by : (t : Bool) → is_digit (get_or b i 0) ≡ t
            → length (if is_digit (get_or b i 0) then get_or b i 0 ∷ digits_front (14 - (i + 1 - from)) (drop (suc i) b) else [])
            ≡ (if t then suc (length (digits_front (14 - (i + 1 - from)) (drop (i + 1) b))) else 0)
        by true e = rw e (ap (λ (k : ℕ). suc (length (digits_front (14 - (i + 1 - from)) (drop k b)))) (sym (add-one i)))
        by false e = rw e refl

    pub digits_more : is_digit (get_or b i 0) ≡ true → DigitsTo b from (i + 1)
    digits_more e = record { first = omega (arith, D.first); most = omega arith; ahead = D.ahead ∙ omega (arith, split true e) }

    pub digits_stop : is_digit (get_or b i 0) ≡ false → i ≡ from + length (digits_front 14 (drop from b))
    digits_stop e = omega (arith, D.ahead, split false e)

  pub digits_all : (i : ℕ) → DigitsTo b from i → from + 14 ≤ i → from + 14 ≡ from + length (digits_front 14 (drop from b))
  unfolding digits_front
  digits_all i D h =
      let none_left : 14 - (i - from) ≡ 0 = omega (arith, D.first) in
      let nothing : length (digits_front (14 - (i - from)) (drop i b)) ≡ 0 = ap (λ (k : ℕ). length (digits_front k (drop i b))) none_left in
      omega (arith, D.ahead, D.most, nothing)

-- ---- the head
head-same : (l : List ℕ) → 12 ≤ length l → head_right l ≡ same_bytes (take 12 l) head
head-same l h = by (head_right l) (same_bytes (take 12 l) head) refl refl
  where
    same : head_right l ≡ true → take 12 l ≡ head
    same e = ap (take 12) (head_is l h e)

    right : take 12 l ≡ head → head_right l ≡ true
    right e = head-holds l (drop 12 l) (sym (take-append-drop 12 l) ∙ ap (λ (m : List ℕ). m ++ drop 12 l) e)

    by : (s t : Bool) → head_right l ≡ s → same_bytes (take 12 l) head ≡ t → s ≡ t
    by true true p q = refl
    by true false p q = absurd (true≢false (sym (ap (λ (m : List ℕ). same_bytes m head) (same p) ∙ same_refl head) ∙ q))
    by false true p q = absurd (true≢false (sym (right (same_is (take 12 l) head q)) ∙ p))
    by false false p q = refl

-- ---- the bytes from a place on
pub rest_is : (b : List ℕ) (at : ℕ) → take (length b - at) (drop at b) ≡ drop at b
rest_is b at = take_all (length b - at) (drop at b) (omega (arith, length-drop at b))

-- ---- the size
module _ (b : List ℕ) (at : ℕ) (room : at + 26 ≤ length b) where
  bytes : List ℕ
  bytes = drop at b

  long : 26 ≤ length bytes
  unfolding bytes
  long = rw (length-drop at b) (omega arith)

  behind : drop 12 bytes ≡ drop (at + 12) b
  unfolding bytes
  behind = drop-drop 12 at b

  pub no_head : head_right (drop at b) ≡ false → None ≡ size_in (drop at b)
  unfolding size_in bytes
  no_head e = rw (sym (head-same bytes (omega (arith, long))) ∙ e) refl

  with-head : (t : Bool) → head_right (drop at b) ≡ t → same_bytes (take 12 bytes) head ≡ t
  unfolding bytes
  with-head t e = sym (head-same bytes (omega (arith, long))) ∙ e

  not_ended : (ds : List ℕ) → (get_or bytes (12 + length ds) 0 ≡ 1 → ⊥) → None ≡ size_with bytes ds
  not_ended ds n = rw (ne_eqb (get_or bytes (12 + length ds) 0) 1 n, and-false (same_bytes (take 12 bytes) head)) refl

  module _ (nine : ℕ) (q : nine ≡ at + 12 + length (digits_front 14 (drop (at + 12) b))) where
    pub too_long : at + 12 + 14 ≤ nine → None ≡ size_in (drop at b)
    unfolding size_in bytes
    too_long h =
        let all : length (digits_front 14 (drop (at + 12) b)) ≡ 14 = omega (arith, front_most 14 (drop (at + 12) b)) in
        let f = front_full 13 (drop (at + 12) b) all in
        not_ended (digits_front 13 (drop 12 bytes))
        (λ e.
        digit_not_one (get_or (drop (at + 12) b) 13 0) f.1
        (ap (λ (l : List ℕ). get_or l 13 0) (sym behind) ∙ get_or-drop 12 bytes 13 0
        ∙ ap (λ (k : ℕ). get_or bytes (12 + k) 0) (sym (ap (λ (l : List ℕ). length (digits_front 13 l)) behind ∙ f.0)) ∙ e))

    module _ (fewer : nine < at + 12 + 14) where
      value : List ℕ
      value = take (nine - (at + 12)) (drop (at + 12) b)

      digits_are : digits_front 13 (drop 12 bytes) ≡ value
      unfolding value
      digits_are =
          ap (digits_front 13) behind ∙ sym (front_fewer 13 (drop (at + 12) b) (omega arith)) ∙ front-take 14 (drop (at + 12) b)
          ∙ ap (λ (k : ℕ). take k (drop (at + 12) b)) (let p : length (digits_front 14 (drop (at + 12) b)) ≡ nine - (at + 12) = omega arith in p)

      digits_long : length (digits_front 13 (drop 12 bytes)) ≡ nine - (at + 12)
      digits_long =
          ap length (ap (digits_front 13) behind ∙ sym (front_fewer 13 (drop (at + 12) b) (omega arith)))
          ∙ (let p : length (digits_front 14 (drop (at + 12) b)) ≡ nine - (at + 12) = omega arith in p)

      end_byte : get_or bytes (12 + length (digits_front 13 (drop 12 bytes))) 0 ≡ get_or b nine 0
      unfolding bytes
      end_byte =
          get_or-drop at b (12 + length (digits_front 13 (drop 12 bytes))) 0
          ∙ ap (λ (k : ℕ). get_or b k 0) (let p : at + (12 + length (digits_front 13 (drop 12 bytes))) ≡ nine = omega (arith, digits_long) in p)

      pub no_end : (get_or b nine 0 ≡ 1 → ⊥) → None ≡ size_in (drop at b)
      unfolding size_in bytes
      no_end n = not_ended (digits_front 13 (drop 12 bytes)) (λ e. n (sym end_byte ∙ e))

      either : (t : Bool) (o : Option ℕ) → None ≡ o → None ≡ (if t then o else None)
      either true o e = e
      either false o e = refl

      none_by : None ≡ size_by (12 + length (digits_front 13 (drop 12 bytes)) + 1) (in_digits (digits_front 13 (drop 12 bytes))) → None ≡ size_in (drop at b)
      unfolding size_in bytes
      none_by e =
          either (same_bytes (take 12 bytes) head && eqb (get_or bytes (12 + length (digits_front 13 (drop 12 bytes))) 0) 1)
          (size_by (12 + length (digits_front 13 (drop 12 bytes)) + 1) (in_digits (digits_front 13 (drop 12 bytes)))) e

      pub no_number : None ≡ option_map capped (in_digits (take (nine - (at + 12)) (drop (at + 12) b))) → None ≡ size_in (drop at b)
      unfolding value
      no_number e =
          none_by
          (sym (ap (size_by (12 + length (digits_front 13 (drop 12 bytes)) + 1)) (ap in_digits digits_are ∙ gone (in_digits value) e)))

      module _ (n : ℕ) (e : Some n ≡ option_map capped (in_digits (take (nine - (at + 12)) (drop (at + 12) b)))) where
        pub too_large : 65535 < n → None ≡ size_in (drop at b)
        unfolding value
        too_large h =
            none_by (large (in_digits value) e ∙ sym (ap (λ (l : List ℕ). size_by (12 + length (digits_front 13 (drop 12 bytes)) + 1) (in_digits l)) digits_are))
          where
            by : (m : ℕ) (t : Bool) → leb m 18446744073709551609 ≡ t → Some n ≡ Some (if t then m else 18446744073709551615)
                → None ≡ size_by (12 + length (digits_front 13 (drop 12 bytes)) + 1) (Some m)
            by m true p q = let same : n ≡ m = cc in rw (lt-leb m 65535 (omega arith)) refl
            by m false p q = rw (lt-leb m 65535 (let z = leb-false m 18446744073709551609 p in omega arith)) refl

            large : (o : Option ℕ) → Some n ≡ option_map capped o → None ≡ size_by (12 + length (digits_front 13 (drop 12 bytes)) + 1) o
            large None q = absurd (let z : ◌≡◌ {A = ℕ} 0 1 = cc in omega arith)
            large (Some m) q = by m (leb m 18446744073709551609) refl q

        pub size_right : n ≤ 65535 → head_right (drop at b) ≡ true → get_or b nine 0 ≡ 1 → Some (nine - at + 8 + n) ≡ size_in (drop at b)
        unfolding size_in bytes value
        size_right h g o =
            rw (with-head true g, eq-eqb (get_or bytes (12 + length (digits_front 13 (drop 12 bytes))) 0) 1 (end_byte ∙ o))
            (right (in_digits value) e ∙ sym (ap (λ (l : List ℕ). size_by (12 + length (digits_front 13 (drop 12 bytes)) + 1) (in_digits l)) digits_are))
          where
            total : (m : ℕ) → n ≡ m → nine - at + 8 + n ≡ 12 + length (digits_front 13 (drop 12 bytes)) + 1 + m + 7
            total m p = omega (arith, digits_long, q)

            by : (m : ℕ) (t : Bool) → leb m 18446744073709551609 ≡ t → Some n ≡ Some (if t then m else 18446744073709551615)
                → Some (nine - at + 8 + n) ≡ size_by (12 + length (digits_front 13 (drop 12 bytes)) + 1) (Some m)
            by m true p q = let same : n ≡ m = cc in rw (le-leb m 65535 (omega arith)) (ap Some (total m same))
            by m false p q = let same : n ≡ 18446744073709551615 = cc in absurd (omega arith)

            right : (o : Option ℕ) → Some n ≡ option_map capped o → Some (nine - at + 8 + n) ≡ size_by (12 + length (digits_front 13 (drop 12 bytes)) + 1) o
            right None q = absurd (let z : ◌≡◌ {A = ℕ} 0 1 = cc in omega arith)
            right (Some m) q = by m (leb m 18446744073709551609) refl q
