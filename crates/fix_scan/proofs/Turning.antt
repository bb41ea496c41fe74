-- One place: its row, and how far to go on.
use Rattle.std.specs.Prelude.{if◌then◌else◌, Option, None, Some}
use Prim.Native.Nat.{ℕ, ◌+◌, ◌-◌, ◌*◌, ◌≤◌, ◌<◌}
use native.Mathlib.Omega.{arith}
use mathlib.Core.Path.{◌≡◌, refl, sym, ap, ◌∙◌}
use mathlib.Core.Bool.{Bool, true, false, ◌&&◌}
use mathlib.Core.List.{List, ◌∷◌}
use borrow.Author.Tests.{lt-ltb, le-ltb, leb-true}
use lib.Dec.{eqb, leb}
use lib.ListN.{length, get_or, take, drop, replicate, length-drop}
use lib.Seq.{length-take-le}
use Rattle.rules.specs.Digits.{in_digits}
use Rattle.rules.specs.Fields.{same_bytes}
use Rattle.fix_scan_rules.specs.Rows.{row_in}
use Rattle.fix_scan_rules.specs.Scans.{digits_front, head, size_by, size_in, row, cut, turn_by, turn_with, turn_of}
use Rattle.fix_scan.specs.RowsDone.{width_of}
use Rattle.fix_scan.specs.Internal.{NextStart, TurnDone, made}
use Rattle.fix_scan.proofs.Sizing.{front_most}

-- ---- what a length can be
size_of : (before n : ℕ) (o : Option ℕ) → size_by before o ≡ Some n → (before + 7 ≤ n) × (n ≤ before + 65542)
size_of before n None e = absurd (let z : ◌≡◌ {A = ℕ} 0 1 = cc in omega arith)
size_of before n (Some m) e = by (leb m 65535) refl e
  where
    by : (t : Bool) → leb m 65535 ≡ t → (if t then Some (before + m + 7) else None) ≡ Some n → (before + 7 ≤ n) × (n ≤ before + 65542)
    by true p e = let is : before + m + 7 ≡ n = cc in let l = leb-true m 65535 p in (omega arith, omega arith)
    by false p e = absurd (let z : ◌≡◌ {A = ℕ} 0 1 = cc in omega arith)

pub size_range : (l : List ℕ) (n : ℕ) → size_in l ≡ Some n → (1 ≤ n) × (n < 2147483648)
unfolding size_in
size_range l n e = by (same_bytes (take 12 l) head && eqb (get_or l (12 + length (digits_front 13 (drop 12 l))) 0) 1) e
  where
    by : (t : Bool) → (if t then size_by (12 + length (digits_front 13 (drop 12 l)) + 1) (in_digits (digits_front 13 (drop 12 l))) else None) ≡ Some n
        → (1 ≤ n) × (n < 2147483648)
    by true e =
        let r = size_of (12 + length (digits_front 13 (drop 12 l)) + 1) n (in_digits (digits_front 13 (drop 12 l))) e in
        (omega (arith, r.0), omega (arith, r.1, front_most 13 (drop 12 l)))
    by false e = absurd (let z : ◌≡◌ {A = ℕ} 0 1 = cc in omega arith)

-- ---- the three cases
module _ (tags : List ℕ) (at : ℕ) (l : List ℕ) where
  pub cut_turn : (n : ℕ) → size_in l ≡ Some n → length l < n → turn_of tags at l ≡ cut
  unfolding turn_of
  cut_turn n e h = ap (turn_with tags at l) e ∙ rw (lt-ltb (length l) n h) refl

  pub no_size_turn : (n : ℕ) (w : List ℕ) → n ≡ width_of tags → w ≡ at ∷ 0 ∷ 20 ∷ 0 ∷ replicate (n - 4) 0 → size_in l ≡ None → turn_of tags at l ≡ row w 1
  unfolding turn_of
  no_size_turn n w h e q =
      ap (turn_with tags at l) q
      ∙ ap (λ (m : List ℕ). row (at ∷ 0 ∷ 20 ∷ 0 ∷ m) 1) (ap (λ (j : ℕ). replicate j 0) (let p : 2 * length tags ≡ n - 4 = omega arith in p))
      ∙ ap (λ (m : List ℕ). row m 1) (sym e)

  pub whole_turn : (n : ℕ) → size_in l ≡ Some n → n ≤ length l → turn_of tags at l ≡ turn_by tags at n (row_in tags (take n l))
  unfolding turn_of
  whole_turn n e h = ap (turn_with tags at l) e ∙ rw (le-ltb (length l) n h) refl

pub step_small : (tags : List ℕ) (at n : ℕ) (o : Option (List ℕ)) (w : List ℕ) (r : ℕ) → 1 ≤ n → turn_by tags at n o ≡ row w r → (1 ≤ r) × (r ≤ n)
step_small tags at n None w r h e = let is : 1 ≡ r = cc in (omega arith, omega arith)
step_small tags at n (Some m) w r h e = let is : n ≡ r = cc in (omega arith, omega arith)

-- the part of the bytes that is the message
module _ (b : List ℕ) (at n : ℕ) (h : n ≤ length (drop at b)) where
  pub part_is : take (at + n - at) (drop at b) ≡ take n (drop at b)
  part_is = ap (λ (k : ℕ). take k (drop at b)) (let p : at + n - at ≡ n = omega arith in p)

  pub part_length : length (take (at + n - at) (drop at b)) ≡ n
  part_length = ap length part_is ∙ length-take-le n (drop at b) h

  module _ (e : size_in (drop at b) ≡ Some n) (tags w : List ℕ) (r : ℕ)
      (p : turn_by tags at (length (take (at + n - at) (drop at b))) (row_in tags (take (at + n - at) (drop at b))) ≡ row w r) where
    put_is : turn_by tags at n (row_in tags (take n (drop at b))) ≡ row w r
    put_is = sym (λ i. turn_by tags at (part_length i) (row_in tags (part_is i))) ∙ p

    pub step_range : (1 ≤ r) × (at + r ≤ length b)
    step_range =
        let s = step_small tags at n (row_in tags (take n (drop at b))) w r (size_range (drop at b) n e).0 put_is in
        (s.0, omega (arith, s.1, length-drop at b, (size_range (drop at b) n e).0))

    pub row_made : (before : List ℕ) (next : ℕ) → NextStart b (at + r) next → TurnDone b tags at before w next
    row_made before next N = made r (whole_turn tags at (drop at b) n e h ∙ put_is) step_range.0 step_range.1 N
