-- What the tests of the frame find together, at the places where they look.
use Rattle.std.proofs.Common.{Some}
use Prim.Native.Nat.{ℕ, zero, suc, ◌+◌, ◌-◌, ◌/◌, ◌%◌, ◌≤◌, ◌<◌}
use native.Mathlib.Omega.{arith}
use mathlib.Core.Path.{◌≡◌, refl, sym, ap, ◌∙◌}
use mathlib.Core.Bool.{true}
use mathlib.Core.List.{List, [], ◌∷◌, ◌++◌}
use lib.ListN.{length, get_or, take, drop, length-drop}
use Rattle.lists.specs.Lists.{sum, any}
use Rattle.rules.specs.Digits.{all_digits, in_digits}
use Rattle.rules.specs.Fields.{pieces, good_tag, fields_in, fields_of, same_bytes}
use Rattle.rules.specs.Frame.{checksum_tag, is_number, ending_of}
use Rattle.fix_fields.specs.Ends.{EndOf}
use Rattle.fix_fields.specs.Spans.{closes, closing_in, closed, EndsAt}
use Rattle.fix_frame.specs.Frames.{head_right, type_right, tail_right, is_kind, FrameFound}
use Rattle.fix_fields.proofs.Pieces.{clear, clear-cons}
use Rattle.fix_fields.proofs.Spanning.{split_value}
use Rattle.fix_frame.proofs.Frames.{at_drop, head_is, type_is, tail_of, tail_is}
use Rattle.fix_frame.proofs.Refusing.{counted_digits}
use Rattle.fix_frame.proofs.Accepting.{short_tag, accepted}

-- ---- the bytes of 10
pub tail_inner : (s i : ℕ) → i < 6 → get_or (tail_of s) i 0 ≡ 1 → ⊥
tail_inner s zero h e = omega arith
tail_inner s (suc zero) h e = omega arith
tail_inner s (suc (suc zero)) h e = omega arith
tail_inner s (suc (suc (suc zero))) h e = big (s / 100) e
  where
    big : (n : ℕ) → 48 + n ≡ 1 → ⊥
    big n e = omega arith
tail_inner s (suc (suc (suc (suc zero)))) h e = big (s / 10 % 10) e
  where
    big : (n : ℕ) → 48 + n ≡ 1 → ⊥
    big n e = omega arith
tail_inner s (suc (suc (suc (suc (suc zero))))) h e = big (s % 10) e
  where
    big : (n : ℕ) → 48 + n ≡ 1 → ⊥
    big n e = omega arith
tail_inner s (suc (suc (suc (suc (suc (suc i)))))) h e = omega arith

three-clear : (d e f : ℕ) → (d ≡ 1 → ⊥) → (e ≡ 1 → ⊥) → (f ≡ 1 → ⊥) → clear (49 ∷ 48 ∷ 61 ∷ d ∷ e ∷ f ∷ []) ≡ true
unfolding clear
three-clear d e f h k l = clear-cons d (e ∷ f ∷ []) h (clear-cons e (f ∷ []) k (clear-cons f [] l refl))

pub ten_closed : (s : ℕ) → closed (tail_of s) ≡ Some []
unfolding closed closes ending_of same_bytes any fields_of pieces fields_in good_tag all_digits
ten_closed s =
    ap closing_in
    (short_tag checksum_tag refl ((48 + s / 100) ∷ (48 + s / 10 % 10) ∷ (48 + s % 10) ∷ [])
    (three-clear (48 + s / 100) (48 + s / 10 % 10) (48 + s % 10) (tail_inner s 3 (omega arith)) (tail_inner s 4 (omega arith)) (tail_inner s 5 (omega arith)))
    (omega arith) [])

module _ (b : List ℕ) (p : ℕ) (long : 26 ≤ length b) (last : get_or b (length b - 1) 0 ≡ 1) (head : head_right b ≡ true) (e : EndOf b 12 p)
    (room : 13 ≤ length b - p) (typed : type_right b (p + 1) ≡ true) (kind : is_kind (get_or b (p + 4) 0) ≡ true)
    (count : is_number (in_digits (take (p - 12) (drop 12 b))) (length b - 7 - (p + 1)) ≡ true)
    (s : ℕ) (is : s ≡ sum (take (length b - 7) b) % 256) (tail : tail_right b (length b - 7) s ≡ true) where
  type_bytes : drop (p + 1) b ≡ 51 ∷ 53 ∷ 61 ∷ get_or b (p + 4) 0 ∷ 1 ∷ drop (p + 6) b
  type_bytes =
      type_is b (p + 1) (omega arith) typed
      ∙ (λ i. 51 ∷ 53 ∷ 61 ∷ get_or b (three i) 0 ∷ 1 ∷ drop (five i) b)
    where
      three : p + 1 + 3 ≡ p + 4
      three = omega arith

      five : p + 1 + 5 ≡ p + 6
      five = omega arith

  tail_bytes_lem : drop (length b - 7) b ≡ tail_of s
  tail_bytes_lem = tail_is b (length b - 7) s (omega arith) tail

  whole : b ≡ 56 ∷ 61 ∷ 70 ∷ 73 ∷ 88 ∷ 46 ∷ 52 ∷ 46 ∷ 52 ∷ 1 ∷ 57 ∷ 61 ∷ (take (p - 12) (drop 12 b) ++ (1 ∷ 51 ∷ 53 ∷ 61 ∷ get_or b (p + 4) 0 ∷ 1 ∷ drop (p + 6) b))
  whole =
      head_is b (omega arith) head
      ∙ ap (λ (l : List ℕ). 56 ∷ 61 ∷ 70 ∷ 73 ∷ 88 ∷ 46 ∷ 52 ∷ 46 ∷ 52 ∷ 1 ∷ 57 ∷ 61 ∷ l)
      (split_value b 12 p e ∙ ap (λ (l : List ℕ). take (p - 12) (drop 12 b) ++ (1 ∷ l)) type_bytes)

  ends_at : EndsAt b (p + 6) (length b - 7)
  ends_at =
      record {
        seven = omega arith;
        order = omega arith;
        from_two = omega arith;
        before =
            ap (λ (i : ℕ). get_or b i 0) (let q : p + 6 - 1 ≡ p + 1 + 4 = omega arith in q)
            ∙ at_drop b (p + 1) (51 ∷ 53 ∷ 61 ∷ get_or b (p + 4) 0 ∷ 1 ∷ drop (p + 6) b) type_bytes 4;
        last = last;
        inner = λ k l m q.
            let i : length b - 7 + (k - (length b - 7)) ≡ k = omega arith in
            tail_inner s (k - (length b - 7)) (omega arith)
            (sym (at_drop b (length b - 7) (tail_of s) tail_bytes_lem (k - (length b - 7))) ∙ ap (λ (j : ℕ). get_or b j 0) i ∙ q);
        ten = ap closed tail_bytes_lem ∙ ten_closed s;
      }

  pub frame_right : FrameFound b (Some (record { kind = get_or b (p + 4) 0; start = p + 6; end = length b - 7 }))
  frame_right = (
    ends_at,
    kind,
    accepted b (take (p - 12) (drop 12 b)) (get_or b (p + 4) 0) (drop (p + 6) b)
        (counted_digits (take (p - 12) (drop 12 b)) (length b - 7 - (p + 1)) count) kind whole
        (ap (is_number (in_digits (take (p - 12) (drop 12 b)))) number ∙ count) (tail_bytes_lem ∙ ap tail_of is),
  )
    where
      number : length (drop (p + 6) b) - 2 ≡ length b - 7 - (p + 1)
      number = omega (arith, length-drop (p + 6) b)
