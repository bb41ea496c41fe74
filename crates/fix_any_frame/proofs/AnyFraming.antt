-- What the tests of the frame of any type find together, at the places where they look.
use Prim.Native.Nat.{ℕ, ◌+◌, ◌-◌, ◌%◌, ◌≤◌, ◌<◌}
use native.Mathlib.Omega.{arith}
use mathlib.Core.Path.{◌≡◌, sym, ap, subst, ◌∙◌}
use mathlib.Core.Bool.{true, ◌&&◌, not}
use mathlib.Core.List.{List, ◌∷◌, ◌++◌}
use borrow.Author.Tests.{eqb-false, not-true}
use lib.ListN.{length, get_or, take, drop, length-drop}
use lib.Seq.{drop-drop}
use Rattle.lists.specs.Lists.{sum}
use Rattle.rules.specs.Digits.{in_digits}
use Rattle.rules.specs.Frame.{is_number}
use Rattle.fix_scan_rules.specs.Rows.{packed}
use Rattle.fix_fields.specs.Ends.{EndOf}
use Rattle.fix_fields.specs.Spans.{closed, EndsAt}
use Rattle.fix_frame.specs.Frames.{byte_is, head_right, tail_right}
use Rattle.fix_any_frame.specs.AnyFrames.{type_begins, Framed}
use Rattle.fix_digits.proofs.Numbers.{both}
use Rattle.fix_fields.proofs.Spanning.{value-length, value-clear, split_value, widen}
use Rattle.fix_frame.proofs.Frames.{at_drop, head_is, tail_of, tail_is, spread, place, place_0}
use Rattle.fix_frame.proofs.Refusing.{counted_digits}
use Rattle.fix_frame.proofs.Framing.{tail_inner, ten_closed}
use Rattle.fix_any_frame.proofs.AnyAccepting.{accepted}

-- ---- 35= and a first byte
module _ (b : List ℕ) (n : ℕ) (h : type_begins b n ≡ true) where
  type_first : get_or b (n + 3) 0 ≡ 1 → ⊥
  unfolding type_begins
  type_first = eqb-false (get_or b (n + 3) 0) 1 (not-true (byte_is b (n + 3) 1) (both (byte_is b n 51 && byte_is b (n + 1) 53 && byte_is b (n + 2) 61) (not (byte_is b (n + 3) 1)) h).1)

  type_is : n + 3 ≤ length b → drop n b ≡ 51 ∷ 53 ∷ 61 ∷ drop (n + 3) b
  unfolding type_begins
  type_is l =
      let h₃ = both _ (not (byte_is b (n + 3) 1)) h in
      let h₂ = both _ (byte_is b (n + 2) 61) h₃.0 in
      let h₁ = both (byte_is b n 51) (byte_is b (n + 1) 53) h₂.0 in
      spread 3 (drop n b) (rw (length-drop n b) (omega arith))
      ∙ (λ i. place_0 b n 51 h₁.0 i ∷ place b n 1 53 h₁.1 i ∷ place b n 2 61 h₂.1 i ∷ drop-drop 3 n b i)

-- the type ends at the first byte 1 from its second byte on
pub type_end : (b : List ℕ) (p q : ℕ) → type_begins b (p + 1) ≡ true → EndOf b (p + 5) q → EndOf b (p + 4) q
type_end b p q h e =
    widen b (p + 4) q (subst (λ (n : ℕ). EndOf b n q) (let s : p + 5 ≡ p + 4 + 1 = omega arith in s) e)
    (λ z. type_first b (p + 1) h (ap (λ (n : ℕ). get_or b n 0) (let s : p + 1 + 3 ≡ p + 4 = omega arith in s) ∙ z))

module _ (b : List ℕ) (p : ℕ) (long : 26 ≤ length b) (last : get_or b (length b - 1) 0 ≡ 1) (head : head_right b ≡ true) (e : EndOf b 12 p)
    (room : 13 ≤ length b - p) (typed : type_begins b (p + 1) ≡ true) (q : ℕ) (f : EndOf b (p + 5) q) (stop : q < length b - 7)
    (count : is_number (in_digits (take (p - 12) (drop 12 b))) (length b - 7 - (p + 1)) ≡ true)
    (s : ℕ) (is : s ≡ sum (take (length b - 7) b) % 256) (tail : tail_right b (length b - 7) s ≡ true) where
  g : EndOf b (p + 4) q
  g = type_end b p q typed f

  type : List ℕ
  type = take (q - (p + 4)) (drop (p + 4) b)

  type_long : length type ≡ q - (p + 4)
  unfolding type
  type_long = value-length b (p + 4) q g

  type_bytes : drop (p + 1) b ≡ 51 ∷ 53 ∷ 61 ∷ (type ++ (1 ∷ drop (q + 1) b))
  unfolding type
  type_bytes =
      type_is b (p + 1) typed (omega arith)
      ∙ (λ i. 51 ∷ 53 ∷ 61 ∷ drop (three i) b)
      ∙ ap (λ (l : List ℕ). 51 ∷ 53 ∷ 61 ∷ l) (split_value b (p + 4) q g)
    where
      three : p + 1 + 3 ≡ p + 4
      three = omega arith

  tail_bytes_lem : drop (length b - 7) b ≡ tail_of s
  tail_bytes_lem = tail_is b (length b - 7) s (omega arith) tail

  whole : b ≡ 56 ∷ 61 ∷ 70 ∷ 73 ∷ 88 ∷ 46 ∷ 52 ∷ 46 ∷ 52 ∷ 1 ∷ 57 ∷ 61 ∷ (take (p - 12) (drop 12 b) ++ (1 ∷ 51 ∷ 53 ∷ 61 ∷ (type ++ (1 ∷ drop (q + 1) b))))
  whole =
      head_is b (omega arith) head
      ∙ ap (λ (l : List ℕ). 56 ∷ 61 ∷ 70 ∷ 73 ∷ 88 ∷ 46 ∷ 52 ∷ 46 ∷ 52 ∷ 1 ∷ 57 ∷ 61 ∷ l)
      (split_value b 12 p e ∙ ap (λ (l : List ℕ). take (p - 12) (drop 12 b) ++ (1 ∷ l)) type_bytes)

  ends_at : EndsAt b (q + 1) (length b - 7)
  ends_at =
      record {
        seven = omega arith;
        order = omega arith;
        from_two = omega (arith, e.first, f.first);
        before = ap (λ (i : ℕ). get_or b i 0) (let z : q + 1 - 1 ≡ q = omega arith in z) ∙ f.ends;
        last = last;
        inner = λ k l m z.
            let i : length b - 7 + (k - (length b - 7)) ≡ k = omega arith in
            tail_inner s (k - (length b - 7)) (omega arith)
            (sym (at_drop b (length b - 7) (tail_of s) tail_bytes_lem (k - (length b - 7))) ∙ ap (λ (j : ℕ). get_or b j 0) i ∙ z);
        ten = ap closed tail_bytes_lem ∙ ten_closed s;
      }

  pub any_right : (kind : ℕ) → kind ≡ packed (take (q - (p + 4)) (drop (p + 4) b)) → Framed b kind (q + 1) (length b - 7)
  unfolding type
  any_right kind packs =
      record {
        type = type;
        packs = packs;
        ends = ends_at;
        body =
            accepted b (take (p - 12) (drop 12 b)) type (drop (q + 1) b)
            (counted_digits (take (p - 12) (drop 12 b)) (length b - 7 - (p + 1)) count) (value-clear b (p + 4) q g)
            (omega (arith, type_long, f.first)) whole
            (ap (is_number (in_digits (take (p - 12) (drop 12 b)))) number ∙ count) (tail_bytes_lem ∙ ap tail_of is);
      }
    where
      number : length type + length (drop (q + 1) b) - 3 ≡ length b - 7 - (p + 1)
      number = omega (arith, length-drop (q + 1) b, type_long, f.first)
