-- Laws of the words in some bytes.
use Prim.Native.Nat.{ℕ, ◌+◌, ◌-◌, ◌*◌, ◌/◌, ◌<◌}
use native.Mathlib.Omega.{arith}
use mathlib.Core.Path.{◌≡◌, sym, ap, ◌∙◌}
use mathlib.Core.List.{List}
use lib.ListN.{length, get_or, take, drop, length-drop}
use lib.Seq.{get_or-drop, ext_get_or, take_all}
use Rattle.rules.specs.Records.{word_at}
use Rattle.words.specs.Bytes.{words_in}
use Rattle.words.proofs.Places.{places_length, at_place}

pub words_length : (b : List ℕ) → length (words_in b) ≡ length b / 4
unfolding words_in
words_length b = places_length (λ (i : ℕ). word_at b (0 + 4 * i)) (length b / 4)

-- the word at a place
pub word_in_lem : (b : List ℕ) (i : ℕ) → i < length b / 4 → get_or (words_in b) i 0 ≡ word_at b (4 * i)
unfolding words_in
word_in_lem b i h =
    let e : 0 + 4 * i ≡ 4 * i = omega arith in
    at_place (λ (i : ℕ). word_at b (0 + 4 * i)) 0 (length b / 4) i h ∙ ap (word_at b) e

byte_behind : (b : List ℕ) (n i k : ℕ) → k ≡ n + i → get_or (drop n b) i 0 ≡ get_or b k 0
byte_behind b n i k e = get_or-drop n b i 0 ∙ ap (λ (m : ℕ). get_or b m 0) (sym e)

word-behind : (b : List ℕ) (n i k : ℕ) → k ≡ n + i → word_at (drop n b) i ≡ word_at b k
word-behind b n i k e =
    λ x.
    byte_behind b n i k e x + 256 * byte_behind b n (i + 1) (k + 1) (omega arith) x
    + 65536 * byte_behind b n (i + 2) (k + 2) (omega arith) x + 16777216 * byte_behind b n (i + 3) (k + 3) (omega arith) x

-- the words from a place on are those of the bytes from four times that place on
module _ (b : List ℕ) (at : ℕ) where
  left-length : length (drop at (words_in b)) ≡ length b / 4 - at
  left-length = length-drop at (words_in b) ∙ ap (λ (n : ℕ). n - at) (words_length b)

  right_length : length (words_in (drop (4 * at) b)) ≡ (length b - 4 * at) / 4
  right_length = words_length (drop (4 * at) b) ∙ ap (λ (n : ℕ). n / 4) (length-drop (4 * at) b)

  each : (i : ℕ) → i < length (drop at (words_in b)) → get_or (drop at (words_in b)) i 0 ≡ get_or (words_in (drop (4 * at) b)) i 0
  each i h =
      let k : at + i < length b / 4 = omega (arith, left-length) in
      let l : i < length (drop (4 * at) b) / 4 = rw (length-drop (4 * at) b) (omega (arith, left-length)) in
      get_or-drop at (words_in b) i 0 ∙ word_in_lem b (at + i) k
      ∙ sym (word_in_lem (drop (4 * at) b) i l ∙ word-behind b (4 * at) (4 * i) (4 * (at + i)) (omega arith))

  pub words_behind : drop at (words_in b) ≡ words_in (drop (4 * at) b)
  words_behind = ext_get_or 0 (drop at (words_in b)) (words_in (drop (4 * at) b)) (omega (arith, left-length, right_length)) each

  -- the same of a part that a program lends
  pub part_words_lem : (from : ℕ) → from ≡ 4 * at → words_in (take (length b - from) (drop from b)) ≡ drop at (words_in b)
  part_words_lem from e =
      ap words_in (take_all (length b - from) (drop from b) (rw (length-drop from b) (omega arith)) ∙ ap (λ (n : ℕ). drop n b) e)
      ∙ sym words_behind
