-- The words in the first bytes of some bytes, and the bytes of one block among those of a list.
use Prim.Native.Nat.{ℕ, ◌+◌, ◌*◌, ◌/◌, ◌≤◌, ◌<◌}
use native.Mathlib.Omega.{arith}
use mathlib.Core.Path.{◌≡◌, sym, ap, ◌∙◌}
use mathlib.Core.List.{List}
use lib.ListN.{length, get_or, take}
use lib.Seq.{get_or-take, ext_get_or, length-take-le}
use Rattle.rules.specs.Records.{word_at}
use Rattle.words.specs.Bytes.{words_in}
use Rattle.words.proofs.Bytes.{words_length, word_in_lem}

module _ (b : List ℕ) (n : ℕ) (h : 4 * n ≤ length b) where
  byte_front : (i : ℕ) → i < 4 * n → get_or (take (4 * n) b) i 0 ≡ get_or b i 0
  byte_front i k = get_or-take (4 * n) b i 0 k

  word-front : (i : ℕ) → i < n → word_at (take (4 * n) b) (4 * i) ≡ word_at b (4 * i)
  word-front i k =
      λ x.
      byte_front (4 * i) (omega arith) x + 256 * byte_front (4 * i + 1) (omega arith) x + 65536 * byte_front (4 * i + 2) (omega arith) x
      + 16777216 * byte_front (4 * i + 3) (omega arith) x

  first-length : length (words_in (take (4 * n) b)) ≡ n
  first-length =
      let e : 4 * n / 4 ≡ n = omega arith in words_length (take (4 * n) b) ∙ ap (λ (k : ℕ). k / 4) (length-take-le (4 * n) b h) ∙ e

  second-length : length (take n (words_in b)) ≡ n
  second-length = length-take-le n (words_in b) (omega (arith, words_length b))

  each : (i : ℕ) → i < length (words_in (take (4 * n) b)) → get_or (words_in (take (4 * n) b)) i 0 ≡ get_or (take n (words_in b)) i 0
  each i k =
      let l : i < n = omega (arith, first-length) in
      let m : i < length (take (4 * n) b) / 4 = omega (arith, length-take-le (4 * n) b h) in
      word_in_lem (take (4 * n) b) i m ∙ word-front i l ∙ sym (get_or-take n (words_in b) i 0 l ∙ word_in_lem b i (omega arith))

  -- the words in the first 4n bytes are the first n words
  pub words_front : words_in (take (4 * n) b) ≡ take n (words_in b)
  words_front = ext_get_or 0 (words_in (take (4 * n) b)) (take n (words_in b)) (first-length ∙ sym second-length) each
