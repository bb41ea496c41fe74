-- The bytes of the words in some bytes are those bytes, as far as there are whole words; and the words in the bytes of some words are
-- those words.
use Prim.Native.Nat.{ℕ, zero, suc, ◌+◌, ◌*◌, ◌/◌, ◌≤◌, ◌<◌}
use native.Mathlib.Omega.{arith}
use mathlib.Core.Path.{◌≡◌, refl, sym, ap, ◌∙◌}
use mathlib.Core.List.{List, [], ◌∷◌, ◌++◌, map, append_assoc, append-nil}
use mathlib.Core.Bool.{Bool, true, false}
use borrow.Author.Tests.{ltb-true, ltb-false}
use lib.Dec.{ltb}
use lib.ListN.{length, get_or, take, drop, length-drop, get_or-eq_default}
use lib.Seq.{take-add, get_or-drop, drop-cons}
use Rattle.lists.specs.Lists.{below}
use Rattle.rules.specs.Records.{word_at, word_bytes}
use Rattle.rules.specs.Widths.{Word, Bytes}
use Rattle.rules.proofs.Records.{word_of_bytes, word_fits, bytes_of-word}
use Rattle.words.specs.Bytes.{words_in, bytes_of}
use Rattle.words.proofs.Places.{places_more}
use Rattle.words.proofs.Bytes.{words_length, word_in_lem, words_behind}

-- ---- the bytes of some words

pub bytes_append : (vs ws : List ℕ) → bytes_of (vs ++ ws) ≡ bytes_of vs ++ bytes_of ws
unfolding bytes_of
bytes_append [] ws = refl
bytes_append (v ∷ vs) ws =
    ap (λ (l : List ℕ). word_bytes v ++ l) (bytes_append vs ws) ∙ sym (append_assoc (word_bytes v) (bytes_of vs) (bytes_of ws))

-- ---- four bytes more

four : (l : List ℕ) → 4 ≤ length l → take 4 l ≡ get_or l 0 0 ∷ get_or l 1 0 ∷ get_or l 2 0 ∷ get_or l 3 0 ∷ []
four (a ∷ b ∷ c ∷ d ∷ l) h = refl
four (a ∷ b ∷ c ∷ []) h = absurd (omega arith)
four (a ∷ b ∷ []) h = absurd (omega arith)
four (a ∷ []) h = absurd (omega arith)
four [] h = absurd (omega arith)

module _ (b : List ℕ) (bytes : Bytes b) where
  -- the bytes of the word at a place
  at_bytes : (k : ℕ) → word_bytes (word_at b k) ≡ get_or b k 0 ∷ get_or b (k + 1) 0 ∷ get_or b (k + 2) 0 ∷ get_or b (k + 3) 0 ∷ []
  at_bytes k =
      bytes_of-word (get_or b k 0) (get_or b (k + 1) 0) (get_or b (k + 2) 0) (get_or b (k + 3) 0) (bytes k) (bytes (k + 1)) (bytes (k + 2)) (bytes (k + 3))

  next-four : (k : ℕ) → k + 4 ≤ length b → take (k + 4) b ≡ take k b ++ word_bytes (word_at b k)
  next-four k h =
      take-add k 4 b
      ∙ ap (λ (l : List ℕ). take k b ++ l)
      (four (drop k b) (rw (length-drop k b) (omega arith))
      ∙ (λ i. start i ∷ get_or-drop k b 1 0 i ∷ get_or-drop k b 2 0 i ∷ get_or-drop k b 3 0 i ∷ [])
      ∙ sym (at_bytes k))
    where
      start : get_or (drop k b) 0 0 ≡ get_or b k 0
      start = let e : k + 0 ≡ k = omega arith in get_or-drop k b 0 0 ∙ ap (λ (j : ℕ). get_or b j 0) e

  abbrev word : ℕ → ℕ
  word i = word_at b (0 + 4 * i)

  -- the bytes of the first words are the first bytes
  front : (n : ℕ) → 4 * n ≤ length b → bytes_of (map word (below n)) ≡ take (4 * n) b
  unfolding bytes_of below
  front zero h = refl
  front (suc n) h =
      let e : 0 + 4 * n ≡ 4 * n = omega arith in
      let g : 4 * n + 4 ≡ 4 * suc n = omega arith in
      ap bytes_of (places_more word n)
      ∙ bytes_append (map word (below n)) (word n ∷ [])
      ∙ (λ i. front n (omega arith) i ++ append-nil (word_bytes (word_at b (e i))) i)
      ∙ sym (next-four (4 * n) (omega arith))
      ∙ ap (λ (k : ℕ). take k b) g

  pub bytes_back : bytes_of (words_in b) ≡ take (4 * (length b / 4)) b
  unfolding words_in
  bytes_back = front (length b / 4) (omega arith)

  -- the words are words
  pub words_fit : (i : ℕ) → Word (get_or (words_in b) i 0)
  words_fit i = go (ltb i (length b / 4)) refl
    where
      go : (t : Bool) → ltb i (length b / 4) ≡ t → Word (get_or (words_in b) i 0)
      go true e =
          rw (word_in_lem b i (ltb-true i (length b / 4) e))
          (word_fits (get_or b (4 * i) 0) (get_or b (4 * i + 1) 0) (get_or b (4 * i + 2) 0) (get_or b (4 * i + 3) 0) (bytes (4 * i)) (bytes (4 * i + 1)) (bytes (4 * i + 2)) (bytes (4 * i + 3)))
      go false e =
          let h : length (words_in b) ≤ i = rw (words_length b) (ltb-false i (length b / 4) e) in
          rw (get_or-eq_default (words_in b) 0 h) (omega arith)

-- ---- the words of those bytes

pub bytes_length : (ws : List ℕ) → length (bytes_of ws) ≡ 4 * length ws
unfolding bytes_of word_bytes
bytes_length [] = refl
bytes_length (w ∷ ws) = omega (arith, bytes_length ws)

-- each is a byte
pub all_bytes : (ws : List ℕ) → Bytes (bytes_of ws)
unfolding bytes_of word_bytes
all_bytes [] i = omega arith
all_bytes (w ∷ ws) zero = omega arith
all_bytes (w ∷ ws) (suc zero) = omega arith
all_bytes (w ∷ ws) (suc (suc zero)) = omega arith
all_bytes (w ∷ ws) (suc (suc (suc zero))) = omega arith
all_bytes (w ∷ ws) (suc (suc (suc (suc i)))) = all_bytes ws i

module _ (w : ℕ) (ws : List ℕ) (h : Word w) where
  abbrev longer : List ℕ
  longer = word_bytes w ++ bytes_of ws

  is_some : 0 < length longer / 4
  unfolding word_bytes
  is_some = omega arith

  first_word : get_or (words_in longer) 0 0 ≡ w
  unfolding word_bytes
  first_word = word_in_lem longer 0 is_some ∙ word_of_bytes w h

  other_words : drop 1 (words_in longer) ≡ words_in (bytes_of ws)
  unfolding word_bytes
  other_words = words_behind longer 1

  words_cons : words_in longer ≡ w ∷ words_in (bytes_of ws)
  words_cons = drop-cons (words_in longer) 0 0 (rw (words_length longer) is_some) ∙ (λ i. first_word i ∷ other_words i)

-- for words of 32 bits
pub words_back : (ws : List ℕ) → ((i : ℕ) → Word (get_or ws i 0)) → words_in (bytes_of ws) ≡ ws
unfolding bytes_of words_in below
words_back [] h = refl
words_back (w ∷ ws) h = words_cons w ws (h 0) ∙ ap (λ (l : List ℕ). w ∷ l) (words_back ws (λ i. h (suc i)))
