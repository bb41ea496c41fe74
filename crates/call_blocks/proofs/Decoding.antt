-- A block's arguments, and the call by its kind.
use Prim.Native.Nat.{ℕ, ◌+◌, ◌-◌, ◌*◌, ◌/◌, ◌≤◌, ◌<◌, min}
use native.Mathlib.Omega.{arith}
use mathlib.Core.Path.{◌≡◌, refl, sym, ap, ◌∙◌}
use mathlib.Core.List.{List, [], ◌∷◌}
use borrow.Author.Tests.{ne_eqb}
use lib.ListN.{length, get_or, take, drop, length-take, length-drop}
use lib.Seq.{length-take-le, get_or-take, get_or-drop, ext_get_or}
use Rattle.rules.specs.declared.Opening.{Opening}
use Rattle.rules.specs.Widths.{Bytes}
use Rattle.rules.specs.Calls.{Report}
use Rattle.rules.specs.Calls as B
use Rattle.words.specs.Bytes.{words_in, bytes_of}
use Rattle.words.proofs.Bytes.{words_behind}
use Rattle.words.proofs.Back.{bytes_back}
use Rattle.call_blocks.specs.declared.Decoded.{Decoded}
use Rattle.call_blocks.specs.declared.Decoded.TheVariants as D
use Rattle.call_blocks.specs.declared.Kind.{Kind}
use Rattle.call_blocks.specs.declared.Kind.TheVariants as K
use Rattle.call_blocks.specs.Named.{word_of}
use Rattle.call_blocks.specs.Kinds.{wide_at, row_at, opening_at, strike_opening_at, call_by, call_of}
use Rattle.call_blocks.specs.Decoded.{call_with}
use Rattle.call_blocks.proofs.Sizes.{other}

-- ---- arguments

pub wide_is : (ws : List ℕ) (i : ℕ) {a b low high : ℕ} → a ≡ get_or ws i 0 → b ≡ get_or ws (i + 1) 0 → low ≡ a → high ≡ b
    → low + 4294967296 * high ≡ wide_at ws i
wide_is ws i a b l h = λ j. (l ∙ a) j + 4294967296 * (h ∙ b) j

-- a row that runs past the words ends with them
pub row-length_is : (ws : List ℕ) (n start end : ℕ) → end ≡ min (2 + n) (length ws) → start ≡ min 2 end → end - start ≡ length (take n (drop 2 ws))
row-length_is ws n start end e s = simp (length-take, length-drop) (omega arith)

-- seven words, one by one
seven : (l : List ℕ) → length l ≡ 7
    → get_or l 0 0 ∷ get_or l 1 0 ∷ get_or l 2 0 ∷ get_or l 3 0 ∷ get_or l 4 0 ∷ get_or l 5 0 ∷ get_or l 6 0 ∷ [] ≡ l
seven (a ∷ b ∷ c ∷ d ∷ e ∷ f ∷ g ∷ []) h = refl
seven (a ∷ b ∷ c ∷ d ∷ e ∷ f ∷ g ∷ x ∷ l) h = absurd (omega arith)
seven (a ∷ b ∷ c ∷ d ∷ e ∷ f ∷ []) h = absurd (omega arith)
seven (a ∷ b ∷ c ∷ d ∷ e ∷ []) h = absurd (omega arith)
seven (a ∷ b ∷ c ∷ d ∷ []) h = absurd (omega arith)
seven (a ∷ b ∷ c ∷ []) h = absurd (omega arith)
seven (a ∷ b ∷ []) h = absurd (omega arith)
seven (a ∷ []) h = absurd (omega arith)
seven [] h = absurd (omega arith)

-- a row's words stand behind the first two
row_word : (ws : List ℕ) (n i w : ℕ) → i < n → w ≡ get_or ws (2 + i) 0 → w ≡ get_or (take n (drop 2 ws)) i 0
row_word ws n i w h e = e ∙ sym (get_or-take n (drop 2 ws) i 0 h ∙ get_or-drop 2 ws i 0)

pub row_is : (ws : List ℕ) (n : ℕ) {a b c d e f g : ℕ} → a ≡ get_or ws 2 0 → b ≡ get_or ws 3 0 → c ≡ get_or ws 4 0 → d ≡ get_or ws 5 0
    → e ≡ get_or ws 6 0 → f ≡ get_or ws 7 0 → g ≡ get_or ws 8 0 → length (take n (drop 2 ws)) ≡ 7
    → a ∷ b ∷ c ∷ d ∷ e ∷ f ∷ g ∷ [] ≡ take n (drop 2 ws)
row_is ws n a b c d e f g h =
    let k : 7 ≤ n = omega (arith, sym (length-take n (drop 2 ws)) ∙ h) in
    (λ i. row_word ws n 0 _ (omega arith) a i ∷ row_word ws n 1 _ (omega arith) b i ∷ row_word ws n 2 _ (omega arith) c i
    ∷ row_word ws n 3 _ (omega arith) d i ∷ row_word ws n 4 _ (omega arith) e i ∷ row_word ws n 5 _ (omega arith) f i
    ∷ row_word ws n 6 _ (omega arith) g i ∷ [])
    ∙ seven (take n (drop 2 ws)) h

-- a part of a message's bytes: one that runs past the whole words ends with them
span : (from n whole start end : ℕ) → end ≡ min (from + n) whole → start ≡ min from end → end - start ≡ min n (whole - from)
span from n whole start end e s = omega arith

module _ (b : List ℕ) (at n whole start end : ℕ) (w : whole ≡ 4 * (length b / 4)) (e : end ≡ min (12 + at + n) whole) (s : start ≡ min (12 + at) end) where
  abbrev inside : List ℕ
  inside = take (4 * (length (drop 12 b) / 4)) (drop 12 b)

  inside-length : length inside ≡ whole - 12
  inside-length =
      let d = length-drop 12 b in
      length-take (4 * (length (drop 12 b) / 4)) (drop 12 b) ∙ omega arith

  left-length : length (take (end - start) (drop start b)) ≡ end - start
  left-length =
      let h : end ≤ length b = omega arith in
      length-take-le (end - start) (drop start b) (rw (length-drop start b) (omega arith))

  right_length : length (take n (drop at inside)) ≡ min n (whole - (12 + at))
  right_length =
      let f : whole - 12 - at ≡ whole - (12 + at) = omega arith in
      length-take n (drop at inside) ∙ ap (min n) (length-drop at inside ∙ ap (λ (k : ℕ). k - at) inside-length ∙ f)

  each : (i : ℕ) → i < length (take (end - start) (drop start b)) → get_or (take (end - start) (drop start b)) i 0 ≡ get_or (take n (drop at inside)) i 0
  each i h =
      let l = left-length in
      let d = length-drop 12 b in
      let j : start + i ≡ 12 + (at + i) = omega arith in
      get_or-take (end - start) (drop start b) i 0 (omega arith)
      ∙ get_or-drop start b i 0
      ∙ ap (λ (k : ℕ). get_or b k 0) j
      ∙ sym
      (get_or-take n (drop at inside) i 0 (omega arith)
      ∙ get_or-drop at inside i 0
      ∙ get_or-take (4 * (length (drop 12 b) / 4)) (drop 12 b) (at + i) 0 (omega arith)
      ∙ get_or-drop 12 b (at + i) 0)

  pub part_is : Bytes b → take (end - start) (drop start b) ≡ take n (drop at (bytes_of (drop 3 (words_in b))))
  part_is h =
      ext_get_or 0 (take (end - start) (drop start b)) (take n (drop at inside)) (left-length ∙ span (12 + at) n whole start end e s ∙ sym right_length) each
      ∙ ap (λ (l : List ℕ). take n (drop at l)) (sym (ap bytes_of (words_behind b 3) ∙ bytes_back (drop 12 b) (λ i. rw (get_or-drop 12 b i 0) (h (12 + i)))))

-- ---- the call by its kind

-- a word that says no kind is a report
not_said : (ws : List ℕ) (w : ℕ) → ((kind : Kind) → word_of kind ≡ w → ⊥) → call_by w ws ≡ Report
not_said ws w h =
    rw (
      other w h K.Open,
      other w h K.Add,
      other w h K.Amend,
      other w h K.Cancel,
      other w h K.Deal,
      other w h K.Tick,
      other w h K.Close,
      other w h K.Drop,
      other w h K.Charge,
      other w h K.Withdraw,
      other w h K.Look,
      other w h K.OpenStrike,
      other w h K.Ask,
      other w h K.Commit,
      other w h K.Message,
      other w h K.Outlook,
    )
    refl

module _ (ws : List ℕ) where
  -- the first word is the kind's
  pub by_kind : (kind k : Kind) → word_of kind ≡ get_or ws 0 0 → kind ≡ k → call_by (word_of k) ws ≡ call_of ws
  unfolding call_of
  by_kind kind k e f = ap (λ (x : Kind). call_by (word_of x) ws) (sym f) ∙ ap (λ (j : ℕ). call_by j ws) e

  -- an open of either kind: what it is told besides the row and the day stands behind the day
  pub open_is : {r : Decoded} {o : Opening} (end : ℕ) → end ≡ 2 + get_or ws 1 0 → r ≡ D.Open (get_or ws (2 + get_or ws 1 0) 0) o → o ≡ opening_at ws (end + 1)
      → call_with ws r ≡ call_by 1 ws
  open_is end e r o =
      let f : end + 1 ≡ 3 + get_or ws 1 0 = omega arith in
      ap (call_with ws) r ∙ ap (B.Open (row_at ws) (get_or ws (2 + get_or ws 1 0) 0)) (o ∙ ap (opening_at ws) f)

  pub strike_is : {r : Decoded} {o : Opening} (end : ℕ) → end ≡ 2 + get_or ws 1 0 → r ≡ D.Open (get_or ws (2 + get_or ws 1 0) 0) o → o ≡ strike_opening_at ws (end + 1)
      → call_with ws r ≡ call_by 13 ws
  strike_is end e r o =
      let f : end + 1 ≡ 3 + get_or ws 1 0 = omega arith in
      ap (call_with ws) r ∙ ap (B.Open (row_at ws) (get_or ws (2 + get_or ws 1 0) 0)) (o ∙ ap (strike_opening_at ws) f)

  -- any other kind
  pub other_is : (w : ℕ) → w ≡ get_or ws 0 0 → ((kind : Kind) → word_of kind ≡ w → ⊥) → Report ≡ call_of ws
  unfolding call_of
  other_is w e h = sym (not_said ws w h) ∙ ap (λ (j : ℕ). call_by j ws) e
