-- The words of a row.
use Rattle.std.proofs.Common.{None, Some}
use Prim.Native.Nat.{ℕ, zero, suc, ◌+◌, ◌-◌, ◌*◌, ◌≤◌, ◌<◌}
use native.Mathlib.Omega.{arith}
use mathlib.Core.Path.{◌≡◌, sym, ap, ◌∙◌}
use mathlib.Core.Bool.{Bool, true, false, true≢false}
use mathlib.Core.List.{List, ◌∷◌, ◌++◌, append-nil}
use borrow.Author.Fill.{fill_more}
use lib.ListN.{length, take, drop, set, replicate, length-append, length-replicate, length-drop, drop_of_length-le}
use lib.Seq.{drop-length, take_all}
use Rattle.rules.specs.Fields.{Field, fields_bytes}
use Rattle.fix_scan_rules.specs.AnyFrame.{any_body_in}
use Rattle.fix_scan_rules.specs.Rows.{spans_in, row_by, row_in}
use Rattle.fix_scan_rules.specs.Scans.{row, turn_by}
use Rattle.fix_fields.specs.Spans.{closed}
use Rattle.fix_any_frame.specs.AnyFrames.{any_body_with, Framed}
use Rattle.fix_tag_spans.specs.Slots.{AnySpans, found, wrong}
use Rattle.fix_scan.specs.RowsDone.{width_of}

-- ---- zeros from the front
module _ (d w : List ℕ) (i : ℕ) (h : i ≤ length d) (e : w ≡ replicate i 0 ++ drop i d) where
  pub zeros_length : length w ≡ length d
  zeros_length = ap length e ∙ omega (arith, length-append (replicate i 0) (drop i d), length-replicate {A = ℕ} i 0, length-drop i d)

  pub zeros_more : i < length w → set w i 0 ≡ replicate (i + 1) 0 ++ drop (i + 1) d
  zeros_more l = ap (λ (m : List ℕ). set m i 0) e ∙ fill_more i 0 d (omega (arith, zeros_length))

  pub zeros_all : length w ≤ i → w ≡ replicate (length d) 0
  zeros_all l =
      let same : i ≡ length d = omega (arith, zeros_length) in
      e ∙ ap (λ (k : ℕ). replicate k 0 ++ drop k d) same ∙ ap (λ (m : List ℕ). replicate (length d) 0 ++ m) (drop-length d) ∙ append-nil (replicate (length d) 0)

-- ---- the row of a place where no message is
pub wrong_words : (n at x : ℕ) → 4 ≤ n → x ≡ at → set (set (replicate n 0) 0 x) 2 20 ≡ at ∷ 0 ∷ 20 ∷ 0 ∷ replicate (n - 4) 0
wrong_words zero at x h e = absurd (omega arith)
wrong_words (suc zero) at x h e = absurd (omega arith)
wrong_words (suc (suc zero)) at x h e = absurd (omega arith)
wrong_words (suc (suc (suc zero))) at x h e = absurd (omega arith)
wrong_words (suc (suc (suc (suc n)))) at x h e = λ i. e i ∷ 0 ∷ 20 ∷ 0 ∷ replicate (four i) 0
  where
    four : n ≡ suc (suc (suc (suc n))) - 4
    four = omega arith

pub wrong-put : (w : List ℕ) (n at x : ℕ) → 4 ≤ n → w ≡ replicate n 0 → x ≡ at → set (set w 0 x) 2 20 ≡ at ∷ 0 ∷ 20 ∷ 0 ∷ replicate (n - 4) 0
wrong-put w n at x h e q = ap (λ (l : List ℕ). set (set l 0 x) 2 20) e ∙ wrong_words n at x h q

pub no_row : (tags m : List ℕ) → any_body_in m ≡ None → row_in tags m ≡ None
unfolding row_in
no_row tags m e = ap (row_by (length m) tags) e

pub wrong_turn : (tags m : List ℕ) (at k n : ℕ) (w : List ℕ) → n ≡ width_of tags → w ≡ at ∷ 0 ∷ 20 ∷ 0 ∷ replicate (n - 4) 0 → row_in tags m ≡ None
    → turn_by tags at k (row_in tags m) ≡ row w 1
wrong_turn tags m at k n w h e q =
    ap (turn_by tags at k) q ∙ ap (λ (l : List ℕ). row (at ∷ 0 ∷ 20 ∷ 0 ∷ l) 1) (ap (λ (j : ℕ). replicate j 0) (let p : 2 * length tags ≡ n - 4 = omega arith in p))
    ∙ ap (λ (l : List ℕ). row l 1) (sym e)

-- ---- the row of a message
module _ (tags m : List ℕ) (kind start end : ℕ) (F : Framed m kind start end) where
  pub unspanned : closed (drop start m) ≡ None → any_body_in m ≡ None
  unspanned e = F.body ∙ ap (any_body_with F.type) e

  pub spanned : (fs : List Field) (spans : List ℕ) → closed (drop start m) ≡ Some fs → end ≡ start + length (fields_bytes fs) → spans ≡ spans_in start tags fs
      → row_in tags m ≡ Some (length m ∷ 0 ∷ kind ∷ spans)
  unfolding row_in
  spanned fs spans e h s =
      ap (row_by (length m) tags) (F.body ∙ ap (any_body_with F.type) e)
      ∙ (λ i. Some (length m ∷ 0 ∷ sym F.packs i ∷ (ap (λ (k : ℕ). spans_in k tags fs) begin ∙ sym s) i))
    where
      begin : length m - (length (fields_bytes fs) + 7) ≡ start
      begin = omega (arith, F.ends.seven)

  pub not_spanned : (spans : List ℕ) (good : Bool) → AnySpans m start end tags spans good → good ≡ false → row_in tags m ≡ None
  not_spanned spans good (found fs g e h s) b = absurd (true≢false (sym g ∙ b))
  not_spanned spans good (wrong g e) b = no_row tags m (unspanned e)

  pub is_spanned : (spans : List ℕ) (good : Bool) → AnySpans m start end tags spans good → good ≡ true → row_in tags m ≡ Some (length m ∷ 0 ∷ kind ∷ spans)
  is_spanned spans good (found fs g e h s) b = spanned fs spans e h s
  is_spanned spans good (wrong g e) b = absurd (true≢false (sym b ∙ g))

-- what is put: the front of four words, then the words of the tags
pub message_turn : (tags m : List ℕ) (at n kind x y : ℕ) (zeros spans w : List ℕ) → 4 ≤ n → zeros ≡ replicate n 0 → w ≡ take 4 zeros ++ spans
    → x ≡ at → y ≡ length m → row_in tags m ≡ Some (length m ∷ 0 ∷ kind ∷ spans)
    → turn_by tags at (length m) (row_in tags m) ≡ row (set (set (set w 0 x) 1 y) 3 kind) (length m)
message_turn tags m at n kind x y zeros spans w h z e p q r =
    ap (turn_by tags at (length m)) r
    ∙ ap (λ (l : List ℕ). row l (length m)) (sym (ap (λ (l : List ℕ). set (set (set l 0 x) 1 y) 3 kind) (e ∙ ap (λ (l : List ℕ). take 4 l ++ spans) z) ∙ front n h))
  where
    front : (n : ℕ) → 4 ≤ n → set (set (set (take 4 (replicate n 0) ++ spans) 0 x) 1 y) 3 kind ≡ at ∷ length m ∷ 0 ∷ kind ∷ spans
    front zero h = absurd (omega arith)
    front (suc zero) h = absurd (omega arith)
    front (suc (suc zero)) h = absurd (omega arith)
    front (suc (suc (suc zero))) h = absurd (omega arith)
    front (suc (suc (suc (suc n)))) h = λ i. p i ∷ q i ∷ 0 ∷ kind ∷ spans

-- ---- lengths and parts of a row
pub wrong-length : (w : List ℕ) (at n : ℕ) → 4 ≤ n → w ≡ at ∷ 0 ∷ 20 ∷ 0 ∷ replicate (n - 4) 0 → length w ≡ n
wrong-length w at n h e = ap length e ∙ omega (arith, length-replicate {A = ℕ} (n - 4) 0)

pub zeros_part : (z : List ℕ) (n k : ℕ) → z ≡ replicate n 0 → n ≡ 4 + k → take (length z - 4) (drop 4 z) ≡ replicate k 0
zeros_part z n k e h =
    take_all (length z - 4) (drop 4 z) (omega (arith, length-drop 4 z)) ∙ ap (drop 4) e ∙ ap (λ (j : ℕ). drop 4 (replicate j 0)) (h ∙ four)
  where
    four : 4 + k ≡ suc (suc (suc (suc k)))
    four = omega arith

pub nothing_behind : (z spans : List ℕ) → take 4 z ++ (spans ++ drop (length z - 4) (drop 4 z)) ≡ take 4 z ++ spans
nothing_behind z spans =
    ap (λ (l : List ℕ). take 4 z ++ l)
    (ap (λ (l : List ℕ). spans ++ l) (drop_of_length-le (drop 4 z) {i = length z - 4} (omega (arith, length-drop 4 z))) ∙ append-nil spans)
