-- What is answered, case by case.
use Prim.Native.Nat.{ℕ, ◌+◌, ◌-◌, ◌*◌, ◌/◌, ◌%◌, ◌≤◌, ◌<◌}
use native.Mathlib.Nat.{div-add-mod', mod-lt, mul-div_cancel}
use native.Mathlib.Omega.{arith}
use mathlib.Core.Path.{◌≡◌, refl, sym, ap, ◌∙◌}
use mathlib.Core.Bool.{true, false, and-false}
use mathlib.Core.List.{List, [], ◌∷◌, ◌++◌}
use borrow.Author.Tests.{lt-ltb, le-ltb}
use lib.ListN.{length, take, drop, set, length-append, length-drop}
use lib.Seq.{length-take-le}
use Rattle.c_answers.specs.Answers.{refused_number, Fills}
use Rattle.c_answers.proofs.Filling.{fills_refused, fills_whole, fills_as}
use Rattle.fix_scan_rules.specs.Wanted.{wanted_tags}
use Rattle.fix_scan_rules.specs.Scans.{Scan, scanned}
use Rattle.fix_scan.specs.RowsDone.{width_of, joined, Room, RowsAre, RowsDone}
use Rattle.c_scan.specs.Scans.{scan_words, scan_outcome}

-- ---- how many rows fit
pub room_is : (tags : List ℕ) (n : ℕ) → 2 ≤ n → Room (width_of tags) n ((n - 2) / width_of tags)
room_is tags n h =
    let all = div-add-mod' (n - 2) (width_of tags) in
    let small : (n - 2) % width_of tags < width_of tags = mod-lt (n - 2) (positive (2 * length tags)) in
    record { fits = omega arith; last = omega arith }
  where
    positive : (k : ℕ) → 0 < 4 + k
    positive k = omega arith

-- ---- the refusals
module _ (tags bytes words : List ℕ) (r : ℕ) where
  pub bad_tags : wanted_tags tags ≡ false → r ≡ refused_number 3 → Fills (scan_outcome tags (length words) bytes) words words r
  unfolding scan_outcome
  bad_tags e q = fills_as (sym (rw e refl)) (fills_refused 3 words r q)

  pub too_many_bytes : 4294967295 < length bytes → r ≡ refused_number 3 → Fills (scan_outcome tags (length words) bytes) words words r
  unfolding scan_outcome
  too_many_bytes h q = fills_as (sym (rw (le-ltb (length bytes) 4294967296 (omega arith), and-false (wanted_tags tags)) refl)) (fills_refused 3 words r q)

  pub no_room : wanted_tags tags ≡ true → length bytes ≤ 4294967295 → length words < 2 + width_of tags → r ≡ refused_number 16
      → Fills (scan_outcome tags (length words) bytes) words words r
  unfolding scan_outcome
  no_room w h l q =
      fills_as (sym (rw (w, lt-ltb (length bytes) 4294967296 (omega arith), lt-ltb (length words) (2 + width_of tags) l) refl)) (fills_refused 16 words r q)

-- ---- the rows
put_front : (words rest : List ℕ) (x y : ℕ) → 2 ≤ length words → set (set (take 2 words ++ rest) 0 x) 1 y ≡ x ∷ y ∷ rest
put_front [] rest x y h = absurd (omega arith)
put_front (a ∷ []) rest x y h = absurd (omega arith)
put_front (a ∷ b ∷ words) rest x y h = refl

module _ (tags bytes words behind : List ℕ) (used at : ℕ) (D : RowsDone bytes tags words behind used at) (room : 2 + width_of tags ≤ length words) where
  scan : Scan
  scan = scanned ((length words - 2) / width_of tags) tags bytes

  A : RowsAre tags scan words behind used at
  unfolding scan
  A = D.are ((length words - 2) / width_of tags) (room_is tags (length words) (omega arith))

  counted : (used - 2) / width_of tags ≡ length scan.rows
  counted =
      ap (λ (k : ℕ). k / width_of tags) (let p : used - 2 ≡ length scan.rows * width_of tags = omega (arith, A.count, A.wide) in p)
      ∙ mul-div_cancel (length scan.rows) (positive (2 * length tags))
    where
      positive : (k : ℕ) → 0 < 4 + k
      positive k = omega arith

  used_is : used ≡ length (scan_words scan)
  used_is = A.count ∙ omega arith

  pub used-two : 2 ≤ used
  used-two = omega (arith, A.count)

  pub count_small : length bytes < 4294967296 → (used - 2) / width_of tags < 4294967296
  count_small h = omega (arith, counted, A.few, D.place)

  pub behind-length : length behind ≡ length words
  behind-length =
      ap length A.rows
      ∙ omega (arith, length-append (take 2 words) (joined scan.rows ++ drop used words), length-append (joined scan.rows) (drop used words), length-drop used words, A.fits, A.count, two)
    where
      two : length (take 2 words) ≡ 2
      two = length-take-le 2 words (omega arith)

  pub answered : (x y : ℕ) → wanted_tags tags ≡ true → length bytes ≤ 4294967295 → x ≡ (used - 2) / width_of tags → y ≡ at
      → Fills (scan_outcome tags (length words) bytes) words (set (set behind 0 x) 1 y) used
  unfolding scan_outcome scan
  answered x y w h p q =
      fills_as (sym (rw (w, lt-ltb (length bytes) 4294967296 (omega arith), le-ltb (length words) (2 + width_of tags) room) refl))
      (fills_whole (scan_words scan) words (set (set behind 0 x) 1 y) used (omega (arith, A.fits, used_is))
      (ap (λ (l : List ℕ). set (set l 0 x) 1 y) A.rows ∙ put_front words (joined scan.rows ++ drop used words) x y (omega arith)
      ∙ (λ i. (p ∙ counted) i ∷ (q ∙ A.stop) i ∷ (joined scan.rows ++ drop (used_is i) words)))
      used_is)
