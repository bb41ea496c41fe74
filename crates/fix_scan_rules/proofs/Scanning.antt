-- The scan from a place on, case by case.
use Prim.Native.Nat.{ℕ, zero, suc, ◌+◌, ◌-◌, ◌≤◌, ◌<◌}
use native.Mathlib.Nat.{add-zero}
use native.Mathlib.Omega.{arith}
use mathlib.Core.Path.{◌≡◌, refl, sym, ap, ◌∙◌}
use mathlib.Core.Bool.{true, false}
use mathlib.Core.List.{List, [], ◌∷◌}
use borrow.Author.Tests.{lt-ltb, le-ltb}
use lib.ListN.{length, drop}
use Rattle.fix_scan_rules.specs.Scans.{Turn, row, cut, turn_of, stopped, before, begins, found, scan_from}

pub scan_skip : (n room : ℕ) (tags : List ℕ) (at : ℕ) (l : List ℕ) → n ≤ length l → scan_from n room tags at l ≡ scan_from 0 room tags (at + n) (drop n l)
unfolding scan_from
scan_skip zero room tags at l h = ap (λ (k : ℕ). scan_from 0 room tags k l) (sym (add-zero at))
scan_skip (suc n) room tags at [] h = absurd (omega arith)
scan_skip (suc n) room tags at (b ∷ l) h =
    scan_skip n room tags (suc at) l (omega arith) ∙ ap (λ (k : ℕ). scan_from 0 room tags k (drop n l)) (let p : suc at + n ≡ at + suc n = omega arith in p)

module _ (room : ℕ) (tags : List ℕ) (at : ℕ) where
  pub scan_short : (l : List ℕ) → length l < 26 → scan_from 0 room tags at l ≡ stopped at
  unfolding scan_from
  scan_short [] h = refl
  scan_short (b ∷ l) h = rw (lt-ltb (length (b ∷ l)) 26 h) refl

  pub scan_pass : (l : List ℕ) → 26 ≤ length l → begins l ≡ false → scan_from 0 room tags at l ≡ scan_from 0 room tags (suc at) (drop 1 l)
  unfolding scan_from
  scan_pass [] h e = absurd (omega arith)
  scan_pass (b ∷ l) h e = rw (le-ltb (length (b ∷ l)) 26 h, e) refl

  scan_found : (l : List ℕ) → 26 ≤ length l → begins l ≡ true
      → scan_from 0 room tags at l ≡ found room at (turn_of tags at l) (λ left n. scan_from (n - 1) left tags (suc at) (drop 1 l))
  unfolding scan_from
  scan_found [] h e = absurd (omega arith)
  scan_found (b ∷ l) h e = rw (le-ltb (length (b ∷ l)) 26 h, e) refl

module _ (tags : List ℕ) (at : ℕ) (l : List ℕ) (long : 26 ≤ length l) (b : begins l ≡ true) where
  pub scan_full : scan_from 0 0 tags at l ≡ stopped at
  scan_full = scan_found 0 tags at l long b

  pub scan_cut : (room : ℕ) → turn_of tags at l ≡ cut → scan_from 0 room tags at l ≡ stopped at
  scan_cut zero e = scan_full
  scan_cut (suc room) e =
      scan_found (suc room) tags at l long b
      ∙ ap (λ (t : Turn). found (suc room) at t (λ left n. scan_from (n - 1) left tags (suc at) (drop 1 l))) e

  pub scan_row : (room : ℕ) (r : List ℕ) (n : ℕ) → turn_of tags at l ≡ row r n → 1 ≤ n → n ≤ length l
      → scan_from 0 (suc room) tags at l ≡ before r (scan_from 0 room tags (at + n) (drop n l))
  scan_row room r n e o h =
      scan_found (suc room) tags at l long b
      ∙ ap (λ (t : Turn). found (suc room) at t (λ left k. scan_from (k - 1) left tags (suc at) (drop 1 l))) e
      ∙ ap (before r) (on l long n o h)
    where
      on : (l : List ℕ) → 26 ≤ length l → (n : ℕ) → 1 ≤ n → n ≤ length l
          → scan_from (n - 1) room tags (suc at) (drop 1 l) ≡ scan_from 0 room tags (at + n) (drop n l)
      on [] long n o h = absurd (omega arith)
      on (b ∷ l) long zero o h = absurd (omega arith)
      on (b ∷ l) long (suc n) o h =
          (let p : suc n - 1 ≡ n = omega arith in ap (λ (k : ℕ). scan_from k room tags (suc at) l) p)
          ∙ scan_skip n room tags (suc at) l (omega arith)
          ∙ (let p : suc at + n ≡ at + suc n = omega arith in ap (λ (k : ℕ). scan_from 0 room tags k (drop n l)) p)
