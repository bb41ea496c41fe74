-- Where a message begins.
use Prim.Native.Nat.{ℕ, zero, suc, ◌+◌, ◌-◌, ◌≤◌, ◌<◌}
use native.Mathlib.Nat.{add-zero, eq-or-lt_of_le}
use native.Mathlib.Numerals.{add-one}
use native.Mathlib.Omega.{arith}
use mathlib.Core.Path.{◌≡◌, refl, sym, ap, ◌∙◌}
use mathlib.Core.Bool.{Bool, true, false, ◌&&◌}
use mathlib.Core.Logic.{⊎_elim}
use mathlib.Core.List.{List, [], ◌∷◌}
use lib.Dec.{eqb}
use lib.ListN.{length, get_or, take, drop, length-drop}
use lib.Seq.{get_or-drop, drop-drop}
use Rattle.rules.specs.Fields.{same_bytes}
use Rattle.fix_frame.proofs.Frames.{list_of}
use Rattle.fix_scan_rules.specs.Scans.{begins, scan_from}
use Rattle.fix_scan_rules.proofs.Scanning.{scan_pass}
use Rattle.fix_scan.specs.Internal.{NextStart}

front : (k : ℕ) (l : List ℕ) → k ≤ length l → take k l ≡ list_of k (λ i. get_or l i 0)
front zero l h = refl
front (suc k) [] h = absurd (omega arith)
front (suc k) (b ∷ l) h = ap (λ (m : List ℕ). b ∷ m) (front k l (omega arith))

six : (a b c d e f : Bool) → a && b && c && d && e && f ≡ a && (b && (c && (d && (e && (f && true)))))
six true true true true true true = refl
six true true true true true false = refl
six true true true true false f = refl
six true true true false e f = refl
six true true false d e f = refl
six true false c d e f = refl
six false b c d e f = refl

pub starts_is : (b : List ℕ) (at : ℕ) → at + 6 ≤ length b
    → eqb (get_or b at 0) 56 && eqb (get_or b (at + 1) 0) 61 && eqb (get_or b (at + 2) 0) 70 && eqb (get_or b (at + 3) 0) 73 && eqb (get_or b (at + 4) 0) 88
    && eqb (get_or b (at + 5) 0) 46 ≡ begins (drop at b)
unfolding same_bytes
starts_is b at h =
    six (eqb (get_or b at 0) 56) (eqb (get_or b (at + 1) 0) 61) (eqb (get_or b (at + 2) 0) 70) (eqb (get_or b (at + 3) 0) 73) (eqb (get_or b (at + 4) 0) 88)
    (eqb (get_or b (at + 5) 0) 46)
    ∙ sym
    ((λ i. same_bytes (front 6 (drop at b) (rw (length-drop at b) (omega arith)) i) (56 ∷ 61 ∷ 70 ∷ 73 ∷ 88 ∷ 46 ∷ []))
    ∙ (λ i.
    eqb ((get_or-drop at b 0 0 ∙ ap (λ (k : ℕ). get_or b k 0) (add-zero at)) i) 56
    && (eqb (get_or-drop at b 1 0 i) 61 && (eqb (get_or-drop at b 2 0 i) 70 && (eqb (get_or-drop at b 3 0 i) 73 && (eqb (get_or-drop at b 4 0 i) 88 && (eqb (get_or-drop at b 5 0 i) 46 && true)))))))

-- ---- the search for the next one
pub record Passed (b : List ℕ) (from i : ℕ) : Type 0 where
  pub first : from ≤ i
  pub inside : i ≤ length b
  pub long : (k : ℕ) → from ≤ k → k < i → k + 26 ≤ length b
  pub none : (k : ℕ) → from ≤ k → k < i → begins (drop k b) ≡ false

module _ (b : List ℕ) (from : ℕ) (h : from ≤ length b) where
  pub start : Passed b from from
  start = record { first = omega arith; inside = h; long = λ k l m. absurd (omega arith); none = λ k l m. absurd (omega arith) }

  module _ (i : ℕ) (P : Passed b from i) where
    pub onward : i + 26 ≤ length b → begins (drop i b) ≡ false → Passed b from (i + 1)
    onward l e =
        record {
          first = omega (arith, P.first);
          inside = omega arith;
          long = λ k m n. ⊎_elim (λ s. omega arith) (λ s. P.long k m s) (eq-or-lt_of_le (upto k n));
          none = λ k m n. ⊎_elim (λ s. ap (λ (j : ℕ). begins (drop j b)) s ∙ e) (λ s. P.none k m s) (eq-or-lt_of_le (upto k n));
        }
      where
        upto : (k : ℕ) → k < i + 1 → k ≤ i
        upto k n = omega arith

    pub found-next : begins (drop i b) ≡ true → NextStart b from i
    found-next e = record { first = P.first; inside = P.inside; long = P.long; none = P.none; found = λ _. e }

    pub over-next : length b < i + 26 → NextStart b from i
    over-next l = record { first = P.first; inside = P.inside; long = P.long; none = P.none; found = λ m. absurd (omega arith) }

-- ---- the scan goes on there
scan_on : (room : ℕ) (tags b : List ℕ) (d from r : ℕ) → from + d ≡ r → ((k : ℕ) → from ≤ k → k < r → k + 26 ≤ length b)
    → ((k : ℕ) → from ≤ k → k < r → begins (drop k b) ≡ false) → scan_from 0 room tags from (drop from b) ≡ scan_from 0 room tags r (drop r b)
scan_on room tags b zero from r e l n = ap (λ (k : ℕ). scan_from 0 room tags k (drop k b)) (sym (add-zero from) ∙ e)
scan_on room tags b (suc d) from r e l n =
    scan_pass room tags from (drop from b) (rw (length-drop from b) (let z = l from (omega arith) (omega arith) in omega arith)) (n from (omega arith) (omega arith))
    ∙ ap (scan_from 0 room tags (suc from)) (drop-drop 1 from b ∙ ap (λ (k : ℕ). drop k b) (add-one from))
    ∙ scan_on room tags b d (suc from) r (omega arith) (λ k p q. l k (omega arith) q) (λ k p q. n k (omega arith) q)

pub next_scan : (room : ℕ) (tags b : List ℕ) (from r : ℕ) → NextStart b from r
    → scan_from 0 room tags from (drop from b) ≡ scan_from 0 room tags r (drop r b)
next_scan room tags b from r N = scan_on room tags b (r - from) from r (omega (arith, N.first)) N.long N.none
