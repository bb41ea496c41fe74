-- Chunks make no difference: the rows of some bytes and others after them are those of the first bytes up to where their scan stops, then
-- those from there on. The scan looks at no byte after the message that it decides on.
use Rattle.std.specs.Prelude.{if◌then◌else◌, Option, None, Some}
use Prim.Native.Nat.{ℕ, zero, suc, ◌+◌, ◌-◌, ◌≤◌, ◌<◌}
use native.Mathlib.Nat.{add-zero}
use native.Mathlib.Numerals.{add-one}
use native.Mathlib.Omega.{arith}
use mathlib.Core.Path.{◌≡◌, refl, sym, ap, ◌∙◌}
use mathlib.Core.Bool.{Bool, true, false, ◌&&◌}
use mathlib.Core.List.{List, [], ◌∷◌, ◌++◌, map, append_assoc}
use borrow.Author.Tests.{le-ltb, ltb-true, ltb-false}
use lib.Dec.{eqb, leb, ltb}
use lib.ListN.{length, get_or, take, drop, length-append, length-drop, get_or-append}
use lib.Seq.{take-append-le, drop-append-le, drop-drop}
use Rattle.rules.specs.Text.{ascii}
use Rattle.rules.specs.Digits.{is_digit, in_digits}
use Rattle.rules.specs.Fields.{same_bytes}
use Rattle.fix_scan_rules.specs.Rows.{row_in}
use Rattle.fix_scan_rules.specs.Scans.{digits_front, head, size_by, size_with, size_in, Turn, row, cut, wrong_row, turn_by, turn_with, turn_of, Scan, stopped, begins, scan_from, scanned}
use Rattle.fix_scan_rules.specs.Scans as S
use Rattle.fix_scan_rules.proofs.Scanning.{scan_short, scan_pass, scan_full, scan_cut, scan_row}

-- ---- what comes after 26 bytes is not looked at
front-more : (k : ℕ) (l m : List ℕ) → k ≤ length l → digits_front k (l ++ m) ≡ digits_front k l
unfolding digits_front
front-more zero l m h = refl
front-more (suc k) [] m h = absurd (omega arith)
front-more (suc k) (b ∷ l) m h = ap (λ (ds : List ℕ). if is_digit b then b ∷ ds else []) (front-more k l m (omega arith))

front_most : (k : ℕ) (l : List ℕ) → length (digits_front k l) ≤ k
unfolding digits_front
front_most zero l = omega arith
front_most (suc k) [] = omega arith
front_most (suc k) (b ∷ l) = by (is_digit b) (front_most k l)
  where
    by : (t : Bool) → length (digits_front k l) ≤ k → length (if t then b ∷ digits_front k l else []) ≤ suc k
    by true h = omega arith
    by false h = omega arith

module _ (l m : List ℕ) (long : 26 ≤ length l) where
  pub begins-more : begins (l ++ m) ≡ begins l
  begins-more = ap (λ (t : List ℕ). same_bytes t (ascii "8=FIX.")) (take-append-le 6 l m (omega arith))

  size-more : size_in (l ++ m) ≡ size_in l
  unfolding size_in
  size-more =
      ap (size_with (l ++ m)) digits
      ∙ (λ i.
      if same_bytes (take-append-le 12 l m (omega arith) i) head && eqb (get_or-append l m 0 (12 + length (digits_front 13 (drop 12 l))) inside i) 1
      then size_by (12 + length (digits_front 13 (drop 12 l)) + 1) (in_digits (digits_front 13 (drop 12 l))) else None)
    where
      digits : digits_front 13 (drop 12 (l ++ m)) ≡ digits_front 13 (drop 12 l)
      digits = ap (digits_front 13) (drop-append-le 12 l m (omega arith)) ∙ front-more 13 (drop 12 l) m (omega (arith, length-drop 12 l))

      inside : 12 + length (digits_front 13 (drop 12 l)) < length l
      inside = omega (arith, front_most 13 (drop 12 l))

-- ---- one message
pub data Case (tags : List ℕ) (at : ℕ) (l : List ℕ) : Type 0 where
  cut_off : turn_of tags at l ≡ cut → Case tags at l
  made : (r : List ℕ) (n : ℕ) → turn_of tags at l ≡ row r n → 1 ≤ n → n ≤ length l → ((m : List ℕ) → turn_of tags at (l ++ m) ≡ row r n) → Case tags at l

size-positive : (l : List ℕ) (n : ℕ) → size_in l ≡ Some n → 1 ≤ n
unfolding size_in
size-positive l n e =
    by (same_bytes (take 12 l) head && eqb (get_or l (12 + length (digits_front 13 (drop 12 l))) 0) 1) (in_digits (digits_front 13 (drop 12 l))) e
  where
    some_size : (k : ℕ) (t : Bool) → (if t then Some (12 + length (digits_front 13 (drop 12 l)) + 1 + k + 7) else None) ≡ Some n → 1 ≤ n
    some_size k true e = let is : 12 + length (digits_front 13 (drop 12 l)) + 1 + k + 7 ≡ n = cc in omega arith
    some_size k false e = absurd (let z : ◌≡◌ {A = ℕ} 0 1 = cc in omega arith)

    by : (t : Bool) (o : Option ℕ) → (if t then size_by (12 + length (digits_front 13 (drop 12 l)) + 1) o else None) ≡ Some n → 1 ≤ n
    by true None e = absurd (let z : ◌≡◌ {A = ℕ} 0 1 = cc in omega arith)
    by true (Some k) e = some_size k (leb k 65535) e
    by false o e = absurd (let z : ◌≡◌ {A = ℕ} 0 1 = cc in omega arith)

module _ (tags : List ℕ) (at : ℕ) (l : List ℕ) (long : 26 ≤ length l) where
  by_row : (n : ℕ) → size_in l ≡ Some n → n ≤ length l → (o : Option (List ℕ)) → row_in tags (take n l) ≡ o → Case tags at l
  unfolding turn_of
  by_row n e h None q =
      made (wrong_row tags at) 1 (ap (turn_with tags at l) e ∙ rw (le-ltb (length l) n h) (ap (turn_by tags at n) q)) (omega arith) (omega arith)
      (λ m.
      ap (turn_with tags at (l ++ m)) (size-more l m long ∙ e)
      ∙ rw (le-ltb (length (l ++ m)) n (omega (arith, length-append l m)), take-append-le n l m h) (ap (turn_by tags at n) q))
  by_row n e h (Some r) q =
      made (at ∷ r) n (ap (turn_with tags at l) e ∙ rw (le-ltb (length l) n h) (ap (turn_by tags at n) q)) (size-positive l n e) h
      (λ m.
      ap (turn_with tags at (l ++ m)) (size-more l m long ∙ e)
      ∙ rw (le-ltb (length (l ++ m)) n (omega (arith, length-append l m)), take-append-le n l m h) (ap (turn_by tags at n) q))

  pub case_of : Case tags at l
  unfolding turn_of
  case_of = by (size_in l) refl
    where
      sized : (n : ℕ) → size_in l ≡ Some n → (t : Bool) → ltb (length l) n ≡ t → Case tags at l
      sized n e true q = cut_off (ap (turn_with tags at l) e ∙ rw q refl)
      sized n e false q = by_row n e (ltb-false (length l) n q) (row_in tags (take n l)) refl

      by : (o : Option ℕ) → size_in l ≡ o → Case tags at l
      by None e =
          made (wrong_row tags at) 1 (ap (turn_with tags at l) e) (omega arith) (omega arith) (λ m. ap (turn_with tags at (l ++ m)) (size-more l m long ∙ e))
      by (Some n) e = sized n e (ltb (length l) n) refl

-- ---- all of them
-- a scan that stopped, and one from there on
abbrev pub onward : Scan → Scan → Scan
onward s t = record { rows = s.rows ++ t.rows; stop = t.stop }

-- the scan of the bytes from a place on, where others come after them: up to its stop, then from there on
pub record Joins (room : ℕ) (tags : List ℕ) (at : ℕ) (l m : List ℕ) : Type 0 where
  pub from : at ≤ (scan_from 0 room tags at l).stop
  pub rows : length (scan_from 0 room tags at l).rows ≤ room
  pub same : scan_from 0 room tags at (l ++ m)
      ≡ onward (scan_from 0 room tags at l)
      (scan_from 0 (room - length (scan_from 0 room tags at l).rows) tags (scan_from 0 room tags at l).stop (drop ((scan_from 0 room tags at l).stop - at) l ++ m))

module _ (tags m : List ℕ) where
  stays : (room at : ℕ) (l : List ℕ) → scan_from 0 room tags at l ≡ stopped at → Joins room tags at l m
  stays room at l e =
      record {
        from = omega (arith, ap (λ (s : Scan). s.stop) e);
        rows = omega (arith, ap (λ (s : Scan). length s.rows) e);
        same = sym (ap (λ (s : Scan). onward s (scan_from 0 (room - length s.rows) tags s.stop (drop (s.stop - at) l ++ m))) e ∙ (λ i. scan_from 0 (room_is i) tags at (drop (zero_is i) l ++ m)));
      }
    where
      room_is : room - 0 ≡ room
      room_is = omega arith

      zero_is : at - at ≡ 0
      zero_is = omega arith

  -- after some bytes
  goes : (room room' at n : ℕ) (l : List ℕ) (rs : List (List ℕ)) → n ≤ length l → length rs + room' ≡ room
      → scan_from 0 room tags at l ≡ record { rows = rs ++ (scan_from 0 room' tags (at + n) (drop n l)).rows; stop = (scan_from 0 room' tags (at + n) (drop n l)).stop }
      → scan_from 0 room tags at (l ++ m) ≡ record { rows = rs ++ (scan_from 0 room' tags (at + n) (drop n l ++ m)).rows; stop = (scan_from 0 room' tags (at + n) (drop n l ++ m)).stop }
      → Joins room' tags (at + n) (drop n l) m → Joins room tags at l m
  goes room room' at n l rs h w e f J =
      record {
        from = omega (arith, J.from, ap (λ (t : Scan). t.stop) e);
        rows = omega (arith, J.rows, ap (λ (t : Scan). length t.rows) e, length-append rs s.rows);
        same =
            f ∙ ap (λ (t : Scan). record { rows = rs ++ t.rows; stop = t.stop }) J.same
            ∙ ap (λ (q : List (List ℕ)). record { rows = q; stop = rest.stop }) (sym (append_assoc rs s.rows rest.rows))
            ∙ (λ i. onward (record { rows = rs ++ s.rows; stop = s.stop }) (scan_from 0 (left i) tags s.stop (bytes i ++ m)))
            ∙ sym (ap (λ (t : Scan). onward t (scan_from 0 (room - length t.rows) tags t.stop (drop (t.stop - at) l ++ m))) e);
      }
    where
      s : Scan
      s = scan_from 0 room' tags (at + n) (drop n l)

      rest : Scan
      rest = scan_from 0 (room' - length s.rows) tags s.stop (drop (s.stop - (at + n)) (drop n l) ++ m)

      left : room' - length s.rows ≡ room - length (rs ++ s.rows)
      left = omega (arith, length-append rs s.rows)

      bytes : drop (s.stop - (at + n)) (drop n l) ≡ drop (s.stop - at) l
      bytes = drop-drop (s.stop - (at + n)) n l ∙ ap (λ (k : ℕ). drop k l) (let p : n + (s.stop - (at + n)) ≡ s.stop - at = omega (arith, J.from) in p)

  -- a turn, given what comes after it
  passed : (room at : ℕ) (l : List ℕ) → 26 ≤ length l → begins l ≡ false → Joins room tags (at + 1) (drop 1 l) m → Joins room tags at l m
  passed room at l g e J =
      goes room room at 1 l [] (omega arith) (omega arith)
      (scan_pass room tags at l g e ∙ ap (λ (k : ℕ). scan_from 0 room tags k (drop 1 l)) (sym (add-one at)))
      (scan_pass room tags at (l ++ m) (omega (arith, length-append l m)) (begins-more l m g ∙ e)
      ∙ (λ i. scan_from 0 room tags (sym (add-one at) i) (drop-append-le 1 l m (omega arith) i)))
      J

  turn_made : (room at : ℕ) (l r : List ℕ) (n : ℕ) → 26 ≤ length l → begins l ≡ true → turn_of tags at l ≡ row r n → 1 ≤ n → n ≤ length l
      → turn_of tags at (l ++ m) ≡ row r n → Joins room tags (at + n) (drop n l) m → Joins (suc room) tags at l m
  turn_made room at l r n g b e o h f J =
      goes (suc room) room at n l (r ∷ []) h (omega arith) (scan_row tags at l g b room r n e o h)
      (scan_row tags at (l ++ m) (omega (arith, length-append l m)) (begins-more l m g ∙ b) room r n f o (omega (arith, length-append l m))
      ∙ ap (λ (x : List ℕ). S.before r (scan_from 0 room tags (at + n) x)) (drop-append-le n l m h))
      J

  found : (room at : ℕ) (l : List ℕ) → 26 ≤ length l → begins l ≡ true
      → ((room n : ℕ) → 1 ≤ n → n ≤ length l → Joins room tags (at + n) (drop n l) m) → Joins room tags at l m
  found zero at l g b again = stays 0 at l (scan_full tags at l g b)
  found (suc room) at l g b again = by (case_of tags at l g)
    where
      by : Case tags at l → Joins (suc room) tags at l m
      by (cut_off e) = stays (suc room) at l (scan_cut tags at l g b (suc room) e)
      by (made r n e o h f) = turn_made room at l r n g b e o h (f m) (again room n o h)

  one_place : (room at : ℕ) (l : List ℕ) → ((room n : ℕ) → 1 ≤ n → n ≤ length l → Joins room tags (at + n) (drop n l) m) → Joins room tags at l m
  one_place room at l again = short (ltb (length l) 26) refl
    where
      begun : (t : Bool) → begins l ≡ t → 26 ≤ length l → Joins room tags at l m
      begun true b g = found room at l g b again
      begun false b g = passed room at l g b (again room 1 (omega arith) (omega arith))

      short : (t : Bool) → ltb (length l) 26 ≡ t → Joins room tags at l m
      short true q = stays room at l (scan_short room tags at l (ltb-true (length l) 26 q))
      short false q = begun (begins l) refl (ltb-false (length l) 26 q)

  by_length : (k room at : ℕ) (l : List ℕ) → length l < k → Joins room tags at l m
  by_length zero room at l h = absurd (omega arith)
  by_length (suc k) room at l h = one_place room at l (λ room n o g. by_length k room (at + n) (drop n l) (omega (arith, length-drop n l)))

-- ---- the theorem
-- with places from the front of all bytes
pub chunks : (room : ℕ) (tags a b : List ℕ)
    → scanned room tags (a ++ b)
    ≡ onward (scanned room tags a)
    (scan_from 0 (room - length (scanned room tags a).rows) tags (scanned room tags a).stop (drop (scanned room tags a).stop a ++ b))
unfolding scanned
chunks room tags a b =
    (by_length tags b (suc (length a)) room 0 a (omega arith)).same
    ∙ (let s = scan_from 0 room tags 0 a in
    ap (λ (k : ℕ). onward s (scan_from 0 (room - length s.rows) tags s.stop (drop k a ++ b))) (let p : s.stop - 0 ≡ s.stop = omega arith in p))

-- ---- the same with the places of the second scan moved
abbrev pub moved_row : ℕ → List ℕ → List ℕ
moved_row k [] = []
moved_row k (x ∷ r) = (k + x) ∷ r

abbrev pub moved_by : ℕ → Scan → Scan
moved_by k s = record { rows = map (moved_row k) s.rows; stop = k + s.stop }

abbrev moved_turn : ℕ → Turn → Turn
moved_turn k cut = cut
moved_turn k (row r n) = row (moved_row k r) n

turn_moved : (k : ℕ) (tags : List ℕ) (at : ℕ) (l : List ℕ) → turn_of tags (k + at) l ≡ moved_turn k (turn_of tags at l)
unfolding turn_of
turn_moved k tags at l = by (size_in l)
  where
    rowed : (n : ℕ) (o : Option (List ℕ)) → turn_by tags (k + at) n o ≡ moved_turn k (turn_by tags at n o)
    rowed n None = refl
    rowed n (Some r) = refl

    whole : (n : ℕ) (t : Bool) → (if t then cut else turn_by tags (k + at) n (row_in tags (take n l))) ≡ moved_turn k (if t then cut else turn_by tags at n (row_in tags (take n l)))
    whole n true = refl
    whole n false = rowed n (row_in tags (take n l))

    by : (o : Option ℕ) → turn_with tags (k + at) l o ≡ moved_turn k (turn_with tags at l o)
    by None = refl
    by (Some n) = whole n (ltb (length l) n)

found-moved : (k room at : ℕ) (t : Turn) (go go' : ℕ → ℕ → Scan) → ((left n : ℕ) → go' left n ≡ moved_by k (go left n))
    → S.found room (k + at) (moved_turn k t) go' ≡ moved_by k (S.found room at t go)
found-moved k zero at t go go' h = refl
found-moved k (suc room) at cut go go' h = refl
found-moved k (suc room) at (row r n) go go' h = ap (S.before (moved_row k r)) (h room n)

pub scan_moved : (k skip room : ℕ) (tags : List ℕ) (at : ℕ) (l : List ℕ) → scan_from skip room tags (k + at) l ≡ moved_by k (scan_from skip room tags at l)
unfolding scan_from
scan_moved k skip room tags at [] = refl
scan_moved k (suc skip) room tags at (b ∷ l) =
    ap (λ (x : ℕ). scan_from skip room tags x l) (let p : suc (k + at) ≡ k + suc at = omega arith in p) ∙ scan_moved k skip room tags (suc at) l
scan_moved k zero room tags at (b ∷ l) =
    by (ltb (length (b ∷ l)) 26) (begins (b ∷ l))
    (λ skip left. ap (λ (x : ℕ). scan_from skip left tags x l) (let p : suc (k + at) ≡ k + suc at = omega arith in p) ∙ scan_moved k skip left tags (suc at) l)
  where
    by : (s t : Bool) → ((skip left : ℕ) → scan_from skip left tags (suc (k + at)) l ≡ moved_by k (scan_from skip left tags (suc at) l))
        → (if s then stopped (k + at) else if t then S.found room (k + at) (turn_of tags (k + at) (b ∷ l)) (λ left n. scan_from (n - 1) left tags (suc (k + at)) l) else scan_from zero room tags (suc (k + at)) l)
        ≡ moved_by k (if s then stopped at else if t then S.found room at (turn_of tags at (b ∷ l)) (λ left n. scan_from (n - 1) left tags (suc at) l) else scan_from zero room tags (suc at) l)
    by true t again = refl
    by false true again =
        ap (λ (u : Turn). S.found room (k + at) u (λ left n. scan_from (n - 1) left tags (suc (k + at)) l)) (turn_moved k tags at (b ∷ l))
        ∙ found-moved k room at (turn_of tags at (b ∷ l)) (λ left n. scan_from (n - 1) left tags (suc at) l) (λ left n. scan_from (n - 1) left tags (suc (k + at)) l)
        (λ left n. again (n - 1) left)
    by false false again = again zero room

from_zero : (k room : ℕ) (tags l : List ℕ) → scan_from 0 room tags (k + 0) l ≡ moved_by k (scanned room tags l)
unfolding scanned
from_zero k room tags l = scan_moved k 0 room tags 0 l

-- Whoever scans a, keeps a from its stop on, and scans that with b after it, gets the rows of a and b together.
pub chunks_moved : (room : ℕ) (tags a b : List ℕ)
    → scanned room tags (a ++ b)
    ≡ onward (scanned room tags a)
    (moved_by (scanned room tags a).stop (scanned (room - length (scanned room tags a).rows) tags (drop (scanned room tags a).stop a ++ b)))
chunks_moved room tags a b =
    let s = scanned room tags a in
    chunks room tags a b
    ∙ ap (onward s)
    (ap (λ (x : ℕ). scan_from 0 (room - length s.rows) tags x (drop s.stop a ++ b)) (sym (add-zero s.stop)) ∙ from_zero s.stop (room - length s.rows) tags (drop s.stop a ++ b))
