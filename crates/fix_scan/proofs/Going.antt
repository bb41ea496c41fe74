-- All rows: those that are made, in front of those that are ahead.
use Prim.Native.Nat.{ℕ, suc, ◌+◌, ◌-◌, ◌*◌, ◌≤◌, ◌<◌}
use native.Mathlib.Nat.{suc-mul, mul-le-mul_right, eq-or-lt_of_le}
use native.Mathlib.Omega.{arith}
use mathlib.Core.Path.{◌≡◌, refl, sym, ap, subst, ◌∙◌}
use mathlib.Core.Bool.{Bool, true, false, ◌&&◌, true≢false}
use borrow.Author.Tests.{leb-true, leb-false}
use lib.Dec.{leb}
use Rattle.lists.proofs.Lists.{both}
use mathlib.Core.Logic.{⊎_elim}
use mathlib.Core.List.{List, [], ◌∷◌, ◌++◌, append-nil, append_assoc}
use lib.ListN.{length, take, drop, length-append, length-drop, take-append-drop}
use lib.Seq.{length-take-le, take_at, drop_at, drop-drop}
use Rattle.fix_scan_rules.specs.Scans.{row, cut, turn_of, Scan, stopped, begins, scan_from, scanned}
use Rattle.fix_scan_rules.specs.Scans as S
use Rattle.fix_scan_rules.proofs.Scanning.{scan_short, scan_full, scan_cut, scan_row}
use Rattle.fix_scan.specs.RowsDone.{width_of, joined, Room, RowsAre, RowsDone}
use Rattle.fix_scan.specs.Internal.{NextStart, TurnDone, made, left}
use Rattle.fix_scan.proofs.Starting.{next_scan}

-- rows in front of a scan
abbrev pub in_front : List (List ℕ) → Scan → Scan
in_front rs s = record { rows = rs ++ s.rows; stop = s.stop }

joined_snoc : (rs : List (List ℕ)) (r : List ℕ) → joined (rs ++ (r ∷ [])) ≡ joined rs ++ r
unfolding joined
joined_snoc [] r = append-nil r
joined_snoc (q ∷ rs) r = ap (λ (l : List ℕ). q ++ l) (joined_snoc rs r) ∙ sym (append_assoc q (joined rs) r)

snoc_length : (rs : List (List ℕ)) (r : List ℕ) → length (rs ++ (r ∷ [])) ≡ suc (length rs)
snoc_length rs r = length-append rs (r ∷ []) ∙ omega arith

-- what holds at the loop's test
pub record Going (b tags before words : List ℕ) (at used : ℕ) : Type 0 where
  pub made_rows : List (List ℕ)
  pub place : at ≤ length b
  pub behind_rows : length made_rows ≤ at
  pub begin : at + 26 ≤ length b → begins (drop at b) ≡ true
  pub used_is : used ≡ 2 + length made_rows * width_of tags
  pub fits : used ≤ length before
  pub wide : length (joined made_rows) ≡ length made_rows * width_of tags
  pub words_are : words ≡ take 2 before ++ (joined made_rows ++ drop used before)
  pub few : (room : ℕ) → Room (width_of tags) (length before) room → length made_rows ≤ room
  pub ahead : (room : ℕ) → Room (width_of tags) (length before) room
      → scanned room tags b ≡ in_front made_rows (scan_from 0 (room - length made_rows) tags at (drop at b))

module _ (b tags before : List ℕ) (front : 2 ≤ length before) where
  pub going_start : (at : ℕ) → NextStart b 0 at → Going b tags before before at 2
  unfolding joined scanned
  going_start at N =
      record {
        made_rows = [];
        place = N.inside;
        behind_rows = omega arith;
        begin = N.found;
        used_is = omega arith;
        fits = front;
        wide = omega arith;
        words_are = sym (take-append-drop 2 before);
        few = λ room R. omega arith;
        ahead = λ room R. next_scan room tags b 0 at N ∙ ap (λ (k : ℕ). scan_from 0 k tags at (drop at b)) (let p : room ≡ room - 0 = omega arith in p);
      }

  module _ (words : List ℕ) (at used : ℕ) (G : Going b tags before words at used) where
    done : List ℕ
    done = take 2 before ++ joined G.made_rows

    done_length : length done ≡ used
    unfolding done
    done_length = omega (arith, length-append (take 2 before) (joined G.made_rows), length-take-le 2 before front, G.wide, G.used_is)

    words_split : words ≡ done ++ drop used before
    unfolding done
    words_split = G.words_are ∙ sym (append_assoc (take 2 before) (joined G.made_rows) (drop used before))

    pub same_size : length words ≡ length before
    same_size = ap length words_split ∙ omega (arith, length-append done (drop used before), done_length, length-drop used before, G.fits)

    -- ---- the end
    finish : ((room : ℕ) → Room (width_of tags) (length before) room → scan_from 0 (room - length G.made_rows) tags at (drop at b) ≡ stopped at)
        → RowsDone b tags before words used at
    finish h =
        record {
          place = G.place;
          are = λ room R. subst (λ (s : Scan). RowsAre tags s before words used at) (sym (all room R))
              (record { rows = G.words_are; count = G.used_is ∙ omega (arith, G.wide); wide = G.wide; fits = G.fits; stop = refl; few = G.behind_rows });
        }
      where
        all : (room : ℕ) → Room (width_of tags) (length before) room → scanned room tags b ≡ record { rows = G.made_rows; stop = at }
        all room R =
            G.ahead room R ∙ ap (in_front G.made_rows) (h room R) ∙ ap (λ (rs : List (List ℕ)). record { rows = rs; stop = at }) (append-nil G.made_rows)

    pub over : length b < at + 26 → RowsDone b tags before words used at
    over h = finish (λ room R. scan_short (room - length G.made_rows) tags at (drop at b) (rw (length-drop at b) (omega (arith, G.place))))

    none_left : length before < used + width_of tags → (room : ℕ) → Room (width_of tags) (length before) room → room - length G.made_rows ≡ 0
    none_left h room R = ⊎_elim (λ e. omega arith) (λ l. absurd (more l)) (eq-or-lt_of_le (G.few room R))
      where
        more : length G.made_rows < room → ⊥
        more l =
            let big : suc (length G.made_rows) * width_of tags ≤ room * width_of tags = mul-le-mul_right (width_of tags) l in
            omega (arith, big, suc-mul (length G.made_rows) (width_of tags), R.fits, G.used_is)

    pub full : at + 26 ≤ length b → length before < used + width_of tags → RowsDone b tags before words used at
    full l h =
        finish
        (λ room R.
        ap (λ (k : ℕ). scan_from 0 k tags at (drop at b)) (none_left h room R)
        ∙ scan_full tags at (drop at b) (rw (length-drop at b) (omega arith)) (G.begin l))

    pub cut_off : at + 26 ≤ length b → turn_of tags at (drop at b) ≡ cut → RowsDone b tags before words used at
    cut_off l e = finish (λ room R. scan_cut tags at (drop at b) (rw (length-drop at b) (omega arith)) (G.begin l) (room - length G.made_rows) e)

    -- ---- a turn
    take_done : take used words ≡ take 2 before ++ joined G.made_rows
    unfolding done
    take_done = ap (take used) words_split ∙ take_at done (drop used before) used done_length

    drop_done : drop (used + width_of tags - used) (drop used words) ≡ drop (used + width_of tags) before
    drop_done =
        ap (λ (m : List ℕ). drop (used + width_of tags - used) (drop used m)) words_split
        ∙ ap (drop (used + width_of tags - used)) (drop_at done (drop used before) used done_length)
        ∙ drop-drop (used + width_of tags - used) used before
        ∙ ap (λ (k : ℕ). drop k before) (let p : used + (used + width_of tags - used) ≡ used + width_of tags = omega arith in p)

    module _ (l : at + 26 ≤ length b) (room-left : used + width_of tags ≤ length before) where
      some_left : (room : ℕ) → Room (width_of tags) (length before) room → length G.made_rows < room
      some_left room R = ⊎_elim (λ e. absurd (none e)) (λ m. m) (eq-or-lt_of_le (G.few room R))
        where
          none : length G.made_rows ≡ room → ⊥
          none e = omega (arith, ap (λ (k : ℕ). k * width_of tags) e, R.last, G.used_is)

      pub row_more : (r : List ℕ) (n next : ℕ) → length r ≡ width_of tags → turn_of tags at (drop at b) ≡ row r n → 1 ≤ n → at + n ≤ length b
          → NextStart b (at + n) next
          → Going b tags before (take used words ++ (r ++ drop (used + width_of tags - used) (drop used words))) next (used + width_of tags)
      row_more r n next w e o f N =
          record {
            made_rows = G.made_rows ++ (r ∷ []);
            place = N.inside;
            behind_rows = omega (arith, G.behind_rows, N.first, snoc_length G.made_rows r);
            begin = N.found;
            used_is = omega (arith, G.used_is, ap (λ (k : ℕ). k * width_of tags) (snoc_length G.made_rows r), suc-mul (length G.made_rows) (width_of tags));
            fits = room-left;
            wide =
                ap length (joined_snoc G.made_rows r)
                ∙ omega (arith, length-append (joined G.made_rows) r, w, G.wide, ap (λ (k : ℕ). k * width_of tags) (snoc_length G.made_rows r), suc-mul (length G.made_rows) (width_of tags));
            words_are = new_words;
            few = λ room R. omega (arith, some_left room R, snoc_length G.made_rows r);
            ahead = λ room R. G.ahead room R ∙ ap (in_front G.made_rows) (turned room R) ∙ regroup (scan_from 0 (room - length (G.made_rows ++ (r ∷ []))) tags next (drop next b));
          }
        where
          turned : (room : ℕ) → Room (width_of tags) (length before) room
              → scan_from 0 (room - length G.made_rows) tags at (drop at b)
              ≡ S.before r (scan_from 0 (room - length (G.made_rows ++ (r ∷ []))) tags next (drop next b))
          turned room R =
              ap (λ (k : ℕ). scan_from 0 k tags at (drop at b))
              (let p : room - length G.made_rows ≡ suc (room - length (G.made_rows ++ (r ∷ []))) = omega (arith, some_left room R, snoc_length G.made_rows r) in p)
              ∙ scan_row tags at (drop at b) (rw (length-drop at b) (omega arith)) (G.begin l) (room - length (G.made_rows ++ (r ∷ []))) r n e o
              (rw (length-drop at b) (omega arith))
              ∙ ap (S.before r)
              (ap (scan_from 0 (room - length (G.made_rows ++ (r ∷ []))) tags (at + n)) (drop-drop n at b)
              ∙ next_scan (room - length (G.made_rows ++ (r ∷ []))) tags b (at + n) next N)

          regroup : (s : Scan) → in_front G.made_rows (S.before r s) ≡ in_front (G.made_rows ++ (r ∷ [])) s
          regroup s = ap (λ (rs : List (List ℕ)). record { rows = rs; stop = s.stop }) (sym (append_assoc G.made_rows (r ∷ []) s.rows))

          new_words : take used words ++ (r ++ drop (used + width_of tags - used) (drop used words))
              ≡ take 2 before ++ (joined (G.made_rows ++ (r ∷ [])) ++ drop (used + width_of tags) before)
          new_words =
              (λ i. take_done i ++ (r ++ drop_done i))
              ∙ append_assoc (take 2 before) (joined G.made_rows) (r ++ drop (used + width_of tags) before)
              ∙ ap (λ (m : List ℕ). take 2 before ++ m)
              (sym (append_assoc (joined G.made_rows) r (drop (used + width_of tags) before))
              ∙ ap (λ (m : List ℕ). m ++ drop (used + width_of tags) before) (sym (joined_snoc G.made_rows r)))

-- ---- the loop's test, and the part that is lent
pub test_true : (a b c d : ℕ) → leb a b && leb c d ≡ true → (a ≤ b) × (c ≤ d)
test_true a b c d h = let hs = both (leb a b) (leb c d) h in (leb-true a b hs.0, leb-true c d hs.1)

module _ (b tags before : List ℕ) (front : 2 ≤ length before) (words : List ℕ) (at used : ℕ) (G : Going b tags before words at used) where
  pub ends : leb (at + 26) (length b) && leb (used + width_of tags) (length words) ≡ false → RowsDone b tags before words used at
  ends h = by (leb (at + 26) (length b)) (leb (used + width_of tags) (length words)) refl refl h
    where
      by : (s t : Bool) → leb (at + 26) (length b) ≡ s → leb (used + width_of tags) (length words) ≡ t → s && t ≡ false → RowsDone b tags before words used at
      by true true p q h = absurd (true≢false h)
      by true false p q h =
          full b tags before front words at used G (leb-true (at + 26) (length b) p)
          (omega (arith, leb-false (used + width_of tags) (length words) q, same_size b tags before front words at used G))
      by false t p q h = over b tags before front words at used G (leb-false (at + 26) (length b) p)

  module _ (h : leb (at + 26) (length b) && leb (used + width_of tags) (length words) ≡ true) where
    pub more_bytes : at + 26 ≤ length b
    more_bytes = (test_true (at + 26) (length b) (used + width_of tags) (length words) h).0

    pub more_words : used + width_of tags ≤ length words
    more_words = (test_true (at + 26) (length b) (used + width_of tags) (length words) h).1

    pub part_wide : length (take (used + width_of tags - used) (drop used words)) ≡ width_of tags
    part_wide =
        length-take-le (used + width_of tags - used) (drop used words) (omega (arith, length-drop used words, more_words))
        ∙ omega arith

    whole : take used words ++ (take (used + width_of tags - used) (drop used words) ++ drop (used + width_of tags - used) (drop used words)) ≡ words
    whole = ap (λ (m : List ℕ). take used words ++ m) (take-append-drop (used + width_of tags - used) (drop used words)) ∙ take-append-drop used words

    module _ (behind : List ℕ) (next : ℕ) (T : TurnDone b tags at (take (used + width_of tags - used) (drop used words)) behind next) where
      pub stop_turn : next ≡ at
          → RowsDone b tags before (take used words ++ (behind ++ drop (used + width_of tags - used) (drop used words))) used at
      stop_turn z = by T
        where
          by : TurnDone b tags at (take (used + width_of tags - used) (drop used words)) behind next
              → RowsDone b tags before (take used words ++ (behind ++ drop (used + width_of tags - used) (drop used words))) used at
          by (made n e o f N) = absurd (omega (arith, N.first))
          by (left e q r) =
              subst (λ (m : List ℕ). RowsDone b tags before m used at)
              (sym (ap (λ (m : List ℕ). take used words ++ (m ++ drop (used + width_of tags - used) (drop used words))) q ∙ whole))
              (cut_off b tags before front words at used G more_bytes e)

      pub next_turn : (next ≡ at → ⊥) → length behind ≡ length (take (used + width_of tags - used) (drop used words))
          → Going b tags before (take used words ++ (behind ++ drop (used + width_of tags - used) (drop used words))) next (used + width_of tags)
      next_turn z w = by T
        where
          by : TurnDone b tags at (take (used + width_of tags - used) (drop used words)) behind next
              → Going b tags before (take used words ++ (behind ++ drop (used + width_of tags - used) (drop used words))) next (used + width_of tags)
          by (made n e o f N) =
              row_more b tags before front words at used G more_bytes (omega (arith, more_words, same_size b tags before front words at used G)) behind n next
              (w ∙ part_wide) e o f N
          by (left e q r) = absurd (z r)

      pub farther : (next ≡ at → ⊥) → at < next
      farther z = by T
        where
          by : TurnDone b tags at (take (used + width_of tags - used) (drop used words)) behind next → at < next
          by (made n e o f N) = omega (arith, N.first)
          by (left e q r) = absurd (z r)
