-- One record more is judged: `look_back` says how far a maker may have one before, `scan` looks there (`Judging` of `standing_rules`).
use Rattle.std.proofs.Common.{None, is_some, if◌then◌else◌, ◌≡◌, ◌+◌, ◌≤◌, ◌<◌, ◌%◌, ℕ, Bool, true, false, not, ◌||◌, List, length, min, ltb, refl, sym, ap, ◌∙◌, arith, lit<, add-one}
use Rattle.standing_rules.specs.declared.Maker.{Maker}
use Rattle.standing_rules.specs.declared.Seen.{Seen}
use Rattle.standing_rules.specs.declared.Checked.{Checked}
use Rattle.standing_rules.specs.Calls.{standing, wrong}
use Rattle.standing_rules.specs.Internal.{none, seen_in, marked, marks_in, back_to, check_of, checked_in}
use Rattle.standing_rules.proofs.Judging.{look_back, wrong_is}
use Rattle.standing.proofs.judge.Goals as goal
use lib.ListN.{get_or, replicate}

no_marks : (l : List Maker) → replicate 65536 false ≡ marks_in 65536 l 0
unfolding marks_in
no_marks l = refl

none_checked : (l : List Maker) → ◌≡◌ {A = Checked} (record { good = true; last = None }) (checked_in l 0)
unfolding checked_in
none_checked l = refl

back_le : (marks : List Bool) (j number : ℕ) → back_to marks 65536 j number ≤ j
back_le marks j number = go (get_or marks (number % 65536) false)
  where
    go : (t : Bool) → (if t then j else 0) ≤ j
    go true = omega arith
    go false = omega arith

marked_more : (l : List Maker) (j : ℕ) (h k : List Bool) → h ≡ marks_in 65536 l j → k ≡ marked h 65536 (get_or l j none).number
    → k ≡ marks_in 65536 l (j + 1)
unfolding marks_in
marked_more l j h k e f =
    f ∙ ap (λ (t : List Bool). marked t 65536 (get_or l j none).number) e ∙ ap (marks_in 65536 l) (sym (add-one j))

checked_more : (l : List Maker) (j back : ℕ) (h : List Bool) (t : Seen) (s r : Checked) → j < length l → h ≡ marks_in 65536 l j
    → back ≡ back_to h 65536 j (get_or l j none).number → t ≡ seen_in l (get_or l j none) back → s ≡ checked_in l j
    → r ≡ check_of s (get_or l j none) (is_some t.place) → r ≡ checked_in l (j + 1)
unfolding checked_in
checked_more l j back h t s r in_l e b q c f =
    let m = get_or l j none in
    let there : back ≡ back_to (marks_in 65536 l j) 65536 j m.number = b ∙ ap (λ (x : List Bool). back_to x 65536 j m.number) e in
    let seen : t ≡ seen_in l m (back_to (marks_in 65536 l j) 65536 j m.number) = q ∙ ap (seen_in l m) there in
    f
    ∙ (λ i. check_of (c i) m (is_some (seen i).place))
    ∙ ap (check_of (checked_in l j) m) (look_back 65536 (lit< tt) l j m (omega arith))
    ∙ ap (checked_in l) (sym (add-one j))

judged : (l : List Maker) (count n j : ℕ) (s : Checked) (r : Bool) → n ≡ min count (length l) → j ≡ n → s ≡ checked_in l j
    → r ≡ (ltb (length l) count || not s.good) → r ≡ wrong (standing l count)
judged l count n j s r n_is j_is e f =
    f
    ∙ ap (λ (t : Checked). ltb (length l) count || not t.good) e
    ∙ ap (λ (k : ℕ). ltb (length l) count || not (checked_in l k).good) (j_is ∙ n_is)
    ∙ wrong_is l count

pub loop-j-init : goal.loop-j-init
loop-j-init c = record {
  marks = no_marks c.args.list.now;
  checked = none_checked c.args.list.now;
}

pub scan-seen-requires : goal.scan-seen-requires
scan-seen-requires c =
    let e = c.look_back-before.ensures.0 in
    let le = back_le c.loop-j.marks c.loop-j.j (get_or c.args.list.now c.loop-j.j none).number in
    omega (arith, e, le, c.min-j-end.ensures)

pub loop-j-preserved : goal.loop-j-preserved
loop-j-preserved c =
    let l = c.args.list.now in
    let i = c.loop-j.invariant in
    let b = c.look_back-before in
    let there : c.loop-j.j < length l = omega (arith, c.min-j-end.ensures) in
    record {
      marks = marked_more l c.loop-j.j c.loop-j.marks b.new.marks i.marks b.ensures.1;
      checked = checked_more l c.loop-j.j b.result c.loop-j.marks c.scan-seen.result c.loop-j.s c.check-s.result there i.marks b.ensures.0 c.scan-seen.ensures i.checked (c.check-s.ensures ∙ ap (check_of c.loop-j.s (get_or l c.loop-j.j none)) c.is_some.ensures);
    }

pub returns : goal.returns
returns c =
    judged c.args.list.now c.args.count c.min-j-end.result c.loop-j.j c.loop-j.s c.is_wrong.result c.min-j-end.ensures (omega arith) c.loop-j.invariant.checked c.is_wrong.ensures
