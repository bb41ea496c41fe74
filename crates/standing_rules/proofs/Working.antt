-- What was found and decided does what the call is to do: the refusal, the count and the records of `step`.
use Rattle.std.specs.Prelude.{is_some, if◌then◌else◌}
use Prim.Native.Nat.{ℕ, zero, suc, ◌+◌, ◌-◌, ◌≤◌, ◌<◌, min}
use native.Mathlib.Omega.{arith}
use native.Mathlib.Nat.{min-eq_left}
use mathlib.Core.Path.{◌≡◌, refl, sym, ap, subst, ◌∙◌}
use mathlib.Core.List.{List, [], ◌∷◌, ◌++◌, append_assoc}
use mathlib.Core.Bool.{Bool, true, false, not, ◌&&◌}
use lib.Dec.{leb, ltb}
use lib.ListN.{length, take, drop, take-append-drop, length-append}
use lib.Seq.{take-append-le, drop-append-le, take_at, length-take-le}
use borrow.Author.Tests.{ltb-false, le-ltb, leb-false, eq-eqb, ne_eqb, not-false}
use Rattle.lists.specs.Lists.{how_many}
use Rattle.rules.specs.Answers.{outcome_by}
use Rattle.rules.specs.Causes.{cause, first_number}
use Rattle.lists.proofs.Lists.{both}
use Rattle.lists.proofs.Members.{or_false}
use Rattle.rules.proofs.Refusals.{passed}
use Rattle.standing_rules.specs.declared.Maker.{Maker}
use Rattle.standing_rules.specs.declared.Seen.{Seen}
use Rattle.standing_rules.specs.Order.{above, sorted, is_of, present, once}
use Rattle.standing_rules.specs.Calls.{Standing, standing, used, Call, Join, Change, Leave, wrong, refusal_of, placed, without, left, changed, step, Answer, answer_of, shown, after}
use Rattle.standing_rules.specs.Internal.{seen_in, removed, inserted, shifted, record_of, judged, Plan, accepted, planned}
use Rattle.standing_rules.proofs.Placing.{many_filter, many_le, inserted-append, inserted_between, placed_at, length_placed, sorted-placed, once-placed, without_absent, absent_without, sorted-without, once-without, length_without}
use Rattle.standing_rules.proofs.Deciding.{wrong-judged}
use Rattle.standing_rules.proofs.Seeing.{found, Place, place, at_of, above-le}

-- ---- refused or not

pub step-accepted : (s : Standing) (call : Call) → refusal_of s call ≡ 0 → step s call ≡ changed s call
unfolding step
step-accepted s call e = rw e refl

pub step_refused : (s : Standing) (call : Call) → (refusal_of s call ≡ 0 → ⊥) → step s call ≡ s
unfolding step
step_refused s call e = rw (ne_eqb (refusal_of s call) 0 e) refl

-- records and count that are not refused by 23
pub record Right (s : Standing) : Type 0 where
  pub within : s.count ≤ length s.records
  pub in_order : sorted (used s) ≡ true
  pub each_once : once (used s) ≡ true

pub right : (s : Standing) → wrong s ≡ false → Right s
unfolding wrong
right s e =
    let p = or_false (ltb (length s.records) s.count) (not (sorted (used s) && once (used s))) e in
    let q = both (sorted (used s)) (once (used s)) (not-false (sorted (used s) && once (used s)) p.1) in
    record { within = ltb-false (length s.records) s.count p.0; in_order = q.0; each_once = q.1 }

pub right_not_wrong : (s : Standing) → Right s → wrong s ≡ false
unfolding wrong
right_not_wrong s r = rw (le-ltb (length s.records) s.count r.within, r.in_order, r.each_once) refl

-- what an accepted call says of the tests
pub record JoinPasses (s : Standing) (m : Maker) : Type 0 where
  pub right : Right s
  pub new : present m.number (used s) ≡ false
  pub room : s.count < length s.records

pub record OtherPasses (s : Standing) (n : ℕ) : Type 0 where
  pub right : Right s
  pub there : present n (used s) ≡ true

pub join_passes : (s : Standing) (m : Maker) → refusal_of s (Join m) ≡ 0 → JoinPasses s m
unfolding refusal_of
join_passes s m e =
    let a = passed 22 (wrong s) (cause 24 (present m.number (used s)) ∷ cause 25 (leb (length s.records) s.count) ∷ []) e in
    let b = passed 23 (present m.number (used s)) (cause 25 (leb (length s.records) s.count) ∷ []) a.1 in
    let f = passed 24 (leb (length s.records) s.count) [] b.1 in
    record { right = right s a.0; new = b.0; room = leb-false (length s.records) s.count f.0 }

other_passes : (s : Standing) (n : ℕ) → first_number (cause 23 (wrong s) ∷ cause 24 (not (present n (used s))) ∷ []) ≡ 0 → OtherPasses s n
other_passes s n e =
    let a = passed 22 (wrong s) (cause 24 (not (present n (used s))) ∷ []) e in
    let b = passed 23 (not (present n (used s))) [] a.1 in
    record { right = right s a.0; there = not-false (present n (used s)) b.0 }

pub change_passes : (s : Standing) (m : Maker) → refusal_of s (Change m) ≡ 0 → OtherPasses s m.number
unfolding refusal_of
change_passes s m e = other_passes s m.number e

pub leave_passes : (s : Standing) (n : ℕ) → refusal_of s (Leave n) ≡ 0 → OtherPasses s n
unfolding refusal_of
leave_passes s n e = other_passes s n e

accepted_right : (s : Standing) (call : Call) → refusal_of s call ≡ 0 → Right s
accepted_right s (Join m) e = (join_passes s m e).right
accepted_right s (Change m) e = (change_passes s m e).right
accepted_right s (Leave n) e = (leave_passes s n e).right

-- ---- in order after a call

-- the used records at the front of a list of records
right_front : (xs rest : List Maker) (c : ℕ) → length xs ≡ c → sorted xs ≡ true → once xs ≡ true → Right (standing (xs ++ rest) c)
right_front xs rest c e o n =
    let t : take c (xs ++ rest) ≡ xs = take_at xs rest c e in
    let long = length-append xs rest in
    record { within = omega (arith, long, e); in_order = ap sorted t ∙ o; each_once = ap once t ∙ n }

module _ (s : Standing) where
  pub length_used : Right s → length (used s) ≡ s.count
  length_used r = length-take-le s.count s.records r.within

  pub length_others : (n : ℕ) → OtherPasses s n → length (without n (used s)) + 1 ≡ s.count
  length_others n p = length_without n (used s) p.right.each_once p.there ∙ length_used p.right

  pub join_right : (m : Maker) → JoinPasses s m → Right (changed s (Join m))
  unfolding changed
  join_right m p =
      right_front (placed m (used s)) (drop (s.count + 1) s.records) (s.count + 1) (length_placed m (used s) ∙ ap (λ (k : ℕ). k + 1) (length_used p.right))
      (sorted-placed m (used s) p.right.in_order p.new) (once-placed m (used s) p.right.each_once p.new)

  pub change_right : (m : Maker) → OtherPasses s m.number → Right (changed s (Change m))
  unfolding changed
  change_right m p =
      let new = absent_without m.number (used s) in
      right_front (placed m (without m.number (used s))) (drop s.count s.records) s.count (length_placed m (without m.number (used s)) ∙ length_others m.number p)
      (sorted-placed m (without m.number (used s)) (sorted-without m.number (used s) p.right.in_order) new) (once-placed m (without m.number (used s)) (once-without m.number (used s) p.right.each_once) new)

  pub leave_right : (n : ℕ) → OtherPasses s n → Right (changed s (Leave n))
  unfolding changed
  leave_right n p =
      let one = length_others n p in
      right_front (without n (used s)) (left n ∷ drop s.count s.records) (s.count - 1) (omega (arith, one)) (sorted-without n (used s) p.right.in_order) (once-without n (used s) p.right.each_once)

  changed_right : (call : Call) → refusal_of s call ≡ 0 → Right (changed s call)
  changed_right (Join m) e = join_right m (join_passes s m e)
  changed_right (Change m) e = change_right m (change_passes s m e)
  changed_right (Leave n) e = leave_right n (leave_passes s n e)

  -- 23 refuses all calls of a list or none: a call that it refuses changes nothing, and one that it does not leaves the records in order
  wrong-step : (call : Call) → wrong (step s call) ≡ wrong s
  wrong-step call = go (refusal_of s call) refl
    where
      go : (r : ℕ) → refusal_of s call ≡ r → wrong (step s call) ≡ wrong s
      go zero e = rw (step-accepted s call e) (right_not_wrong (changed s call) (changed_right call e) ∙ sym (right_not_wrong s (accepted_right s call e)))
      go (suc r) e = rw (step_refused s call (λ k. omega (arith, e, k))) refl

pub wrong-after : (calls : List Call) (s : Standing) → wrong (after s calls) ≡ wrong s
unfolding after
wrong-after [] s = refl
wrong-after (call ∷ calls) s = wrong-after calls (step s call) ∙ wrong-step s call

-- ---- the records that move

removed-append : {A : Type 0} (xs ys : List A) (i : ℕ) → i < length xs → removed (xs ++ ys) i ≡ removed xs i ++ ys
removed-append xs ys i h =
    rw (take-append-le i xs ys (omega arith), drop-append-le (i + 1) xs ys (omega arith)) (sym (append_assoc (take i xs) (drop (i + 1) xs) ys))

pub record Moved (l : List Maker) (from to : ℕ) (m : Maker) (z : List Maker) : Type 0 where
  pub from_there : from < length l
  pub to_there : to < length l
  pub moves : shifted l from to m ≡ z

module _ (l : List Maker) (c : ℕ) (m : Maker) where
  abbrev s : Standing
  s = standing l c

  abbrev us : List Maker
  us = take c l

  abbrev seen : Seen
  seen = seen_in l m c

  others : Right s → seen.above ≡ how_many (λ r. above r m) (without m.number us)
  unfolding without
  others r = (found l m c r.within).above ∙ many_filter (λ r. not (is_of m.number r)) (λ r. above r m) us

  join_moves : JoinPasses s m → Moved l c seen.above m (placed m us ++ drop (c + 1) l)
  unfolding shifted
  join_moves p =
      let long = length_used s p.right in
      let le = above-le l m c in
      let k : seen.above ≡ how_many (λ r. above r m) us = others p.right ∙ ap (how_many (λ r. above r m)) (without_absent m.number us p.new) in
      record {
        from_there = p.room;
        to_there = let h = p.room in omega (arith, le);
        moves = inserted-append us (drop (c + 1) l) seen.above m (omega (arith, long, le))
            ∙ ap (λ (z : List Maker). z ++ drop (c + 1) l) (ap (λ (n : ℕ). inserted us n m) k ∙ placed_at m us p.right.in_order);
      }

  -- the maker's record is taken out
  taken : (p : OtherPasses s m.number) → ((at_of seen) < c) × (removed l (at_of seen) ≡ without m.number us ++ drop c l)
  taken p =
      let at : Place m.number us (at_of seen) = place l m c p.right.within p.right.each_once p.there in
      let h : (at_of seen) < length us = at.inside in (
        subst (λ (k : ℕ). (at_of seen) < k) (length_used s p.right) h,
        ap (λ (z : List Maker). removed z (at_of seen)) (sym (take-append-drop c l)) ∙ removed-append us (drop c l) (at_of seen) h ∙ ap (λ (z : List Maker). z ++ drop c l) at.taken,
      )

  change_moves : OtherPasses s m.number → Moved l (at_of seen) seen.above m (placed m (without m.number us) ++ drop c l)
  unfolding shifted
  change_moves p =
      let t = taken p in
      let n = length_others s m.number p in
      let h = p.right.within in
      let k = others p.right in
      let le : seen.above ≤ length (without m.number us) = subst (λ (j : ℕ). j ≤ length (without m.number us)) (sym k) (many_le (λ r. above r m) (without m.number us)) in
      record {
        from_there = let i = t.0 in omega arith;
        to_there = omega (arith, le, n);
        moves = ap (λ (z : List Maker). inserted z seen.above m) t.1
            ∙ inserted-append (without m.number us) (drop c l) seen.above m le
            ∙ ap (λ (z : List Maker). z ++ drop c l) (ap (λ (j : ℕ). inserted (without m.number us) j m) k ∙ placed_at m (without m.number us) (sorted-without m.number us p.right.in_order));
      }

  leave_moves : OtherPasses s m.number → Moved l (at_of seen) (c - 1) m (without m.number us ++ (m ∷ drop c l))
  unfolding shifted
  leave_moves p =
      let t = taken p in
      let n = length_others s m.number p in
      let h = p.right.within in
      record {
        from_there = let i = t.0 in omega arith;
        to_there = omega (arith, n);
        moves = ap (λ (z : List Maker). inserted z (c - 1) m) t.1 ∙ inserted_between (without m.number us) (drop c l) (c - 1) m (omega (arith, n));
      }

-- ---- the plan

-- the refusal by the tests is the lowest of the causes
join_judged : (m : Maker) (bad there full : Bool) → judged (Join m) bad there full ≡ first_number (cause 23 bad ∷ cause 24 there ∷ cause 25 full ∷ [])
unfolding judged first_number
join_judged m true there full = refl
join_judged m false true full = refl
join_judged m false false true = refl
join_judged m false false false = refl

other-judged : (bad there : Bool) → (if bad then 23 else if there then 0 else 24) ≡ first_number (cause 23 bad ∷ cause 24 (not there) ∷ [])
unfolding first_number
other-judged true there = refl
other-judged false true = refl
other-judged false false = refl

call-judged : (s : Standing) (call : Call) → judged call (wrong s) (present (record_of call).number (used s)) (leb (length s.records) s.count) ≡ refusal_of s call
unfolding judged refusal_of record_of
call-judged s (Join m) = join_judged m (wrong s) (present m.number (used s)) (leb (length s.records) s.count)
call-judged s (Change m) = other-judged (wrong s) (present m.number (used s))
call-judged s (Leave n) = other-judged (wrong s) (present n (used s))

-- a plan that does what the call is to do
pub record PlanDoesCall (l : List Maker) (c : ℕ) (call : Call) (p : Plan) : Type 0 where
  pub refusal : p.refusal ≡ refusal_of (standing l c) call
  pub count : p.count ≡ (step (standing l c) call).count
  pub kept : (p.refusal ≡ 0 → ⊥) → l ≡ (step (standing l c) call).records
  pub moved : p.refusal ≡ 0 → Moved l p.from p.to (record_of call) (step (standing l c) call).records

-- its count and refusal are the call's answer
pub answered : (l : List Maker) (c : ℕ) (call : Call) (p : Plan) → PlanDoesCall l c call p
    → ◌≡◌ {A = Answer} (record { count = p.count; refusal = p.refusal }) (answer_of (standing l c) call)
unfolding answer_of
answered l c call p w = λ i. record { count = w.count i; refusal = w.refusal i }

-- the answer shows the new count, or the refusal's number
pub shown-answer : (s : Standing) (call : Call) → shown (answer_of s call) ≡ outcome_by (refusal_of s call) (step s call).count
unfolding answer_of
shown-answer s call = refl

-- what an accepted call's plan does
pub record Does (l : List Maker) (c : ℕ) (call : Call) (p : Plan) : Type 0 where
  pub refusal : p.refusal ≡ 0
  pub count : p.count ≡ (changed (standing l c) call).count
  pub moves : Moved l p.from p.to (record_of call) (changed (standing l c) call).records

does : (l : List Maker) (c : ℕ) (call : Call) → refusal_of (standing l c) call ≡ 0 → Does l c call (accepted call c (seen_in l (record_of call) c))
unfolding accepted changed record_of
does l c (Join m) e = record { refusal = refl; count = refl; moves = join_moves l c m (join_passes (standing l c) m e) }
does l c (Change m) e = record { refusal = refl; count = refl; moves = change_moves l c m (change_passes (standing l c) m e) }
does l c (Leave n) e = record { refusal = refl; count = refl; moves = leave_moves l c (left n) (leave_passes (standing l c) n e) }

module _ (l : List Maker) (c : ℕ) (call : Call) where
  abbrev st : Standing
  st = standing l c

  -- the records that are looked at
  abbrev n : ℕ
  n = min c (length l)

  abbrev found_of : Seen
  found_of = seen_in l (record_of call) n

  abbrev number : ℕ
  number = judged call (wrong st) (is_some found_of.place) (leb (length l) c)

  -- the number is the paper's
  number_is : number ≡ refusal_of st call
  number_is = go (wrong st) refl ∙ call-judged st call
    where
      go : (b : Bool) → wrong st ≡ b → judged call (wrong st) (is_some found_of.place) (leb (length l) c) ≡ judged call (wrong st) (present (record_of call).number (take c l)) (leb (length l) c)
      go true e = rw e (wrong-judged call (is_some found_of.place) (leb (length l) c) ∙ sym (wrong-judged call (present (record_of call).number (take c l)) (leb (length l) c)))
      go false e =
          let le = (right st e).within in
          ap (λ (b : Bool). judged call (wrong st) b (leb (length l) c)) (ap (λ (k : ℕ). is_some (seen_in l (record_of call) k).place) (min-eq_left le) ∙ (found l (record_of call) c le).present)

  abbrev plan : Plan
  plan = planned call number c found_of

  refused_works : (refusal_of st call ≡ 0 → ⊥) → PlanDoesCall l c call plan
  unfolding planned
  refused_works h =
      let q : step st call ≡ st = step_refused st call h in
      rw (ne_eqb number 0 (λ k. h (sym number_is ∙ k))) (record {
        refusal = number_is;
        count = sym (ap (λ (x : Standing). x.count) q);
        kept = λ _. sym (ap (λ (x : Standing). x.records) q);
        moved = λ k. absurd (h (sym number_is ∙ k));
      })

  accepted_works : refusal_of st call ≡ 0 → PlanDoesCall l c call plan
  unfolding planned
  accepted_works e =
      let d : Does l c call (accepted call c found_of) = subst (λ (k : ℕ). Does l c call (accepted call c (seen_in l (record_of call) k))) (sym (min-eq_left (accepted_right st call e).within)) (does l c call e) in
      let q : step st call ≡ changed st call = step-accepted st call e in
      rw (eq-eqb number 0 (number_is ∙ e)) (record {
        refusal = d.refusal ∙ sym e;
        count = d.count ∙ sym (ap (λ (x : Standing). x.count) q);
        kept = λ h. absurd (h d.refusal);
        moved = λ _. subst (λ (y : List Maker). Moved l (accepted call c found_of).from (accepted call c found_of).to (record_of call) y) (sym (ap (λ (x : Standing). x.records) q)) d.moves;
      })

  pub works : PlanDoesCall l c call plan
  works = go (refusal_of st call) refl
    where
      go : (r : ℕ) → refusal_of st call ≡ r → PlanDoesCall l c call plan
      go zero e = accepted_works e
      go (suc r) e = refused_works (λ k. omega (arith, e, k))
