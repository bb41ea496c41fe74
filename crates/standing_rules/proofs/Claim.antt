-- The claim about lists of calls: after any of them, from count 0 on any records lent, the used records are the present makers with the
-- ratings last accepted, in order, each once, and they alone are.
--     claim        the theorem, as `Claimed`
--     same-list    two lists in order with the same records are one
--     stands_step  one call, on the standing and on the roll
use Rattle.std.specs.Prelude.{if◌then◌else◌}
use Prim.Native.Nat.{ℕ, zero, suc, ◌+◌, ◌-◌, zero-le}
use native.Mathlib.Omega.{arith}
use mathlib.Core.Path.{◌≡◌, refl, sym, ap, subst, ◌∙◌}
use mathlib.Core.Logic.{◌⊎◌, inl, inr}
use mathlib.Core.List.Memᴰ
use mathlib.Core.List.{List, [], ◌∷◌, ◌++◌, Memᴰ}
use mathlib.Core.Bool.{Bool, true, false, true≢false, not}
use lib.Dec.{eqb, leb}
use lib.ListN.{length, take, drop, length-append, length-drop}
use lib.Seq.{take_at}
use borrow.Author.Tests.{eqb-true, eqb-false, eq-eqb, ne_eqb}
use Rattle.rules.specs.Causes.{cause}
use Rattle.lists.proofs.Members.{any_none, some_any}
use Rattle.rules.proofs.Refusals.{skip}
use Rattle.standing_rules.specs.declared.Maker.{Maker}
use Rattle.standing_rules.specs.Order.{maker, above, sorted, is_of, present, once}
use Rattle.standing_rules.specs.Calls.{Standing, standing, used, Call, Join, Change, Leave, refusal_of, placed, without, left, changed, step, after, outcomes_from}
use Rattle.standing_rules.specs.Roll.{Rated, absent, rated, is_present, Roll, empty_roll, noted, roll_refusal, roll_changed, roll_step, roll_from, roll_outcomes_from, Stands, Claimed}
use Rattle.standing_rules.proofs.Order.{above_asym, Sorted, sorted-parts}
use Rattle.standing_rules.proofs.Placing.{length_placed, in_placed, placed_in, in_without, without_in, absent_without}
use Rattle.standing_rules.proofs.Working.{step-accepted, step_refused, Right, right_not_wrong, JoinPasses, OtherPasses, join_passes, change_passes, leave_passes, length_used, length_others, join_right, change_right, leave_right}

-- ---- ratings

not_absent : (r : ℕ) → absent ≡ rated r → ⊥
not_absent r e = let z : ◌≡◌ {A = ℕ} 0 1 = cc in omega arith

same_rating : (a b : ℕ) → rated a ≡ rated b → a ≡ b
same_rating a b e = cc

noted-same : (n k : ℕ) (r : Rated) (f : ℕ → Rated) → k ≡ n → noted n r f k ≡ r
noted-same n k r f e = rw (eq-eqb k n e) refl

noted_other : (n k : ℕ) (r : Rated) (f : ℕ → Rated) → (k ≡ n → ⊥) → noted n r f k ≡ f k
noted_other n k r f e = rw (ne_eqb k n e) refl

same-maker : (x m : Maker) → x.number ≡ m.number → x.rating ≡ m.rating → x ≡ m
same-maker x m p q = λ i. record { number = p i; rating = q i }

-- ---- lists of records that a roll says

-- the records are the present makers with their ratings
pub record Says (rating : ℕ → Rated) (xs : List Maker) : Type 0 where
  pub only : (m : Maker) → Memᴰ m xs → rating m.number ≡ rated m.rating
  pub all : (m : Maker) → rating m.number ≡ rated m.rating → Memᴰ m xs

-- a maker is present by the roll where he has a record
present_by : (rating : ℕ → Rated) (xs : List Maker) → Says rating xs → (n : ℕ) → present n xs ≡ is_present (rating n)
present_by rating xs s n = go (rating n) refl
  where
    none : rating n ≡ absent → (x : Maker) → Memᴰ x xs → (b : Bool) → is_of n x ≡ b → b ≡ false
    none e x k true q = absurd (not_absent x.rating (sym e ∙ ap rating (sym (eqb-true x.number n q)) ∙ s.only x k))
    none e x k false q = refl

    go : (r : Rated) → rating n ≡ r → present n xs ≡ is_present r
    go absent e = any_none (is_of n) xs (λ x k. none e x k (is_of n x) refl)
    go (rated r) e = some_any (is_of n) (s.all (maker n r) e) (eq-eqb n n refl)

says_placed : (rating : ℕ → Rated) (xs : List Maker) (m : Maker) → Says rating xs → present m.number xs ≡ false
    → Says (noted m.number (rated m.rating) rating) (placed m xs)
says_placed rating xs m s new = record { only = λ x k. into x (in_placed m xs k); all = λ x e. back x e (eqb x.number m.number) refl }
  where
    other : (x : Maker) → Memᴰ x xs → x.number ≡ m.number → ⊥
    other x k e = true≢false (sym (some_any (is_of m.number) k (eq-eqb x.number m.number e)) ∙ new)

    into : (x : Maker) → (x ≡ m) ⊎ Memᴰ x xs → noted m.number (rated m.rating) rating x.number ≡ rated x.rating
    into x (inl e) = noted-same m.number x.number (rated m.rating) rating (ap (λ (y : Maker). y.number) e) ∙ ap (λ (y : Maker). rated y.rating) (sym e)
    into x (inr k) = noted_other m.number x.number (rated m.rating) rating (other x k) ∙ s.only x k

    back : (x : Maker) → noted m.number (rated m.rating) rating x.number ≡ rated x.rating → (b : Bool) → eqb x.number m.number ≡ b → Memᴰ x (placed m xs)
    back x e true q =
        let n = eqb-true x.number m.number q in
        placed_in m xs (inl (same-maker x m n (same_rating x.rating m.rating (sym e ∙ noted-same m.number x.number (rated m.rating) rating n))))
    back x e false q =
        placed_in m xs (inr (s.all x (sym (noted_other m.number x.number (rated m.rating) rating (eqb-false x.number m.number q)) ∙ e)))

says_without : (rating : ℕ → Rated) (xs : List Maker) (n : ℕ) → Says rating xs → Says (noted n absent rating) (without n xs)
says_without rating xs n s = record { only = λ x k. into x (in_without n xs k); all = λ x e. back x e (eqb x.number n) refl }
  where
    into : (x : Maker) → Memᴰ x xs × (is_of n x ≡ false) → noted n absent rating x.number ≡ rated x.rating
    into x p = noted_other n x.number absent rating (eqb-false x.number n p.1) ∙ s.only x p.0

    back : (x : Maker) → noted n absent rating x.number ≡ rated x.rating → (b : Bool) → eqb x.number n ≡ b → Memᴰ x (without n xs)
    back x e true q = absurd (not_absent x.rating (sym (noted-same n x.number absent rating (eqb-true x.number n q)) ∙ e))
    back x e false q = without_in n (s.all x (sym (noted_other n x.number absent rating (eqb-false x.number n q)) ∙ e)) q

-- noting twice is noting the last
noted-twice : (n k : ℕ) (r q : Rated) (f : ℕ → Rated) → noted n r (noted n q f) k ≡ noted n r f k
noted-twice n k r q f = go (eqb k n)
  where
    go : (b : Bool) → (if b then r else if b then q else f k) ≡ (if b then r else f k)
    go true = refl
    go false = refl

says_same : (f g : ℕ → Rated) (xs : List Maker) → ((k : ℕ) → f k ≡ g k) → Says f xs → Says g xs
says_same f g xs h s = record { only = λ x k. sym (h x.number) ∙ s.only x k; all = λ x e. s.all x (h x.number ∙ e) }

-- ---- one call

stands_right : (s : Standing) (roll : Roll) → Stands s roll → Right s
stands_right s roll h = record { within = h.within; in_order = h.in_order; each_once = h.each_once }

stands_says : (s : Standing) (roll : Roll) → Stands s roll → Says roll.rating (used s)
stands_says s roll h = record { only = h.only; all = h.all }

-- the used records at the front of a list of records
stands_front : (xs rest : List Maker) (c : ℕ) (roll : Roll) → length xs ≡ c → c ≡ roll.present → Says roll.rating xs → Right (standing (xs ++ rest) c) → Stands (standing (xs ++ rest) c) roll
stands_front xs rest c roll e k s r =
    let t : take c (xs ++ rest) ≡ xs = take_at xs rest c e in
    record {
      within = r.within;
      count = k;
      only = λ m h. s.only m (subst (λ (l : List Maker). Memᴰ m l) t h);
      all = λ m h. subst (λ (l : List Maker). Memᴰ m l) (sym t) (s.all m h);
      in_order = r.in_order;
      each_once = r.each_once;
    }

module _ (s : Standing) (roll : Roll) (h : Stands s roll) where
  rest_long : (k : ℕ) → length (drop k s.records) ≡ length s.records - k
  rest_long k = length-drop k s.records

  join_stands : (m : Maker) → JoinPasses s m
      → Stands (changed s (Join m)) (roll_changed roll (Join m)) × (length (changed s (Join m)).records ≡ length s.records)
  unfolding changed roll_changed
  join_stands m p =
      let e : length (placed m (used s)) ≡ s.count + 1 = length_placed m (used s) ∙ ap (λ (k : ℕ). k + 1) (length_used s p.right) in
      let long = length-append (placed m (used s)) (drop (s.count + 1) s.records) in
      let r = rest_long (s.count + 1) in
      let l = p.room in (
        stands_front (placed m (used s)) (drop (s.count + 1) s.records) (s.count + 1) (roll_changed roll (Join m)) e (ap (λ (k : ℕ). k + 1) h.count)
            (says_placed roll.rating (used s) m (stands_says s roll h) p.new) (join_right s m p),
        omega (arith, long, e, r),
      )

  change_stands : (m : Maker) → OtherPasses s m.number
      → Stands (changed s (Change m)) (roll_changed roll (Change m)) × (length (changed s (Change m)).records ≡ length s.records)
  unfolding changed roll_changed
  change_stands m p =
      let w : List Maker = without m.number (used s) in
      let e : length (placed m w) ≡ s.count = length_placed m w ∙ length_others s m.number p in
      let long = length-append (placed m w) (drop s.count s.records) in
      let r = rest_long s.count in
      let l = h.within in
      let new = absent_without m.number (used s) in (
        stands_front (placed m w) (drop s.count s.records) s.count (roll_changed roll (Change m)) e h.count
            (says_same (noted m.number (rated m.rating) (noted m.number absent roll.rating)) (noted m.number (rated m.rating) roll.rating) (placed m w)
            (λ k. noted-twice m.number k (rated m.rating) absent roll.rating)
            (says_placed (noted m.number absent roll.rating) w m (says_without roll.rating (used s) m.number (stands_says s roll h)) new))
            (change_right s m p),
        omega (arith, long, e, r),
      )

  leave_stands : (n : ℕ) → OtherPasses s n
      → Stands (changed s (Leave n)) (roll_changed roll (Leave n)) × (length (changed s (Leave n)).records ≡ length s.records)
  unfolding changed roll_changed
  leave_stands n p =
      let w : List Maker = without n (used s) in
      let one : length w + 1 ≡ s.count = length_others s n p in
      let long = length-append w (left n ∷ drop s.count s.records) in
      let r = rest_long s.count in
      let l = h.within in (
        stands_front w (left n ∷ drop s.count s.records) (s.count - 1) (roll_changed roll (Leave n)) (omega (arith, one)) (ap (λ (k : ℕ). k - 1) h.count)
            (says_without roll.rating (used s) n (stands_says s roll h)) (leave_right s n p),
        omega (arith, long, one, r),
      )

  -- refused by the same number
  same-refusal : (call : Call) → refusal_of s call ≡ roll_refusal (length s.records) roll call
  unfolding refusal_of roll_refusal
  same-refusal (Join m) =
      skip 23 (cause 24 (present m.number (used s)) ∷ cause 25 (leb (length s.records) s.count) ∷ []) (right_not_wrong s (stands_right s roll h))
      (rw (present_by roll.rating (used s) (stands_says s roll h) m.number, h.count) refl)
  same-refusal (Change m) =
      skip 23 (cause 24 (not (present m.number (used s))) ∷ []) (right_not_wrong s (stands_right s roll h))
      (rw (present_by roll.rating (used s) (stands_says s roll h) m.number) refl)
  same-refusal (Leave n) =
      skip 23 (cause 24 (not (present n (used s))) ∷ []) (right_not_wrong s (stands_right s roll h))
      (rw (present_by roll.rating (used s) (stands_says s roll h) n) refl)

  changed_stands : (call : Call) → refusal_of s call ≡ 0
      → Stands (changed s call) (roll_changed roll call) × (length (changed s call).records ≡ length s.records)
  changed_stands (Join m) e = join_stands m (join_passes s m e)
  changed_stands (Change m) e = change_stands m (change_passes s m e)
  changed_stands (Leave n) e = leave_stands n (leave_passes s n e)

  stands_step : (call : Call)
      → Stands (step s call) (roll_step (length s.records) roll call) × (length (step s call).records ≡ length s.records)
  unfolding roll_step
  stands_step call = by (refusal_of s call) refl (same-refusal call)
    where
      by : (r : ℕ) → refusal_of s call ≡ r → refusal_of s call ≡ roll_refusal (length s.records) roll call
          → Stands (step s call) (if eqb (roll_refusal (length s.records) roll call) 0 then roll_changed roll call else roll) × (length (step s call).records ≡ length s.records)
      by zero e q = rw (step-accepted s call e, sym q ∙ e) (changed_stands call e)
      by (suc r) e q =
          let n : refusal_of s call ≡ 0 → ⊥ = λ k. omega (arith, e, k) in
          rw (step_refused s call n, ne_eqb (roll_refusal (length s.records) roll call) 0 (λ k. n (q ∙ k))) (h, refl)

-- ---- lists of calls

stands_after : (calls : List Call) (s : Standing) (roll : Roll) (size : ℕ) → length s.records ≡ size → Stands s roll
    → Stands (after s calls) (roll_from size roll calls) × (length (after s calls).records ≡ size) × (outcomes_from s calls ≡ roll_outcomes_from size roll calls)
unfolding after roll_from outcomes_from roll_outcomes_from
stands_after [] s roll size e h = (h, e, refl)
stands_after (call ∷ calls) s roll size e h =
    let p = stands_step s roll h call in
    let one : Stands (step s call) (roll_step size roll call) = subst (λ (k : ℕ). Stands (step s call) (roll_step k roll call)) e p.0 in
    let q = stands_after calls (step s call) (roll_step size roll call) size (p.1 ∙ e) one in
    let r : refusal_of s call ≡ roll_refusal size roll call = subst (λ (k : ℕ). refusal_of s call ≡ roll_refusal k roll call) e (same-refusal s roll h call) in
    (q.0, q.1, λ i. r i ∷ q.2 i)

start : (records : List Maker) → Stands (standing records 0) empty_roll
unfolding sorted once
start records =
    record {
      within = zero-le;
      count = refl;
      only = λ m k. absurd (Memᴰ.not-nil k);
      all = λ m e. absurd (not_absent m.rating e);
      in_order = refl;
      each_once = refl;
    }

-- ---- no other list

not_below : (x : Maker) → above x x ≡ true → ⊥
not_below x e = above_asym x x e e

same_first : (x y : Maker) (xs ys : List Maker) → Sorted x xs → Sorted y ys → Memᴰ x (y ∷ ys) → Memᴰ y (x ∷ xs) → x ≡ y
same_first x y xs ys s t (Memᴰ.head e) k = e
same_first x y xs ys s t (Memᴰ.tail h) (Memᴰ.head e) = sym e
same_first x y xs ys s t (Memᴰ.tail h) (Memᴰ.tail k) = absurd (above_asym x y (s.first y k) (t.first x h))

later_in : (x y : Maker) (xs ys : List Maker) → Sorted x xs → x ≡ y → (r : Maker) → Memᴰ r xs → Memᴰ r (y ∷ ys) → Memᴰ r ys
later_in x y xs ys s e r h (Memᴰ.head q) = absurd (not_below x (subst (λ (m : Maker). above x m ≡ true) (q ∙ sym e) (s.first r h)))
later_in x y xs ys s e r h (Memᴰ.tail k) = k

pub same-list : (xs ys : List Maker) → sorted xs ≡ true → sorted ys ≡ true → ((m : Maker) → Memᴰ m xs → Memᴰ m ys) → ((m : Maker) → Memᴰ m ys → Memᴰ m xs)
    → xs ≡ ys
same-list [] [] s t f g = refl
same-list [] (y ∷ ys) s t f g = absurd (Memᴰ.not-nil (g y (Memᴰ.head refl)))
same-list (x ∷ xs) [] s t f g = absurd (Memᴰ.not-nil (f x (Memᴰ.head refl)))
same-list (x ∷ xs) (y ∷ ys) s t f g =
    let p = sorted-parts x xs s in
    let q = sorted-parts y ys t in
    let e = same_first x y xs ys p q (f x (Memᴰ.head refl)) (g y (Memᴰ.head refl)) in
    let r = same-list xs ys p.rest q.rest
    (λ m k. later_in x y xs ys p e m k (f m (Memᴰ.tail k))) (λ m k. later_in y x ys xs q (sym e) m k (g m (Memᴰ.tail k))) in
    λ i. e i ∷ r i

-- ---- the claim

pub claim : (records : List Maker) (calls : List Call) → Claimed records calls
claim records calls =
    let p = stands_after calls (standing records 0) empty_roll (length records) refl (start records) in
    record {
      stands = p.0;
      one = λ l only all o. same-list l (used (after (standing records 0) calls)) o p.0.in_order (λ m k. p.0.all m (only m k)) (λ m k. all m (p.0.only m k));
      outcomes = p.2;
      lent = p.1;
    }
