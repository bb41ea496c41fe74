-- The order of the used records, checked by neighbours and by marks.
--     marked_is   a mark is there exactly where a record before has left it
--     look_back   whether the maker has a record before is seen from as many as the mark says
--     good_is     what was checked is whether the records are sorted, each maker once
use Rattle.std.specs.Prelude.{Option, Some, is_some, if◌then◌else◌}
use Prim.Native.Nat.{ℕ, zero, suc, ◌≤◌, ◌<◌, ◌%◌, min}
use native.Mathlib.Omega.{arith}
use native.Mathlib.Nat.{mod-lt, min-eq_left}
use mathlib.Core.Path.{◌≡◌, refl, sym, ap, ◌∙◌}
use mathlib.Core.List.{List, [], ◌∷◌, ◌++◌, Memᴰ}
use mathlib.Core.Bool.{Bool, true, false, not, ◌&&◌, ◌||◌, and-false, or-true, or-false}
use lib.Dec.{eqb, ltb}
use lib.ListN.{length, take, get_or, set, length-set, length-replicate, get_or-replicate}
use lib.Seq.{take-suc, get_or-set_same, get_or-set_other}
use borrow.Author.Tests.{eq-eqb, eqb-true, eqb-false, ltb-false}
use Rattle.lists.specs.Lists.{any, every}
use Rattle.lists.proofs.Lists.{both}
use Rattle.lists.proofs.Members.{any_append, any_none, none_any}
use Rattle.standing_rules.specs.declared.Maker.{Maker}
use Rattle.standing_rules.specs.Order.{above, sorted, is_of, present, once}
use Rattle.standing_rules.specs.Calls.{standing, wrong}
use Rattle.standing_rules.specs.Internal.{none, seen_in, marks_in, back_to, is_behind, check_of, checked_in}
use Rattle.standing_rules.proofs.Order.{above_trans, and_swap, every_in, in_every, every_append, sorted_more, once_more}
use Rattle.standing_rules.proofs.Seeing.{found}

-- ---- the marks

module _ (k : ℕ) (some : 0 < k) (l : List Maker) where
  abbrev leaves : ℕ → Maker → Bool
  leaves number r = eqb (r.number % k) (number % k)

  marks_long : (n : ℕ) → length (marks_in k l n) ≡ k
  unfolding marks_in
  marks_long zero = length-replicate k false
  marks_long (suc n) = length-set (marks_in k l n) ((get_or l n none).number % k) true ∙ marks_long n

  marked_is : (n number : ℕ) → n ≤ length l → get_or (marks_in k l n) (number % k) false ≡ any (leaves number) (take n l)
  unfolding marks_in any
  marked_is zero number h = get_or-replicate k (number % k) false false (mod-lt number some)
  marked_is (suc n) number h =
      go (leaves number (get_or l n none)) refl (marked_is n number (omega arith)) ∙ sym (rw (take-suc l n none h, any_append (leaves number) (take n l) (get_or l n none ∷ [])) refl)
    where
      slot : ℕ
      slot = (get_or l n none).number % k

      inside : slot < length (marks_in k l n)
      inside = rw (marks_long n) (mod-lt (get_or l n none).number some)

      go : (b : Bool) → leaves number (get_or l n none) ≡ b → get_or (marks_in k l n) (number % k) false ≡ any (leaves number) (take n l)
          → get_or (set (marks_in k l n) slot true) (number % k) false ≡ (any (leaves number) (take n l) || (b || false))
      go true e q =
          ap (λ (j : ℕ). get_or (set (marks_in k l n) slot true) j false) (sym (eqb-true slot (number % k) e))
          ∙ get_or-set_same (marks_in k l n) slot true false inside ∙ sym (or-true (any (leaves number) (take n l)))
      go false e q =
          get_or-set_other (marks_in k l n) slot (number % k) true false (λ p. eqb-false slot (number % k) e (sym p)) ∙ q ∙ sym (or-false (any (leaves number) (take n l)))

  -- where no record before has left the mark, none is of the maker
  unmarked : (n number : ℕ) → any (leaves number) (take n l) ≡ false → present number (take n l) ≡ false
  unmarked n number e = any_none (is_of number) (take n l) (λ r h. go r h (is_of number r) refl)
    where
      go : (r : Maker) → Memᴰ r (take n l) → (b : Bool) → is_of number r ≡ b → b ≡ false
      go r h true q = sym (eq-eqb (r.number % k) (number % k) (ap (λ (j : ℕ). j % k) (eqb-true r.number number q))) ∙ none_any (leaves number) h e
      go r h false q = refl

  -- looking back as far as the mark says finds whether the maker has a record before
  pub look_back : (n : ℕ) (m : Maker) → n ≤ length l → is_some (seen_in l m (back_to (marks_in k l n) k n m.number)).place ≡ present m.number (take n l)
  unfolding seen_in
  look_back n m h = go (get_or (marks_in k l n) (m.number % k) false) refl
    where
      go : (b : Bool) → get_or (marks_in k l n) (m.number % k) false ≡ b → is_some (seen_in l m (if b then n else 0)).place ≡ present m.number (take n l)
      go true e = (found l m n h).present
      go false e = sym (unmarked n m.number (sym (marked_is n m.number h) ∙ e))

-- ---- neighbours

-- of records in order, what follows the last follows all
behind-all : (xs : List Maker) (x m : Maker) → sorted (xs ++ (x ∷ [])) ≡ true → every (λ r. above r m) (xs ++ (x ∷ [])) ≡ above x m
unfolding every
behind-all xs x m e = every_append (λ r. above r m) xs (x ∷ []) ∙ go (above x m) refl
  where
    before : every (λ r. above r x) xs ≡ true
    before = (both (sorted xs) (every (λ r. above r x) xs) (sym (sorted_more xs x) ∙ e)).1

    go : (b : Bool) → above x m ≡ b → every (λ r. above r m) xs && (b && true) ≡ b
    go true q = rw (in_every (λ r. above r m) xs (λ r h. above_trans r x m (every_in (λ r. above r x) h before) q)) refl
    go false q = and-false (every (λ r. above r m) xs)

module _ (l : List Maker) where
  last_is : (n : ℕ) → (checked_in l (suc n)).last ≡ Some (get_or l n none)
  unfolding checked_in check_of
  last_is n = refl

  -- the test of the last one is the test of all
  behind_is : (n : ℕ) → n < length l → sorted (take n l) ≡ true → is_behind (checked_in l n).last (get_or l n none) ≡ every (λ r. above r (get_or l n none)) (take n l)
  unfolding every checked_in
  behind_is zero h e = refl
  behind_is (suc n) h e =
      let split = take-suc l n none (omega arith) in
      ap (λ (o : Option Maker). is_behind o (get_or l (suc n) none)) (last_is n)
      ∙ sym (behind-all (take n l) (get_or l n none) (get_or l (suc n) none) (ap sorted (sym split) ∙ e)) ∙ ap (every (λ r. above r (get_or l (suc n) none))) (sym split)

  pub good_is : (n : ℕ) → n ≤ length l → (checked_in l n).good ≡ sorted (take n l) && once (take n l)
  unfolding checked_in check_of sorted once
  good_is zero h = refl
  good_is (suc n) h =
      ap (λ (b : Bool). b && (is_behind (checked_in l n).last (get_or l n none) && not (present (get_or l n none).number (take n l)))) (good_is n (omega arith))
      ∙ go (sorted (take n l)) refl
      ∙ sym (rw (take-suc l n none h, sorted_more (take n l) (get_or l n none), once_more (take n l) (get_or l n none)) refl)
    where
      go : (s : Bool) → sorted (take n l) ≡ s → (s && once (take n l)) && (is_behind (checked_in l n).last (get_or l n none) && not (present (get_or l n none).number (take n l)))
          ≡ (s && every (λ r. above r (get_or l n none)) (take n l)) && (once (take n l) && not (present (get_or l n none).number (take n l)))
      go true e = rw (behind_is n h e) (and_swap true (once (take n l)) (every (λ r. above r (get_or l n none)) (take n l)) (not (present (get_or l n none).number (take n l))))
      go false e = refl

-- 23 by the count and by what was checked
pub wrong_is : (l : List Maker) (c : ℕ) → (ltb (length l) c || not (checked_in l (min c (length l))).good) ≡ wrong (standing l c)
unfolding wrong
wrong_is l c = go (ltb (length l) c) refl
  where
    go : (t : Bool) → ltb (length l) c ≡ t → (t || not (checked_in l (min c (length l))).good) ≡ (t || not (sorted (take c l) && once (take c l)))
    go true e = refl
    go false e = let le = ltb-false (length l) c e in ap not (ap (λ (n : ℕ). (checked_in l n).good) (min-eq_left le) ∙ good_is l c le)
