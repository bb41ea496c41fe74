-- What a look through the first records finds, in the words of the standing.
use Rattle.std.specs.Prelude.{Option, Some, None, is_some, IfSome, unwrap_or, if◌then◌else◌}
use Prim.Native.Nat.{ℕ, zero, suc, ◌+◌, ◌≤◌, ◌<◌, zero-le}
use native.Mathlib.Omega.{arith}
use mathlib.Core.Path.{◌≡◌, refl, sym, ap, subst, ◌∙◌}
use mathlib.Core.List.{List, [], ◌∷◌, ◌++◌, append_assoc}
use mathlib.Core.Bool.{Bool, true, false, true≢false, not, ◌&&◌, ◌||◌}
use lib.ListN.{length, take, drop, get_or, length-append, drop_of_length-le}
use lib.Seq.{take-suc, take_at, take-append-le, drop-append-le, length-take-le}
use borrow.Author.Tests.{eqb-true, not-true}
use Rattle.lists.specs.Lists.{any, filter, how_many, every}
use Rattle.lists.proofs.Lists.{both, filter-append, filter-one}
use Rattle.lists.proofs.Members.{any_append}
use Rattle.standing_rules.specs.declared.Maker.{Maker}
use Rattle.standing_rules.specs.declared.Seen.{Seen}
use Rattle.standing_rules.specs.Order.{above, is_of, present, once}
use Rattle.standing_rules.specs.Calls.{without}
use Rattle.standing_rules.specs.Internal.{none, look_of, seen_in, removed}
use Rattle.standing_rules.proofs.Order.{once_more}
use Rattle.standing_rules.proofs.Placing.{without_absent}

-- how many of the other makers' records rank above m
abbrev others_above : Maker → List Maker → ℕ
others_above m xs = how_many (λ r. not (is_of m.number r) && above r m) xs

many_append : {A : Type 0} (p : A → Bool) (xs ys : List A) → how_many p (xs ++ ys) ≡ how_many p xs + how_many p ys
unfolding how_many
many_append p [] ys = omega arith
many_append p (x ∷ xs) ys = omega (arith, many_append p xs ys)

-- what was found after the records xs
pub record MakerSeen (m : Maker) (xs : List Maker) (s : Seen) : Type 0 where
  pub present : is_some s.place ≡ present m.number xs
  pub above : s.above ≡ others_above m xs

found-present : (t p : Bool) → (if t then true else p) ≡ p || (t || false)
found-present true true = refl
found-present true false = refl
found-present false true = refl
found-present false false = refl

found-above : (t a : Bool) (n : ℕ) → (if t then n else if a then n + 1 else n) ≡ n + ((if not t && a then 1 else 0) + 0)
found-above true a n = omega arith
found-above false true n = omega arith
found-above false false n = omega arith

-- the fields of one step
look_place : (s : Seen) (i : ℕ) (r m : Maker) → (look_of s i r m).place ≡ (if is_of m.number r then Some i else s.place)
unfolding look_of
look_place s i r m = refl

present_by : (t : Bool) (i : ℕ) (o : Option ℕ) → is_some (if t then Some i else o) ≡ (if t then true else is_some o)
present_by true i o = refl
present_by false i o = refl

look_present : (s : Seen) (i : ℕ) (r m : Maker) → is_some (look_of s i r m).place ≡ (if is_of m.number r then true else is_some s.place)
look_present s i r m = ap is_some (look_place s i r m) ∙ present_by (is_of m.number r) i s.place

-- the place, 0 where there is none
abbrev pub at_of : Seen → ℕ
at_of s = unwrap_or s.place 0

at_by : (t : Bool) (i : ℕ) (o : Option ℕ) → unwrap_or (if t then Some i else o) 0 ≡ (if t then i else unwrap_or o 0)
at_by true i o = refl
at_by false i o = refl

look_above : (s : Seen) (i : ℕ) (r m : Maker) → (look_of s i r m).above ≡ (if is_of m.number r then s.above else if above r m then s.above + 1 else s.above)
unfolding look_of
look_above s i r m = refl

look_at : (s : Seen) (i : ℕ) (r m : Maker) → at_of (look_of s i r m) ≡ (if is_of m.number r then i else at_of s)
look_at s i r m = ap (λ (o : Option ℕ). unwrap_or o 0) (look_place s i r m) ∙ at_by (is_of m.number r) i s.place

found-next : (m r : Maker) (xs : List Maker) (s : Seen) (i : ℕ) → MakerSeen m xs s → MakerSeen m (xs ++ (r ∷ [])) (look_of s i r m)
unfolding every any how_many
found-next m r xs s i f =
    record {
      present = look_present s i r m
          ∙ found-present (is_of m.number r) (is_some s.place)
          ∙ ap (λ (b : Bool). b || (is_of m.number r || false)) f.present
          ∙ sym (any_append (is_of m.number) xs (r ∷ []));
      above = look_above s i r m
          ∙ found-above (is_of m.number r) (above r m) s.above
          ∙ ap (λ (n : ℕ). n + ((if not (is_of m.number r) && above r m then 1 else 0) + 0)) f.above
          ∙ sym (many_append (λ r. not (is_of m.number r) && above r m) xs (r ∷ []));
    }

pub found : (l : List Maker) (m : Maker) (n : ℕ) → n ≤ length l → MakerSeen m (take n l) (seen_in l m n)
unfolding seen_in every any how_many
found l m zero h = record { present = refl; above = refl }
found l m (suc n) h =
    subst (λ (xs : List Maker). MakerSeen m xs (look_of (seen_in l m n) n (get_or l n none) m)) (sym (take-suc l n none h))
    (found-next m (get_or l n none) (take n l) (seen_in l m n) n (found l m n (omega arith)))

-- no more records rank above than were looked at
pub above-le : (l : List Maker) (m : Maker) (n : ℕ) → (seen_in l m n).above ≤ n
unfolding seen_in
above-le l m zero = zero-le
above-le l m (suc n) = subst (λ (k : ℕ). k ≤ suc n) (sym (look_above (seen_in l m n) n (get_or l n none) m)) (go (is_of m.number (get_or l n none)) (above (get_or l n none) m) (seen_in l m n).above (above-le l m n))
  where
    go : (t a : Bool) (k : ℕ) → k ≤ n → (if t then k else if a then k + 1 else k) ≤ suc n
    go true a k h = omega arith
    go false true k h = omega arith
    go false false k h = omega arith

-- a maker's place is among those that were looked at
pub place_seen : (l : List Maker) (m : Maker) (n : ℕ) → IfSome (seen_in l m n).place (λ at. at < n)
unfolding seen_in
place_seen l m zero = tt
place_seen l m (suc n) = subst (λ (o : Option ℕ). IfSome o (λ at. at < suc n)) (sym (look_place (seen_in l m n) n (get_or l n none) m)) (go (is_of m.number (get_or l n none)) (seen_in l m n).place (place_seen l m n))
  where
    go : (t : Bool) (o : Option ℕ) → IfSome o (λ at. at < n) → IfSome (if t then Some n else o) (λ at. at < suc n)
    go true o h = omega arith
    go false None h = tt
    go false (Some at) h = omega (arith, h)

-- ---- the maker's place

-- what is taken out at the place of the maker, where each maker has one record
pub record Place (n : ℕ) (xs : List Maker) (at : ℕ) : Type 0 where
  pub inside : at < length xs
  pub taken : removed xs at ≡ without n xs

without_more : (n : ℕ) (xs : List Maker) (r : Maker) → without n (xs ++ (r ∷ [])) ≡ without n xs ++ (if not (is_of n r) then r ∷ [] else [])
unfolding without
without_more n xs r = filter-append (λ x. not (is_of n x)) xs (r ∷ []) ∙ ap (λ (l : List Maker). filter (λ x. not (is_of n x)) xs ++ l) (filter-one (λ x. not (is_of n x)) r)

module _ (n : ℕ) (xs : List Maker) (r : Maker) where
  abbrev more : List Maker
  more = xs ++ (r ∷ [])

  length_more : length more ≡ length xs + 1
  length_more = rw (length-append xs (r ∷ [])) refl

  place_last : (i : ℕ) → length xs ≡ i → is_of n r ≡ true → present n xs ≡ false → Place n more i
  place_last i e t p =
      record {
        inside = omega (arith, length_more);
        taken = rw (take_at xs (r ∷ []) i e, drop_of_length-le more {i = i + 1} (omega (arith, length_more)), without_more n xs r, t, without_absent n xs p) refl;
      }

  place-before : (i : ℕ) → Place n xs i → is_of n r ≡ false → Place n more i
  place-before i p t =
      record {
        inside = let h = p.inside in omega (arith, length_more);
        taken =
            let h = p.inside in
            rw (take-append-le i xs (r ∷ []) (omega arith), drop-append-le (i + 1) xs (r ∷ []) (omega arith), without_more n xs r, t, ← p.taken) (sym (append_assoc (take i xs) (drop (i + 1) xs) (r ∷ [])));
      }

or_right : (a b : Bool) → (a || (b || false)) ≡ true → b ≡ false → a ≡ true
or_right a true e f = absurd (true≢false f)
or_right true false e f = refl
or_right false false e f = absurd (true≢false (sym e))

pub place : (l : List Maker) (m : Maker) (n : ℕ) → n ≤ length l → once (take n l) ≡ true → present m.number (take n l) ≡ true
    → Place m.number (take n l) (at_of (seen_in l m n))
unfolding seen_in any
place l m zero h o p = absurd (true≢false (sym p))
place l m (suc n) h o p =
    subst (λ (k : ℕ). Place m.number (take (suc n) l) k) (sym (look_at (seen_in l m n) n r m))
    (subst (λ (xs : List Maker). Place m.number xs (if is_of m.number r then n else (at_of (seen_in l m n)))) (sym split)
    (go (is_of m.number r) refl (λ q. place l m n (omega arith) parts.0 q)))
  where
    r : Maker
    r = get_or l n none

    split : take (suc n) l ≡ take n l ++ (r ∷ [])
    split = take-suc l n none h

    parts : (once (take n l) ≡ true) × (not (present r.number (take n l)) ≡ true)
    parts = both (once (take n l)) (not (present r.number (take n l))) (sym (once_more (take n l) r) ∙ ap once (sym split) ∙ o)

    there : (present m.number (take n l) || (is_of m.number r || false)) ≡ true
    there = sym (any_append (is_of m.number) (take n l) (r ∷ [])) ∙ ap (present m.number) (sym split) ∙ p

    go : (t : Bool) → is_of m.number r ≡ t → (present m.number (take n l) ≡ true → Place m.number (take n l) (at_of (seen_in l m n)))
        → Place m.number (take n l ++ (r ∷ [])) (if t then n else (at_of (seen_in l m n)))
    go true t q = place_last m.number (take n l) r n (length-take-le n l (omega arith)) t (subst (λ (k : ℕ). present k (take n l) ≡ false) (eqb-true r.number m.number t) (not-true (present r.number (take n l)) parts.1))
    go false t q = place-before m.number (take n l) r (at_of (seen_in l m n)) (q (or_right (present m.number (take n l)) (is_of m.number r) there t)) t
