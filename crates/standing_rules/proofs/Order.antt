-- The order of the standing: `above` goes on, and decides between any two makers; what `every`, `sorted` and `once` say of members and
-- of a list that grows at its end.
use Rattle.std.specs.Prelude.{if◌then◌else◌}
use Prim.Native.Nat.{ℕ, ◌<◌}
use native.Mathlib.Omega.{arith}
use mathlib.Core.Path.{◌≡◌, refl, sym, ap, ◌∙◌}
use mathlib.Core.Logic.{◌⊎◌, inl, inr}
use mathlib.Core.List.{List, [], ◌∷◌, ◌++◌, Memᴰ}
use mathlib.Core.Bool.{Bool, true, false, not, ◌&&◌, ◌||◌, and_assoc, and-true, or-false}
use lib.Dec.{eqb, ltb}
use borrow.Author.Tests.{ltb-true, ltb-false, lt-ltb, eqb-true, eqb-false, eq-eqb, ne_eqb, not-true}
use Rattle.lists.specs.Lists.{any, filter, every}
use Rattle.lists.proofs.Lists.{both, and, kept_in_lem}
use Rattle.lists.proofs.Members.{any_append, any-filter}
use Rattle.standing_rules.specs.declared.Maker.{Maker}
use Rattle.standing_rules.specs.Order.{above, sorted, is_of, present, once}

-- ---- two records

abbrev Higher : Maker → Maker → Type 0
Higher a b = (b.rating < a.rating) ⊎ ((a.rating ≡ b.rating) × (a.number < b.number))

above_says : (a b : Maker) → above a b ≡ true → Higher a b
unfolding above
above_says a b e = go (eqb a.rating b.rating) refl e
  where
    go : (t : Bool) → eqb a.rating b.rating ≡ t → (if t then ltb a.number b.number else ltb b.rating a.rating) ≡ true → Higher a b
    go true q e = inr (eqb-true a.rating b.rating q, ltb-true a.number b.number e)
    go false q e = inl (ltb-true b.rating a.rating e)

above_by : (a b : Maker) → Higher a b → above a b ≡ true
unfolding above
above_by a b (inl h) = simp (ne_eqb a.rating b.rating (λ e. omega arith), lt-ltb b.rating a.rating h)
above_by a b (inr h) = simp (eq-eqb a.rating b.rating h.0, lt-ltb a.number b.number h.1)

higher_trans : (a b c : Maker) → Higher a b → Higher b c → Higher a c
higher_trans a b c (inl h) (inl k) = inl (omega arith)
higher_trans a b c (inl h) (inr k) = let e = k.0 in inl (omega arith)
higher_trans a b c (inr h) (inl k) = let e = h.0 in inl (omega arith)
higher_trans a b c (inr h) (inr k) =
    let d = h.0 in let e = k.0 in let f = h.1 in let g = k.1 in inr (omega arith, omega arith)

pub above_trans : (a b c : Maker) → above a b ≡ true → above b c ≡ true → above a c ≡ true
above_trans a b c p q = above_by a c (higher_trans a b c (above_says a b p) (above_says b c q))

-- no record ranks above one that ranks above it
higher_asym : (a b : Maker) → Higher a b → Higher b a → ⊥
higher_asym a b (inl h) (inl k) = omega arith
higher_asym a b (inl h) (inr k) = let e = k.0 in omega arith
higher_asym a b (inr h) (inl k) = let e = h.0 in omega arith
higher_asym a b (inr h) (inr k) = let e = h.1 in let f = k.1 in omega arith

pub above_asym : (a b : Maker) → above a b ≡ true → above b a ≡ true → ⊥
above_asym a b p q = higher_asym a b (above_says a b p) (above_says b a q)

-- of two makers one ranks above the other
pub above-total : (a b : Maker) → (a.number ≡ b.number → ⊥) → above a b ≡ false → above b a ≡ true
unfolding above
above-total a b n e = go (eqb a.rating b.rating) refl e
  where
    go : (t : Bool) → eqb a.rating b.rating ≡ t → (if t then ltb a.number b.number else ltb b.rating a.rating) ≡ false → above b a ≡ true
    go true q e =
        let r = eqb-true a.rating b.rating q in let l = ltb-false a.number b.number e in
        above_by b a (inr (sym r, omega (arith, l)))
    go false q e =
        let l = ltb-false b.rating a.rating e in
        above_by b a (inl (omega (arith, l, eqb-false a.rating b.rating q)))

-- ---- every

module _ {A : Type 0} where
  pub every_in : (p : A → Bool) {x : A} {xs : List A} → Memᴰ x xs → every p xs ≡ true → p x ≡ true
  unfolding every
  every_in p {x} (Memᴰ.head {x = y} {xs = ys} q) e = ap p q ∙ (both (p y) (every p ys) e).0
  every_in p {x} (Memᴰ.tail {x = y} {xs = ys} k) e = every_in p k (both (p y) (every p ys) e).1

  pub in_every : (p : A → Bool) (xs : List A) → ((x : A) → Memᴰ x xs → p x ≡ true) → every p xs ≡ true
  unfolding every
  in_every p [] h = refl
  in_every p (x ∷ xs) h = and (h x (Memᴰ.head refl)) (in_every p xs (λ y k. h y (Memᴰ.tail k)))

  pub every_append : (p : A → Bool) (xs ys : List A) → every p (xs ++ ys) ≡ every p xs && every p ys
  unfolding every
  every_append p [] ys = refl
  every_append p (x ∷ xs) ys = ap (λ (b : Bool). p x && b) (every_append p xs ys) ∙ sym (and_assoc (p x) (every p xs) (every p ys))

-- ---- sorted, once

pub record Sorted (m : Maker) (later : List Maker) : Type 0 where
  pub first : (r : Maker) → Memᴰ r later → above m r ≡ true
  pub rest : sorted later ≡ true

pub sorted-parts : (m : Maker) (later : List Maker) → sorted (m ∷ later) ≡ true → Sorted m later
unfolding sorted
sorted-parts m later e =
    let p = both (every (above m) later) (sorted later) e in
    record { first = λ r k. every_in (above m) k p.0; rest = p.1 }

pub sorted-cons : (m : Maker) (later : List Maker) → Sorted m later → sorted (m ∷ later) ≡ true
unfolding sorted
sorted-cons m later s = and (in_every (above m) later s.first) s.rest

pub record Once (m : Maker) (later : List Maker) : Type 0 where
  pub other : present m.number later ≡ false
  pub rest : once later ≡ true

pub once-parts : (m : Maker) (later : List Maker) → once (m ∷ later) ≡ true → Once m later
unfolding once
once-parts m later e =
    let p = both (not (present m.number later)) (once later) e in
    record { other = not-true (present m.number later) p.0; rest = p.1 }

pub once-cons : (m : Maker) (later : List Maker) → Once m later → once (m ∷ later) ≡ true
unfolding once
once-cons m later o = and (ap not o.other) o.rest

-- one record more, at the end
pub and_swap : (a b c d : Bool) → (a && b) && (c && d) ≡ (a && c) && (b && d)
and_swap true b true d = refl
and_swap true true false d = refl
and_swap true false false d = refl
and_swap false b c d = refl

pub sorted_more : (xs : List Maker) (m : Maker) → sorted (xs ++ (m ∷ [])) ≡ sorted xs && every (λ r. above r m) xs
unfolding sorted every
sorted_more [] m = refl
sorted_more (x ∷ xs) m =
    rw (every_append (above x) xs (m ∷ []), sorted_more xs m, and-true (above x m))
    (and_swap (every (above x) xs) (above x m) (sorted xs) (every (λ r. above r m) xs))

-- two records of one maker, either way round
eqb_swap : (a b : ℕ) → eqb a b ≡ eqb b a
eqb_swap a b = go (eqb a b) refl
  where
    go : (t : Bool) → eqb a b ≡ t → t ≡ eqb b a
    go true e = sym (eq-eqb b a (sym (eqb-true a b e)))
    go false e = sym (ne_eqb b a (λ k. eqb-false a b e (sym k)))

not_or : (a b : Bool) → not (a || b) ≡ not a && not b
not_or true b = refl
not_or false b = refl

pub once_more : (xs : List Maker) (m : Maker) → once (xs ++ (m ∷ [])) ≡ once xs && not (present m.number xs)
unfolding once any
once_more [] m = refl
once_more (x ∷ xs) m =
    rw (any_append (is_of x.number) xs (m ∷ []), once_more xs m, or-false (is_of x.number m), not_or (present x.number xs) (is_of x.number m), not_or (is_of m.number x) (present m.number xs), eqb_swap m.number x.number)
    (and_swap (not (present x.number xs)) (not (is_of m.number x)) (once xs) (not (present m.number xs)))

-- what is kept of a sorted list is sorted, of one with each maker once has each once
pub sorted_filter : (p : Maker → Bool) (xs : List Maker) → sorted xs ≡ true → sorted (filter p xs) ≡ true
unfolding filter
sorted_filter p [] e = e
sorted_filter p (x ∷ xs) e = go (p x) (sorted-parts x xs e) (sorted_filter p xs (sorted-parts x xs e).rest)
  where
    go : (b : Bool) → Sorted x xs → sorted (filter p xs) ≡ true → sorted (if b then x ∷ filter p xs else filter p xs) ≡ true
    go true s r = sorted-cons x (filter p xs) (record { first = λ r k. s.first r (kept_in_lem p xs k).0; rest = r })
    go false s r = r

pub once-filter : (p : Maker → Bool) (xs : List Maker) → once xs ≡ true → once (filter p xs) ≡ true
unfolding filter
once-filter p [] e = e
once-filter p (x ∷ xs) e = go (p x) (once-parts x xs e) (once-filter p xs (once-parts x xs e).rest)
  where
    go : (b : Bool) → Once x xs → once (filter p xs) ≡ true → once (if b then x ∷ filter p xs else filter p xs) ≡ true
    go true o r = once-cons x (filter p xs) (record { other = any-filter (is_of x.number) p xs o.other; rest = r })
    go false o r = r
