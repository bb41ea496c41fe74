-- A record at its place: by how many rank above it, and what `placed` and `without` leave of members, order and length.
use Rattle.std.specs.Prelude.{if◌then◌else◌}
use Prim.Native.Nat.{ℕ, suc, ◌+◌, ◌≤◌, zero-le}
use native.Mathlib.Omega.{arith}
use native.Mathlib.Numerals.{one-add}
use mathlib.Core.Path.{◌≡◌, refl, sym, ap, subst, ◌∙◌}
use mathlib.Core.Logic.{◌⊎◌, inl, inr}
use mathlib.Core.List.Memᴰ
use mathlib.Core.List.{List, [], ◌∷◌, ◌++◌, append_assoc, Memᴰ}
use mathlib.Core.Bool.{Bool, true, false, true≢false, not, ◌&&◌, ◌||◌}
use lib.ListN.{length, take, drop}
use lib.Seq.{take-append-le, drop-append-le, take_at, drop_at}
use borrow.Author.Tests.{eqb-true, eqb-false, ne_eqb, not-true}
use Rattle.lists.specs.Lists.{any, filter, how_many, every}
use Rattle.lists.proofs.Lists.{kept_in_lem, in_kept}
use Rattle.lists.proofs.Members.{any_none, none_any, or_false, filter-all}
use Rattle.standing_rules.specs.declared.Maker.{Maker}
use Rattle.standing_rules.specs.Order.{above, sorted, is_of, present, once}
use Rattle.standing_rules.specs.Calls.{placed, without}
use Rattle.standing_rules.specs.Internal.{inserted}
use Rattle.standing_rules.proofs.Order.{above_trans, above-total, Sorted, sorted-parts, sorted-cons, Once, once-parts, once-cons, sorted_filter, once-filter}

-- ---- how many pass

module _ {A : Type 0} where
  many_none : (p : A → Bool) (xs : List A) → ((x : A) → Memᴰ x xs → p x ≡ false) → how_many p xs ≡ 0
  unfolding how_many
  many_none p [] h = refl
  many_none p (x ∷ xs) h = rw (h x (Memᴰ.head refl), many_none p xs (λ y k. h y (Memᴰ.tail k))) refl

  pub many_filter : (q p : A → Bool) (xs : List A) → how_many (λ x. q x && p x) xs ≡ how_many p (filter q xs)
  unfolding how_many filter
  many_filter q p [] = refl
  many_filter q p (x ∷ xs) = go (q x) (many_filter q p xs)
    where
      go : (b : Bool) → how_many (λ y. q y && p y) xs ≡ how_many p (filter q xs)
          → (if b && p x then 1 else 0) + how_many (λ y. q y && p y) xs ≡ how_many p (if b then x ∷ filter q xs else filter q xs)
      go true e = ap (λ (n : ℕ). (if p x then 1 else 0) + n) e
      go false e = omega (arith, e)

  pub many_le : (p : A → Bool) (xs : List A) → how_many p xs ≤ length xs
  unfolding how_many
  many_le p [] = zero-le
  many_le p (x ∷ xs) = go (p x) (many_le p xs)
    where
      go : (b : Bool) → how_many p xs ≤ length xs → (if b then 1 else 0) + how_many p xs ≤ suc (length xs)
      go true e = omega arith
      go false e = omega arith

  -- an element put into the front of two lists, or between them
  pub inserted-append : (xs ys : List A) (k : ℕ) (m : A) → k ≤ length xs → inserted (xs ++ ys) k m ≡ inserted xs k m ++ ys
  inserted-append xs ys k m h =
      rw (take-append-le k xs ys h, drop-append-le k xs ys h) (sym (append_assoc (take k xs) (m ∷ drop k xs) ys))

  pub inserted_between : (xs ys : List A) (k : ℕ) (m : A) → length xs ≡ k → inserted (xs ++ ys) k m ≡ xs ++ (m ∷ ys)
  inserted_between xs ys k m e = rw (take_at xs ys k e, drop_at xs ys k e) refl

-- ---- the place by count

-- a record is at its place where it follows as many as rank above it
pub placed_at : (m : Maker) (xs : List Maker) → sorted xs ≡ true → inserted xs (how_many (λ r. above r m) xs) m ≡ placed m xs
unfolding how_many placed
placed_at m [] e = refl
placed_at m (x ∷ xs) e = go (above x m) refl (sorted-parts x xs e) (placed_at m xs (sorted-parts x xs e).rest)
  where
    lower : (r : Maker) → Sorted x xs → above x m ≡ false → Memᴰ r xs → (t : Bool) → above r m ≡ t → t ≡ false
    lower r s q k true p = absurd (true≢false (sym (above_trans x r m (s.first r k) p) ∙ q))
    lower r s q k false p = refl

    go : (b : Bool) → above x m ≡ b → Sorted x xs → inserted xs (how_many (λ r. above r m) xs) m ≡ placed m xs
        → inserted (x ∷ xs) ((if b then 1 else 0) + how_many (λ r. above r m) xs) m ≡ (if b then x ∷ placed m xs else m ∷ (x ∷ xs))
    go true q s e = rw (one-add (how_many (λ r. above r m) xs)) (ap (λ (l : List Maker). x ∷ l) e)
    go false q s e = rw (many_none (λ r. above r m) xs (λ r k. lower r s q k (above r m) refl)) refl

-- ---- placed

pub length_placed : (m : Maker) (xs : List Maker) → length (placed m xs) ≡ length xs + 1
unfolding placed
length_placed m [] = refl
length_placed m (x ∷ xs) = go (above x m) (length_placed m xs)
  where
    go : (b : Bool) → length (placed m xs) ≡ length xs + 1 → length (if b then x ∷ placed m xs else m ∷ (x ∷ xs)) ≡ suc (length xs) + 1
    go true e = omega (arith, e)
    go false e = omega arith

pub in_placed : (m : Maker) (xs : List Maker) {x : Maker} → Memᴰ x (placed m xs) → (x ≡ m) ⊎ Memᴰ x xs
unfolding placed
in_placed m [] {x} (Memᴰ.head q) = inl q
in_placed m [] {x} (Memᴰ.tail k) = absurd (Memᴰ.not-nil k)
in_placed m (y ∷ ys) {x} h = go (above y m) h (λ k. in_placed m ys k)
  where
    later : (x ≡ m) ⊎ Memᴰ x ys → (x ≡ m) ⊎ Memᴰ x (y ∷ ys)
    later (inl q) = inl q
    later (inr k) = inr (Memᴰ.tail k)

    go : (b : Bool) → Memᴰ x (if b then y ∷ placed m ys else m ∷ (y ∷ ys)) → (Memᴰ x (placed m ys) → (x ≡ m) ⊎ Memᴰ x ys) → (x ≡ m) ⊎ Memᴰ x (y ∷ ys)
    go true (Memᴰ.head q) r = inr (Memᴰ.head q)
    go true (Memᴰ.tail k) r = later (r k)
    go false (Memᴰ.head q) r = inl q
    go false (Memᴰ.tail k) r = inr k

pub placed_in : (m : Maker) (xs : List Maker) {x : Maker} → (x ≡ m) ⊎ Memᴰ x xs → Memᴰ x (placed m xs)
unfolding placed
placed_in m [] {x} (inl q) = Memᴰ.head q
placed_in m [] {x} (inr k) = absurd (Memᴰ.not-nil k)
placed_in m (y ∷ ys) {x} h = go (above y m) h (λ k. placed_in m ys k)
  where
    go : (b : Bool) → (x ≡ m) ⊎ Memᴰ x (y ∷ ys) → ((x ≡ m) ⊎ Memᴰ x ys → Memᴰ x (placed m ys)) → Memᴰ x (if b then y ∷ placed m ys else m ∷ (y ∷ ys))
    go true (inl q) r = Memᴰ.tail (r (inl q))
    go true (inr (Memᴰ.head q)) r = Memᴰ.head q
    go true (inr (Memᴰ.tail k)) r = Memᴰ.tail (r (inr k))
    go false (inl q) r = Memᴰ.head q
    go false (inr k) r = Memᴰ.tail k

pub sorted-placed : (m : Maker) (xs : List Maker) → sorted xs ≡ true → present m.number xs ≡ false → sorted (placed m xs) ≡ true
unfolding placed sorted every any
sorted-placed m [] e n = refl
sorted-placed m (x ∷ xs) e n =
    go (above x m) refl (sorted-parts x xs e) (sorted-placed m xs (sorted-parts x xs e).rest (or_false (is_of m.number x) (present m.number xs) n).1)
  where
    low : Sorted x xs → above m x ≡ true → (r : Maker) → Memᴰ r (x ∷ xs) → above m r ≡ true
    low s q r (Memᴰ.head p) = ap (above m) p ∙ q
    low s q r (Memᴰ.tail k) = above_trans m x r q (s.first r k)

    behind : Sorted x xs → above x m ≡ true → (r : Maker) → (r ≡ m) ⊎ Memᴰ r xs → above x r ≡ true
    behind s q r (inl p) = ap (above x) p ∙ q
    behind s q r (inr k) = s.first r k

    go : (b : Bool) → above x m ≡ b → Sorted x xs → sorted (placed m xs) ≡ true → sorted (if b then x ∷ placed m xs else m ∷ (x ∷ xs)) ≡ true
    go true q s r = sorted-cons x (placed m xs) (record { first = λ r k. behind s q r (in_placed m xs k); rest = r })
    go false q s r =
        sorted-cons m (x ∷ xs) (record {
          first = low s (above-total x m (eqb-false x.number m.number (or_false (is_of m.number x) (present m.number xs) n).0) q);
          rest = sorted-cons x xs s;
        })

pub once-placed : (m : Maker) (xs : List Maker) → once xs ≡ true → present m.number xs ≡ false → once (placed m xs) ≡ true
unfolding placed once any
once-placed m [] e n = refl
once-placed m (x ∷ xs) e n =
    go (above x m) (once-parts x xs e) (once-placed m xs (once-parts x xs e).rest (or_false (is_of m.number x) (present m.number xs) n).1)
  where
    differs : Once x xs → (r : Maker) → (r ≡ m) ⊎ Memᴰ r xs → is_of x.number r ≡ false
    differs o r (inl p) = ne_eqb r.number x.number (λ q. eqb-false x.number m.number (or_false (is_of m.number x) (present m.number xs) n).0 (sym q ∙ ap (λ (k : Maker). k.number) p))
    differs o r (inr k) = none_any (is_of x.number) k o.other

    go : (b : Bool) → Once x xs → once (placed m xs) ≡ true → once (if b then x ∷ placed m xs else m ∷ (x ∷ xs)) ≡ true
    go true o r = once-cons x (placed m xs) (record { other = any_none (is_of x.number) (placed m xs) (λ r k. differs o r (in_placed m xs k)); rest = r })
    go false o r = once-cons m (x ∷ xs) (record { other = n; rest = once-cons x xs o })

-- ---- without

pub in_without : (n : ℕ) (xs : List Maker) {x : Maker} → Memᴰ x (without n xs) → Memᴰ x xs × (is_of n x ≡ false)
unfolding without
in_without n xs {x} k = let p = kept_in_lem (λ r. not (is_of n r)) xs k in (p.0, not-true (is_of n x) p.1)

pub without_in : (n : ℕ) {xs : List Maker} {x : Maker} → Memᴰ x xs → is_of n x ≡ false → Memᴰ x (without n xs)
unfolding without
without_in n k e = in_kept (λ r. not (is_of n r)) k (ap not e)

pub without_absent : (n : ℕ) (xs : List Maker) → present n xs ≡ false → without n xs ≡ xs
unfolding without
without_absent n xs e = filter-all (λ r. not (is_of n r)) xs (λ x k. ap not (none_any (is_of n) k e))

pub absent_without : (n : ℕ) (xs : List Maker) → present n (without n xs) ≡ false
absent_without n xs = any_none (is_of n) (without n xs) (λ x k. (in_without n xs k).1)

pub sorted-without : (n : ℕ) (xs : List Maker) → sorted xs ≡ true → sorted (without n xs) ≡ true
unfolding without
sorted-without n xs e = sorted_filter (λ r. not (is_of n r)) xs e

pub once-without : (n : ℕ) (xs : List Maker) → once xs ≡ true → once (without n xs) ≡ true
unfolding without
once-without n xs e = once-filter (λ r. not (is_of n r)) xs e

-- with each maker once, one record goes
pub length_without : (n : ℕ) (xs : List Maker) → once xs ≡ true → present n xs ≡ true → length (without n xs) + 1 ≡ length xs
unfolding without filter any
length_without n [] e p = absurd (true≢false (sym p))
length_without n (x ∷ xs) e p = go (is_of n x) refl p (λ q. length_without n xs (once-parts x xs e).rest q)
  where
    alone : is_of n x ≡ true → present n xs ≡ false
    alone q = subst (λ (k : ℕ). present k xs ≡ false) (eqb-true x.number n q) (once-parts x xs e).other

    go : (b : Bool) → is_of n x ≡ b → (b || present n xs) ≡ true → (present n xs ≡ true → length (without n xs) + 1 ≡ length xs)
        → length (if not b then x ∷ without n xs else without n xs) + 1 ≡ suc (length xs)
    go true q p r = omega (arith, ap length (without_absent n xs (alone q)))
    go false q p r = omega (arith, r p)
