-- Orders as one number: by their key first; five exchanges sort four of them, and change no sum.
use Rattle.std.specs.Prelude.{if◌then◌else◌}
use Prim.Native.Nat.{ℕ, zero, suc, ◌+◌, ◌*◌, ◌≤◌, ◌<◌, min, max}
use native.Mathlib.Omega.{arith}
use mathlib.Core.Path.{◌≡◌, refl, sym, ap, ◌∙◌}
use mathlib.Core.Bool.{Bool, true, false}
use mathlib.Core.List.{List, [], ◌∷◌}
use borrow.Author.Tests.{leb-true, leb-false}
use lib.Dec.{leb}
use lib.ListN.{length, get_or}
use Rattle.lists.specs.Lists.{sum}
use Rattle.best_quote.specs.Levels.{held, Columns}
use Rattle.small_side.specs.Internal.{key_in, volume_in, held_one, held_all, four, Descending}

-- ---- one order

key-packed : (k v : ℕ) → v < 4294967296 → key_in (4294967296 * k + v) ≡ k
key-packed k v h = omega (arith, h)

volume_packed : (k v : ℕ) → v < 4294967296 → volume_in (4294967296 * k + v) ≡ v
volume_packed k v h = omega (arith, h)

one-packed : (t : ℕ → Bool) (x k v : ℕ) → x ≡ 4294967296 * k + v → v < 4294967296 → held_one t x ≡ (if t k then v else 0)
one-packed t x k v e h =
    let key : key_in x ≡ k = ap key_in e ∙ key-packed k v h in
    let volume : volume_in x ≡ v = ap volume_in e ∙ volume_packed k v h in
    λ i. if t (key i) then volume i else 0

module _ (t : ℕ → Bool) (x : ℕ) where
  -- at most its volume, and all of it or none by the test
  pub one_most : held_one t x ≤ volume_in x
  one_most = go (t (key_in x))
    where
      go : (b : Bool) → (if b then volume_in x else 0) ≤ volume_in x
      go true = omega arith
      go false = omega arith

  pub one-all : t (key_in x) ≡ true → held_one t x ≡ volume_in x
  one-all e = ap (λ (b : Bool). if b then volume_in x else 0) e

  pub one_none : t (key_in x) ≡ false → held_one t x ≡ 0
  one_none e = ap (λ (b : Bool). if b then volume_in x else 0) e

-- ---- exchanges

-- two orders exchanged: whatever is added up of both stays
exchanged : (f : ℕ → ℕ) (a b more less : ℕ) → more ≡ max a b → less ≡ min a b → f more + f less ≡ f a + f b
exchanged f a b more less p q = go (leb a b) refl
  where
    go : (t : Bool) → leb a b ≡ t → f more + f less ≡ f a + f b
    go true e =
        let h = leb-true a b e in
        let x : f more ≡ f b = ap f (omega (arith, p, h)) in
        let y : f less ≡ f a = ap f (omega (arith, q, h)) in
        omega (arith, x, y)
    go false e =
        let h = leb-false a b e in
        let x : f more ≡ f a = ap f (omega (arith, p, h)) in
        let y : f less ≡ f b = ap f (omega (arith, q, h)) in
        omega (arith, x, y)

-- the greater of two is above both and below what is above both, the lesser the other way round
record Exchange (a b more less : ℕ) : Type 0 where
  less_left : less ≤ a
  less_right : less ≤ b
  more_left : a ≤ more
  more_right : b ≤ more
  least_over : (z : ℕ) → z ≤ a → z ≤ b → z ≤ less
  most_under : (z : ℕ) → a ≤ z → b ≤ z → more ≤ z

exchange : (a b more less : ℕ) → more ≡ max a b → less ≡ min a b → Exchange a b more less
exchange a b more less p q =
    record {
      less_left = omega arith;
      less_right = omega arith;
      more_left = omega arith;
      more_right = omega arith;
      least_over = λ z h k. omega (arith, h, k);
      most_under = λ z h k. omega (arith, h, k);
    }

descend : (a b c d p q r s u v first second third last : ℕ) → Exchange a b p q → Exchange c d r s → Exchange p r first u → Exchange q s v last
    → Exchange u v second third → Descending first second third last
descend a b c d p q r s u v first second third last ab cd pr qs uv =
    record {
      first =
          uv.most_under first (omega (arith, pr.less_left, pr.more_left))
          (qs.most_under first (omega (arith, ab.less_left, ab.more_left, pr.more_left)) (omega (arith, cd.less_left, cd.more_left, pr.more_right)));
      second = omega (arith, uv.less_left, uv.more_left);
      third =
          uv.least_over last
          (pr.least_over last (omega (arith, qs.less_left, ab.less_left, ab.more_left)) (omega (arith, qs.less_right, cd.less_left, cd.more_left)))
          (omega (arith, qs.less_left, qs.more_left));
    }

module _ (a b c d p q r s u v first second third last : ℕ) (ep : p ≡ max a b) (eq : q ≡ min a b) (er : r ≡ max c d) (es : s ≡ min c d)
    (eu : u ≡ min p r) (ev : v ≡ max q s) (e1 : first ≡ max p r) (e2 : second ≡ max u v) (e3 : third ≡ min u v) (e4 : last ≡ min q s) where
  pub sorted : Descending first second third last
  sorted =
      descend a b c d p q r s u v first second third last (exchange a b p q ep eq) (exchange c d r s er es) (exchange p r first u e1 eu)
      (exchange q s v last ev e4) (exchange u v second third e2 e3)

  pub sorted-held : (t : ℕ → Bool) → held_all t (four first second third last) ≡ held_all t (four a b c d)
  unfolding held_all
  sorted-held t =
      let f = held_one t in
      omega (
        arith,
        exchanged f a b p q ep eq,
        exchanged f c d r s er es,
        exchanged f p r first u e1 eu,
        exchanged f q s v last ev e4,
        exchanged f u v second third e2 e3,
      )

-- ---- columns of four

held-four : (t : ℕ → Bool) (ks vs : List ℕ) → length ks ≡ 4 → length vs ≡ 4
    → held t ks vs
    ≡ (if t (get_or ks 0 0) then get_or vs 0 0 else 0)
    + ((if t (get_or ks 1 0) then get_or vs 1 0 else 0)
    + ((if t (get_or ks 2 0) then get_or vs 2 0 else 0) + ((if t (get_or ks 3 0) then get_or vs 3 0 else 0) + 0)))
unfolding held
held-four t (a ∷ b ∷ c ∷ d ∷ []) (w ∷ x ∷ y ∷ z ∷ []) h k = refl
held-four t [] vs h k = absurd (omega (arith, h))
held-four t (a ∷ []) vs h k = absurd (omega (arith, h))
held-four t (a ∷ b ∷ []) vs h k = absurd (omega (arith, h))
held-four t (a ∷ b ∷ c ∷ []) vs h k = absurd (omega (arith, h))
held-four t (a ∷ b ∷ c ∷ d ∷ e ∷ ks) vs h k = absurd (omega (arith, h))
held-four t (a ∷ b ∷ c ∷ d ∷ []) [] h k = absurd (omega (arith, k))
held-four t (a ∷ b ∷ c ∷ d ∷ []) (w ∷ []) h k = absurd (omega (arith, k))
held-four t (a ∷ b ∷ c ∷ d ∷ []) (w ∷ x ∷ []) h k = absurd (omega (arith, k))
held-four t (a ∷ b ∷ c ∷ d ∷ []) (w ∷ x ∷ y ∷ []) h k = absurd (omega (arith, k))
held-four t (a ∷ b ∷ c ∷ d ∷ []) (w ∷ x ∷ y ∷ z ∷ e ∷ vs) h k = absurd (omega (arith, k))

-- a volume of the column fits
fits : (vs : List ℕ) (i : ℕ) → sum vs ≤ 64000000 → get_or vs i 0 < 4294967296
unfolding sum
fits [] i h = omega arith
fits (v ∷ vs) zero h = omega (arith, h)
fits (v ∷ vs) (suc i) h = fits vs i (omega (arith, h))

pub column-held : (t : ℕ → Bool) (ks vs : List ℕ) (a b c d : ℕ) → length ks ≡ 4 → Columns ks vs
    → a ≡ 4294967296 * get_or ks 0 0 + get_or vs 0 0 → b ≡ 4294967296 * get_or ks 1 0 + get_or vs 1 0
    → c ≡ 4294967296 * get_or ks 2 0 + get_or vs 2 0 → d ≡ 4294967296 * get_or ks 3 0 + get_or vs 3 0
    → held t ks vs ≡ held_all t (four a b c d)
unfolding held_all
column-held t ks vs a b c d long columns ea eb ec ed =
    let one : (x i : ℕ) → x ≡ 4294967296 * get_or ks i 0 + get_or vs i 0 → held_one t x ≡ (if t (get_or ks i 0) then get_or vs i 0 else 0) =
    λ x i e. one-packed t x (get_or ks i 0) (get_or vs i 0) e (fits vs i columns.small) in
    held-four t ks vs long (sym columns.even ∙ long)
    ∙ (λ i. sym (one a 0 ea) i + (sym (one b 1 eb) i + (sym (one c 2 ec) i + (sym (one d 3 ed) i + 0))))
