-- What `best` means, and when it stays.
use Rattle.std.specs.Prelude.{if◌then◌else◌, None, Option, Some}
use Prim.Native.Nat.{ℕ, ◌+◌}
use native.Mathlib.Omega.{arith}
use mathlib.Core.Path.{◌≡◌, refl, sym, ap, ◌∙◌, subst, fun_ext}
use mathlib.Core.Logic.{◌↔◌}
use mathlib.Core.List.Memᴰ
use mathlib.Core.List.{List, [], ◌∷◌, ◌++◌, map, map-append, Memᴰ}
use mathlib.Core.Bool.{Bool, true, false, false≢true}
use lib.Dec.{leb}
use lib.IntN.{ℤ}
use Rattle.rules.specs.declared.Side.{Side}
use Rattle.rules.specs.declared.Order.{Order}
use Rattle.rules.specs.declared.Steps.{Steps}
use Rattle.lists.specs.Lists.{sum, filter}
use Rattle.rules.specs.Quotes.{same, at_least, in_depth, volume_of, depth, qualifies, better, lead, best, Means}
use Rattle.lists.proofs.Lists.{sum-append, filter-append, filter-filter, kept_in_lem, in_kept, both}
use Rattle.rules.proofs.Prices.{at_least_refl, at_least_trans, at_least-total, at_least_antisym}

-- ---- depth, order by order

pub depth-append : (s : Side) (p : ℤ) (xs ys : List Order) → depth s p (xs ++ ys) ≡ depth s p xs + depth s p ys
unfolding depth
depth-append s p xs ys = rw (filter-append, map-append, sum-append) refl

pub depth-one : (s : Side) (p : ℤ) (o : Order) → depth s p (o ∷ []) ≡ (if in_depth s p o then o.volume.0 else 0)
unfolding depth filter sum
depth-one s p o = go (in_depth s p o)
  where
    go : (b : Bool) → sum (map volume_of (if b then o ∷ [] else [])) ≡ (if b then o.volume.0 else 0)
    go true = omega arith
    go false = refl

-- ---- what the lead means

-- of the price of each order
abbrev Leads : Side → List Order → Option Steps → Type 0
Leads s xs None = (o : Order) → Memᴰ o xs → ⊥
Leads s xs (Some p) =
    ((o : Order) × Memᴰ o xs × (o.price ≡ p)) × ((o : Order) → Memᴰ o xs → at_least s p.0 o.price.0 ≡ true)

leads : (s : Side) (xs : List Order) → Leads s xs (lead s xs)
unfolding lead
leads s [] = λ o h. Memᴰ.not-nil h
leads s (x ∷ xs) = first (lead s xs) (leads s xs)
  where
    all : (p : ℤ) → at_least s p x.price.0 ≡ true → ((o : Order) → Memᴰ o xs → at_least s p o.price.0 ≡ true)
        → (o : Order) → Memᴰ o (x ∷ xs) → at_least s p o.price.0 ≡ true
    all p e h o (Memᴰ.head q) = rw q e
    all p e h o (Memᴰ.tail k) = h o k

    choose : (q : Steps) (b : Bool) → at_least s x.price.0 q.0 ≡ b → Leads s xs (Some q) → Leads s (x ∷ xs) (if b then Some x.price else Some q)
    choose q true e h =
        ((x, Memᴰ.head refl, refl), all x.price.0 (at_least_refl s x.price.0) (λ o k. at_least_trans s x.price.0 q.0 o.price.0 e (h.1 o k)))
    choose q false e h =
        ((h.0.0, Memᴰ.tail h.0.1, h.0.2), all q.0 (at_least-total s x.price.0 q.0 e) h.1)

    first : (y : Option Steps) → Leads s xs y → Leads s (x ∷ xs) (better s (Some x.price) y)
    first None h = ((x, Memᴰ.head refl, refl), all x.price.0 (at_least_refl s x.price.0) (λ o k. absurd (h o k)))
    first (Some q) h = choose q (at_least s x.price.0 q.0) refl h

-- `best` means what the paper says ..
pub means : (s : Side) (m : ℕ) (orders : List Order) → Means s m orders (best s m orders)
unfolding best
means s m orders = go (lead s (filter ok orders)) (leads s (filter ok orders))
  where
    ok : Order → Bool
    ok = qualifies s m orders

    fails : (o : Order) (b : Bool) → ok o ≡ b → (ok o ≡ true → ⊥) → ok o ≡ false
    fails o true e h = absurd (h e)
    fails o false e h = e

    go : (y : Option Steps) → Leads s (filter ok orders) y → Means s m orders y
    go None h = λ o k. fails o (ok o) refl (λ e. h o (in_kept ok k e))
    go (Some p) h =
        let k = kept_in_lem ok orders h.0.1 in
        ((h.0.0, k.0, k.1, h.0.2), λ o k e. h.1 o (in_kept ok k e))

-- .. and is the only quote that does
pub meant : (s : Side) (m : ℕ) (orders : List Order) (q : Option Steps) → Means s m orders q → q ≡ best s m orders
meant s m orders q h = go q (best s m orders) h (means s m orders)
  where
    go : (x y : Option Steps) → Means s m orders x → Means s m orders y → x ≡ y
    go None None h k = refl
    go None (Some q) h k = absurd (false≢true (sym (h k.0.0 k.0.1) ∙ k.0.2))
    go (Some p) None h k = absurd (false≢true (sym (k h.0.0 h.0.1) ∙ h.0.2))
    go (Some p) (Some q) h k =
        let a : at_least s p.0 q.0 ≡ true = rw (← k.0.3) (h.1 k.0.0 k.0.1 k.0.2) in
        let b : at_least s q.0 p.0 ≡ true = rw (← h.0.3) (k.1 h.0.0 h.0.1 h.0.2) in
        ap (λ (z : ℤ). Some (record { 0 = z })) (at_least_antisym s p.0 q.0 a b)

-- absent exactly when no order of the side qualifies
pub absent : (s : Side) (m : ℕ) (orders : List Order)
    → (best s m orders ≡ None) ↔ ((o : Order) → Memᴰ o orders → qualifies s m orders o ≡ false)
absent s m orders = (λ e. subst (Means s m orders) e (means s m orders), λ h. sym (meant s m orders None h))

-- ---- the orders of its side alone

-- the orders of the other side do not matter, be the quote present or absent
abbrev pub sided : Side → Order → Bool
sided s o = same s o.side

one-depth : (s : Side) (m : ℕ) (xs : List Order) (o : Order) → qualifies s m xs o ≡ qualifies s m (filter (sided s) xs) o
unfolding qualifies depth
one-depth s m xs o =
    let deeper = filter-filter (in_depth s o.price.0) (sided s) (λ x h. (both (same s x.side) (at_least s x.price.0 o.price.0) h).0) xs in
    rw deeper refl

alone : (s : Side) (m : ℕ) (xs : List Order) → best s m xs ≡ best s m (filter (sided s) xs)
unfolding best qualifies
alone s m xs =
    let ok = qualifies s m (filter (sided s) xs) in
    ap (λ (t : Order → Bool). lead s (filter t xs)) (fun_ext (one-depth s m xs))
    ∙ ap (lead s) (sym (filter-filter ok (sided s) (λ o h. (both (same s o.side) (leb m (depth s o.price.0 (filter (sided s) xs))) h).0) xs))

pub one_side : (s : Side) (m : ℕ) (xs ys : List Order) → filter (sided s) xs ≡ filter (sided s) ys → best s m xs ≡ best s m ys
one_side s m xs ys e = alone s m xs ∙ ap (best s m) e ∙ sym (alone s m ys)
