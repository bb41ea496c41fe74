-- Laws of the live orders: one more event; what each event does to their number, ids, prices and volumes; and what it does by position.
use Rattle.std.specs.Prelude.{if◌then◌else◌}
use Prim.Native.Nat.{ℕ, zero, suc, ◌-◌, ◌≤◌, ◌<◌}
use native.Mathlib.Omega.{arith}
use native.Mathlib.Nat.{not-suc-le-zero, le_of_suc-le-suc}
use mathlib.Core.Path.{◌≡◌, refl, sym, ap, ◌∙◌, subst}
use mathlib.Core.Logic.{⊎_elim}
use mathlib.Core.List.Memᴰ
use mathlib.Core.List.{List, [], ◌∷◌, ◌++◌, map, map-append, Memᴰ}
use mathlib.Core.Bool.{Bool, true, false, true≢false, not}
use lib.Dec.{eqb}
use lib.ListN.{length, get_or, take, drop, set, length-append, length-map, take-append-drop}
use lib.Seq.{split_at, set_split}
use borrow.Author.Tests.{not-true, ltb-true, lt-ltb, le-ltb, eqb-true, eqb-false, ne_eqb}
use Rattle.rules.specs.declared.Side.{Side}
use Rattle.rules.specs.declared.Order.{Order}
use Rattle.rules.specs.declared.Millis.{Millis}
use Rattle.rules.specs.declared.Steps.{Steps}
use Rattle.rules.specs.declared.Contracts.{Contracts}
use Rattle.rules.specs.declared.Event.{Event}
use Rattle.rules.specs.declared.Event.TheVariants.{Add, Amend, Cancel, Deal}
use Rattle.lists.specs.Lists.{filter, any}
use Rattle.rules.specs.Units.{contracts}
use Rattle.rules.specs.Orders.{has_id, is_live, left, amended_order, lessened_order, something_left, apply, apply_all, live, time_of, time_from, present}
use Rattle.rules.specs.Bounds.{Distinct}
use Rattle.lists.proofs.Lists.{filter-append, filter_skip, filter-one, kept_in_lem}
use Rattle.lists.proofs.Members.{or_false, any_append, none_any, some_any, any-filter, length_filter, filter-all, map_same, get_d_in}

-- ---- one more event

apply_all-snoc : (os : List Order) (es : List Event) (e : Event) → apply_all os (es ++ (e ∷ [])) ≡ apply (apply_all os es) e
unfolding apply_all
apply_all-snoc os [] e = refl
apply_all-snoc os (d ∷ es) e = apply_all-snoc (apply os d) es e

pub live-snoc : (es : List Event) (e : Event) → live (es ++ (e ∷ [])) ≡ apply (live es) e
unfolding live
live-snoc es e = apply_all-snoc [] es e

time_from-snoc : (t : ℕ) (es : List Event) (e : Event) → time_from t (es ++ (e ∷ [])) ≡ time_of e
unfolding time_from
time_from-snoc t [] e = refl
time_from-snoc t (d ∷ es) e = time_from-snoc (time_of d) es e

pub present-snoc : (es : List Event) (e : Event) → present (es ++ (e ∷ [])) ≡ time_of e
unfolding present
present-snoc es e = time_from-snoc 0 es e

-- ---- one order, amended or lessened

module _ (id : ℕ) (price : Steps) (volume : Contracts) (o : Order) where
  amended_id : (amended_order id price volume o).id ≡ o.id
  amended_id = go (has_id id o)
    where
      go : (b : Bool) → (if b then record { id = o.id; side = o.side; price = price; volume = volume } else o).id ≡ o.id
      go true = refl
      go false = refl

  amended_that : has_id id o ≡ true
      → amended_order id price volume o ≡ record { id = o.id; side = o.side; price = price; volume = volume }
  amended_that h = rw h refl

  pub amended_other : has_id id o ≡ false → amended_order id price volume o ≡ o
  amended_other h = rw h refl

  -- what holds of the old order, and of the new price and volume
  pub amended_price : (P : Steps → Type 0) → P price → P o.price → P (amended_order id price volume o).price
  amended_price P new old = go (has_id id o)
    where
      go : (b : Bool) → P (if b then record { id = o.id; side = o.side; price = price; volume = volume } else o).price
      go true = new
      go false = old

  pub amended_volume : (P : Contracts → Type 0) → P volume → P o.volume → P (amended_order id price volume o).volume
  amended_volume P new old = go (has_id id o)
    where
      go : (b : Bool) → P (if b then record { id = o.id; side = o.side; price = price; volume = volume } else o).volume
      go true = new
      go false = old

module _ (id volume : ℕ) (o : Order) where
  lessened_id : (lessened_order id volume o).id ≡ o.id
  lessened_id = go (has_id id o)
    where
      go : (b : Bool)
          → (if b then record { id = o.id; side = o.side; price = o.price; volume = contracts (o.volume.0 - volume) } else o).id ≡ o.id
      go true = refl
      go false = refl

  pub lessened_price : (lessened_order id volume o).price ≡ o.price
  lessened_price = go (has_id id o)
    where
      go : (b : Bool)
          → (if b then record { id = o.id; side = o.side; price = o.price; volume = contracts (o.volume.0 - volume) } else o).price ≡ o.price
      go true = refl
      go false = refl

  lessened_that : has_id id o ≡ true
      → lessened_order id volume o ≡ record { id = o.id; side = o.side; price = o.price; volume = contracts (o.volume.0 - volume) }
  lessened_that h = rw h refl

  pub lessened_other : has_id id o ≡ false → lessened_order id volume o ≡ o
  lessened_other h = rw h refl

  pub lessened_volume : (lessened_order id volume o).volume.0 ≤ o.volume.0
  lessened_volume = go (has_id id o)
    where
      go : (b : Bool)
          → (if b then record { id = o.id; side = o.side; price = o.price; volume = contracts (o.volume.0 - volume) } else o).volume.0 ≤ o.volume.0
      go true = omega arith
      go false = omega arith

-- ---- ids

has_id_comm : (o : Order) (id : ℕ) → has_id id o ≡ false → eqb id o.id ≡ false
has_id_comm o id h = ne_eqb id o.id (λ e. eqb-false o.id id h (sym e))

is_live-map : (f : Order → Order) → ((o : Order) → (f o).id ≡ o.id) → (id : ℕ) (os : List Order) → is_live id (map f os) ≡ is_live id os
unfolding is_live any
is_live-map f h id [] = refl
is_live-map f h id (o ∷ os) = rw (h o, is_live-map f h id os) refl

distinct_map : (f : Order → Order) → ((o : Order) → (f o).id ≡ o.id) → (os : List Order) → Distinct os → Distinct (map f os)
distinct_map f h [] d = tt
distinct_map f h (o ∷ os) d = (ap (λ (n : ℕ). is_live n (map f os)) (h o) ∙ is_live-map f h o.id os ∙ d.0, distinct_map f h os d.1)

pub distinct_filter : (p : Order → Bool) (os : List Order) → Distinct os → Distinct (filter p os)
unfolding filter is_live
distinct_filter p [] d = tt
distinct_filter p (o ∷ os) d = go (p o) (distinct_filter p os d.1)
  where
    go : (b : Bool) → Distinct (filter p os) → Distinct (if b then o ∷ filter p os else filter p os)
    go true r = (any-filter (has_id o.id) p os d.0, r)
    go false r = r

distinct_snoc : (os : List Order) (o : Order) → Distinct os → is_live o.id os ≡ false → Distinct (os ++ (o ∷ []))
unfolding is_live any
distinct_snoc [] o d h = (refl, tt)
distinct_snoc (x ∷ os) o d h =
    let k = or_false (has_id o.id x) (is_live o.id os) h in
    let new : is_live x.id (o ∷ []) ≡ false = rw (has_id_comm x o.id k.0) refl in
    (rw (any_append (has_id x.id) os (o ∷ []), d.0) new, distinct_snoc os o d.1 k.1)

-- ---- each event

module _ (os : List Order) (t : Millis) (id : ℕ) where
  module _ (side : Side) (price : Steps) (volume : Contracts) where
    pub length_add : length (apply os (Add t id side price volume)) ≡ suc (length os)
    unfolding apply
    length_add =
        omega (arith, length-append os (record { id = id; side = side; price = price; volume = volume } ∷ []))

    pub distinct_add : Distinct os → is_live id os ≡ false → Distinct (apply os (Add t id side price volume))
    unfolding apply
    distinct_add d h = distinct_snoc os (record { id = id; side = side; price = price; volume = volume }) d h

    -- what holds of each order, and of the new one
    pub all-add : (P : Order → Type 0) → ((o : Order) → Memᴰ o os → P o)
        → P (record { id = id; side = side; price = price; volume = volume })
        → (o : Order) → Memᴰ o (apply os (Add t id side price volume)) → P o
    unfolding apply
    all-add P old new o m =
        ⊎_elim (old o) (λ k. subst P (sym (Memᴰ.eq_of_singleton k)) new) (Memᴰ.append_cases os m)

  module _ (price : Steps) (volume : Contracts) where
    pub length_amend : length (apply os (Amend t id price volume)) ≡ length os
    unfolding apply
    length_amend = length-map os (amended_order id price volume)

    pub distinct_amend : Distinct os → Distinct (apply os (Amend t id price volume))
    unfolding apply
    distinct_amend d = distinct_map (amended_order id price volume) (amended_id id price volume) os d

    pub all_amend : (P : Order → Type 0) → ((o : Order) → Memᴰ o os → P (amended_order id price volume o))
        → (o : Order) → Memᴰ o (apply os (Amend t id price volume)) → P o
    unfolding apply
    all_amend P h o m =
        let (w, k, e) = Memᴰ.of_map (amended_order id price volume) os m in
        subst P e (h w k)

  pub length_cancel : length (apply os (Cancel t id)) ≤ length os
  unfolding apply
  length_cancel = length_filter (λ (o : Order). not (has_id id o)) os

  pub distinct_cancel : Distinct os → Distinct (apply os (Cancel t id))
  unfolding apply
  distinct_cancel d = distinct_filter (λ (o : Order). not (has_id id o)) os d

  -- what is left was there, with another id
  pub in_cancel : (o : Order) → Memᴰ o (apply os (Cancel t id)) → Memᴰ o os × (has_id id o ≡ false)
  unfolding apply
  in_cancel o m =
      let (k, e) = kept_in_lem (λ (o : Order). not (has_id id o)) os m in
      (k, not-true (has_id id o) e)

  module _ (volume : Contracts) where
    pub length_deal : length (apply os (Deal t id volume)) ≤ length os
    unfolding apply
    length_deal =
        omega (arith, length_filter something_left (map (lessened_order id volume.0) os), length-map os (lessened_order id volume.0))

    pub distinct_deal : Distinct os → Distinct (apply os (Deal t id volume))
    unfolding apply
    distinct_deal d =
        distinct_filter something_left (map (lessened_order id volume.0) os) (distinct_map (lessened_order id volume.0) (lessened_id id volume.0) os d)

    -- what is left was there, perhaps with more volume, and has some
    in_deal : (o : Order) → Memᴰ o (apply os (Deal t id volume))
        → (w : Order) × Memᴰ w os × (lessened_order id volume.0 w ≡ o) × (1 ≤ o.volume.0)
    unfolding apply
    in_deal o m =
        let (k, e) = kept_in_lem something_left (map (lessened_order id volume.0) os) m in
        let (w, n, f) = Memᴰ.of_map (lessened_order id volume.0) os k in
        (w, n, f, ltb-true 0 o.volume.0 e)

    pub all_deal : (P : Order → Type 0)
        → ((o : Order) → Memᴰ o os → 1 ≤ (lessened_order id volume.0 o).volume.0 → P (lessened_order id volume.0 o))
        → (o : Order) → Memᴰ o (apply os (Deal t id volume)) → P o
    all_deal P h o m =
        let (w, k, e, l) = in_deal o m in
        let more : 1 ≤ (lessened_order id volume.0 w).volume.0 = rw e l in
        subst P e (h w k more)

-- ---- by position, where the ids are all different

-- the id is live where it is at a position
pub live_at : (id : ℕ) (os : List Order) (k : ℕ) (z : Order) → k < length os → has_id id (get_or os k z) ≡ true → is_live id os ≡ true
unfolding is_live
live_at id os k z h e = some_any (has_id id) (get_d_in os k z h) e

-- no order before it and none after it has its id
alone : (id : ℕ) (os : List Order) (k : ℕ) (z : Order) → Distinct os → k < length os → has_id id (get_or os k z) ≡ true
    → (is_live id (take k os) ≡ false) × (is_live id (drop (suc k) os) ≡ false)
unfolding is_live any
alone id [] k z d h e = absurd (not-suc-le-zero h)
alone id (o ∷ os) zero z d h e = (refl, ap (λ (n : ℕ). is_live n os) (sym (eqb-true o.id id e)) ∙ d.0)
alone id (o ∷ os) (suc k) z d h e =
    let l : k < length os = le_of_suc-le-suc h in
    let (before, behind) = alone id os k z d.1 l e in
    let other : has_id id o ≡ false =
    ne_eqb o.id id (λ q. true≢false (sym (live_at id os k z l e) ∙ ap (λ (n : ℕ). is_live n os) (sym q) ∙ d.0)) in
    (rw other before, behind)

-- orders of other ids stay, and none is kept out
stays : (id : ℕ) (f : Order → Order) → ((o : Order) → has_id id o ≡ false → f o ≡ o) → (os : List Order) → is_live id os ≡ false → map f os ≡ os
unfolding is_live
stays id f same os n = map_same f os (λ o m. same o (none_any (has_id id) m n))

others : (id : ℕ) (os : List Order) → is_live id os ≡ false → filter (λ (o : Order). not (has_id id o)) os ≡ os
unfolding is_live
others id os n = filter-all (λ (o : Order). not (has_id id o)) os (λ o m. ap not (none_any (has_id id) m n))

left_skip : (id : ℕ) (xs ys : List Order) → is_live id xs ≡ false → left id (xs ++ ys) ≡ left id ys
unfolding left is_live any
left_skip id [] ys n = refl
left_skip id (x ∷ xs) ys n =
    let k = or_false (has_id id x) (any (has_id id) xs) n in
    rw k.0 (left_skip id xs ys k.1)

left_here : (id : ℕ) (o : Order) (os : List Order) → has_id id o ≡ true → left id (o ∷ os) ≡ o.volume.0
unfolding left
left_here id o os e = rw e refl

module _ (id : ℕ) (os : List Order) (k : ℕ) (z : Order) (d : Distinct os) (h : k < length os) (e : has_id id (get_or os k z) ≡ true) where
  -- a function that changes no order of another id
  map_at : (f : Order → Order) → ((o : Order) → has_id id o ≡ false → f o ≡ o) → map f os ≡ set os k (f (get_or os k z))
  map_at f same =
      let (before, behind) = alone id os k z d h e in
      ap (map f) (split_at os k z h)
      ∙ map-append f (take k os) (get_or os k z ∷ drop (suc k) os)
      ∙ ap (λ (l : List Order). l ++ f (get_or os k z) ∷ map f (drop (suc k) os)) (stays id f same (take k os) before)
      ∙ ap (λ (l : List Order). take k os ++ f (get_or os k z) ∷ l) (stays id f same (drop (suc k) os) behind)
      ∙ sym (set_split os k (f (get_or os k z)) h)

  pub left_at : left id os ≡ (get_or os k z).volume.0
  left_at =
      ap (left id) (split_at os k z h)
      ∙ left_skip id (take k os) (get_or os k z ∷ drop (suc k) os) (alone id os k z d h e).0
      ∙ left_here id (get_or os k z) (drop (suc k) os) e

  pub amend_at : (price : Steps) (volume : Contracts)
      → map (amended_order id price volume) os
      ≡ set os k (record { id = (get_or os k z).id; side = (get_or os k z).side; price = price; volume = volume })
  amend_at price volume =
      map_at (amended_order id price volume) (amended_other id price volume)
      ∙ ap (set os k) (amended_that id price volume (get_or os k z) e)

  -- keeping those of another id
  pub cancel_at : filter (λ (o : Order). not (has_id id o)) os ≡ take k os ++ drop (suc k) os
  cancel_at =
      let p : Order → Bool = λ (o : Order). not (has_id id o) in
      let (before, behind) = alone id os k z d h e in
      ap (filter p) (split_at os k z h)
      ∙ filter-append p (take k os) (get_or os k z ∷ drop (suc k) os)
      ∙ ap (λ (l : List Order). filter p (take k os) ++ l) (filter_skip p (get_or os k z) (drop (suc k) os) (ap not e) ∙ others id (drop (suc k) os) behind)
      ∙ ap (λ (l : List Order). l ++ drop (suc k) os) (others id (take k os) before)

-- ---- a deal by position, where each volume is at least 1

module _ (id : ℕ) (os : List Order) (k : ℕ) (z : Order) (d : Distinct os) (h : k < length os) (e : has_id id (get_or os k z) ≡ true)
    (some : (o : Order) → Memᴰ o os → 1 ≤ o.volume.0) (t : Millis) (volume : Contracts) where
  -- the order with what is left of it
  lessened : Order
  lessened =
      record { id = (get_or os k z).id; side = (get_or os k z).side; price = (get_or os k z).price; volume = contracts ((get_or os k z).volume.0 - volume.0) }

  lessen_at : map (lessened_order id volume.0) os ≡ set os k lessened
  unfolding lessened
  lessen_at =
      map_at id os k z d h e (lessened_order id volume.0) (lessened_other id volume.0)
      ∙ ap (set os k) (lessened_that id volume.0 (get_or os k z) e)

  -- the parts before and after it are kept whole
  rest : (l : List Order) → ((o : Order) → Memᴰ o l → Memᴰ o os) → filter something_left l ≡ l
  rest l within = filter-all something_left l (λ o m. lt-ltb 0 o.volume.0 (some o (within o m)))

  front : filter something_left (take k os) ≡ take k os
  front = rest (take k os) (λ o m. subst (Memᴰ o) (take-append-drop k os) (Memᴰ.append_left (drop k os) m))

  back : filter something_left (drop (suc k) os) ≡ drop (suc k) os
  back = rest (drop (suc k) os) (λ o m. subst (Memᴰ o) (take-append-drop (suc k) os) (Memᴰ.append_right (take (suc k) os) m))

  around : apply os (Deal t id volume) ≡ take k os ++ (filter something_left (lessened ∷ []) ++ drop (suc k) os)
  unfolding apply
  around =
      ap (filter something_left) (lessen_at ∙ set_split os k lessened h)
      ∙ filter-append something_left (take k os) (lessened ∷ drop (suc k) os)
      ∙ ap (λ (l : List Order). l ++ filter something_left (lessened ∷ drop (suc k) os)) front
      ∙ ap (λ (l : List Order). take k os ++ l) (filter-append something_left (lessened ∷ []) (drop (suc k) os) ∙ ap (λ (l : List Order). filter something_left (lessened ∷ []) ++ l) back)

  -- less than what is left: the order stays, lessened
  pub deal_some : volume.0 < left id os
      → apply os (Deal t id volume)
      ≡ set os k (record { id = (get_or os k z).id; side = (get_or os k z).side; price = (get_or os k z).price; volume = contracts ((get_or os k z).volume.0 - volume.0) })
  unfolding lessened
  deal_some l =
      let more : 0 < (get_or os k z).volume.0 - volume.0 = omega (arith, left_at id os k z d h e) in
      let kept : filter something_left (lessened ∷ []) ≡ lessened ∷ [] =
      filter-one something_left lessened ∙ ap (λ (b : Bool). if b then lessened ∷ [] else []) (lt-ltb 0 ((get_or os k z).volume.0 - volume.0) more) in
      around ∙ ap (λ (l : List Order). take k os ++ (l ++ drop (suc k) os)) kept ∙ sym (set_split os k lessened h)

  -- all that is left: the order goes
  pub deal_all : volume.0 ≡ left id os → apply os (Deal t id volume) ≡ take k os ++ drop (suc k) os
  unfolding lessened
  deal_all l =
      let none : (get_or os k z).volume.0 - volume.0 ≤ 0 = omega (arith, left_at id os k z d h e) in
      let kept : filter something_left (lessened ∷ []) ≡ [] =
      filter-one something_left lessened ∙ ap (λ (b : Bool). if b then lessened ∷ [] else []) (le-ltb 0 ((get_or os k z).volume.0 - volume.0) none) in
      around ∙ ap (λ (l : List Order). take k os ++ (l ++ drop (suc k) os)) kept
