-- The wanted tags one by one, and the table that they make.
use Rattle.std.specs.Prelude.{if◌then◌else◌}
use Prim.Native.Nat.{ℕ, zero, suc, ◌+◌, ◌≤◌, ◌<◌}
use native.Mathlib.Omega.{arith}
use native.Mathlib.Numerals.{add-one}
use mathlib.Core.Path.{◌≡◌, refl, sym, ap, ◌∙◌}
use mathlib.Core.Bool.{Bool, true, false, ◌&&◌, ◌||◌, not, true≢false}
use mathlib.Core.List.{List, [], ◌∷◌, ◌++◌, append-nil, append_assoc}
use borrow.Author.Tests.{eqb-true, eqb-false, eq-eqb, leb-true, ltb-true, le-leb, lt-leb, lt-ltb, le-ltb, not-true}
use lib.Dec.{eqb, leb, ltb}
use lib.ListN.{length, get_or, take, drop, set, replicate, length-append, length-set, length-replicate, get_or-replicate}
use lib.Seq.{take-suc, drop-cons, take-length, length-take-le, get_or-set_same, get_or-set_other, drop-length}
use Rattle.lists.specs.Lists.{any}
use Rattle.lists.proofs.Lists.{both}
use Rattle.fix_scan_rules.specs.Wanted.{reserved, wanted_from, wanted_tags, place_from, slot_for}
use Rattle.fix_tag_spans.specs.Slots.{SlotTable, SlotsMade}

-- ---- one tag more
pub record Next (earlier : List ℕ) (t : ℕ) (ts : List ℕ) : Type 0 where
  pub small : t ≤ 999
  pub few : length earlier < 100
  pub free : reserved t ≡ false
  pub new : any (eqb t) earlier ≡ false
  pub rest : wanted_from (earlier ++ (t ∷ [])) ts ≡ true

pub next : (earlier : List ℕ) (t : ℕ) (ts : List ℕ) → wanted_from earlier (t ∷ ts) ≡ true → Next earlier t ts
unfolding wanted_from
next earlier t ts h =
    let a = both (leb t 999 && ltb (length earlier) 100 && (not (reserved t) && not (any (eqb t) earlier))) (wanted_from (earlier ++ (t ∷ [])) ts) h in
    let b = both (leb t 999 && ltb (length earlier) 100) (not (reserved t) && not (any (eqb t) earlier)) a.0 in
    let c = both (leb t 999) (ltb (length earlier) 100) b.0 in
    let d = both (not (reserved t)) (not (any (eqb t) earlier)) b.1 in
    record {
      small = leb-true t 999 c.0;
      few = ltb-true (length earlier) 100 c.1;
      free = not-true (reserved t) d.0;
      new = not-true (any (eqb t) earlier) d.1;
      rest = a.1;
    }

-- ---- places
pub place_other : (n t v : ℕ) (us : List ℕ) → eqb t v ≡ false → place_from n t (us ++ (v ∷ [])) ≡ place_from n t us
unfolding place_from
place_other n t v [] h = rw h refl
place_other n t v (u ∷ us) h = ap (λ (m : ℕ). if eqb t u then n else m) (place_other (suc n) t v us h)

or_parts : (a b : Bool) → a || b ≡ false → (a ≡ false) × (b ≡ false)
or_parts true b h = absurd (true≢false h)
or_parts false b h = (refl, h)

pub place_last : (n v : ℕ) (us : List ℕ) → any (eqb v) us ≡ false → place_from n v (us ++ (v ∷ [])) ≡ n + length us
unfolding place_from any
place_last n v [] h = rw (eq-eqb v v refl) (omega arith)
place_last n v (u ∷ us) h =
    let o = or_parts (eqb v u) (any (eqb v) us) h in
    rw o.0 (place_last (suc n) v us o.1 ∙ omega arith)

pub place_none : (n t : ℕ) (us : List ℕ) → any (eqb t) us ≡ false → place_from n t us ≡ 0
unfolding place_from any
place_none n t [] h = refl
place_none n t (u ∷ us) h = let o = or_parts (eqb t u) (any (eqb t) us) h in rw o.0 (place_none (suc n) t us o.1)

pub place-zero : (n t : ℕ) (us : List ℕ) → place_from (suc n) t us ≡ 0 → any (eqb t) us ≡ false
unfolding place_from any
place-zero n t [] h = refl
place-zero n t (u ∷ us) h = by (eqb t u) (place-zero (suc n) t us) h
  where
    by : (d : Bool) → (place_from (suc (suc n)) t us ≡ 0 → any (eqb t) us ≡ false) → (if d then suc n else place_from (suc (suc n)) t us) ≡ 0
        → d || any (eqb t) us ≡ false
    by true again h = absurd (omega arith)
    by false again h = again h

pub record Placed (n s t : ℕ) (us : List ℕ) : Type 0 where
  pub index : ℕ
  pub inside : index < length us
  pub place : s ≡ n + index
  pub is : get_or us index 0 ≡ t

pub placed : (n t : ℕ) (us : List ℕ) → (place_from n t us ≡ 0 → ⊥) → Placed n (place_from n t us) t us
unfolding place_from
placed n t [] h = absurd (h refl)
placed n t (u ∷ us) h = by (eqb t u) refl (placed (suc n) t us) h
  where
    by : (d : Bool) → eqb t u ≡ d → ((place_from (suc n) t us ≡ 0 → ⊥) → Placed (suc n) (place_from (suc n) t us) t us) → ((if d then n else place_from (suc n) t us) ≡ 0 → ⊥) → Placed n (if d then n else place_from (suc n) t us) t (u ∷ us)
    by true e again h = record { index = 0; inside = omega arith; place = omega arith; is = sym (eqb-true t u e) }
    by false e again h =
        let p = again h in
        record { index = suc p.index; inside = omega (arith, p.inside); place = p.place ∙ omega arith; is = p.is }

-- ---- a tag of the list
pub record Wanted (u i : ℕ) (tags : List ℕ) : Type 0 where
  pub small : u ≤ 999
  pub free : reserved u ≡ false
  pub place : place_from 1 u tags ≡ 1 + i

place_at : (n u i : ℕ) (us : List ℕ) → i < length us → get_or us i 0 ≡ u → any (eqb u) (take i us) ≡ false → place_from n u us ≡ n + i
unfolding place_from any
place_at n u i [] l e h = absurd (omega arith)
place_at n u zero (v ∷ us) l e h = rw (eq-eqb u v (sym e)) (omega arith)
place_at n u (suc i) (v ∷ us) l e h =
    let o = or_parts (eqb u v) (any (eqb u) (take i us)) h in
    rw o.0 (place_at (suc n) u i us (omega arith) e o.1 ∙ omega arith)

record Listed (earlier ts : List ℕ) (i : ℕ) : Type 0 where
  small : get_or ts i 0 ≤ 999
  free : reserved (get_or ts i 0) ≡ false
  new : any (eqb (get_or ts i 0)) (earlier ++ take i ts) ≡ false

listed : (earlier ts : List ℕ) → wanted_from earlier ts ≡ true → (i : ℕ) → i < length ts → Listed earlier ts i
listed earlier [] h i l = absurd (omega arith)
listed earlier (t ∷ ts) h zero l =
    let n = next earlier t ts h in
    record { small = n.small; free = n.free; new = ap (any (eqb t)) (append-nil earlier) ∙ n.new }
listed earlier (t ∷ ts) h (suc i) l =
    let n = next earlier t ts h in
    let r = listed (earlier ++ (t ∷ [])) ts n.rest i (omega arith) in
    record { small = r.small; free = r.free; new = ap (any (eqb (get_or ts i 0))) (sym (append_assoc earlier (t ∷ []) (take i ts))) ∙ r.new }

pub wanted : (tags : List ℕ) → wanted_tags tags ≡ true → (i : ℕ) → i < length tags → Wanted (get_or tags i 0) i tags
wanted tags h i l =
    let r = listed [] tags h i l in
    record { small = r.small; free = r.free; place = place_at 1 (get_or tags i 0) i tags l refl r.new }

few_from : (earlier ts : List ℕ) → wanted_from earlier ts ≡ true → length earlier ≤ 100 → length earlier + length ts ≤ 100
few_from earlier [] h l = omega arith
few_from earlier (t ∷ ts) h l =
    let n = next earlier t ts h in
    omega (arith, few_from (earlier ++ (t ∷ [])) ts n.rest (omega (arith, n.few, length-append earlier (t ∷ []))), length-append earlier (t ∷ []))

pub few : (tags : List ℕ) → wanted_tags tags ≡ true → length tags ≤ 100
few tags h = omega (arith, few_from [] tags h (omega arith))

pub place_few : (tags : List ℕ) → wanted_tags tags ≡ true → (t : ℕ) → place_from 1 t tags ≤ 100
place_few tags h t = by (eqb (place_from 1 t tags) 0) refl
  where
    by : (d : Bool) → eqb (place_from 1 t tags) 0 ≡ d → place_from 1 t tags ≤ 100
    by true e = omega (arith, eqb-true (place_from 1 t tags) 0 e)
    by false e =
        let p = placed 1 t tags (eqb-false (place_from 1 t tags) 0 e) in
        omega (arith, p.place, p.inside, few tags h)

-- ---- the table, tag by tag
pub slot_free : (us : List ℕ) (t : ℕ) → slot_for us t ≡ 0 → (reserved t ≡ false) × (any (eqb t) us ≡ false)
unfolding slot_for
slot_free us t h = by (reserved t) refl h
  where
    by : (d : Bool) → reserved t ≡ d → (if d then 255 else place_from 1 t us) ≡ 0 → (reserved t ≡ false) × (any (eqb t) us ≡ false)
    by true e h = absurd (omega arith)
    by false e h = (e, place-zero 0 t us h)

slot-used : (us : List ℕ) (t : ℕ) → (slot_for us t ≡ 0 → ⊥) → not (reserved t) && not (any (eqb t) us) ≡ false
unfolding slot_for
slot-used us t h = by (reserved t) (any (eqb t) us) refl h
  where
    by : (d e : Bool) → any (eqb t) us ≡ e → ((if d then 255 else place_from 1 t us) ≡ 0 → ⊥) → not d && not e ≡ false
    by true e q h = refl
    by false true q h = refl
    by false false q h = absurd (h (place_none 1 t us q))

pub record SlotsUpTo (tags slots : List ℕ) (i : ℕ) : Type 0 where
  pub inside : i ≤ length tags
  pub size : length slots ≡ 1000
  pub ahead : wanted_tags tags ≡ wanted_from (take i tags) (drop i tags)
  pub table : SlotTable (take i tags) slots

get_set : (l : List ℕ) (i a t : ℕ) → i < length l → get_or (set l i a) t 0 ≡ (if eqb t i then a else get_or l t 0)
get_set l i a t h = by (eqb t i) refl
  where
    by : (d : Bool) → eqb t i ≡ d → get_or (set l i a) t 0 ≡ (if d then a else get_or l t 0)
    by true e = ap (λ (n : ℕ). get_or (set l i a) n 0) (eqb-true t i e) ∙ get_or-set_same l i a 0 h
    by false e = get_or-set_other l i t a 0 (eqb-false t i e)

five : (a b c d e : Bool) (z : ℕ) → z ≡ 0 → (if a then 255 else if b then 255 else if c then 255 else if d then 255 else if e then 255 else z)
    ≡ (if a || b || c || d || e then 255 else 0)
five true b c d e z h = refl
five false true c d e z h = refl
five false false true d e z h = refl
five false false false true e z h = refl
five false false false false true z h = refl
five false false false false false z h = h

pub start_length : (l : List ℕ) (x : ℕ) → length (set (set (set (set (set l 35 x) 10 x) 9 x) 8 x) 0 x) ≡ length l
start_length l x =
    length-set (set (set (set (set l 35 x) 10 x) 9 x) 8 x) 0 x ∙ length-set (set (set (set l 35 x) 10 x) 9 x) 8 x ∙ length-set (set (set l 35 x) 10 x) 9 x
    ∙ length-set (set l 35 x) 10 x ∙ length-set l 35 x

module _ (n : ℕ) (l : List ℕ) (e : l ≡ replicate n 0) (big : n ≡ 1000) where
  long : length l ≡ 1000
  long = ap length e ∙ length-replicate n 0 ∙ big

  zero_at : (t : ℕ) → t < 1000 → get_or l t 0 ≡ 0
  zero_at t h = ap (λ (m : List ℕ). get_or m t 0) e ∙ get_or-replicate n t 0 0 (omega arith)

  pub no_tags : (tags : List ℕ) → SlotsUpTo tags (set (set (set (set (set l 35 255) 10 255) 9 255) 8 255) 0 255) 0
  unfolding slot_for place_from
  no_tags tags =
      record {
        inside = omega arith;
        size = start_length l 255 ∙ long;
        ahead = refl;
        table = λ t h.
            get_set (set (set (set (set l 35 255) 10 255) 9 255) 8 255) 0 255 t (small 0 (omega arith))
            ∙ ap (λ (z : ℕ). if eqb t 0 then 255 else z)
            (get_set (set (set (set l 35 255) 10 255) 9 255) 8 255 t (small₁ 8 (omega arith))
            ∙ ap (λ (z : ℕ). if eqb t 8 then 255 else z)
            (get_set (set (set l 35 255) 10 255) 9 255 t (small₂ 9 (omega arith))
            ∙ ap (λ (z : ℕ). if eqb t 9 then 255 else z)
            (get_set (set l 35 255) 10 255 t (small₃ 10 (omega arith))
            ∙ ap (λ (z : ℕ). if eqb t 10 then 255 else z) (get_set l 35 255 t (omega (arith, long))))))
            ∙ five (eqb t 0) (eqb t 8) (eqb t 9) (eqb t 10) (eqb t 35) (get_or l t 0) (zero_at t h);
      }
    where
      small₃ : (i : ℕ) → i < 1000 → i < length (set l 35 255)
      small₃ i h = omega (arith, long, length-set l 35 255)

      small₂ : (i : ℕ) → i < 1000 → i < length (set (set l 35 255) 10 255)
      small₂ i h = omega (arith, small₃ i h, length-set (set l 35 255) 10 255)

      small₁ : (i : ℕ) → i < 1000 → i < length (set (set (set l 35 255) 10 255) 9 255)
      small₁ i h = omega (arith, small₂ i h, length-set (set (set l 35 255) 10 255) 9 255)

      small : (i : ℕ) → i < 1000 → i < length (set (set (set (set l 35 255) 10 255) 9 255) 8 255)
      small i h = omega (arith, small₁ i h, length-set (set (set (set l 35 255) 10 255) 9 255) 8 255)

module _ (tags slots : List ℕ) (i : ℕ) (S : SlotsUpTo tags slots i) where
  pub all_done : length tags ≤ i → SlotsMade tags slots true
  unfolding wanted_from
  all_done h =
      let same : i ≡ length tags = omega (arith, S.inside) in
      record {
        right = sym (S.ahead ∙ ap (λ (n : ℕ). wanted_from (take n tags) (drop n tags)) same ∙ ap (wanted_from (take (length tags) tags)) (drop-length tags));
        table = λ _ t l. S.table t l ∙ ap (λ (us : List ℕ). slot_for us t) (ap (λ (n : ℕ). take n tags) same ∙ take-length tags);
      }

  module _ (h : i < length tags) where
    this : ℕ
    this = get_or tags i 0

    ahead_is : wanted_tags tags ≡ wanted_from (take i tags) (this ∷ drop (suc i) tags)
    unfolding this
    ahead_is = S.ahead ∙ ap (wanted_from (take i tags)) (drop-cons tags i 0 h)

    seen-length : length (take i tags) ≡ i
    seen-length = length-take-le i tags S.inside

    refuse : (slots' : List ℕ) → wanted_from (take i tags) (this ∷ drop (suc i) tags) ≡ false → SlotsMade tags slots' false
    refuse slots' e = record { right = sym (ahead_is ∙ e); table = λ z. absurd (true≢false (sym z)) }

    pub too_large : 999 < get_or tags i 0 → SlotsMade tags slots false
    unfolding this wanted_from
    too_large g = refuse slots (rw (lt-leb this 999 g) refl)

    pub too_many : 99 < i → SlotsMade tags slots false
    unfolding this wanted_from
    too_many g = refuse slots (rw (le-ltb (length (take i tags)) 100 (omega (arith, seen-length))) (by (leb this 999)))
      where
        by : (a : Bool) → a && false && (not (reserved this) && not (any (eqb this) (take i tags))) && wanted_from (take i tags ++ (this ∷ [])) (drop (suc i) tags) ≡ false
        by true = refl
        by false = refl

    pub not_free : get_or tags i 0 ≤ 999 → (get_or slots (get_or tags i 0) 0 ≡ 0 → ⊥) → SlotsMade tags slots false
    unfolding this wanted_from
    not_free s n =
        refuse slots
        (rw (slot-used (take i tags) this (λ e. n (S.table this (omega arith) ∙ e))) (by (leb this 999) (ltb (length (take i tags)) 100)))
      where
        by : (a b : Bool) → a && b && false && wanted_from (take i tags ++ (this ∷ [])) (drop (suc i) tags) ≡ false
        by true true = refl
        by true false = refl
        by false b = refl

    pub one_more : get_or tags i 0 ≤ 999 → i ≤ 99 → get_or slots (get_or tags i 0) 0 ≡ 0 → SlotsUpTo tags (set slots (get_or tags i 0) (i + 1)) (i + 1)
    unfolding this wanted_from slot_for
    one_more s f z =
        let free = slot_free (take i tags) this (sym (S.table this (omega arith)) ∙ z) in
        record {
          inside = omega arith;
          size = length-set slots this (i + 1) ∙ S.size;
          ahead =
              ahead_is
              ∙ rw (le-leb this 999 s, lt-ltb (length (take i tags)) 100 (omega (arith, seen-length)), free.0, free.1) refl
              ∙ (λ j. wanted_from (sym (take-suc tags i 0 h) j) (drop (suc i) tags))
              ∙ ap (λ (n : ℕ). wanted_from (take n tags) (drop n tags)) (sym (add-one i));
          table = λ t l.
              get_set slots this (i + 1) t (omega (arith, S.size)) ∙ by t l (eqb t this) refl
              ∙ ap (λ (us : List ℕ). slot_for us t) (sym (take-suc tags i 0 h) ∙ ap (λ (n : ℕ). take n tags) (sym (add-one i)));
        }
      where
        by : (t : ℕ) → t < 1000 → (d : Bool) → eqb t this ≡ d → (if d then i + 1 else get_or slots t 0) ≡ slot_for (take i tags ++ (this ∷ [])) t
        by t l true e =
            let free = slot_free (take i tags) this (sym (S.table this (omega arith)) ∙ z) in
            sym
            (ap (slot_for (take i tags ++ (this ∷ []))) (eqb-true t this e)
            ∙ rw free.0 (place_last 1 this (take i tags) free.1 ∙ omega (arith, seen-length)))
        by t l false e = S.table t l ∙ sym (ap (λ (n : ℕ). if reserved t then 255 else n) (place_other 1 t this (take i tags) e))
