-- The slots after a further field.
use Rattle.std.specs.Prelude.{if◌then◌else◌}
use Prim.Native.Nat.{ℕ, ◌+◌, ◌-◌, ◌≤◌, ◌<◌}
use native.Mathlib.Omega.{arith}
use mathlib.Core.Path.{◌≡◌, refl, sym, ap, ◌∙◌}
use mathlib.Core.Bool.{Bool, true, false}
use mathlib.Core.List.{List, [], ◌∷◌, ◌++◌, append-nil}
use borrow.Author.Tests.{ne_eqb, eq-eqb, eqb-true, eqb-false}
use lib.Dec.{eqb, leb}
use lib.ListN.{length, get_or, take, drop, set, replicate, length-set, get_or-replicate}
use lib.Seq.{get_or-set_same, get_or-set_other}
use Rattle.rules.specs.Digits.{number_from}
use Rattle.rules.specs.Fields.{Field, good_tag, has_tag, values_of}
use Rattle.fix_fields.specs.Tags.{slot_number, slot_of}
use Rattle.fix_fields.specs.Spans.{slot_tag, SlotHolds, Spanned, noted}
use Rattle.fix_fields.proofs.SlotTags.{has_slot}

-- ---- a slot's number
either : (t : Bool) (a b : ℕ) → a < 8 → b < 8 → (if t then a else b) < 8
either true a b h k = h
either false a b h k = k

number-below : (n : ℕ) → slot_number n < 8
unfolding slot_number
number-below n =
    either (eqb n 8) 7 _ (omega arith) (either (eqb n 9) 7 _ (omega arith) (either (eqb n 10) 7 _ (omega arith) (either (eqb n 35) 7 _ (omega arith)
    (either (eqb n 11) 0 _ (omega arith) (either (eqb n 41) 1 _ (omega arith) (either (eqb n 54) 2 _ (omega arith) (either (eqb n 38) 3 _ (omega arith)
    (either (eqb n 44) 4 _ (omega arith) (either (eqb n 60) 5 6 (omega arith) (omega arith))))))))))

pub slot-below : (t : List ℕ) → slot_of t < 8
unfolding slot_of
slot-below t = either (leb (length t) 2) (slot_number (number_from 0 t)) 6 (number-below (number_from 0 t)) (omega arith)

-- ---- values with a field more
values_more : (u : List ℕ) (fs : List Field) (f : Field) (d : Bool) → has_tag u f ≡ d
    → values_of u (fs ++ (f ∷ [])) ≡ values_of u fs ++ (if d then f.value ∷ [] else [])
unfolding values_of
values_more u [] f true e = rw e refl
values_more u [] f false e = rw e refl
values_more u (g ∷ fs) f d e = by (has_tag u g) (values_more u fs f d e)
  where
    by : (t : Bool) → values_of u (fs ++ (f ∷ [])) ≡ values_of u fs ++ (if d then f.value ∷ [] else [])
        → (if t then g.value ∷ values_of u (fs ++ (f ∷ [])) else values_of u (fs ++ (f ∷ [])))
        ≡ (if t then g.value ∷ values_of u fs else values_of u fs) ++ (if d then f.value ∷ [] else [])
    by true h = ap (λ (vs : List (List ℕ)). g.value ∷ vs) h
    by false h = h

-- ---- one slot with a value more
module _ (b : List ℕ) (v : List ℕ) (from to : ℕ) (two : 2 ≤ from) (order : from ≤ to) (fits : to ≤ length b) (is : v ≡ take (to - from) (drop from b)) where
  more-value : (vs : List (List ℕ)) (a z : ℕ) → SlotHolds b vs a z → SlotHolds b (vs ++ (v ∷ [])) (if eqb a 0 then from else 1) to
  more-value [] a z h = rw (eq-eqb a 0 h) (two, order, fits, is)
  more-value (w ∷ []) a z h = rw (ne_eqb a 0 (λ e. omega (arith, h.0))) refl
  more-value (w ∷ x ∷ vs) a z h = rw (ne_eqb a 0 (λ e. omega arith)) refl

-- ---- the slots that are noted
module _ (spans : List ℕ) (slot from to : ℕ) (sixteen : length spans ≡ 16) (small : slot < 8) where
  noted-length : length (noted spans slot from to) ≡ 16
  unfolding noted
  noted-length = length-set (set spans slot (if eqb (get_or spans slot 0) 0 then from else 1)) (slot + 8) to ∙ length-set spans slot (if eqb (get_or spans slot 0) 0 then from else 1) ∙ sixteen

  noted_begin : get_or (noted spans slot from to) slot 0 ≡ (if eqb (get_or spans slot 0) 0 then from else 1)
  unfolding noted
  noted_begin =
      get_or-set_other (set spans slot (if eqb (get_or spans slot 0) 0 then from else 1)) (slot + 8) slot to 0 (λ e. omega arith)
      ∙ get_or-set_same spans slot (if eqb (get_or spans slot 0) 0 then from else 1) 0 (omega arith)

  noted-end : get_or (noted spans slot from to) (slot + 8) 0 ≡ to
  unfolding noted
  noted-end =
      get_or-set_same (set spans slot (if eqb (get_or spans slot 0) 0 then from else 1)) (slot + 8) to 0
      (omega (arith, length-set spans slot (if eqb (get_or spans slot 0) 0 then from else 1)))

  noted_other : (i : ℕ) → (i ≡ slot → ⊥) → (i ≡ slot + 8 → ⊥) → get_or (noted spans slot from to) i 0 ≡ get_or spans i 0
  unfolding noted
  noted_other i h k =
      get_or-set_other (set spans slot (if eqb (get_or spans slot 0) 0 then from else 1)) (slot + 8) i to 0 k
      ∙ get_or-set_other spans slot i (if eqb (get_or spans slot 0) 0 then from else 1) 0 h

-- ---- all slots
pub nothing_yet : (b : List ℕ) → Spanned b (replicate 16 0) []
unfolding values_of
nothing_yet b = record { sixteen = refl; holds = λ s h. get_or-replicate 16 s 0 0 (omega arith) }

pub spanned_more : (b spans : List ℕ) (fs : List Field) (t v : List ℕ) (slot from to : ℕ) → Spanned b spans fs → good_tag t ≡ true → slot ≡ slot_of t
    → 2 ≤ from → from ≤ to → to ≤ length b → v ≡ take (to - from) (drop from b)
    → Spanned b (noted spans slot from to) (fs ++ (record { tag = t; value = v } ∷ []))
spanned_more b spans fs t v slot from to h good is two order fits value =
    record { sixteen = noted-length spans slot from to h.sixteen small; holds = λ s l. by s l (eqb slot s) refl }
  where
    small : slot < 8
    small = rw is (slot-below t)

    has : (s : ℕ) → s < 6 → (d : Bool) → eqb slot s ≡ d → has_tag (slot_tag s) (record { tag = t; value = v }) ≡ d
    has s l d e = has_slot t good s l ∙ ap (λ (n : ℕ). eqb n s) (sym is) ∙ e

    by : (s : ℕ) → s < 6 → (d : Bool) → eqb slot s ≡ d
        → SlotHolds b (values_of (slot_tag s) (fs ++ (record { tag = t; value = v } ∷ []))) (get_or (noted spans slot from to) s 0) (get_or (noted spans slot from to) (s + 8) 0)
    by s l true e =
        let same : slot ≡ s = eqb-true slot s e in
        rw (values_more (slot_tag s) fs (record { tag = t; value = v }) true (has s l true e), ← same, noted_begin spans slot from to h.sixteen small, noted-end spans slot from to h.sixteen small)
        (more-value b v from to two order fits value (values_of (slot_tag slot) fs) (get_or spans slot 0) (get_or spans (slot + 8) 0)
        (rw same (h.holds s l)))
    by s l false e =
        let other : slot ≡ s → ⊥ = eqb-false slot s e in
        rw (
          values_more (slot_tag s) fs (record { tag = t; value = v }) false (has s l false e),
          append-nil (values_of (slot_tag s) fs),
          noted_other spans slot from to h.sixteen small s (λ q. other (sym q)) (λ q. omega arith),
          noted_other spans slot from to h.sixteen small (s + 8) (λ q. omega (arith, small)) (λ q. other (omega arith)),
        )
        (h.holds s l)
