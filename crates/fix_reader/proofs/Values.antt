-- What a slot says: the one value of its tag, or nothing.
use Rattle.std.specs.Prelude.{if◌then◌else◌, Option, None, Some, option_and_then}
use Prim.Native.Nat.{ℕ, ◌+◌, ◌-◌, ◌≤◌, ◌<◌}
use native.Mathlib.Omega.{arith}
use mathlib.Core.Path.{◌≡◌, refl, sym, ap, ◌∙◌}
use mathlib.Core.Bool.{Bool, true, false, ◌&&◌}
use mathlib.Core.List.{List, [], ◌∷◌}
use borrow.Author.Tests.{eq-eqb, ne_eqb}
use lib.Dec.{eqb}
use lib.ListN.{length, get_or, take, drop}
use Rattle.rules.specs.declared.Side.TheVariants.{Buy, Sell}
use Rattle.rules.specs.Fields.{Field, same_bytes, values_of}
use Rattle.rules.specs.Messages.{once, side_in}
use Rattle.fix_fields.specs.Spans.{slot_tag, SlotHolds, Spanned}
use Rattle.fix_reader.specs.Internal.{Filled, only}

-- what is read once is read from the only value
pub once_only : {A : Type 0} (read : List ℕ → Option A) (vs : List (List ℕ)) → option_and_then read (only vs) ≡ once read vs
once_only read [] = refl
once_only read (v ∷ []) = refl
once_only read (v ∷ w ∷ vs) = refl

pub no_once : {A : Type 0} (read : List ℕ → Option A) (vs : List (List ℕ)) → None ≡ only vs → None ≡ once read vs
no_once read vs h = ap (option_and_then read) h ∙ once_only read vs

pub one_once : {A : Type 0} (read : List ℕ → Option A) (vs : List (List ℕ)) (v : List ℕ) → Some v ≡ only vs → read v ≡ once read vs
one_once read vs v h = ap (option_and_then read) h ∙ once_only read vs

module _ (b : List ℕ) (from to : ℕ) where
  nothing : (vs : List (List ℕ)) → SlotHolds b vs from to → from < 2 → None ≡ only vs
  nothing [] h l = refl
  nothing (v ∷ []) h l = absurd (omega (arith, h.0))
  nothing (v ∷ w ∷ vs) h l = refl

  value : (vs : List (List ℕ)) → SlotHolds b vs from to → 2 ≤ from → Some (take (to - from) (drop from b)) ≡ only vs
  value [] h l = absurd (omega arith)
  value (v ∷ []) h l = ap {B = Option (List ℕ)} (λ w. Some w) (sym h.3)
  value (v ∷ w ∷ vs) h l = absurd (omega arith)

  inside : (vs : List (List ℕ)) → SlotHolds b vs from to → 2 ≤ from → (from ≤ to) × (to ≤ length b)
  inside [] h l = absurd (omega arith)
  inside (v ∷ []) h l = (h.1, h.2)
  inside (v ∷ w ∷ vs) h l = absurd (omega arith)

module _ (b spans : List ℕ) (s : ℕ) (small : s < 6) where
  pub absent : get_or spans s 0 < 2 → (fs : List Field) → Spanned b spans fs → None ≡ only (values_of (slot_tag s) fs)
  absent l fs h = nothing b (get_or spans s 0) (get_or spans (s + 8) 0) (values_of (slot_tag s) fs) (h.holds s small) l

  pub present : 2 ≤ get_or spans s 0 → (fs : List Field) → Spanned b spans fs
      → Some (take (get_or spans (s + 8) 0 - get_or spans s 0) (drop (get_or spans s 0) b)) ≡ only (values_of (slot_tag s) fs)
  present l fs h = value b (get_or spans s 0) (get_or spans (s + 8) 0) (values_of (slot_tag s) fs) (h.holds s small) l

  pub bounds : Filled b spans → 2 ≤ get_or spans s 0 → (get_or spans s 0 ≤ get_or spans (s + 8) 0) × (get_or spans (s + 8) 0 ≤ length b)
  bounds f l = inside b (get_or spans s 0) (get_or spans (s + 8) 0) (values_of (slot_tag s) f.fs) (f.spanned.holds s small) l

-- ---- 54
pub side_long : (v : List ℕ) → (length v ≡ 1 → ⊥) → None ≡ side_in v
unfolding side_in same_bytes
side_long [] h = refl
side_long (x ∷ []) h = absurd (h refl)
side_long (x ∷ y ∷ v) h = by (eqb x 49) (eqb x 50)
  where
    by : (a b : Bool) → None ≡ (if a && false then Some Buy else if b && false then Some Sell else None)
    by true true = refl
    by true false = refl
    by false true = refl
    by false false = refl

pub side_buy : (v : List ℕ) → length v ≡ 1 → get_or v 0 0 ≡ 49 → Some Buy ≡ side_in v
unfolding side_in same_bytes
side_buy [] h e = absurd (omega arith)
side_buy (x ∷ []) h e = rw (eq-eqb x 49 e) refl
side_buy (x ∷ y ∷ v) h e = absurd (omega arith)

pub side_sell : (v : List ℕ) → length v ≡ 1 → (get_or v 0 0 ≡ 49 → ⊥) → get_or v 0 0 ≡ 50 → Some Sell ≡ side_in v
unfolding side_in same_bytes
side_sell [] h n e = absurd (omega arith)
side_sell (x ∷ []) h n e = rw (ne_eqb x 49 n, eq-eqb x 50 e) refl
side_sell (x ∷ y ∷ v) h n e = absurd (omega arith)

pub side_other : (v : List ℕ) → length v ≡ 1 → (get_or v 0 0 ≡ 49 → ⊥) → (get_or v 0 0 ≡ 50 → ⊥) → None ≡ side_in v
unfolding side_in same_bytes
side_other [] h n m = absurd (omega arith)
side_other (x ∷ []) h n m = rw (ne_eqb x 49 n, ne_eqb x 50 m) refl
side_other (x ∷ y ∷ v) h n m = absurd (omega arith)
