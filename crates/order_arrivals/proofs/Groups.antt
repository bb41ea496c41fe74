-- Ids with 0 after them, in whole groups: what is found, and what moves up, is the same as among the ids alone.
use Rattle.std.specs.Prelude.{if◌then◌else◌}
use Prim.Native.Nat.{ℕ, zero, suc, ◌+◌, ◌-◌, ◌≤◌, ◌<◌, max}
use native.Mathlib.Omega.{arith}
use mathlib.Core.Path.{◌≡◌, refl, sym, ap, ◌∙◌}
use mathlib.Core.Bool.{Bool, true, false}
use mathlib.Core.List.{List, [], ◌∷◌, ◌++◌, append_assoc}
use lib.Dec.{eqb, ltb}
use lib.ListN.{length, take, drop, set, get_or, replicate, length-drop}
use lib.Seq.{take-suc, drop-cons, get_or-drop, get_or-append-add, set-get_or}
use borrow.Author.Tests.{ne_eqb, ltb-true, ltb-false}
use Rattle.order_side.specs.Slots.{seen_from, column}
use Rattle.order_side.specs.Internal.{shifted}
use Rattle.order_side.proofs.Shifting.{partly, partly-next}

-- ---- 0 after the ids

blank_at : (m d : ℕ) → ◌≡◌ {A = ℕ} (get_or (replicate m 0) d 0) 0
blank_at zero d = refl
blank_at (suc m) zero = refl
blank_at (suc m) (suc d) = blank_at m d

pub behind_ids : (xs : List ℕ) (j : ℕ) → length xs ≤ j → get_or (column xs) j 0 ≡ 0
unfolding column
behind_ids xs j h =
    let at : j ≡ length xs + (j - length xs) = omega arith in
    ap (λ (k : ℕ). get_or (xs ++ replicate (64 - length xs) 0) k 0) at
    ∙ get_or-append-add xs (replicate (64 - length xs) 0) (j - length xs) 0
    ∙ blank_at (64 - length xs) (j - length xs)

-- ---- found

seen-snoc : (n id y : ℕ) (xs : List ℕ) → eqb y id ≡ false → seen_from n id (xs ++ (y ∷ [])) ≡ seen_from n id xs
unfolding seen_from
seen-snoc n id y [] h = ap (λ (b : Bool). (if b then n else 0) + 0) h
seen-snoc n id y (x ∷ xs) h = ap (λ (m : ℕ). (if eqb x id then n else 0) + m) (seen-snoc (n + 1) id y xs h)

module _ (ids : List ℕ) (count : ℕ) (none : (j : ℕ) → count ≤ j → get_or ids j 0 ≡ 0) where
  no_blank : (id : ℕ) → (id ≡ 0 → ⊥) → eqb 0 id ≡ false
  no_blank id h = ne_eqb 0 id (λ e. h (sym e))

  seen_more : (id k : ℕ) → (id ≡ 0 → ⊥) → count + k ≤ length ids → seen_from 1 id (take (count + k) ids) ≡ seen_from 1 id (take count ids)
  seen_more id zero h l = let same : count + 0 ≡ count = omega arith in ap (λ (n : ℕ). seen_from 1 id (take n ids)) same
  seen_more id (suc k) h l =
      let next : count + suc k ≡ suc (count + k) = omega arith in
      ap (λ (n : ℕ). seen_from 1 id (take n ids)) next
      ∙ ap (seen_from 1 id) (take-suc ids (count + k) 0 (omega arith))
      ∙ ap (λ (x : ℕ). seen_from 1 id (take (count + k) ids ++ (x ∷ []))) (none (count + k) (omega arith))
      ∙ seen-snoc 1 id 0 (take (count + k) ids) (no_blank id h)
      ∙ seen_more id k h (omega arith)

  pub seen_wide : (id to : ℕ) → (id ≡ 0 → ⊥) → count ≤ to → to ≤ length ids → seen_from 1 id (take to ids) ≡ seen_from 1 id (take count ids)
  seen_wide id to h l m =
      let at : to ≡ count + (to - count) = omega arith in
      ap (λ (n : ℕ). seen_from 1 id (take n ids)) at ∙ seen_more id (to - count) h (omega arith)

  -- ---- moved up

  shifted_step : (place last : ℕ) → place ≤ last → count ≤ suc last → suc last < length ids → shifted ids place (suc last) ≡ shifted ids place last
  shifted_step place last h c l =
      let n : suc last - place ≡ suc (last - place) = omega arith in
      let at : suc place + (last - place) ≡ suc last = omega arith in
      let long : last - place < length (drop (suc place) ids) = omega (arith, length-drop (suc place) ids) in
      let blank : get_or (drop (suc place) ids) (last - place) 0 ≡ 0 =
      get_or-drop (suc place) ids (last - place) 0 ∙ ap (λ (k : ℕ). get_or ids k 0) at ∙ none (suc last) c in
      let front = take (last - place) (drop (suc place) ids) in
      let rest = drop (suc (suc last)) ids in
      ap (λ (k : ℕ). take place ids ++ (take k (drop (suc place) ids) ++ (0 ∷ rest))) n
      ∙ ap (λ (x : List ℕ). take place ids ++ (x ++ (0 ∷ rest))) (take-suc (drop (suc place) ids) (last - place) 0 long)
      ∙ ap (λ (x : ℕ). take place ids ++ ((front ++ (x ∷ [])) ++ (0 ∷ rest))) blank
      ∙ ap (λ (x : List ℕ). take place ids ++ x) (append_assoc front (0 ∷ []) (0 ∷ rest))
      ∙ ap (λ (x : ℕ). take place ids ++ (front ++ (0 ∷ x ∷ rest))) (sym (none (suc last) c))
      ∙ ap (λ (x : List ℕ). take place ids ++ (front ++ (0 ∷ x))) (sym (drop-cons ids (suc last) 0 l))

  shifted-more : (place last k : ℕ) → place ≤ last → count ≤ suc last → last + k < length ids → shifted ids place (last + k) ≡ shifted ids place last
  shifted-more place last zero h c l = let same : last + 0 ≡ last = omega arith in ap (shifted ids place) same
  shifted-more place last (suc k) h c l =
      let next : last + suc k ≡ suc (last + k) = omega arith in
      ap (shifted ids place) next
      ∙ shifted_step place (last + k) (omega arith) (omega arith) (omega arith)
      ∙ shifted-more place last k h c (omega arith)

  pub shifted_wide : (place last to : ℕ) → place ≤ last → count ≤ suc last → last ≤ to → to < length ids → shifted ids place to ≡ shifted ids place last
  shifted_wide place last to h c l m =
      let at : to ≡ last + (to - last) = omega arith in
      ap (shifted ids place) at ∙ shifted-more place last (to - last) h c (omega arith)

-- ---- a turn of the loop: before the place each word stays, from it on the next one moves up

pub turn : (place i : ℕ) (before xs : List ℕ) (stays : Bool) (v : ℕ) → xs ≡ partly place (max place i) before → i + 1 < length before
    → stays ≡ ltb i place → v ≡ (if stays then get_or xs i 0 else get_or xs (i + 1) 0) → set xs i v ≡ partly place (max place (i + 1)) before
turn place i before xs stays v e l s w = go (ltb i place) refl
  where
    go : (b : Bool) → ltb i place ≡ b → set xs i v ≡ partly place (max place (i + 1)) before
    go true h =
        let k : i < place = ltb-true i place h in
        let same : max place i ≡ max place (i + 1) = omega arith in
        ap (set xs i) (w ∙ ap (λ (b : Bool). if b then get_or xs i 0 else get_or xs (i + 1) 0) (s ∙ h))
        ∙ set-get_or xs i 0
        ∙ e
        ∙ ap (λ (n : ℕ). partly place n before) same
    go false h =
        let k : place ≤ i = ltb-false i place h in
        let here : max place i ≡ i = omega arith in
        let next : i + 1 ≡ max place (i + 1) = omega arith in
        ap (set xs i) (w ∙ ap (λ (b : Bool). if b then get_or xs i 0 else get_or xs (i + 1) 0) (s ∙ h))
        ∙ partly-next place i before xs (e ∙ ap (λ (n : ℕ). partly place n before) here) k l
        ∙ ap (λ (n : ℕ). partly place n before) next
