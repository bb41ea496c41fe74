-- A loop over columns, one step further: what the contracts at the keys that pass come to, the best key found, and for how many keys
-- volumes were added up.
use Rattle.std.specs.Prelude.{if◌then◌else◌}
use Prim.Native.Nat.{ℕ, zero, suc, ◌+◌, ◌≤◌, ◌<◌, max}
use native.Mathlib.Omega.{arith}
use native.Mathlib.Numerals.{add-one}
use mathlib.Core.Path.{◌≡◌, refl, sym, ap, ◌∙◌}
use mathlib.Core.List.{List, [], ◌∷◌}
use mathlib.Core.Bool.{Bool, true, false}
use borrow.Author.Tests.{lt-ltb, le-ltb}
use lib.Dec.{ltb}
use lib.ListN.{length, get_or, take}
use lib.Seq.{take-suc, take-length}
use Rattle.lists.specs.Lists.{sum, filter}
use Rattle.lists.proofs.Lists.{filter-append, filter-one}
use Rattle.best_quote.specs.Levels.{held, enough, greatest, found_by}
use Rattle.best_quote.specs.Sums.{key_sums}
use Rattle.best_quote.proofs.Levels.{held_most, greatest-append}
use Rattle.best_quote.proofs.Sums.{sums_next}

-- ---- the contracts at the keys that pass

held-part : (t : ℕ → Bool) (i : ℕ) (ks vs : List ℕ) → held t (take i ks) (take i vs) ≤ held t ks vs
unfolding held
held-part t zero ks vs = omega arith
held-part t (suc i) [] vs = omega arith
held-part t (suc i) (k ∷ ks) [] = omega arith
held-part t (suc i) (k ∷ ks) (v ∷ vs) = omega (arith, held-part t i ks vs)

held-suc : (t : ℕ → Bool) (i : ℕ) (ks vs : List ℕ) → i < length ks → length ks ≡ length vs
    → held t (take i ks) (take i vs) + (if t (get_or ks i 0) then get_or vs i 0 else 0) ≡ held t (take (suc i) ks) (take (suc i) vs)
unfolding held
held-suc t i [] vs h e = omega arith
held-suc t i (k ∷ ks) [] h e = omega arith
held-suc t zero (k ∷ ks) (v ∷ vs) h e = omega arith
held-suc t (suc i) (k ∷ ks) (v ∷ vs) h e = omega (arith, held-suc t i ks vs (omega arith) (omega arith))

-- with the contracts at the next key
module _ (t : ℕ → Bool) (i : ℕ) (ks vs : List ℕ) (h s : ℕ) (more : i < length ks) (even : length ks ≡ length vs)
    (before : h ≡ held t (take i ks) (take i vs)) (volume_where : s ≡ (if t (get_or ks i 0) then get_or vs i 0 else 0)) where
  pub held_next : h + s ≡ held t (take (i + 1) ks) (take (i + 1) vs)
  held_next = rw (before, volume_where, add-one) (held-suc t i ks vs more even)

  pub held_fits : h + s ≤ sum vs
  held_fits =
      omega (arith, held_next, held-part t (i + 1) ks vs, held_most t ks vs)

-- a pair of key and volume, by its place
pub volume_where-at : (t : ℕ → Bool) (i : ℕ) (ks vs : List ℕ) {k v s : ℕ} → k ≡ get_or ks i 0 → v ≡ get_or vs i 0
    → s ≡ (if t k then v else 0) → s ≡ (if t (get_or ks i 0) then get_or vs i 0 else 0)
volume_where-at t i ks vs e f g = g ∙ (λ j. if t (e j) then f j else 0)

-- over all of them
pub held_all : (t : ℕ → Bool) (i : ℕ) (ks vs : List ℕ) (h : ℕ) → i ≡ length ks → length ks ≡ length vs
    → h ≡ held t (take i ks) (take i vs) → h ≡ held t ks vs
held_all t i ks vs h all even e =
    let ends : i ≡ length vs = all ∙ even in
    e ∙ (λ j. held t (take (all j) ks) (take (ends j) vs)) ∙ (λ j. held t (take-length ks j) (take-length vs j))

-- ---- the best key found

greatest-one : (b : Bool) (k : ℕ) → greatest (if b then k ∷ [] else []) ≡ (if b then k else 0)
unfolding greatest
greatest-one true k = omega arith
greatest-one false k = refl

-- by whether there are enough at the next key or better
found-suc : (start minimum : ℕ) (ks vs : List ℕ) (i : ℕ) (b : Bool) → i < length ks → enough minimum ks vs (get_or ks i 0) ≡ b
    → found_by start minimum ks vs (suc i) ≡ max (found_by start minimum ks vs i) (if b then get_or ks i 0 else 0)
found-suc start minimum ks vs i b h e =
    let t = enough minimum ks vs in
    let k = get_or ks i 0 in
    let one : greatest (filter t (k ∷ [])) ≡ (if b then k else 0) =
    ap greatest (filter-one t k) ∙ ap (λ (c : Bool). greatest (if c then k ∷ [] else [])) e ∙ greatest-one b k in
    let all : greatest (filter t (take (suc i) ks)) ≡ max (greatest (filter t (take i ks))) (greatest (filter t (k ∷ []))) =
    ap (λ (l : List ℕ). greatest (filter t l)) (take-suc ks i 0 h) ∙ ap greatest (filter-append t (take i ks) (k ∷ []))
    ∙ greatest-append (filter t (take i ks)) (filter t (k ∷ [])) in
    omega (arith, one, all)

module _ (start minimum : ℕ) (ks vs : List ℕ) (i f : ℕ) (more : i < length ks) (before : f ≡ found_by start minimum ks vs i) where
  -- the next key is better, and enough contracts are at it or better
  pub found-better : f < get_or ks i 0 → enough minimum ks vs (get_or ks i 0) ≡ true → get_or ks i 0 ≡ found_by start minimum ks vs (i + 1)
  found-better h e =
      rw add-one
      (let next : found_by start minimum ks vs (suc i) ≡ max (found_by start minimum ks vs i) (get_or ks i 0) = found-suc start minimum ks vs i true more e in
      omega arith)

  -- it is better, and too few do
  pub found_few : enough minimum ks vs (get_or ks i 0) ≡ false → f ≡ found_by start minimum ks vs (i + 1)
  found_few e =
      rw add-one
      (let next : found_by start minimum ks vs (suc i) ≡ max (found_by start minimum ks vs i) 0 = found-suc start minimum ks vs i false more e in
      omega arith)

  -- it is not better
  pub found_worse : get_or ks i 0 ≤ f → f ≡ found_by start minimum ks vs (i + 1)
  found_worse h = rw add-one (go (enough minimum ks vs (get_or ks i 0)) refl)
    where
      go : (b : Bool) → enough minimum ks vs (get_or ks i 0) ≡ b → f ≡ found_by start minimum ks vs (suc i)
      go true e =
          let next : found_by start minimum ks vs (suc i) ≡ max (found_by start minimum ks vs i) (get_or ks i 0) = found-suc start minimum ks vs i true more e in
          omega arith
      go false e =
          let next : found_by start minimum ks vs (suc i) ≡ max (found_by start minimum ks vs i) 0 = found-suc start minimum ks vs i false more e in
          omega arith

-- ---- the keys that were added up

module _ (start minimum : ℕ) (ks vs : List ℕ) (i f n : ℕ) (more : i < length ks) (before : f ≡ found_by start minimum ks vs i)
    (sums : n ≡ key_sums (enough minimum ks vs) start (take i ks)) where
  sums_by : (b : Bool) → ltb f (get_or ks i 0) ≡ b → key_sums (enough minimum ks vs) start (take (suc i) ks) ≡ n + (if b then 1 else 0)
  sums_by b e =
      sums_next (enough minimum ks vs) start ks i more
      ∙ (λ j. sym sums j + (if (ap (λ (g : ℕ). ltb g (get_or ks i 0)) (sym before) ∙ e) j then 1 else 0))

  pub sums_better : f < get_or ks i 0 → n + 1 ≡ key_sums (enough minimum ks vs) start (take (i + 1) ks)
  sums_better h = rw (add-one i) (sym (sums_by true (lt-ltb f (get_or ks i 0) h)))

  pub sums_worse : get_or ks i 0 ≤ f → n ≡ key_sums (enough minimum ks vs) start (take (i + 1) ks)
  sums_worse h =
      rw (add-one i)
      (let next : key_sums (enough minimum ks vs) start (take (suc i) ks) ≡ n + 0 = sums_by false (le-ltb f (get_or ks i 0) h) in
      omega (arith, next))
