-- A record that is taken out at one place and put in at another, the records between moving by one place: as a part of the list copied by one
-- place, and a store.
use Prim.Native.Nat.{ℕ, ◌+◌, ◌-◌, ◌≤◌, ◌<◌}
use native.Mathlib.Omega.{arith}
use native.Mathlib.Numerals.{add-one}
use mathlib.Core.Path.{◌≡◌, sym, ap, ◌∙◌}
use mathlib.Core.List.{List, [], ◌∷◌, ◌++◌, append_assoc}
use lib.ListN.{length, take, drop, set, get_or, length-append, length-drop, take-append-drop}
use lib.Seq.{take-suc, drop-cons, drop-drop, take-add, set_at, length-take-le, paste}
use Rattle.standing_rules.specs.Internal.{inserted, removed, shifted}
use Rattle.standing_rules.proofs.Placing.{inserted_between}

module _ {A : Type 0} (d : A) (l : List A) (from to : ℕ) (m : A) where
  -- the record is put in between a front and a rest that are the list without it
  put_between : (front rest : List A) → length front ≡ to → removed l from ≡ front ++ rest → front ++ (m ∷ rest) ≡ shifted l from to m
  unfolding shifted
  put_between front rest e f = sym (ap (λ (z : List A). inserted z to m) f ∙ inserted_between front rest to m e)

  -- those after it, as far as `to`, move towards the front
  pub moved_down : from ≤ to → to < length l → set (paste l from (drop (from + 1) l) (to + 1 - (from + 1))) to m ≡ shifted l from to m
  moved_down le h =
      let some : to + 1 - (from + 1) ≡ to - from = omega arith in
      let end : from + (to - from) ≡ to = omega arith in
      let behind = drop (from + 1) l in
      let part = take (to - from) behind in
      let rest = drop (to + 1) l in
      let parted : length part ≡ to - from = length-take-le (to - from) behind (omega (arith, length-drop (from + 1) l)) in
      let fronted : length (take from l) ≡ from = length-take-le from l (omega arith) in
      let long : length (take from l ++ part) ≡ to = omega (arith, length-append (take from l) part) in
      let tail : drop to l ≡ get_or l to d ∷ rest = drop-cons l to d h ∙ ap (λ (k : ℕ). get_or l to d ∷ drop k l) (sym (add-one to)) in
      let last : from + 1 + (to - from) ≡ to + 1 = omega arith in
      let without : removed l from ≡ take from l ++ part ++ rest =
      ap (λ (z : List A). take from l ++ z)
      (sym (take-append-drop (to - from) behind) ∙ ap (λ (z : List A). part ++ z) (drop-drop (to - from) (from + 1) l ∙ ap (λ (k : ℕ). drop k l) last))
      ∙ sym (append_assoc (take from l) part rest) in
      ap (λ (n : ℕ). set (paste l from behind n) to m) some
      ∙ ap (λ (z : List A). set (take from l ++ part ++ z) to m) (ap (λ (k : ℕ). drop k l) end ∙ tail)
      ∙ set_at (take from l ++ part) (get_or l to d) rest m to long
      ∙ put_between (take from l ++ part) rest long without

  -- those before it, from `to` on, move towards the end
  pub moved_up : to ≤ from → from < length l → set (paste l (to + 1) (drop to l) (from - to)) to m ≡ shifted l from to m
  moved_up le h =
      let end : to + 1 + (from - to) ≡ from + 1 = omega arith in
      let start : to + (from - to) ≡ from = omega arith in
      let part = take (from - to) (drop to l) in
      let behind = drop (from + 1) l in
      let rest = part ++ behind in
      let long : length (take to l) ≡ to = length-take-le to l (omega arith) in
      let head : take (to + 1) l ≡ take to l ++ (get_or l to d ∷ []) = ap (λ (k : ℕ). take k l) (add-one to) ∙ take-suc l to d (omega arith) in
      let without : removed l from ≡ take to l ++ rest =
      ap (λ (z : List A). z ++ behind) (ap (λ (k : ℕ). take k l) (sym start) ∙ take-add to (from - to) l) ∙ append_assoc (take to l) part behind in
      ap (λ (k : ℕ). set (take (to + 1) l ++ part ++ drop k l) to m) end
      ∙ ap (λ (z : List A). set (z ++ part ++ behind) to m) head
      ∙ ap (λ (z : List A). set z to m) (append_assoc (take to l ++ (get_or l to d ∷ [])) part behind ∙ append_assoc (take to l) (get_or l to d ∷ []) rest)
      ∙ set_at (take to l) (get_or l to d) rest m to long
      ∙ put_between (take to l) rest long without
