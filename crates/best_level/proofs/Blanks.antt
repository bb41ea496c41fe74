-- Blanks after the orders add no candidate: W3's number is that of the columns without them.
use Rattle.std.specs.Prelude.{if◌then◌else◌}
use Prim.Native.Nat.{ℕ, zero, suc, ◌+◌}
use native.Mathlib.Omega.{arith}
use mathlib.Core.Path.{◌≡◌, refl, ap, ◌∙◌, fun_ext}
use mathlib.Core.List.{List, [], ◌∷◌, ◌++◌, append-nil}
use mathlib.Core.Bool.{Bool, true, false}
use borrow.Author.Tests.{le-ltb}
use lib.Dec.{leb, ltb}
use lib.ListN.{length, replicate}
use Rattle.lists.specs.Lists.{filter}
use Rattle.lists.proofs.Lists.{filter-append}
use Rattle.best_quote.specs.declared.Level.{Level}
use Rattle.best_quote.specs.Levels.{enough, greatest, level_at, is_best}
use Rattle.best_quote.specs.Sums.{found_with, found_in, key_sums, downward}
use Rattle.best_quote.proofs.Levels.{level_at_blanks, enough_blanks, greatest-append, greatest_zeros}
use Rattle.best_quote.proofs.Sums.{sums_append, sums_blanks, downward_blanks}
use Rattle.best_level.specs.Candidates.{least, key_above, key_below, next_key, falls_short, can_be_best}
use Rattle.best_level.specs.CandidateKeys.{key_only, keys_from_change, keys_from_second, keys_from_first, keys_from_old, keys_from}

-- ---- the keys next to one

above_zeros : (key n : ℕ) → filter (ltb key) (replicate n 0) ≡ []
unfolding filter
above_zeros key zero = refl
above_zeros key (suc n) = rw (le-ltb key 0 (omega arith)) (above_zeros key n)

above_blanks : (key : ℕ) (ks : List ℕ) (n : ℕ) → key_above key (ks ++ replicate n 0) ≡ key_above key ks
unfolding key_above
above_blanks key ks n =
    ap least
    (filter-append (ltb key) ks (replicate n 0) ∙ ap (λ (l : List ℕ). filter (ltb key) ks ++ l) (above_zeros key n) ∙ append-nil (filter (ltb key) ks))

below_blanks : (key : ℕ) (ks : List ℕ) (n : ℕ) → key_below key (ks ++ replicate n 0) ≡ key_below key ks
unfolding key_below
below_blanks key ks n =
    let t : ℕ → Bool = λ (k : ℕ). ltb k key in
    ap greatest (filter-append t ks (replicate n 0)) ∙ greatest-append (filter t ks) (filter t (replicate n 0))
    ∙ omega (arith, greatest_zeros t n)

next_blanks : (minimum : ℕ) (ks : List ℕ) (n : ℕ) → next_key minimum (ks ++ replicate n 0) ≡ next_key minimum ks
unfolding next_key
next_blanks minimum ks n =
    fun_ext (λ (l : Level). λ i. if leb minimum l.before then above_blanks l.key ks n i else below_blanks l.key ks n i)

-- ---- the search at the end

module _ (q : ℕ → Bool) (minimum : ℕ) (level : ℕ → Level) (next : Level → ℕ) (ks : List ℕ) (n key : ℕ) where
  abbrev padded : List ℕ
  padded = ks ++ replicate n 0

  end_blanks : (found : ℕ) (b : Bool) → key_sums q found (if b then [] else padded) ≡ key_sums q found (if b then [] else ks)
  end_blanks found true = refl
  end_blanks found false = sums_blanks q found ks n

  change_blanks : (found : ℕ) (l : Level)
      → key_sums q found (keys_from_change minimum level next padded key l) ≡ key_sums q found (keys_from_change minimum level next ks key l)
  unfolding keys_from_change key_sums
  change_blanks found l = go (can_be_best l key minimum)
    where
      go : (b : Bool) → key_sums q found (if b then key ∷ (if is_best (level key) minimum then [] else padded) else padded)
          ≡ key_sums q found (if b then key ∷ (if is_best (level key) minimum then [] else ks) else ks)
      go true = ap (λ (x : ℕ). (if ltb found key then 1 else 0) + x) (end_blanks (found_with q found key) (is_best (level key) minimum))
      go false = sums_blanks q found ks n

  second_blanks : (found : ℕ) (l : Level)
      → key_sums q found (keys_from_second minimum level next padded key l) ≡ key_sums q found (keys_from_second minimum level next ks key l)
  unfolding keys_from_second
  second_blanks found l = go (is_best l minimum)
    where
      go : (b : Bool) → key_sums q found (if b then [] else keys_from_change minimum level next padded key l)
          ≡ key_sums q found (if b then [] else keys_from_change minimum level next ks key l)
      go true = refl
      go false = change_blanks found l

  -- after other candidates
  after_blanks : (found : ℕ) (cs ls ms : List ℕ) → ((f : ℕ) → key_sums q f ls ≡ key_sums q f ms) → key_sums q found (cs ++ ls) ≡ key_sums q found (cs ++ ms)
  after_blanks found cs ls ms h = omega (arith, sums_append q found cs ls, sums_append q found cs ms, h (found_in q found cs))

  first_blanks : (found : ℕ) (l : Level)
      → key_sums q found (keys_from_first minimum level next padded key l) ≡ key_sums q found (keys_from_first minimum level next ks key l)
  unfolding keys_from_first
  first_blanks found l = go (is_best l minimum) (falls_short l minimum)
    where
      go : (b c : Bool)
          → key_sums q found
          (if b then [] else if c then keys_from_change minimum level next padded key l else key_only (next l) ++ keys_from_second minimum level next padded key (level (next l)))
          ≡ key_sums q found
          (if b then [] else if c then keys_from_change minimum level next ks key l else key_only (next l) ++ keys_from_second minimum level next ks key (level (next l)))
      go true c = refl
      go false true = change_blanks found l
      go false false =
          after_blanks found (key_only (next l)) (keys_from_second minimum level next padded key (level (next l)))
          (keys_from_second minimum level next ks key (level (next l))) (λ f. second_blanks f (level (next l)))

  old_blanks : (found : ℕ) (l : Level)
      → key_sums q found (keys_from_old minimum level next padded key l) ≡ key_sums q found (keys_from_old minimum level next ks key l)
  unfolding keys_from_old
  old_blanks found l = go (is_best l minimum)
    where
      go : (b : Bool) → key_sums q found (if b then [] else key_only (next l) ++ keys_from_first minimum level next padded key (level (next l)))
          ≡ key_sums q found (if b then [] else key_only (next l) ++ keys_from_first minimum level next ks key (level (next l)))
      go true = refl
      go false =
          after_blanks found (key_only (next l)) (keys_from_first minimum level next padded key (level (next l)))
          (keys_from_first minimum level next ks key (level (next l))) (λ f. first_blanks f (level (next l)))

-- ---- columns with blanks

module _ (ks vs : List ℕ) (even : length ks ≡ length vs) (n minimum : ℕ) where
  pub small_blanks : key_sums (enough minimum (ks ++ replicate n 0) (vs ++ replicate n 0)) 0 (downward (ks ++ replicate n 0))
      ≡ key_sums (enough minimum ks vs) 0 (downward ks)
  small_blanks =
      ap (λ (q : ℕ → Bool). key_sums q 0 (downward (ks ++ replicate n 0))) (enough_blanks ks vs even n minimum)
      ∙ downward_blanks (enough minimum ks vs) ks n

  pub search_blanks : key_sums (enough minimum (ks ++ replicate n 0) (vs ++ replicate n 0)) 0 (ks ++ replicate n 0) ≡ key_sums (enough minimum ks vs) 0 ks
  search_blanks =
      ap (λ (q : ℕ → Bool). key_sums q 0 (ks ++ replicate n 0)) (enough_blanks ks vs even n minimum)
      ∙ sums_blanks (enough minimum ks vs) 0 ks n

  pub from_blanks : (key : ℕ) (old : Level)
      → key_sums (enough minimum (ks ++ replicate n 0) (vs ++ replicate n 0)) 0 (keys_from minimum (ks ++ replicate n 0) (vs ++ replicate n 0) key old)
      ≡ key_sums (enough minimum ks vs) 0 (keys_from minimum ks vs key old)
  from_blanks key old =
      (λ i.
      key_sums (enough_blanks ks vs even n minimum i) 0
      (keys_from_old minimum (fun_ext (level_at_blanks ks vs even n) i) (next_blanks minimum ks n i) (ks ++ replicate n 0) key old))
      ∙ old_blanks (enough minimum ks vs) minimum (level_at ks vs) (next_key minimum ks) ks n key 0 old
