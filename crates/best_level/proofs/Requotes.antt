-- The words after a requote, and W3's number of the sums made for it.
use Rattle.std.specs.Prelude.{if◌then◌else◌}
use Prim.Native.Nat.{ℕ, ◌+◌, ◌≤◌}
use native.Mathlib.Omega.{arith}
use mathlib.Core.Path.{◌≡◌, refl, sym, ap, ◌∙◌}
use mathlib.Core.List.{List, [], ◌++◌}
use mathlib.Core.Bool.{Bool, true, false, true≢false}
use borrow.Author.Tests.{le-leb, lt-leb}
use lib.Dec.{leb}
use lib.ListN.{length, get_or, take, drop, length-map}
use Rattle.best_quote.specs.declared.Level.{Level}
use Rattle.best_quote.specs.Levels.{enough, level_at, best_key, is_best}
use Rattle.best_quote.specs.Sums.{key_sums, downward}
use Rattle.best_quote.proofs.Levels.{level_best, best_level}
use Rattle.small_side.specs.declared.KeyFound.{KeyFound as Small}
use Rattle.small_side.specs.Small.{BestKeyFound as SmallFinds}
use Rattle.order_side.specs.declared.Change.{Change}
use Rattle.order_side.specs.Slots.{Slot, keys_of, volumes_of, side_of, level_in, best_in, best_key_in, kept_in}
use Rattle.order_side.specs.Internal.{StaleLevel}
use Rattle.order_side.proofs.Words.{kept_small, kept_large}
use Rattle.order_side.proofs.Stores.{level_stored}
use Rattle.best_level.specs.declared.LevelFound.{LevelFound}
use Rattle.best_level.specs.Candidates.{next_key}
use Rattle.best_level.specs.CandidateKeys.{key_only, keys_from_first, keys_from_old, keys_from, candidate_keys}
use Rattle.best_level.specs.Requotes.{sums_in, Requotes}
use Rattle.best_level.specs.Internal.{put_level, Searches, BestLevelFound}
use Rattle.best_level.proofs.Parts.{moving_count, part-best-key, part-best, part_small, part_search, part_from}

-- ---- which candidates

module _ (minimum : ℕ) (before after : List Slot) (key : ℕ) where
  abbrev ls : List ℕ
  ls = keys_of before

  abbrev ks : List ℕ
  ks = keys_of after

  abbrev vs : List ℕ
  vs = volumes_of after

  long_after : length ks ≡ length after
  long_after = length-map after (λ (s : Slot). s.key)

  long_before : length ls ≡ length before
  long_before = length-map before (λ (s : Slot). s.key)

  abbrev chosen : Bool → Bool → List ℕ
  chosen few fifth =
      if few then downward ks else if fifth then ks else keys_from minimum ks vs key (level_at ks vs (best_key minimum ls (volumes_of before)))

  keys-chosen : (a b : Bool) → leb (length after) 4 ≡ a → leb (length before) 4 ≡ b
      → candidate_keys minimum ls (volumes_of before) ks vs key ≡ chosen a b
  unfolding candidate_keys
  keys-chosen a b e f =
      λ i. chosen ((ap (λ (n : ℕ). leb n 4) long_after ∙ e) i) ((ap (λ (n : ℕ). leb n 4) long_before ∙ f) i)

  sums_chosen : (a b : Bool) → leb (length after) 4 ≡ a → leb (length before) 4 ≡ b
      → sums_in minimum before after key ≡ key_sums (enough minimum ks vs) 0 (chosen a b)
  sums_chosen a b e f = ap (key_sums (enough minimum ks vs) 0) (keys-chosen a b e f)

-- none from a level that is still the best
from_best : (minimum : ℕ) (ks vs : List ℕ) (key : ℕ) (l : Level) → is_best l minimum ≡ true → keys_from minimum ks vs key l ≡ []
unfolding keys_from_old
from_best minimum ks vs key l best =
    ap
    (λ (b : Bool).
    if b then [] else key_only (next_key minimum ks l) ++ keys_from_first minimum (level_at ks vs) (next_key minimum ks) ks key (level_at ks vs (next_key minimum ks l)))
    best

module _ (words : List ℕ) (c : Change) (minimum : ℕ) (m : StaleLevel words c minimum) where
  abbrev keys : List ℕ
  keys = keys_of m.after

  abbrev volumes : List ℕ
  volumes = volumes_of m.after

  -- the words with a level put into them
  put_is : (l : Level) → l ≡ kept_in minimum m.after → (exit : List ℕ) → exit ≡ put_level l words → exit ≡ side_of m.after (kept_in minimum m.after)
  put_is l e exit p =
      p ∙ level_stored m.after (kept_in minimum m.before) l m.good.few words m.is ∙ ap (side_of m.after) e

  -- ---- a small side

  pub small_requotes : get_or words 192 0 ≤ 4 → (r : Small) → SmallFinds (take 4 (drop 64 words)) (take 4 (drop 128 words)) minimum r
      → (exit : List ℕ) → exit ≡ put_level (record { key = r.key; before = 0; at = 0 }) words
      → Requotes minimum m.before m.after c exit (record { moves = true; sums = r.sums })
  small_requotes few r f exit p =
      let key : r.key ≡ best_key_in minimum m.after = f.key ∙ part-best-key words c minimum m 4 4 4 refl refl few (omega arith) in
      let small : length m.after ≤ 4 = omega (arith, few, moving_count words c minimum m) in
      record {
        words =
            put_is (record { key = r.key; before = 0; at = 0 })
            ((λ i. record { key = key i; before = 0; at = 0 }) ∙ sym (kept_small minimum m.after small)) exit p;
        stays = λ e. absurd (true≢false e);
        sums =
            f.sums ∙ part_small words c minimum m 4 4 4 refl refl few (omega arith)
            ∙ sym (sums_chosen minimum m.before m.after c.key true (leb (length m.before) 4) (le-leb (length m.after) 4 small) refl);
      }

  -- ---- more orders

  module _ (many : 5 ≤ length m.after) where
    grown : leb (length m.after) 4 ≡ false
    grown = lt-leb (length m.after) 4 (omega (arith, many))

    large : kept_in minimum m.after ≡ best_in minimum m.after
    large = kept_large minimum m.after grown

    -- the fifth order came
    pub fifth_requotes : leb (length m.before) 4 ≡ true → get_or words 192 0 ≤ 8
        → (r : LevelFound) → Searches minimum (take 8 (drop 64 words)) (take 8 (drop 128 words)) 0 0 r
        → (exit : List ℕ) → exit ≡ put_level r.level words
        → Requotes minimum m.before m.after c exit (record { moves = true; sums = r.sums })
    fifth_requotes first few r f exit p =
        let all : r.sums ≡ key_sums (enough minimum (take 8 (drop 64 words)) (take 8 (drop 128 words))) 0 (take 8 (drop 64 words)) =
        omega (arith, f.sums) in
        record {
          words = put_is r.level (f.level ∙ part-best words c minimum m 8 8 8 refl refl few (omega arith) ∙ sym large) exit p;
          stays = λ n. absurd (true≢false n);
          sums =
              all ∙ part_search words c minimum m 8 8 8 refl refl few (omega arith)
              ∙ sym (sums_chosen minimum m.before m.after c.key false true grown first);
        }

    -- from the old best key's level after the change
    module _ (no_first : leb (length m.before) 4 ≡ false) (old : Level) (is-old : old ≡ level_in m.after (best_key_in minimum m.before)) where
      sums_from : sums_in minimum m.before m.after c.key ≡ key_sums (enough minimum keys volumes) 0 (keys_from minimum keys volumes c.key old)
      sums_from =
          sums_chosen minimum m.before m.after c.key false false grown no_first
          ∙ ap (λ (l : Level). key_sums (enough minimum keys volumes) 0 (keys_from minimum keys volumes c.key l)) (sym is-old)

      -- it is still the best
      pub same_requotes : is_best old minimum ≡ true → (exit : List ℕ) → exit ≡ put_level old words
          → Requotes minimum m.before m.after c exit (record { moves = false; sums = 0 })
      unfolding key_sums
      same_requotes best exit p =
          let k = best_key_in minimum m.before in
          let b : is_best (level_at keys volumes k) minimum ≡ true = ap (λ (l : Level). is_best l minimum) (sym is-old) ∙ best in
          record {
            words = put_is old (is-old ∙ level_best minimum keys volumes k b ∙ sym large) exit p;
            stays = λ n. best_level minimum keys volumes k b;
            sums = sym (sums_from ∙ ap (key_sums (enough minimum keys volumes) 0) (from_best minimum keys volumes c.key old best));
          }

      -- or another is found
      pub sought_requotes : (to n k : ℕ) (en : n ≡ to) (ek : k ≡ to) (more : get_or words 192 0 ≤ to) (most : to ≤ 64)
          → (r : LevelFound) → BestLevelFound minimum (take n (drop 64 words)) (take k (drop 128 words)) old c.key r
          → (exit : List ℕ) → exit ≡ put_level r.level words
          → Requotes minimum m.before m.after c exit (record { moves = true; sums = r.sums })
      sought_requotes to n k en ek more most r f exit p =
          record {
            words = put_is r.level (f.level ∙ part-best words c minimum m to n k en ek more most ∙ sym large) exit p;
            stays = λ n. absurd (true≢false n);
            sums = f.sums ∙ part_from words c minimum m to n k en ek more most c.key old ∙ sym sums_from;
          }
