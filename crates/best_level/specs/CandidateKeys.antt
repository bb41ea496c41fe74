-- The keys of the candidates (`Candidates`), from columns: `candidate_keys_lem` in proofs/Candidates shows that they are.
use Rattle.std.specs.Prelude.{ℕ, List, [], ◌∷◌, ◌++◌, leb, ltb, length, if◌then◌else◌}
use Rattle.rules.specs.declared.Side.{Side}
use Rattle.rules.specs.declared.Order.{Order}
use Rattle.price_keys.specs.Keys.{key_in}
use Rattle.best_quote.specs.declared.Level.{Level}
use Rattle.best_quote.specs.Levels.{level_at, best_key, is_best}
use Rattle.best_quote.specs.Sums.{downward}
use Rattle.best_level.specs.Candidates.{next_key, falls_short, can_be_best}

-- the changed order's key, 0 for none
abbrev pub changed_key : Side → List Order → ℕ
changed_key side [] = 0
changed_key side (o ∷ os) = key_in side o

-- no candidate for the key of none
unfoldable pub key_only : ℕ → List ℕ
key_only key = if ltb 0 key then key ∷ [] else []

-- by the level of a key, the key next to a level, the keys of all orders, and the changed order's key
module _ (minimum : ℕ) (level : ℕ → Level) (next : Level → ℕ) (all : List ℕ) (key : ℕ) where
  unfoldable pub keys_from_change : Level → List ℕ
  keys_from_change l = if can_be_best l key minimum then key ∷ (if is_best (level key) minimum then [] else all) else all

  unfoldable pub keys_from_second : Level → List ℕ
  keys_from_second l = if is_best l minimum then [] else keys_from_change l

  unfoldable pub keys_from_first : Level → List ℕ
  keys_from_first l =
      if is_best l minimum then []
      else if falls_short l minimum then keys_from_change l
      else key_only (next l) ++ keys_from_second (level (next l))

  unfoldable pub keys_from_old : Level → List ℕ
  keys_from_old l = if is_best l minimum then [] else key_only (next l) ++ keys_from_first (level (next l))

abbrev pub keys_from : ℕ → List ℕ → List ℕ → ℕ → Level → List ℕ
keys_from minimum ks vs key old = keys_from_old minimum (level_at ks vs) (next_key minimum ks) ks key old

-- the columns before the event, and after it
unfoldable pub candidate_keys : ℕ → List ℕ → List ℕ → List ℕ → List ℕ → ℕ → List ℕ
candidate_keys minimum ls ws ks vs key =
    if leb (length ks) 4 then downward ks
    else if leb (length ls) 4 then ks
    else keys_from minimum ks vs key (level_at ks vs (best_key minimum ls ws))
