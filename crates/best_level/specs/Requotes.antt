-- What a requote promises of a side whose orders have changed: its words after it, whether the best key stayed, and for how many orders
-- volumes were added up.
use Rattle.std.specs.Prelude.{ℕ, ◌≡◌, List, false}
use Rattle.best_quote.specs.Levels.{enough}
use Rattle.best_quote.specs.Sums.{key_sums}
use Rattle.order_side.specs.declared.Change.{Change}
use Rattle.order_side.specs.Slots.{Slot, keys_of, volumes_of, side_of, best_key_in, kept_in}
use Rattle.best_level.specs.declared.Requoted.{Requoted}
use Rattle.best_level.specs.CandidateKeys.{candidate_keys}

-- W3's number for the candidates, in keys
abbrev pub sums_in : ℕ → List Slot → List Slot → ℕ → ℕ
sums_in minimum before after key =
    key_sums (enough minimum (keys_of after) (volumes_of after)) 0
    (candidate_keys minimum (keys_of before) (volumes_of before) (keys_of after) (volumes_of after) key)

pub record Requotes (minimum : ℕ) (before after : List Slot) (c : Change) (exit : List ℕ) (r : Requoted) : Type 0 where
  pub words : exit ≡ side_of after (kept_in minimum after)
  pub stays : r.moves ≡ false → best_key_in minimum after ≡ best_key_in minimum before
  pub sums : r.sums ≡ sums_in minimum before after c.key
