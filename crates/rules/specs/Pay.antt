-- Document 01, "Verdict, weight, fee", with document 02, W6: p in tenths of a percent, "met is 1000 × K ≥ p × L, n = f - p, d = 800 - p".
use Rattle.std.specs.Prelude.{ℕ, ◌+◌, ◌-◌, ◌*◌, ◌/◌, ◌^◌, min, List, [], ◌∷◌, map, Bool, not, ◌&&◌, leb, ltb, if◌then◌else◌}
use Rattle.rules.specs.declared.Cell.{Cell}
use Rattle.rules.specs.declared.CellView.{CellView}
use Rattle.lists.specs.Lists.{sum, any, how_many}
use Rattle.rules.specs.Terms.{Terms}
use Rattle.rules.specs.Cells.{series}
use Rattle.rules.specs.Lapses.{within_lapse_limit}

-- f: "1000 × K / L rounded down"
abbrev pub thousandths : ℕ → ℕ → ℕ
thousandths kept length = (1000 * kept) / length

module _ (terms : Terms) where
  -- "A quantum is met if 100 × K ≥ p × L, else failed."; W6: "met is 1000 × K ≥ p × L"
  unfoldable pub met : ℕ → ℕ → ℕ → Bool
  met kept length share = leb (share * length) (terms.whole * kept)

  -- the required share in thousandths: 10p of a p in percent; by W6 p itself
  abbrev pub required : ℕ → ℕ
  required share = (1000 / terms.whole) * share

  -- the weight of a quantum that is met: "If f is 800 or more, w = 20,000. Else n = f - 10p, d = 800 - 10p, and
  -- w = 10,000 + (10,000 × n⁵ / d⁵, rounded down)."; W6: "n = f - p, d = 800 - p"
  unfoldable pub weight_met : ℕ → ℕ → ℕ
  weight_met f share =
      if leb 800 f then 20000 else 10000 + (10000 * (f - required share) ^ 5) / (800 - required share) ^ 5

  -- "Weight w: 0 if failed."
  abbrev pub weight_by : Bool → ℕ → ℕ → ℕ → ℕ
  weight_by verdict kept length share = if verdict then weight_met (thousandths kept length) share else 0

  -- by the share alone, with no lapse limit
  unfoldable pub weight : ℕ → ℕ → ℕ → ℕ
  weight kept length share = weight_by (met kept length share) kept length share

  -- document 02, W7: the weight by f alone, 0 where f is below p and the quantum failed; `weight_by_f` (proofs/Weights) says that it is
  -- the weight
  unfoldable pub weight_at : ℕ → ℕ → ℕ
  weight_at f share = if leb (required share) f then weight_met f share else 0

  -- document 02, W1: "A quantum with more lapses than its limit is failed, with weight 0."
  abbrev pub cell_met : Cell → Bool
  cell_met c = met c.kept.0 c.length.0 c.share && within_lapse_limit c.allowed c.lapses

  abbrev pub cell_weight : Cell → ℕ
  cell_weight c = weight_by (cell_met c) c.kept.0 c.length.0 c.share

  -- the cell with verdict and weight
  unfoldable pub view_of : Cell → CellView
  view_of c = record { cell = c; met = cell_met c; weight = cell_weight c }

  -- a filled cell that is failed
  unfoldable pub cell_failed : Cell → Bool
  cell_failed c = c.filled && not (cell_met c)

  -- "its failure count is the number of its filled cells that are failed"
  unfoldable pub failures : List Cell → ℕ → ℕ → ℕ
  failures cells expiry quantum = how_many cell_failed (series expiry quantum cells)

  -- each series' failure count: expiry 1, quantum 0, 1, 2, then expiry 2
  unfoldable pub all_failures : List Cell → List ℕ
  all_failures cells =
      failures cells 1 0 ∷ failures cells 1 1 ∷ failures cells 1 2 ∷ failures cells 2 0 ∷ failures cells 2 1 ∷ failures cells 2 2 ∷ []

  -- "(2A + 3P) × w" of a filled cell
  unfoldable pub earned : Cell → ℕ
  earned c = if c.filled then (2 * c.active.0 + 3 * c.passive.0) * cell_weight c else 0

  -- "If a series has more than 15 failed cells .. the fee is 0. Else it is the sum over filled cells of (2A + 3P) × w, divided by
  -- 80,000 and rounded down once, and at most 120,000,000 kopecks"
  unfoldable pub fee : List Cell → ℕ
  fee cells = if any (λ (n : ℕ). ltb 15 n) (all_failures cells) then 0 else min (sum (map earned cells) / 80000) 120000000
