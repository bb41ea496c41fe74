-- Document 02, W12: the periods, as stretches of days, found from the list of sigmas. A day is counted by the sigmas before it: day 0 is that
-- of the first sigma, and the asked day is the one after the last.
use Rattle.std.specs.Prelude.{ℕ, zero, suc, ◌-◌, ◌/◌, List, [], ◌∷◌, ◌++◌, Bool, not, ◌&&◌, leb, ltb, length, get_or, take, drop, if◌then◌else◌}
use Rattle.lists.specs.Lists.{sum, any}

-- a period's first and last day
pub record Period : Type 0 where
  pub first : ℕ
  pub last : ℕ

-- the first of n days from d on that passes, or the day after them where none does
unfoldable pub first_from : (ℕ → Bool) → ℕ → ℕ → ℕ
first_from p d zero = d
first_from p d (suc n) = let later = first_from p (suc d) n in if p d then d else later

-- "That last day still counts"
abbrev pub is_in : ℕ → Period → Bool
is_in day p = leb p.first day && leb day p.last

-- "fewer than 30 earlier sigmas when a period begins"
abbrev pub is_early : Period → Bool
is_early p = ltb p.first 30

module _ (sigmas : List ℕ) where
  abbrev pub sigma_on : ℕ → ℕ
  sigma_on day = get_or sigmas day 0

  -- "the average of the 30 days' sigmas before the first day, the average rounded down"
  unfoldable pub average : ℕ → ℕ
  average first = sum (take 30 (drop (first - 30) sigmas)) / 30

  -- "It ends on the first day after that first one whose sigma is at most the average"; a period with no such day yet goes on past
  -- every day that has a sigma
  unfoldable pub last_day : ℕ → ℕ
  last_day first = first_from (λ (d : ℕ). leb (sigma_on d) (average first)) (suc first) (length sigmas - suc first)

  abbrev pub period_from : ℕ → Period
  period_from first = record { first = first; last = last_day first }

  -- the periods that begin on a day or before it: "A period begins on the day after one whose sigma is at least the threshold", and
  -- "no sigma of a period's days begins another"
  unfoldable pub periods : ℕ → ℕ → List Period
  periods threshold zero = []
  periods threshold (suc d) =
      let earlier = periods threshold d in
      earlier ++ (if leb threshold (sigma_on d) && not (any (is_in d) earlier) then period_from (suc d) ∷ [] else [])
