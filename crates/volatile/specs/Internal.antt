-- What the code carries from day to day, one step at a time. The laws between it and the definitions are in proofs/.
use Rattle.std.specs.Prelude.{ℕ, ◌+◌, ◌-◌, ◌/◌, ◌%◌, ◌≤◌, ◌<◌, ◌≡◌, Bool, false, ◌&&◌, leb, ltb, length, get_or, set, replicate, Option, Some, None, ℤ, pos, nat_abs, if◌then◌else◌}
use Rattle.sigma.specs.Sigmas.{sigma_of}
use Rattle.volatile.specs.declared.Window.{Window}
use Rattle.volatile.specs.declared.Disturbed.{Disturbed}
use Rattle.volatile.specs.declared.State.{State}

-- ---- the last thirty sigmas, in a ring, and their sum

abbrev pub oldest : Window → ℕ
oldest w = get_or w.recent (w.day % 30) 0

unfoldable pub pushed : Window → ℕ → Window
pushed w sigma =
    record {
      recent = set w.recent (w.day % 30) sigma;
      day = w.day + 1;
      sum = w.sum + sigma - oldest w;
    }

-- what a push may ask: places for thirty, the oldest within the sum, and no sum that wraps
pub record Roomy (w : Window) : Type 0 where
  pub places : length w.recent ≡ 30
  pub within : oldest w ≤ w.sum
  pub small : w.sum ≤ 125829120
  pub days : w.day < 9223372036854775807

-- ---- the period that the day is in: its first day and its average

abbrev pub ends : Disturbed → ℕ → ℕ → Bool
ends p day sigma = ltb p.first day && leb sigma p.average

unfoldable pub begun : ℕ → ℕ → ℕ → ℕ → Option Disturbed
begun day sigma threshold sum =
    if leb threshold sigma then Some (record { first = day + 1; average = sum / 30 }) else None

unfoldable pub phase_after : Option Disturbed → ℕ → ℕ → ℕ → ℕ → Option Disturbed
phase_after None day sigma threshold sum = begun day sigma threshold sum
phase_after (Some p) day sigma threshold sum = if ends p day sigma then None else Some p

-- ---- the two last R with them

abbrev pub state : ℤ → ℤ → Window → Option Disturbed → State
state older newer w p = record { older = older; newer = newer; window = w; phase = p }

-- the sigma of them and the next
abbrev pub sigma_with : State → ℤ → ℕ
sigma_with s r = sigma_of s.older s.newer r

-- a day with a sigma
unfoldable pub judged : State → ℤ → ℕ → State
judged s r threshold =
    let sigma = sigma_with s r in
    let w = pushed s.window sigma in
    state s.newer r w (phase_after s.phase s.window.day sigma threshold w.sum)

-- a day with an R, the i-th from 0: it has a sigma from i = 2 on
unfoldable pub state_after : State → ℕ → ℤ → ℕ → State
state_after s i r threshold = if ltb i 2 then state s.newer r s.window s.phase else judged s r threshold

unfoldable pub fresh : State
fresh =
    state (pos 0) (pos 0) (record { recent = replicate 30 0; day = 0; sum = 0 }) None

-- what a turn may ask
pub record Ready (s : State) : Type 0 where
  pub older : nat_abs s.older ≤ 1000000
  pub newer : nat_abs s.newer ≤ 1000000
  pub room : Roomy s.window

-- a period that began with fewer than thirty sigmas before it
abbrev pub early : Option Disturbed → Bool
early None = false
early (Some p) = ltb p.first 30
