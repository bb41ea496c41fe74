-- A duty and a clock read back from their words.
use Prim.Native.Nat.{ℕ}
use mathlib.Core.Path.{◌≡◌}
use mathlib.Core.List.{List}
use lib.ListN.{get_or}
use Rattle.rules.specs.Units.{millis, contracts}
use Rattle.clock.specs.declared.Duty.{Duty}
use Rattle.clock.specs.declared.Clock.{Clock}
use Rattle.clock.specs.Words.{duty_words, clock_words}

pub duty_back : (ws : List ℕ) (d : Duty) → ws ≡ duty_words d
    → ◌≡◌ {A = Duty} (record { length = millis (get_or ws 0 0); minimum = contracts (get_or ws 1 0); widest = get_or ws 2 0 }) d
duty_back ws d e = λ i. record { length = millis (get_or (e i) 0 0); minimum = contracts (get_or (e i) 1 0); widest = get_or (e i) 2 0 }

pub clock_back : (ws : List ℕ) (c : Clock) → ws ≡ clock_words c
    → ◌≡◌ {A = Clock} (record { time = millis (get_or ws 0 0); kept = millis (get_or ws 1 0); keeps = get_or ws 2 0; lapses = get_or ws 3 0; last = get_or ws 4 0 }) c
clock_back ws c e = λ i.
    record { time = millis (get_or (e i) 0 0); kept = millis (get_or (e i) 1 0); keeps = get_or (e i) 2 0; lapses = get_or (e i) 3 0; last = get_or (e i) 4 0 }
