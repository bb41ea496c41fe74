-- The words of a duty and of a clock.
use Rattle.std.specs.Prelude.{ℕ, List, [], ◌∷◌}
use Rattle.clock.specs.declared.Duty.{Duty}
use Rattle.clock.specs.declared.Clock.{Clock}

abbrev pub duty_words : Duty → List ℕ
duty_words d = d.length.0 ∷ d.minimum.0 ∷ d.widest ∷ []

abbrev pub clock_words : Clock → List ℕ
clock_words c = c.time.0 ∷ c.kept.0 ∷ c.keeps ∷ c.lapses ∷ c.last ∷ []
