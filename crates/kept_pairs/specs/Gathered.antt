-- The pairs as what a run over records gathers.
use Rattle.std.specs.Prelude.{ℕ, List, [], ◌∷◌, ◌++◌, Bool, length}
use mathlib.Core.Path.{◌≡◌, sym, ap, ◌∙◌, subst}
use Rattle.rules.specs.declared.Row.{Row}
use Rattle.rules.specs.declared.SpreadRule.{SpreadRule}
use Rattle.rules.specs.declared.Event.{Event}
use Rattle.rules.specs.Orders.{live, time_of}
use Rattle.rules.specs.Kept.{orders_keep, kept_at}
use Rattle.rules.specs.Stretches.{Stretch, stretches}
use Rattle.rules.specs.Causes.{event_refusal}
use Rattle.rules.specs.Bounds.{EventBounds}
use Rattle.rules.proofs.Kept.{kept_at-snoc}
use Rattle.rules.proofs.Stretches.{stretches_ext}
use Rattle.kept_pairs.specs.declared.Marks.{Marks}
use Rattle.kept_pairs.specs.Internal.{last_offset, marks_at, Holds}

-- whether the time that follows is kept
abbrev pub keeps_after : Row → SpreadRule → List Event → Bool
keeps_after row sp es = orders_keep row sp (live es)

-- the pairs of the kept time below n
abbrev pub gathered_pairs : Row → SpreadRule → List Event → ℕ → Marks → List ℕ → List ℕ → Type 0
gathered_pairs row sp es n marks base buffer = (marks ≡ marks_at (kept_at row sp es) n) × Holds base (stretches (kept_at row sp es) n) buffer

-- an event changes nothing of the time before it
pub onward_pairs : (row : Row) (sp : SpreadRule) (es : List Event) (e : Event) (marks : Marks) (base buffer : List ℕ) → EventBounds row es → event_refusal row es e ≡ 0
    → gathered_pairs row sp es (time_of e) marks base buffer → gathered_pairs row sp (es ++ (e ∷ [])) (time_of e) marks base buffer
unfolding marks_at
onward_pairs row sp es e marks base buffer g z h =
    let same = stretches_ext (kept_at row sp es) (kept_at row sp (es ++ (e ∷ []))) (time_of e) (λ m l. sym (kept_at-snoc row sp es e m l)) in (
      h.0 ∙ ap (λ (l : List Stretch). record { pairs = length l; start = last_offset l }) same,
      subst (λ (l : List Stretch). Holds base l buffer) same h.1,
    )
