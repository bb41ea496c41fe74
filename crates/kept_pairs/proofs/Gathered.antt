-- The pairs as what a run over records gathers: time runs on.
use Rattle.std.specs.Prelude.{if◌then◌else◌}
use Prim.Native.Nat.{ℕ, ◌≤◌, ◌<◌}
use native.Mathlib.Omega.{arith}
use mathlib.Core.Path.{◌≡◌, refl, sym, ap, ◌∙◌, subst}
use mathlib.Core.List.{List, [], ◌∷◌, ◌++◌}
use mathlib.Core.Bool.{Bool, true, false}
use lib.Dec.{eqb}
use Rattle.rules.specs.declared.Millis.{Millis}
use Rattle.rules.specs.declared.Row.{Row}
use Rattle.rules.specs.declared.SpreadRule.{SpreadRule}
use Rattle.rules.specs.declared.Event.{Event}
use Rattle.rules.specs.Terms.{paper}
use Rattle.rules.specs.Orders.{live, present}
use Rattle.rules.specs.Kept.{orders_keep, kept_at}
use Rattle.rules.specs.Runs.{before}
use Rattle.rules.specs.Stretches.{stretches}
use Rattle.rules.proofs.Kept.{kept_at-now}
use Rattle.rules.proofs.Bounds.{read_bounds}
use Rattle.clock.specs.declared.Clock.{Clock}
use Rattle.clock.specs.Clocks.{clock_of}
use Rattle.clock.proofs.Clocks.{time_is, keeps_is, last_is}
use Rattle.record_runs.specs.Gather.{Growth, MayGrow}
use Rattle.kept_pairs.specs.declared.Marks.{Marks}
use Rattle.kept_pairs.specs.Internal.{marks_at, Holds, MarksBounds, MarksAfter}
use Rattle.kept_pairs.specs.Gathered.{keeps_after, gathered_pairs}
use Rattle.kept_pairs.proofs.Pairs.{pairs_few, start_early, last_some}

one_test : (b : Bool) → eqb (if b then 1 else 0) 1 ≡ b
one_test true = refl
one_test false = refl

-- the clock says whether the live orders keep
pub keeps_test : (row : Row) (sp : SpreadRule) (es : List Event) (clock : Clock) → clock ≡ clock_of row sp es → eqb clock.keeps 1 ≡ orders_keep row sp (live es)
keeps_test row sp es clock is = ap (λ (n : ℕ). eqb n 1) (keeps_is row sp es clock is) ∙ one_test (orders_keep row sp (live es))

module _ (marks : Marks) (clock : Clock) (keeps : Bool) (to : Millis) (buffer : List ℕ) where
  module _ (row : Row) (sp : SpreadRule) (es : List Event) (base : List ℕ)
      (g : Growth keeps_after gathered_pairs marks clock keeps to buffer row sp es base) where
    from_is : clock.time.0 ≡ present es
    from_is = time_is row sp es clock g.clock_is

    marks_from : marks ≡ marks_at (kept_at row sp es) clock.time.0
    marks_from = g.so_far.0 ∙ ap (marks_at (kept_at row sp es)) (sym from_is)

    -- and whether the millisecond before the present is kept
    last_test : eqb clock.last 1 ≡ before (kept_at row sp es) clock.time.0
    last_test =
        ap (λ (n : ℕ). eqb n 1) (last_is row sp es clock g.clock_is)
        ∙ one_test (before (kept_at row sp es) (present es))
        ∙ ap (before (kept_at row sp es)) (sym from_is)

    bounds_at : MarksBounds marks clock.time to (eqb clock.last 1)
    bounds_at =
        let r = read_bounds paper sp row g.good in
        let p = kept_at row sp es in
        record {
          onward = omega (arith, from_is, g.onward);
          small = omega (arith, g.inside, r.length_most);
          started = start_early p clock.time.0 marks marks_from;
          few = pairs_few p clock.time.0 marks marks_from;
          some = λ e. last_some p clock.time.0 marks marks_from (sym last_test ∙ e);
        }

    grown_at : (r : Marks) (exit : List ℕ) → MarksAfter marks clock.time to keeps (eqb clock.last 1) r buffer exit → gathered_pairs row sp es to.0 r base exit
    grown_at r exit grows =
        grows (kept_at row sp es) base marks_from last_test
        (λ m a b. kept_at-now row sp es g.bounds.ordered m (omega (arith, from_is, a)) ∙ sym g.state_is)
        (subst (λ (n : ℕ). Holds base (stretches (kept_at row sp es) n) buffer) (sym from_is) g.so_far.1)

  pub bounds_by : MayGrow keeps_after gathered_pairs marks clock keeps to buffer → MarksBounds marks clock.time to (eqb clock.last 1)
  bounds_by h = bounds_at h.row h.sp h.events h.base h.grows

  pub grown_by : (r : Marks) (exit : List ℕ) → MarksAfter marks clock.time to keeps (eqb clock.last 1) r buffer exit
      → (row : Row) (sp : SpreadRule) (es : List Event) (base : List ℕ) → Growth keeps_after gathered_pairs marks clock keeps to buffer row sp es base
      → gathered_pairs row sp es to.0 r base exit
  grown_by r exit grows row sp es base g = grown_at row sp es base g r exit grows
