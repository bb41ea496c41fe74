-- The stretches as what a run over records gathers: the live orders' state, and time running on.
use Prim.Native.Nat.{ℕ, ◌≤◌}
use native.Mathlib.Omega.{arith}
use mathlib.Core.Path.{◌≡◌, sym, ap, ◌∙◌, subst}
use mathlib.Core.List.{List}
use lib.ListN.{length}
use Rattle.rules.specs.declared.Millis.{Millis}
use Rattle.rules.specs.declared.Order.{Order}
use Rattle.rules.specs.declared.Row.{Row}
use Rattle.rules.specs.declared.SpreadRule.{SpreadRule}
use Rattle.rules.specs.declared.Event.{Event}
use Rattle.rules.specs.Terms.{paper}
use Rattle.rules.specs.Orders.{live, present}
use Rattle.rules.specs.States.{state_word, orders_state, state_at}
use Rattle.rules.specs.Accounts.{parts}
use Rattle.rules.proofs.States.{state_at-now}
use Rattle.rules.proofs.Bounds.{read_bounds}
use Rattle.price_keys.specs.Widest.{WidestFor}
use Rattle.order_table.specs.Table.{table_of, GoodOrders}
use Rattle.order_table.proofs.Table.{table_length}
use Rattle.clock.specs.declared.Duty.{Duty}
use Rattle.clock.specs.declared.Clock.{Clock}
use Rattle.clock.proofs.Clocks.{time_is}
use Rattle.events.specs.Represents.{Represents}
use Rattle.events.proofs.Represents.{good_orders, widest_is}
use Rattle.record_runs.specs.Gather.{Growth, MayGrow, Reached}
use Rattle.session_account.specs.declared.Marks.{Marks}
use Rattle.session_account.specs.Internal.{marks_at, Holds, MarksBounds, MarksAfter}
use Rattle.session_account.specs.Gathered.{word_after, gathered_parts}
use Rattle.session_account.proofs.Parts.{word_most}
use Rattle.session_account.proofs.Growing.{stretches_few, start_early, last_some, times_room}

-- what the word of the live orders' state promises
abbrev pub StateOf : List ℕ → ℕ → ℕ → Type 0
StateOf table widest n =
    (row : Row) (sp : SpreadRule) (orders : List Order) → GoodOrders orders → table ≡ table_of row.minimum.0 orders → WidestFor row sp widest
    → n ≡ state_word (orders_state row sp orders)

pub table_long : (duty : Duty) (clock : Clock) (table : List ℕ) → Reached duty clock table → length table ≡ 512
table_long duty clock table h =
    table_length table h.row.minimum.0 (live h.events) (record { good = good_orders h.row h.events h.represents.bounds; is = h.represents.table_is })

pub word_is : (duty : Duty) (clock : Clock) (table : List ℕ) (n : ℕ) → StateOf table duty.widest n → (row : Row) (sp : SpreadRule) (es : List Event)
    → Represents row sp es duty clock table → n ≡ word_after row sp es
word_is duty clock table n s row sp es h = s row sp (live es) (good_orders row es h.bounds) h.table_is (widest_is row sp es duty clock table h)

module _ (marks : Marks) (clock : Clock) (state : ℕ) (to : Millis) (buffer : List ℕ) where
  module _ (row : Row) (sp : SpreadRule) (es : List Event) (base : List ℕ) (g : Growth word_after gathered_parts marks clock state to buffer row sp es base) where
    from_is : clock.time.0 ≡ present es
    from_is = time_is row sp es clock g.clock_is

    marks_from : marks ≡ marks_at (state_at row sp es) clock.time.0
    marks_from = g.so_far.0 ∙ ap (marks_at (state_at row sp es)) (sym from_is)

    bounds_at : MarksBounds marks clock.time to state
    bounds_at =
        let r = read_bounds paper sp row g.good in
        let f = state_at row sp es in
        let at = clock.time.0 in
        record {
          onward = omega (arith, from_is, g.onward);
          small = omega (arith, g.inside, r.length_most);
          started = start_early f at marks marks_from;
          few = stretches_few f at marks marks_from;
          some = last_some f at marks marks_from state (omega (arith, g.state_is, word_most (orders_state row sp (live es))));
          timed = times_room f at marks marks_from;
        }

    grown_at : (r : Marks) (exit : List ℕ) → MarksAfter marks clock.time to state r buffer exit → gathered_parts row sp es to.0 r base exit
    grown_at r exit grows =
        grows (state_at row sp es) base (orders_state row sp (live es)) g.state_is marks_from
        (λ m a b. state_at-now row sp es g.bounds.ordered m (omega (arith, from_is, a)))
        (subst (λ (n : ℕ). Holds base (parts (state_at row sp es) n) buffer) (sym from_is) g.so_far.1)

  pub bounds_by : MayGrow word_after gathered_parts marks clock state to buffer → MarksBounds marks clock.time to state
  bounds_by h = bounds_at h.row h.sp h.events h.base h.grows

  pub grown_by : (r : Marks) (exit : List ℕ) → MarksAfter marks clock.time to state r buffer exit
      → (row : Row) (sp : SpreadRule) (es : List Event) (base : List ℕ) → Growth word_after gathered_parts marks clock state to buffer row sp es base
      → gathered_parts row sp es to.0 r base exit
  grown_by r exit grows row sp es base g = grown_at row sp es base g r exit grows
