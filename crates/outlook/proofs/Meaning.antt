-- What `rest` and `lost` say of the other answers.
use Rattle.std.proofs.Common.{Some}
use Prim.Native.Nat.{ℕ, ◌-◌, ◌*◌, ◌≤◌}
use native.Mathlib.Nat.{mul-le-mul}
use native.Mathlib.Omega.{arith}
use mathlib.Core.Path.{◌≡◌, refl, sym, ap, ◌∙◌, subst}
use mathlib.Core.List.{List}
use mathlib.Core.Bool.{Bool, true, false, not, ◌&&◌, ◌||◌}
use lib.Dec.{ltb, eqb}
use borrow.Author.Tests.{eq-eqb}
use Rattle.rules.specs.declared.Row.{Row}
use Rattle.rules.specs.declared.SpreadRule.{SpreadRule}
use Rattle.rules.specs.declared.Opening.{Opening}
use Rattle.rules.specs.declared.Event.{Event}
use Rattle.rules.specs.Terms.{Terms, paper}
use Rattle.rules.specs.Rows.{good_row_for}
use Rattle.rules.specs.Orders.{live, present}
use Rattle.rules.specs.Kept.{up_to, kept_at, kept_below}
use Rattle.rules.specs.Lapses.{lapses_below, within_lapse_limit}
use Rattle.rules.specs.Pay.{cell_met}
use Rattle.rules.specs.Bounds.{EventBounds}
use Rattle.rules.specs.Outlook.{need_of, can_keep, cell_resting, is_never, may_so, latest_rest, outlook_of}
use Rattle.rules.proofs.Bounds.{read_bounds}
use Rattle.lists.proofs.Counting.{count_none}
use Rattle.lists.proofs.Lists.{both, and}
use Rattle.continuations.proofs.Latest.{LatestPassing, latest-at, latest-found}
use Rattle.continuations.proofs.Events.{nothing_keeps}
use Rattle.outlook.proofs.Until.{by_law, never_law}
use Rattle.outlook.proofs.Endings.{begins_now}
use Rattle.outlook.proofs.Outlooks.{latest_is}

-- ---- rest: `by` is L

module _ (terms : Terms) (row : Row) (opening : Opening) (es : List Event) (inside : present es ≤ row.length.0) where
  pub rest_by : (outlook_of terms row opening es).rest ≡ true → (outlook_of terms row opening es).by ≡ Some row.length
  unfolding outlook_of latest_rest may_so
  rest_by h =
      latest-at (may_so terms row opening es) (present es) (row.length.0 - present es) row.length.0 inside (omega arith)
      (and (ap (λ (b : Bool). b || can_keep row opening.spread) (eq-eqb row.length.0 row.length.0 refl)) h)
      (λ m l u. absurd (omega arith))

  pub by_rest : (outlook_of terms row opening es).by ≡ Some row.length → (outlook_of terms row opening es).rest ≡ true
  unfolding outlook_of latest_rest may_so
  by_rest e =
      let found = subst (LatestPassing (may_so terms row opening es) (present es) (row.length.0 - present es)) e
      (latest-found (may_so terms row opening es) (present es) (row.length.0 - present es)) in
      (both (eqb row.length.0 row.length.0 || can_keep row opening.spread) (cell_met terms (cell_resting row opening es row.length.0)) found.2).1

-- ---- where nothing can be kept, nothing is

module _ (row : Row) (spread : SpreadRule) (none : can_keep row spread ≡ false) where
  pub none_kept : (es : List Event) (m : ℕ) → kept_at row spread es m ≡ false
  unfolding kept_at
  none_kept es m = nothing_keeps row spread none (live (up_to m es))

  none_below : (es : List Event) (n : ℕ) → kept_below row spread es n ≡ 0
  unfolding kept_below
  none_below es n = count_none (kept_at row spread es) n (λ m l. none_kept es m)

-- ---- lost: more is needed than is left, lapses are over, or something is needed where nothing can be kept

module _ (row : Row) (opening : Opening) (es : List Event) (good : good_row_for paper opening.spread row ≡ true) (g : EventBounds row es) where
  some_needed : can_keep row opening.spread ≡ false
      → 1 ≤ need_of paper (kept_below row opening.spread es (present es)) row.length.0 row.share
  some_needed e =
      let r = read_bounds paper opening.spread row good in
      let long : 1 ≤ row.length.0 = omega (arith, r.length_least) in
      let product : 1 * 1 ≤ row.share * row.length.0 = mul-le-mul r.share_least long in
      omega (arith, none_below row opening.spread e es (present es))

  pub lost_is : (outlook_of paper row opening es).lost
      ≡ (ltb (row.length.0 - present es) (outlook_of paper row opening es).need.0
      || not (within_lapse_limit opening.allowed (lapses_below row opening.spread es (present es))))
      || (ltb 0 (outlook_of paper row opening es).need.0 && not (can_keep row opening.spread))
  unfolding outlook_of latest_rest
  lost_is =
      ap is_never (latest_is row opening es g)
      ∙ ap is_never (sym (by_law (kept_below row opening.spread es (present es)) (lapses_below row opening.spread es (present es)) row.length.0 row.share opening.allowed
      (present es) (can_keep row opening.spread) (begins_now row opening es) g.ends))
      ∙ never_law (kept_below row opening.spread es (present es)) (lapses_below row opening.spread es (present es)) row.length.0 row.share opening.allowed
      (present es) (can_keep row opening.spread) (begins_now row opening es) g.ends some_needed
