-- How many stretches a run can give: one more than its records, so 1,601 for the 1,600 of the program `account`.
use Rattle.std.specs.Prelude.{if◌then◌else◌}
use Prim.Native.Nat.{ℕ, zero, suc, ◌+◌, ◌-◌, ◌≤◌, ◌<◌}
use native.Mathlib.Omega.{arith}
use mathlib.Core.Path.{◌≡◌, refl, sym, ap, ◌∙◌}
use mathlib.Core.List.{List, [], ◌∷◌, ◌++◌}
use mathlib.Core.Bool.{Bool, true, false}
use lib.Dec.{leb}
use lib.ListN.{length, length-append}
use borrow.Author.Tests.{leb-true, leb-false}
use Rattle.rules.specs.declared.Row.{Row}
use Rattle.rules.specs.declared.SpreadRule.{SpreadRule}
use Rattle.rules.specs.declared.Event.{Event}
use Rattle.rules.specs.Terms.{paper}
use Rattle.rules.specs.Rows.{row_of}
use Rattle.rules.specs.Orders.{live, present, time_from}
use Rattle.rules.specs.States.{State, orders_state, state_at}
use Rattle.rules.specs.Causes.{event_refusal}
use Rattle.rules.specs.Bounds.{EventBounds}
use Rattle.rules.specs.Session.{most_sheet_records, records_of}
use Rattle.rules.specs.Accounts.{Part, part, same_state, grown_by, parts, Account, account_unless, account_of, account}
use Rattle.rules.proofs.Orders.{present-snoc}
use Rattle.rules.proofs.States.{state_at-now, state_at-snoc}
use Rattle.rules.proofs.Refusals.{event_passes}
use Rattle.rules.proofs.Bounds.{event_bounds_none, event_bounds_more}
use Rattle.record_runs.proofs.Walks.{takes}
use Rattle.record_runs.proofs.Openings.{open_refusal, cell_of}
use Rattle.session_account.specs.Gathered.{parts_of, parts_ext}
use Rattle.session_account.proofs.Parts.{parts-run}
use Rattle.session_account.proofs.Runs.{walks, runs_end, account-begins}

-- ---- a piece adds one at most

grown_few : (s : State) (a d : ℕ) (ps : List Part) → length (grown_by s a d ps) ≤ length ps + 1
unfolding grown_by
grown_few s a d [] = omega arith
grown_few s a d (p ∷ []) = go (same_state p.state s)
  where
    go : (b : Bool) → length (if b then part p.offset (p.length + d) s ∷ [] else p ∷ part a d s ∷ []) ≤ 2
    go true = omega arith
    go false = omega arith
grown_few s a d (p ∷ q ∷ ps) = let ih = grown_few s a d (q ∷ ps) in omega arith

parts_few : (f : ℕ → State) (a b : ℕ) (s : State) → a ≤ b → ((m : ℕ) → a ≤ m → m < b → f m ≡ s) → length (parts f b) ≤ length (parts f a) + 1
parts_few f a b s l h = go (leb b a) refl
  where
    go : (t : Bool) → leb b a ≡ t → length (parts f b) ≤ length (parts f a) + 1
    go true e =
        let k = leb-true b a e in
        let same : b ≡ a = omega arith in
        omega (arith, ap (λ (n : ℕ). length (parts f n)) same)
    go false e =
        let k = leb-false b a e in
        let to : a + (b - a) ≡ b = omega arith in
        let run = parts-run f a (b - a) s (omega arith) (λ m x y. h m x (omega arith)) in
        omega (arith, ap (λ (n : ℕ). length (parts f n)) to, ap length run, grown_few s a (b - a) (parts f a))

-- ---- by the accepted events

module _ (row : Row) (sp : SpreadRule) (es : List Event) (g : EventBounds row es) where
  onward : (b : ℕ) → present es ≤ b → length (parts (state_at row sp es) b) ≤ length (parts_of row sp es) + 1
  onward b l = parts_few (state_at row sp es) (present es) b (orders_state row sp (live es)) l (λ m x y. state_at-now row sp es g.ordered m x)

  few_more : (e : Event) → event_refusal row es e ≡ 0 → length (parts_of row sp es) ≤ length es → length (parts_of row sp (es ++ (e ∷ []))) ≤ length (es ++ (e ∷ []))
  few_more e passes few =
      let p = event_passes row es e passes in
      let same = parts_ext (state_at row sp (es ++ (e ∷ []))) (state_at row sp es) (present (es ++ (e ∷ []))) (λ m l. state_at-snoc row sp es e m (omega (arith, present-snoc es e))) in
      omega (arith, ap length same, onward (present (es ++ (e ∷ []))) (omega (arith, present-snoc es e, p.onward)), few, length-append es (e ∷ []))

few_none : (row : Row) (sp : SpreadRule) → length (parts_of row sp []) ≤ 0
unfolding present time_from parts
few_none row sp = omega arith

-- ---- record by record

not_accounted : (n place : ℕ) (times : List ℕ) (ps : List Part) → Account.refused n place ≡ Account.accepted times ps → ⊥
not_accounted n place times ps e = let z : ◌≡◌ {A = ℕ} 0 1 = cc in omega arith

-- of a run that is not refused
module _ (most : ℕ) (words : List ℕ) (sp : SpreadRule) (bytes times : List ℕ) (ps : List Part) where
  begun : (n : ℕ) (next : Account) → account_unless n 0 next ≡ Account.accepted times ps → n ≡ 0
  begun zero next e = refl
  begun (suc n) next e = absurd (not_accounted (suc n) 0 times ps e)

  opens : account paper most words sp bytes ≡ Account.accepted times ps → open_refusal words sp ≡ 0
  unfolding account
  opens h = begun (open_refusal words sp) _ h

  same_long : {t : List ℕ} {qs : List Part} → Account.accepted t qs ≡ Account.accepted times ps → length qs ≡ length ps
  same_long e = cc

  pub few_stretches : account paper most words sp bytes ≡ Account.accepted times ps → (length ps ≤ length (records_of bytes) + 1) × (length (records_of bytes) ≤ most)
  unfolding account_of
  few_stretches h =
      let row = row_of words in
      let cell = cell_of words sp in
      let t =
      takes (walks most cell row sp) (Account.accepted times ps) (λ n place e. not_accounted n place times ps e) (λ es. EventBounds row es × (length (parts_of row sp es) ≤ length es))
      (λ es e passes s. (event_bounds_more row es e s.0 passes, few_more row sp es s.0 e passes s.1))
      [] (records_of bytes) 1 (event_bounds_none row, few_none row sp) (omega arith) (sym (account-begins most words sp bytes (opens h)) ∙ h) in
      let same : length (parts (state_at row sp t.events) row.length.0) ≡ length ps =
      same_long (sym (runs_end most cell row sp (1 + length (records_of bytes)) t.events) ∙ t.ends) in
      (omega (arith, same, onward row sp t.events t.stands.0 row.length.0 t.stands.0.ends, t.stands.1, t.many), omega (arith, t.small))

-- the buffer of the program `account`
pub account-fits : (words : List ℕ) (sp : SpreadRule) (bytes times : List ℕ) (ps : List Part) → account paper most_sheet_records words sp bytes ≡ Account.accepted times ps → length ps ≤ 1601
account-fits words sp bytes times ps h = let f = few_stretches most_sheet_records words sp bytes times ps h in omega (arith, f.0, f.1)
