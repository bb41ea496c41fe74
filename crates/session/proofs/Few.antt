-- The theorem: a run has at most half as many pairs as records, rounded up; so the 1,600 records of a sheet give at most 800, "more than
-- which they can't give".
use Rattle.std.specs.Prelude.{if◌then◌else◌}
use Prim.Native.Nat.{ℕ, ◌+◌, ◌*◌, ◌-◌, ◌≤◌, ◌<◌}
use native.Mathlib.Omega.{arith}
use mathlib.Core.Path.{◌≡◌, refl, sym, ap, ◌∙◌}
use mathlib.Core.List.{List, [], ◌∷◌, ◌++◌}
use mathlib.Core.Bool.{Bool, true, false}
use lib.Dec.{ltb}
use lib.ListN.{length, length-append}
use borrow.Author.Tests.{ltb-true, ltb-false}
use Rattle.rules.specs.declared.Steps.{Steps}
use Rattle.rules.specs.declared.Row.{Row}
use Rattle.rules.specs.declared.SpreadRule.{SpreadRule}
use Rattle.rules.specs.declared.SpreadRule.TheVariants.{Settled}
use Rattle.rules.specs.declared.Event.{Event}
use Rattle.lists.specs.Lists.{filter}
use Rattle.rules.specs.Terms.{paper}
use Rattle.rules.specs.Rows.{row_of}
use Rattle.rules.specs.Orders.{live, present, time_from, time_of, apply_all}
use Rattle.rules.specs.Quotes.{lead, best}
use Rattle.rules.specs.Kept.{quotes_keep, orders_keep, kept_at}
use Rattle.rules.specs.Stretches.{Stretch, stretch, stretches, kept_stretches}
use Rattle.rules.specs.Runs.{before}
use Rattle.rules.specs.Causes.{event_refusal}
use Rattle.rules.specs.Bounds.{EventBounds}
use Rattle.rules.specs.Session.{Session, most_sheet_records, records_of, session}
use Rattle.rules.proofs.Orders.{present-snoc}
use Rattle.rules.proofs.Kept.{kept_at-now, kept_at-snoc}
use Rattle.rules.proofs.Stretches.{stretches_ext, stretches_false, stretches-new, stretches-longer}
use Rattle.rules.proofs.Refusals.{event_passes}
use Rattle.rules.proofs.Bounds.{event_bounds_none, event_bounds_more}
use Rattle.kept_pairs.proofs.Pairs.{length_snoc, before_in, before_ext}
use Rattle.session_pass.proofs.Passes.{not_whole}
use Rattle.record_runs.proofs.Walks.{takes}
use Rattle.record_runs.proofs.Openings.{cell_of}
use Rattle.session_pass.proofs.Runs.{walks, runs_end, session_begun, cell_inside}

-- what some pairs cost in events: two each, a pair that has begun but has no length yet with them; and one when nothing is kept now
abbrev cost : ℕ → Bool → Bool → ℕ
cost pairs last keeps = 2 * pairs + (if keeps then (if last then 0 else 2) else 1)

abbrev cost_below : (ℕ → Bool) → ℕ → Bool → ℕ
cost_below p n keeps = cost (length (stretches p n)) (before p n) keeps

-- time costs nothing
module _ (p : ℕ → Bool) (a b : ℕ) where
  to : a ≤ b → a + (b - a) ≡ b
  to l = omega arith

  kept_on : a < b → ((k : ℕ) → a ≤ k → k < b → p k ≡ true) → (c : Bool) → before p a ≡ c → 2 * length (stretches p b) ≤ cost (length (stretches p a)) c true
  kept_on l f true e =
      let (ss, s, ends, old, new) = stretches-longer p a (b - a) (omega arith) (λ k x y. f k x (omega arith)) e in
      omega (arith, ap length (ap (stretches p) (sym (to (omega arith))) ∙ new), length_snoc ss (stretch s.offset (s.length + (b - a))), ap length old, length_snoc ss s)
  kept_on l f false e =
      let new = stretches-new p a (b - a) (omega arith) (λ k x y. f k x (omega arith)) e in
      omega (arith, ap length (ap (stretches p) (sym (to (omega arith))) ∙ new), length_snoc (stretches p a) (stretch a (b - a)))

  later : a < b → (keeps : Bool) → ((k : ℕ) → a ≤ k → k < b → p k ≡ keeps) → cost_below p b keeps ≤ cost_below p a keeps
  later l true f =
      let last : ◌≡◌ {A = ℕ} (if before p b then 0 else 2) 0 = ap (λ (c : Bool). if c then 0 else 2) (before_in p a b true l f) in
      omega (arith, last, kept_on l f (before p a) refl)
  later l false f =
      let same : length (stretches p b) ≡ length (stretches p a) =
      ap length (ap (stretches p) (sym (to (omega arith))) ∙ stretches_false p a (b - a) (λ k x y. f k x (omega arith))) in
      omega (arith, same)

-- an event costs one at most
judged : (n : ℕ) (last keeps next : Bool) → cost n last next ≤ cost n last keeps + 1
judged n true true true = omega arith
judged n true true false = omega arith
judged n true false true = omega arith
judged n true false false = omega arith
judged n false true true = omega arith
judged n false true false = omega arith
judged n false false true = omega arith
judged n false false false = omega arith

-- ---- event by event

-- the pairs so far cost no more than the events, and one
abbrev Few : Row → SpreadRule → List Event → Type 0
Few row sp es = cost_below (kept_at row sp es) (present es) (orders_keep row sp (live es)) ≤ length es + 1

nothing_keeps : (row : Row) (sp : SpreadRule) → orders_keep row sp (live []) ≡ false
unfolding orders_keep quotes_keep best lead filter live apply_all
nothing_keeps row sp = refl

few_none : (row : Row) (sp : SpreadRule) → Few row sp []
unfolding present time_from stretches
few_none row sp = omega (arith, ap (cost_below (kept_at row sp []) (present [])) (nothing_keeps row sp))

module _ (row : Row) (sp : SpreadRule) (es : List Event) (g : EventBounds row es) where
  -- time runs on to t
  onward : (t : ℕ) → present es ≤ t → cost_below (kept_at row sp es) t (orders_keep row sp (live es)) ≤ cost_below (kept_at row sp es) (present es) (orders_keep row sp (live es))
  onward t h = go (ltb (present es) t) refl
    where
      go : (b : Bool) → ltb (present es) t ≡ b
          → cost_below (kept_at row sp es) t (orders_keep row sp (live es)) ≤ cost_below (kept_at row sp es) (present es) (orders_keep row sp (live es))
      go true e = later (kept_at row sp es) (present es) t (ltb-true (present es) t e) (orders_keep row sp (live es)) (λ k a b. kept_at-now row sp es g.ordered k a)
      go false e =
          let same : t ≡ present es = omega (arith, ltb-false (present es) t e) in
          omega (arith, ap (λ (n : ℕ). cost_below (kept_at row sp es) n (orders_keep row sp (live es))) same)

  few_more : (e : Event) → event_refusal row es e ≡ 0 → Few row sp es → Few row sp (es ++ (e ∷ []))
  few_more e passes few =
      let t = time_of e in
      let p = kept_at row sp es in
      let q = kept_at row sp (es ++ (e ∷ [])) in
      let same : (m : ℕ) → m < t → q m ≡ p m = λ m l. kept_at-snoc row sp es e m l in
      let now = orders_keep row sp (live (es ++ (e ∷ []))) in
      let below : cost_below q t now ≡ cost_below p t now = λ i. cost (length (stretches_ext q p t same i)) (before_ext q p t same i) now in
      omega (
        arith,
        ap (λ (n : ℕ). cost_below q n now) (present-snoc es e),
        below,
        judged (length (stretches p t)) (before p t) (orders_keep row sp (live es)) now,
        onward t (event_passes row es e passes).onward,
        length-append es (e ∷ []),
      )

  few_end : Few row sp es → 2 * length (kept_stretches row sp es) ≤ length es + 1
  unfolding kept_stretches
  few_end few = omega (arith, onward row.length.0 g.ends)

-- of a run that is not refused
pub few_pairs : (most : ℕ) (words : List ℕ) (sp : Steps) (bytes : List ℕ) (k w : ℕ) (ss : List Stretch) → session paper most words sp bytes ≡ Session.accepted k w ss
    → (2 * length ss ≤ length (records_of bytes) + 1) × (length (records_of bytes) ≤ most)
few_pairs most words sp bytes k w ss h =
    let row = row_of words in
    let cell = cell_of words (Settled sp) in
    let (none, good, runs) = session_begun most words sp bytes k w ss h in
    let t =
    takes (walks most cell row sp) (Session.accepted k w ss) (λ n place e. not_whole n place k w ss refl e) (λ es. EventBounds row es × Few row (Settled sp) es)
    (λ es e passes s. (event_bounds_more row es e s.0 passes, few_more row (Settled sp) es s.0 e passes s.1))
    [] (records_of bytes) 1 (event_bounds_none row, few_none row (Settled sp)) (omega arith) runs in
    let last = runs_end most cell row sp (1 + length (records_of bytes)) t.events (cell_inside most words sp bytes good) in
    let same : length (kept_stretches row (Settled sp) t.events) ≡ length ss = whole_long (sym last ∙ t.ends) in
    (omega (arith, same, few_end row (Settled sp) t.events t.stands.0 t.stands.1, t.many), omega (arith, t.small))
  where
    whole_long : {a b : ℕ} {ts : List Stretch} → Session.accepted a b ts ≡ Session.accepted k w ss → length ts ≡ length ss
    whole_long e = cc

pub sheet_fits : (words : List ℕ) (sp : Steps) (bytes : List ℕ) (k w : ℕ) (ss : List Stretch) → session paper most_sheet_records words sp bytes ≡ Session.accepted k w ss
    → length ss ≤ 800
sheet_fits words sp bytes k w ss h = let f = few_pairs most_sheet_records words sp bytes k w ss h in omega (arith, f.0, f.1)
