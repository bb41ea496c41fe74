-- A list of calls that runs, one call after the other: records, count and outcomes after the first k of them.
use Rattle.std.specs.Prelude.{Option, Some, None, if◌then◌else◌}
use Prim.Native.Nat.{ℕ, zero, suc, ◌+◌, ◌*◌, ◌≤◌, ◌<◌}
use native.Mathlib.Omega.{arith}
use native.Mathlib.Numerals.{add-one}
use mathlib.Core.Path.{◌≡◌, refl, sym, ap, subst, ◌∙◌}
use mathlib.Core.List.{List, [], ◌∷◌, ◌++◌, append_assoc}
use mathlib.Core.Bool.{Bool, true, false}
use lib.Dec.{leb}
use lib.ListN.{length, get_or, take, drop, set, length-append, length-drop}
use lib.Seq.{take-suc, drop-cons, set_at, take-length, length-take-le}
use borrow.Author.Tests.{leb-true}
use Rattle.lists.proofs.Lists.{both}
use Rattle.standing_rules.specs.declared.Maker.{Maker}
use Rattle.standing_rules.specs.declared.Call.{Call}
use Rattle.standing_rules.specs.declared.Call.TheVariants.{Leave}
use Rattle.standing_rules.specs.Calls.{Standing, standing, call_of, wrong, refusal_of, step, after, outcomes_from}
use Rattle.standing_rules.proofs.Working.{wrong-after}
use Rattle.standing.specs.Words.{is_call, readable, calls_of}
use Rattle.standing.specs.Internal.{call_at, can_run, ready_of}
use Rattle.standing.specs.Claim.{ListAnswers}

-- ---- the call at a place

abbrev none : Call
none = Leave 0

-- the three words of the call at the place k
pub record Here (ws : List ℕ) (k : ℕ) : Type 0 where
  pub there : 3 * k + 2 < length ws
  pub call : call_at ws k ≡ get_or (calls_of ws) k none
  pub good : is_call (get_or ws (3 * k) 0) (get_or ws (3 * k + 2) 0) ≡ true

-- after one call more
further : (a b c : ℕ) (rest : List ℕ) (k : ℕ) → is_call a c ≡ true → Here rest k → Here (a ∷ b ∷ c ∷ rest) (suc k)
unfolding calls_of
further a b c rest k e h =
    let p : 3 * suc k ≡ suc (suc (suc (3 * k))) = omega arith in
    let q : 3 * suc k + 1 ≡ suc (suc (suc (3 * k + 1))) = omega arith in
    let r : 3 * suc k + 2 ≡ suc (suc (suc (3 * k + 2))) = omega arith in
    record {
      there = let t = h.there in omega arith;
      call = rw (q, r, p, e) h.call;
      good = rw (r, p) h.good;
    }

pub here : (ws : List ℕ) (k : ℕ) → readable ws ≡ true → k < length (calls_of ws) → Here ws k
unfolding readable calls_of
here [] k e h = absurd (omega arith)
here (a ∷ []) k e h = absurd (omega arith)
here (a ∷ b ∷ []) k e h = absurd (omega arith)
here (a ∷ b ∷ c ∷ rest) zero e h = first (both (is_call a c) (readable rest) e).0
  where
    first : is_call a c ≡ true → Here (a ∷ b ∷ c ∷ rest) 0
    first p = record { there = omega arith; call = rw p refl; good = p }
here (a ∷ b ∷ c ∷ rest) (suc k) e h =
    let p = both (is_call a c) (readable rest) e in
    further a b c rest k p.0 (here rest k p.1 (less p.0))
  where
    less : is_call a c ≡ true → k < length (calls_of rest)
    less p = let l : suc k < suc (length (calls_of rest)) = subst (λ (t : Bool). suc k < length (if t then call_of a b c ∷ calls_of rest else [])) p h in omega arith

-- ---- one call more

after_more : (s : Standing) (cs : List Call) (c : Call) → after s (cs ++ (c ∷ [])) ≡ step (after s cs) c
unfolding after
after_more s [] c = refl
after_more s (d ∷ cs) c = after_more (step s d) cs c

outcomes_more : (s : Standing) (cs : List Call) (c : Call) → outcomes_from s (cs ++ (c ∷ [])) ≡ outcomes_from s cs ++ (refusal_of (after s cs) c ∷ [])
unfolding after outcomes_from
outcomes_more s [] c = refl
outcomes_more s (d ∷ cs) c = ap {B = List ℕ} (λ l. refusal_of s d ∷ l) (outcomes_more (step s d) cs c)

outcomes_long : (s : Standing) (cs : List Call) → length (outcomes_from s cs) ≡ length cs
unfolding outcomes_from
outcomes_long s [] = refl
outcomes_long s (d ∷ cs) = ap suc (outcomes_long (step s d) cs)

-- ---- the run

module _ (ws : List ℕ) (s : Standing) (before : List ℕ) where
  abbrev fits : Bool
  fits = can_run ws (length before)

  -- the calls that run
  abbrev pub running : List Call
  running = if fits then calls_of ws else []

  abbrev pub upto : ℕ → List Call
  upto k = take k running

  abbrev pub at : ℕ → Standing
  at k = after s (upto k)

  abbrev pub noted : ℕ → List ℕ
  noted k = outcomes_from s (upto k) ++ drop k before

  pub none_ready : None ≡ ready_of ws (length before) → fits ≡ false
  unfolding ready_of
  none_ready e = go fits e
    where
      go : (b : Bool) → ◌≡◌ {A = Option ℕ} None (if b then Some (length (calls_of ws)) else None) → b ≡ false
      go true e = cc
      go false e = refl

  pub ready_is : (n : ℕ) → Some n ≡ ready_of ws (length before) → (n ≡ length running) × (fits ≡ true)
  unfolding ready_of
  ready_is n e = go fits e
    where
      go : (b : Bool) → Some n ≡ (if b then Some (length (calls_of ws)) else None) → (n ≡ length (if b then calls_of ws else [])) × (b ≡ true)
      go true e = (cc, refl)
      go false e = cc

  -- nothing runs
  pub not_run : fits ≡ false → (l : List Maker) (c : ℕ) → standing l c ≡ s → ListAnswers ws s before l before (record { count = c; fits = false })
  unfolding can_run after
  not_run e l c h =
      record {
        fits = sym e;
        count = ap (λ (t : Standing). t.count) h;
        records = ap (λ (t : Standing). t.records) h;
        outcomes = refl;
      }

  -- what was checked at the start holds before every call
  pub judged-once : (k : ℕ) → wrong (at k) ≡ wrong s
  judged-once k = wrong-after (upto k) s

  pub at_start : at 0 ≡ s
  unfolding after
  at_start = refl

  pub noted_start : noted 0 ≡ before
  unfolding outcomes_from
  noted_start = refl

  runs_on : (k : ℕ) → k < length running → fits ≡ true
  runs_on k h = go fits refl h
    where
      go : (b : Bool) → fits ≡ b → k < length (if b then calls_of ws else []) → b ≡ true
      go true e h = refl
      go false e h = absurd (omega arith)

  running_is : fits ≡ true → running ≡ calls_of ws
  running_is e = rw e refl

  parts : fits ≡ true → (readable ws ≡ true) × (length (calls_of ws) ≤ length before)
  unfolding can_run
  parts e = let p = both (readable ws) (leb (length (calls_of ws)) (length before)) e in (p.0, leb-true (length (calls_of ws)) (length before) p.1)

  pub few : length running ≤ length before
  few = go fits refl
    where
      go : (b : Bool) → fits ≡ b → length (if b then calls_of ws else []) ≤ length before
      go true e = (parts e).1
      go false e = omega arith

  module _ (k : ℕ) (h : k < length running) where
    there : Here ws k
    there = let e = runs_on k h in here ws k (parts e).0 (subst (λ (l : List Call). k < length l) (running_is e) h)

    abbrev call : Call
    call = call_at ws k

    pub inside : 3 * k + 2 < length ws
    inside = there.there

    call_is : call ≡ get_or running k none
    call_is = there.call ∙ sym (ap (λ (l : List Call). get_or l k none) (running_is (runs_on k h)))

    upto_next : upto (k + 1) ≡ upto k ++ (call ∷ [])
    upto_next = ap upto (add-one k) ∙ take-suc running k none h ∙ ap (λ (c : Call). upto k ++ (c ∷ [])) (sym call_is)

    pub at_next : step (at k) call ≡ at (k + 1)
    at_next = sym (ap (after s) upto_next ∙ after_more s (upto k) call)

    upto_long : length (upto k) ≡ k
    upto_long = length-take-le k running (omega arith)

    short : k < length before
    short = let f = few in omega (arith, f)

    pub noted-next : set (noted k) k (refusal_of (at k) call) ≡ noted (k + 1)
    noted-next =
        let long : length (outcomes_from s (upto k)) ≡ k = outcomes_long s (upto k) ∙ upto_long in
        ap (λ (l : List ℕ). set (outcomes_from s (upto k) ++ l) k (refusal_of (at k) call)) (drop-cons before k 0 short)
        ∙ set_at (outcomes_from s (upto k)) (get_or before k 0) (drop (suc k) before) (refusal_of (at k) call) k long
        ∙ sym (append_assoc (outcomes_from s (upto k)) (refusal_of (at k) call ∷ []) (drop (suc k) before))
        ∙ ap (λ (l : List ℕ). l ++ drop (suc k) before) (sym (ap (outcomes_from s) upto_next ∙ outcomes_more s (upto k) call))
        ∙ ap (λ (j : ℕ). outcomes_from s (upto (k + 1)) ++ drop j before) (sym (add-one k))

  pub noted_long : (k : ℕ) → k ≤ length running → length (noted k) ≡ length before
  noted_long k h =
      let f = few in
      let a = length-append (outcomes_from s (upto k)) (drop k before) in
      let b : length (outcomes_from s (upto k)) ≡ k = outcomes_long s (upto k) ∙ length-take-le k running h in
      let c = length-drop k before in
      omega (arith, a, b, c)

  -- all calls ran
  pub finished : ListAnswers ws s before (at (length running)).records (noted (length running)) (record { count = (at (length running)).count; fits = fits })
  unfolding can_run
  finished =
      let e : upto (length running) ≡ running = take-length running in
      record {
        fits = refl;
        count = ap (λ (cs : List Call). (after s cs).count) e;
        records = ap (λ (cs : List Call). (after s cs).records) e;
        outcomes = ap (λ (cs : List Call). outcomes_from s cs ++ drop (length running) before) e ∙ go fits;
      }
    where
      go : (b : Bool) → outcomes_from s (if b then calls_of ws else []) ++ drop (length (if b then calls_of ws else [])) before ≡ (if b then outcomes_from s (calls_of ws) ++ drop (length (calls_of ws)) before else before)
      go true = refl
      go false = noted_start
