-- Lists of calls one after the other, and events that pass in turn: each is accepted on the book after those before it.
use Prim.Native.Nat.{ℕ}
use mathlib.Core.Path.{◌≡◌, refl, sym, ap, ◌∙◌, subst}
use mathlib.Core.List.{List, [], ◌∷◌, ◌++◌, map, append_assoc, append-nil}
use lib.ListN.{length, set}
use Rattle.rules.specs.declared.Opening.{Opening}
use Rattle.rules.specs.declared.Kopecks.{Kopecks}
use Rattle.rules.specs.declared.Row.{Row}
use Rattle.rules.specs.declared.Event.{Event}
use Rattle.rules.specs.Terms.{Terms}
use Rattle.rules.specs.Calls.{Call, Send, Close, Running, Idle, Quoting, Book}
use Rattle.rules.specs.Changes.{noted_all, closed_cell, closed, following, count_after, changed}
use Rattle.rules.specs.Book.{step, run}
use Rattle.rules.specs.Histories.{NoneRefused}
use Rattle.rules.proofs.Refusals.{SendPasses, InTurn, call_passes, passes_call, step-accepted}

-- the book with some events noted and counted
abbrev pub with : Book → List Event → Book
with b es = record { running = noted_all b.running es; cells = b.cells; count = count_after (length es) b.count }

in_turn_noted : (r : Running) (e : Event) (es : List Event) → noted_all (noted_all r (e ∷ [])) es ≡ noted_all r (e ∷ es)
in_turn_noted Idle e es = refl
in_turn_noted (Quoting place row opening events) e es = ap (Quoting place row opening) (append_assoc events (e ∷ []) es)

module _ (terms : Terms) where
  pub run-append : (b : Book) (cs ds : List Call) → run terms b (cs ++ ds) ≡ run terms (run terms b cs) ds
  unfolding run
  run-append b [] ds = refl
  run-append b (c ∷ cs) ds = run-append (step terms b c) cs ds

  -- accepted one after the other
  pub none-parts : (b : Book) (cs ds : List Call) → NoneRefused terms b (cs ++ ds) → NoneRefused terms b cs × NoneRefused terms (run terms b cs) ds
  unfolding run
  none-parts b [] ds h = (tt, h)
  none-parts b (c ∷ cs) ds h = let (x, y) = none-parts (step terms b c) cs ds h.1 in ((h.0, x), y)

  pub parts_none : (b : Book) (cs ds : List Call) → NoneRefused terms b cs → NoneRefused terms (run terms b cs) ds → NoneRefused terms b (cs ++ ds)
  unfolding run
  parts_none b [] ds h k = k
  parts_none b (c ∷ cs) ds h k = (h.0, parts_none (step terms b c) cs ds h.1 k)

  -- events that pass in turn are accepted one after the other
  pub record Sent (b : Book) (es : List Event) : Type 0 where
    pub none : NoneRefused terms b (map Send es)
    pub book : run terms b (map Send es) ≡ with b es

  pub sent-none : (b : Book) → Sent b []
  unfolding run
  sent-none b = record { none = tt; book = ap (λ (r : Running). record { running = r; cells = b.cells; count = b.count }) (go b.running) }
    where
      go : (r : Running) → r ≡ noted_all r []
      go Idle = refl
      go (Quoting place row opening events) = ap (Quoting place row opening) (sym (append-nil events))

  pub sent : (b : Book) (place : ℕ) (row : Row) (opening : Opening) (events es : List Event) → b.running ≡ Quoting place row opening events
      → InTurn row events es → Sent b es
  unfolding run changed
  sent b place row opening events [] o p = sent-none b
  sent b place row opening events (e ∷ es) o p =
      let passes = subst (λ (r : Running). SendPasses r e) (sym o) p.0 in
      let zero = passes_call terms b (Send e) passes in
      let next = step-accepted terms b (Send e) zero in
      let opened = ap (λ (r : Running). noted_all r (e ∷ [])) o in
      let rest = subst (λ (d : Book). Sent d es) (sym next) (sent (changed b (Send e)) place row opening (events ++ (e ∷ [])) es opened p.1) in
      let joined = in_turn_noted b.running e es in
      record {
        none = (zero, rest.none);
        book = rest.book ∙ ap (λ (d : Book). with d es) next ∙ λ i. record { running = joined i; cells = b.cells; count = count_after (length es) (following b.count) };
      }

  -- the open quantum's events go to the end of its list, and its close depends on its row and that list
  module _ (place : ℕ) (row : Row) (opening : Opening) where
    pub closes : (b : Book) (past events : List Event) (active passive : Kopecks) → b.running ≡ Quoting place row opening past
        → NoneRefused terms b (map Send events ++ (Close active passive ∷ []))
        → (run terms b (map Send events ++ (Close active passive ∷ []))).cells ≡ set b.cells place (closed_cell row opening (past ++ events) active passive)
    unfolding run changed
    closes b past [] active passive e h =
        ap (λ (s : Book). s.cells) (step-accepted terms b (Close active passive) h.0)
        ∙ ap (λ (r : Running). closed r active passive b.cells) e
        ∙ ap (λ (l : List Event). set b.cells place (closed_cell row opening l active passive)) (sym (append-nil past))
    closes b past (x ∷ events) active passive e h =
        let s = step-accepted terms b (Send x) h.0 in
        closes (step terms b (Send x)) (past ++ (x ∷ [])) events active passive
        (ap (λ (c : Book). c.running) s ∙ ap (λ (r : Running). noted_all r (x ∷ [])) e) h.1
        ∙ ap (λ (c : Book). set c.cells place (closed_cell row opening (past ++ (x ∷ []) ++ events) active passive)) s
        ∙ ap (λ (l : List Event). set b.cells place (closed_cell row opening l active passive)) (append_assoc past (x ∷ []) events)

    -- events that are accepted pass in turn
    pub sends_pass : (b : Book) (past events : List Event) → b.running ≡ Quoting place row opening past → NoneRefused terms b (map Send events)
        → InTurn row past events
    unfolding changed
    sends_pass b past [] e h = tt
    sends_pass b past (x ∷ events) e h =
        let s = step-accepted terms b (Send x) h.0 in
        let next = ap (λ (c : Book). c.running) s ∙ ap (λ (r : Running). noted_all r (x ∷ [])) e in
        (subst (λ (r : Running). SendPasses r x) e (call_passes terms b (Send x) h.0), sends_pass (step terms b (Send x)) (past ++ (x ∷ [])) events next h.1)
