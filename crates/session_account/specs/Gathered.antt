-- The stretches as what a run over records gathers.
use Rattle.std.specs.Prelude.{ℕ, List, [], ◌∷◌, ◌++◌, length}
use Prim.Native.Nat.{zero, suc, ◌<◌}
use native.Mathlib.Omega.{arith}
use mathlib.Core.Path.{◌≡◌, refl, sym, ap, ◌∙◌, subst}
use Rattle.lists.proofs.Counting.{count_ext}
use Rattle.rules.specs.declared.Row.{Row}
use Rattle.rules.specs.declared.SpreadRule.{SpreadRule}
use Rattle.rules.specs.declared.Event.{Event}
use Rattle.rules.specs.Units.{millis}
use Rattle.rules.specs.Orders.{live, present, time_of}
use Rattle.rules.specs.States.{State, kept, has_no_bid, has_no_ask, neither, crossed, wide, state_word, orders_state, state_at}
use Rattle.rules.specs.Causes.{event_refusal}
use Rattle.rules.specs.Bounds.{EventBounds}
use Rattle.rules.specs.Accounts.{Part, same_state, in_state, time_in, parts}
use Rattle.rules.proofs.States.{state_at-snoc}
use Rattle.session_account.specs.declared.Marks.{Marks}
use Rattle.session_account.specs.Internal.{last_start, last_word, times_at, marks_at, Holds}

-- the word of the state that the time which follows is in
abbrev pub word_after : Row → SpreadRule → List Event → ℕ
word_after row sp es = state_word (orders_state row sp (live es))

-- the stretches of the time below n
abbrev pub gathered_parts : Row → SpreadRule → List Event → ℕ → Marks → List ℕ → List ℕ → Type 0
gathered_parts row sp es n marks base buffer = (marks ≡ marks_at (state_at row sp es) n) × Holds base (parts (state_at row sp es) n) buffer

abbrev pub parts_of : Row → SpreadRule → List Event → List Part
parts_of row sp es = parts (state_at row sp es) (present es)

-- an event changes nothing of the time before it
pub parts_ext : (f g : ℕ → State) (n : ℕ) → ((m : ℕ) → m < n → f m ≡ g m) → parts f n ≡ parts g n
unfolding parts
parts_ext f g zero h = refl
parts_ext f g (suc n) h = rw (parts_ext f g n (λ m l. h m (omega arith)), h n (omega arith)) refl

time_ext : (f g : ℕ → State) (n : ℕ) → ((m : ℕ) → m < n → f m ≡ g m) → (s : State) → time_in f n s ≡ time_in g n s
unfolding time_in
time_ext f g n h s = count_ext (in_state f s) (in_state g s) n (λ m l. ap (λ (x : State). same_state x s) (h m l))

pub onward_parts : (row : Row) (sp : SpreadRule) (es : List Event) (e : Event) (marks : Marks) (base buffer : List ℕ) → EventBounds row es → event_refusal row es e ≡ 0
    → gathered_parts row sp es (time_of e) marks base buffer → gathered_parts row sp (es ++ (e ∷ [])) (time_of e) marks base buffer
unfolding marks_at times_at
onward_parts row sp es e marks base buffer g z h =
    let f = state_at row sp es in
    let f' = state_at row sp (es ++ (e ∷ [])) in
    let same : (m : ℕ) → m < time_of e → f m ≡ f' m = λ m l. sym (state_at-snoc row sp es e m l) in
    let ps = parts_ext f f' (time_of e) same in
    let ts = time_ext f f' (time_of e) same in (
      h.0 ∙ (λ i.
          record {
            stretches = length (ps i);
            start = last_start (ps i);
            state = last_word (ps i);
            times = record { kept = millis (ts kept i); no_bid = millis (ts has_no_bid i); no_ask = millis (ts has_no_ask i); neither = millis (ts neither i); crossed = millis (ts crossed i); wide = millis (ts wide i) };
          }),
      subst (λ (l : List Part). Holds base l buffer) ps h.1,
    )
