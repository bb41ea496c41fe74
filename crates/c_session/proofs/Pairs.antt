-- A session's answer in a lent buffer.
use Rattle.std.specs.Prelude.{if◌then◌else◌, Result, Ok, Err}
use Prim.Native.Nat.{ℕ, ◌+◌, ◌-◌, ◌*◌, ◌≤◌, ◌<◌}
use native.Mathlib.Omega.{arith}
use mathlib.Core.Path.{◌≡◌, refl, sym, ap, subst, ◌∙◌}
use mathlib.Core.List.{List, [], ◌∷◌, ◌++◌, append-nil}
use mathlib.Core.Bool.{Bool, true, false}
use lib.Dec.{ltb}
use lib.ListN.{length, take, drop, set, length-drop, drop_of_length-le}
use lib.Seq.{take_all}
use borrow.Author.Tests.{ne_eqb, ltb-true, ltb-false}
use Rattle.rules.specs.declared.Millis.{Millis}
use Rattle.rules.specs.declared.Refusal.{Refusal}
use Rattle.rules.specs.declared.Finished.{Finished}
use Rattle.rules.specs.declared.Stopped.{Stopped}
use Rattle.rules.specs.Terms.{paper}
use Rattle.rules.specs.Answers.{number_of}
use Rattle.rules.specs.Stretches.{pair_words}
use Rattle.rules.specs.Session.{Ran, shown_session, Session, most_records, session_bytes, ran, front, buffer_after}
use Rattle.rules.proofs.Stretches.{pair_words-length}
use Rattle.c_answers.specs.Answers.{refused_number}
use Rattle.c_session.specs.Sessions.{pairs_number, FillsPairs}
use Rattle.c_session.specs.Internal.{short_number, ran_number, headed}
use Rattle.c_answers.proofs.Filling.{too_short, fills_not, fills_whole}

-- ---- no room for K, w and the number of pairs
short : (s : Session) (n : ℕ) → n < 3 → short_number (ran 0 s) ≡ pairs_number n s
unfolding ran
short (Session.accepted k w ss) n h = go (ltb 0 (2 * length ss)) ∙ too_short n (k ∷ w ∷ length ss ∷ pair_words ss) (omega arith)
  where
    go : (b : Bool) → short_number (if b then Ran.refused 16 0 else Ran.accepted k w (length ss)) ≡ refused_number 16
    go true = refl
    go false = refl
short (Session.refused m p) n h = refl

pub short_is : (s : Session) (shown : Ran) (r n : ℕ) → shown ≡ ran 0 s → r ≡ short_number shown → n < 3 → r ≡ pairs_number n s
short_is s shown r n e f h = f ∙ ap short_number e ∙ short s n h

pub short_stopped : (r : Result Finished Stopped) (stop : Stopped) (n : ℕ) → r ≡ Err stop → n ≡ refused_number (number_of stop.refusal) + stop.place
    → n ≡ short_number (shown_session r)
short_stopped r stop n e is = is ∙ sym (ap (λ (x : Result Finished Stopped). short_number (shown_session x)) e)

-- ---- room for them
pub head_finished : (r : Result Finished Stopped) (run : Finished) (b : List ℕ) → r ≡ Ok run
    → (3 + 2 * run.pairs ≡ ran_number (shown_session r)) × (set (set (set b 0 run.kept.0) 1 run.weight) 2 run.pairs ≡ headed b (shown_session r))
head_finished r run b e =
    (sym (ap (λ (x : Result Finished Stopped). ran_number (shown_session x)) e), sym (ap (λ (x : Result Finished Stopped). headed b (shown_session x)) e))

pub head-stopped : (r : Result Finished Stopped) (stop : Stopped) (n : ℕ) (b : List ℕ) → r ≡ Err stop → n ≡ refused_number (number_of stop.refusal) + stop.place
    → (n ≡ ran_number (shown_session r)) × (b ≡ headed b (shown_session r))
head-stopped r stop n b e is = (
  is ∙ sym (ap (λ (x : Result Finished Stopped). ran_number (shown_session x)) e),
  sym (ap (λ (x : Result Finished Stopped). headed b (shown_session x)) e),
)

fills : (s : Session) (x y z : ℕ) (t : List ℕ) → FillsPairs s (x ∷ y ∷ z ∷ t) (headed (x ∷ y ∷ z ∷ buffer_after t s) (ran (length t) s)) (ran_number (ran (length t) s))
unfolding ran front buffer_after
fills (Session.accepted k w ss) x y z t = go (ltb (length t) (2 * length ss)) refl
  where
    go : (b : Bool) → ltb (length t) (2 * length ss) ≡ b
        → FillsPairs (Session.accepted k w ss) (x ∷ y ∷ z ∷ t)
        (headed (x ∷ y ∷ z ∷ ((if b then [] else pair_words ss) ++ drop (length (if b then [] else pair_words ss)) t)) (if b then Ran.refused 16 0 else Ran.accepted k w (length ss)))
        (ran_number (if b then Ran.refused 16 0 else Ran.accepted k w (length ss)))
    go true f =
        let l = ltb-true (length t) (2 * length ss) f in
        let all =
        fills_not (k ∷ w ∷ length ss ∷ pair_words ss) (x ∷ y ∷ z ∷ t) (refused_number 16 + 0) (omega (arith, pair_words-length ss)) refl in
        record { number = all.number; buffer = all.buffer }
    go false f =
        let l = ltb-false (length t) (2 * length ss) f in
        let all =
        fills_whole (k ∷ w ∷ length ss ∷ pair_words ss) (x ∷ y ∷ z ∷ t) (k ∷ w ∷ length ss ∷ (pair_words ss ++ drop (length (pair_words ss)) t)) (3 + 2 * length ss)
        (omega (arith, pair_words-length ss)) refl (omega (arith, pair_words-length ss)) in
        record { number = all.number; buffer = all.buffer }
fills (Session.refused m p) x y z t = record { number = refl; buffer = refl }

pub pairs_filled : (s : Session) (b mid e : List ℕ) (shown : Ran) (r : ℕ) → 3 ≤ length b → shown ≡ ran (length (drop 3 b)) s
    → mid ≡ take 3 b ++ buffer_after (drop 3 b) s → r ≡ ran_number shown → e ≡ headed mid shown → FillsPairs s b e r
pairs_filled s [] mid e shown r h f g i j = absurd (omega arith)
pairs_filled s (x ∷ []) mid e shown r h f g i j = absurd (omega arith)
pairs_filled s (x ∷ y ∷ []) mid e shown r h f g i j = absurd (omega arith)
pairs_filled s (x ∷ y ∷ z ∷ t) mid e shown r h f g i j =
    let whole' = fills s x y z t in
    record {
      number = i ∙ ap ran_number f ∙ whole'.number;
      buffer = j ∙ (λ k. headed (g k) (f k)) ∙ whole'.buffer;
    }

-- the buffer from the fourth word on is lent to the run, and back
pub pairs_lent : (s : Session) (b out e : List ℕ) (k : ℕ) (shown : Ran) (r : ℕ) → 3 ≤ length b → k ≡ length b - 3
    → shown ≡ ran (length (take k (drop 3 b))) s → out ≡ buffer_after (take k (drop 3 b)) s → r ≡ ran_number shown
    → e ≡ headed (take 3 b ++ (out ++ drop k (drop 3 b))) shown → FillsPairs s b e r
pairs_lent s b out e k shown r h is f g i j =
    let size = length-drop 3 b in
    let part = take_all k (drop 3 b) (omega arith) in
    let rest = drop_of_length-le (drop 3 b) {i = k} (omega arith) in
    let mid =
    (λ n. take 3 b ++ (g n ++ rest n)) ∙ ap (λ (l : List ℕ). take 3 b ++ l) (append-nil (buffer_after (take k (drop 3 b)) s))
    ∙ ap (λ (l : List ℕ). take 3 b ++ buffer_after l s) part in
    pairs_filled s b (take 3 b ++ (out ++ drop k (drop 3 b))) e shown r h (f ∙ ap (λ (l : List ℕ). ran (length l) s) part) mid i j

pub short_fills : (s : Session) (b : List ℕ) (r : ℕ) → length b < 3 → r ≡ pairs_number (length b) s → FillsPairs s b b r
short_fills (Session.accepted k w ss) b r h e =
    record { number = e; buffer = (fills_not (k ∷ w ∷ length ss ∷ pair_words ss) b (refused_number 16) (omega arith) refl).buffer }
short_fills (Session.refused m p) b r h e = record { number = e; buffer = refl }

-- ---- the leading bytes
pub no_head : (head records b : List ℕ) (r : ℕ) → (length head ≡ 32 → ⊥) → r ≡ refused_number 1
    → FillsPairs (session_bytes paper most_records head records) b b r
unfolding session_bytes
no_head head records b r h e = rw (ne_eqb (length head) 32 h) (record { number = e ∙ omega arith; buffer = refl })

pub fills_same : {s t : Session} {b e : List ℕ} {r : ℕ} → s ≡ t → FillsPairs s b e r → FillsPairs t b e r
fills_same {s} {t} {b} {e} {r} h f = subst (λ (x : Session). FillsPairs x b e r) h f
