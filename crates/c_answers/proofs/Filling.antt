-- A copy to the front of a lent buffer, and what is then answered.
use Prim.Native.Nat.{ℕ, ◌≤◌, ◌<◌}
use native.Mathlib.Omega.{arith}
use mathlib.Core.Path.{◌≡◌, refl, sym, ap, subst, ◌∙◌}
use mathlib.Core.List.{List, ◌++◌}
use lib.ListN.{length, take, drop}
use lib.Seq.{length-take-le}
use borrow.Author.Tests.{lt-ltb, le-ltb}
use Rattle.rules.specs.Answers.{Outcome, accepted, refused}
use Rattle.c_answers.specs.Answers.{refused_number, fitted, length_number, Fills}

-- the first i of the words are put
abbrev pub put : List ℕ → List ℕ → ℕ → List ℕ
put v d i = take i v ++ drop i d

-- ---- what is answered
pub too_short : (n : ℕ) (ws : List ℕ) → n < length ws → refused_number 16 ≡ length_number (fitted n (accepted ws))
too_short n ws h = rw (lt-ltb n (length ws) h) refl

pub fills_not : (ws b : List ℕ) (n : ℕ) → length b < length ws → n ≡ refused_number 16 → Fills (accepted ws) b b n
fills_not ws b n h e =
    record {
      number = e ∙ rw (lt-ltb (length b) (length ws) h) refl;
      buffer = rw (lt-ltb (length b) (length ws) h) refl;
    }

pub fills_whole : (ws b e : List ℕ) (n : ℕ) → length ws ≤ length b → e ≡ ws ++ drop (length ws) b → n ≡ length ws → Fills (accepted ws) b e n
fills_whole ws b e n h f g =
    record {
      number = g ∙ rw (le-ltb (length b) (length ws) h) refl;
      buffer = f ∙ rw (le-ltb (length b) (length ws) h) refl;
    }

-- the front of some bytes
pub front_not : (v b : List ℕ) (n r : ℕ) → n ≤ length v → length b < n → r ≡ refused_number 16 → Fills (accepted (take n v)) b b r
front_not v b n r h l e = let long = length-take-le n v h in fills_not (take n v) b r (omega arith) e

pub front-whole : (v b e : List ℕ) (n : ℕ) → n ≤ length v → n ≤ length b → e ≡ put v b n → Fills (accepted (take n v)) b e n
front-whole v b e n h l f =
    let long = length-take-le n v h in
    fills_whole (take n v) b e n (omega arith) (f ∙ ap (λ (m : ℕ). take n v ++ drop m b) (sym long)) (sym long)

pub fills_refused : (r : ℕ) (b : List ℕ) (n : ℕ) → n ≡ refused_number r → Fills (refused r) b b n
fills_refused r b n e = record { number = e; buffer = refl }

-- the same under another name of what is due
pub fills_as : {due other : Outcome (List ℕ)} {b e : List ℕ} {n : ℕ} → due ≡ other → Fills due b e n → Fills other b e n
fills_as {due} {other} {b} {e} {n} h f = subst (λ (o : Outcome (List ℕ)). Fills o b e n) h f
