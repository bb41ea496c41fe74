-- Bytes laid over others, one piece after the other.
use Prim.Native.Nat.{ℕ, zero, suc, ◌+◌, ◌-◌, ◌≤◌, ◌<◌}
use native.Mathlib.Nat.{add_assoc}
use native.Mathlib.Numerals.{add-one}
use native.Mathlib.Omega.{arith}
use mathlib.Core.Path.{◌≡◌, refl, sym, ap, subst, ◌∙◌}
use mathlib.Core.List.{List, [], ◌∷◌, ◌++◌, append_assoc}
use lib.ListN.{length, get_or, take, drop, set, replicate, length-append, length-set}
use lib.Seq.{take-length, length-take-le, take_at, drop_at, drop-append-add, drop-drop, set_split, paste, paste-suc, length-paste}
use Rattle.fix_writer.specs.Internal.{laid, Laid}

module _ (d : List ℕ) (at : ℕ) where
  -- ---- one byte
  pub one-laid : (b : ℕ) → at < length d → Laid d at (b ∷ []) (at + 1) (set d at b)
  one-laid b h = record { fits = omega arith; place = refl; bytes = rw (set_split d at b h, ← add-one at) refl; size = length-set d at b }

  -- ---- two pieces
  module _ (p q : List ℕ) (h : at + length p ≤ length d) where
    front_length : length (take at d ++ p) ≡ at + length p
    front_length = simp length-append (rw (length-take-le at d (omega arith)) refl)

    seam : laid d at p ≡ (take at d ++ p) ++ drop (at + length p) d
    seam = sym (append_assoc (take at d) p (drop (at + length p) d))

    front_kept : take (at + length p) (laid d at p) ≡ take at d ++ p
    front_kept = ap (take (at + length p)) seam ∙ take_at (take at d ++ p) (drop (at + length p) d) (at + length p) front_length

    rest-kept : drop (at + length p + length q) (laid d at p) ≡ drop (at + length (p ++ q)) d
    rest-kept =
        ap (drop (at + length p + length q)) seam
        ∙ ap (λ (n : ℕ). drop (n + length q) ((take at d ++ p) ++ drop (at + length p) d)) (sym front_length)
        ∙ drop-append-add (take at d ++ p) (drop (at + length p) d) (length q)
        ∙ drop-drop (length q) (at + length p) d
        ∙ ap (λ (n : ℕ). drop n d) (add_assoc at (length p) (length q) ∙ ap (λ (n : ℕ). at + n) (sym (length-append p q)))

    both-laid : laid (laid d at p) (at + length p) q ≡ laid d at (p ++ q)
    both-laid =
        (λ i. front_kept i ++ (q ++ rest-kept i))
        ∙ append_assoc (take at d) p (q ++ drop (at + length (p ++ q)) d)
        ∙ ap (λ (l : List ℕ). take at d ++ l) (sym (append_assoc p q (drop (at + length (p ++ q)) d)))

  pub join : {p q e f : List ℕ} {m n : ℕ} → Laid d at p m e → Laid e m q n f → Laid d at (p ++ q) n f
  join {p} {q} {e} {f} {m} {n} a b =
      let parts = length-append p q in
      record {
        fits = omega (arith, a.place, a.size, b.fits);
        place = omega (arith, a.place, b.place);
        bytes = b.bytes ∙ (λ i. laid (a.bytes i) (a.place i) q) ∙ both-laid p q a.fits;
        size = b.size ∙ a.size;
      }

  -- the piece under another name
  pub named : {p q e : List ℕ} {n : ℕ} → p ≡ q → Laid d at p n e → Laid d at q n e
  named {p} {q} {e} {n} h a = subst (λ (l : List ℕ). Laid d at l n e) h a

  -- a field: a tag with its equals sign, a value, byte 1
  pub three : {p q s e f g : List ℕ} {m n k : ℕ} → Laid d at p m e → Laid e m q n f → Laid f n s k g → Laid d at (p ++ (q ++ s)) k g
  three {p} {q} {s} a b c = named (append_assoc p q s) (join (join a b) c)

-- ---- a copy, as the loop makes it
module _ (d e : List ℕ) (at : ℕ) (v : List ℕ) (i : ℕ) (h : at + length v ≤ length d) where
  pub copied_on : i < length v → e ≡ paste d at v i → set e (at + i) (get_or v i 0) ≡ paste d at v (i + 1)
  copied_on k q =
      ap (λ (l : List ℕ). set l (at + i) (get_or v i 0)) q
      ∙ paste-suc d at v i 0 (omega arith) k
      ∙ ap (paste d at v) (sym (add-one i))

  pub copied_all : i ≡ length v → e ≡ paste d at v i → Laid d at v (at + length v) e
  copied_all k q =
      record {
        fits = h;
        place = refl;
        bytes =
            q
            ∙ ap (paste d at v) k
            ∙ ap (λ (l : List ℕ). take at d ++ l ++ drop (at + length v) d) (take-length v)
            ∙ append_assoc (take at d) v (drop (at + length v) d);
        size = ap length q ∙ length-paste d at v i (omega arith) (omega arith);
      }

-- ---- a piece laid before another that is there already
module _ (d : List ℕ) (at end : ℕ) (head body e f : List ℕ) where
  pub before : length head ≡ at → Laid d at body end e → Laid e 0 head at f → Laid d 0 (head ++ body) end f
  before h a b =
      let rest : at + length body ≡ 0 + length (head ++ body) = omega (arith, length-append head body) in
      record {
        fits = omega (arith, a.fits, length-append head body);
        place = omega (arith, a.place, length-append head body);
        bytes =
            b.bytes
            ∙ ap (λ (l : List ℕ). head ++ l)
            (ap (λ (n : ℕ). drop n e) (zero_plus (length head) ∙ h)
            ∙ ap (drop at) a.bytes
            ∙ drop_at (take at d) (body ++ drop (at + length body) d) at (length-take-le at d (omega (arith, a.fits)))
            ∙ ap (λ (n : ℕ). body ++ drop n d) rest)
            ∙ sym (append_assoc head body (drop (0 + length (head ++ body)) d));
        size = b.size ∙ a.size;
      }
    where
      zero_plus : (n : ℕ) → 0 + n ≡ n
      zero_plus n = omega arith

-- ---- the whole, from the first place on
module _ (d p : List ℕ) (n : ℕ) (e : List ℕ) (a : Laid d 0 p n e) where
  pub whole : e ≡ p ++ drop (length p) d
  whole = let none : 0 + length p ≡ length p = omega arith in a.bytes ∙ ap (λ (k : ℕ). p ++ drop k d) none

  pub whole-front : take n e ≡ p
  whole-front = ap (take n) whole ∙ take_at p (drop (length p) d) n (omega (arith, a.place))

pub zeros_left : (k n : ℕ) → drop {A = ℕ} k (replicate n 0) ≡ replicate (n - k) 0
zeros_left zero n = let e : n ≡ n - 0 = omega arith in ap (λ (m : ℕ). replicate m 0) e
zeros_left (suc k) zero = let e : 0 ≡ 0 - suc k = omega arith in ap (λ (m : ℕ). replicate m 0) e
zeros_left (suc k) (suc n) = let e : n - k ≡ suc n - suc k = omega arith in zeros_left k n ∙ ap (λ (m : ℕ). replicate m 0) e
