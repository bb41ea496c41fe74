-- The size of a block by its kind.
use Prim.Native.Nat.{ℕ}
use mathlib.Core.Path.{◌≡◌, refl, sym, ap, ◌∙◌}
use mathlib.Core.List.{List, [], ◌∷◌}
use mathlib.Core.Bool.{false}
use lib.Dec.{eqb}
use borrow.Author.Tests.{ne_eqb}
use lib.ListN.{get_or}
use Rattle.call_blocks.specs.declared.Kind.{Kind}
use Rattle.call_blocks.specs.declared.Kind.TheVariants as K
use Rattle.call_blocks.specs.Named.{word_of}
use Rattle.call_blocks.specs.Kinds.{add_due, due, due_at}
use Rattle.call_blocks.specs.Pieces.{telling}

-- an add with another side than buy or sell
pub other_side_lem : (side : ℕ) → (side ≡ 1 → ⊥) → (side ≡ 2 → ⊥) → 0 ≡ add_due side
unfolding add_due
other_side_lem side a b = rw (ne_eqb side 1 a, ne_eqb side 2 b) refl

-- ---- by the kind

-- the first word is the kind's
pub kind_due : (ws : List ℕ) (kind k : Kind) → word_of kind ≡ get_or ws 0 0 → kind ≡ k → due (word_of k) ws ≡ due_at ws
kind_due ws kind k e f = ap (λ (x : Kind). due (word_of x) ws) (sym f) ∙ ap (λ (j : ℕ). due j ws) e

-- a kind that is none of these, the last of them outermost
abbrev pub NoneOf : ℕ → List ℕ → Type 0
NoneOf kind [] = Unit {0}
NoneOf kind (k ∷ ks) = NoneOf kind ks × (kind ≡ k → ⊥)

module _ (word : ℕ) (h : (kind : Kind) → word_of kind ≡ word → ⊥) where
  pub other : (kind : Kind) → eqb word (word_of kind) ≡ false
  other kind = ne_eqb word (word_of kind) (λ e. h kind (sym e))

  other_kind : (ws : List ℕ) → due word ws ≡ 0
  unfolding due
  other_kind ws =
      rw (
        other K.Open,
        other K.Add,
        other K.Amend,
        other K.Cancel,
        other K.Deal,
        other K.Tick,
        other K.Close,
        other K.Drop,
        other K.Charge,
        other K.Withdraw,
        other K.Look,
        other K.Report,
        other K.OpenStrike,
        other K.Ask,
        other K.Commit,
        other K.Message,
        other K.Outlook,
      )
      refl

  pub other-due : (ws : List ℕ) → word ≡ get_or ws 0 0 → 0 ≡ due_at ws
  other-due ws e = sym (other_kind ws) ∙ ap (λ (j : ℕ). due j ws) e

  pub no-telling : 1 ≡ telling word
  unfolding telling
  no-telling = rw (other K.Open, other K.Add, other K.OpenStrike, other K.Message) refl

-- ---- the words that tell it

pub kind_told : (ws : List ℕ) (kind k : Kind) → word_of kind ≡ get_or ws 0 0 → kind ≡ k → telling (word_of k) ≡ telling (get_or ws 0 0)
kind_told ws kind k e f = ap (λ (x : Kind). telling (word_of x)) (sym f) ∙ ap telling e

pub others_told : (kind : Kind) → (kind ≡ K.Open → ⊥) → (kind ≡ K.Add → ⊥) → (kind ≡ K.OpenStrike → ⊥) → (kind ≡ K.Message → ⊥) → 1 ≡ telling (word_of kind)
unfolding telling
others_told K.Open a b s m = absurd (a refl)
others_told K.Add a b s m = absurd (b refl)
others_told K.Amend a b s m = refl
others_told K.Cancel a b s m = refl
others_told K.Deal a b s m = refl
others_told K.Tick a b s m = refl
others_told K.Close a b s m = refl
others_told K.Drop a b s m = refl
others_told K.Charge a b s m = refl
others_told K.Withdraw a b s m = refl
others_told K.Look a b s m = refl
others_told K.Report a b s m = refl
others_told K.OpenStrike a b s m = absurd (s refl)
others_told K.Ask a b s m = refl
others_told K.Commit a b s m = refl
others_told K.Message a b s m = absurd (m refl)
others_told K.Outlook a b s m = refl

pub other-telling : (kind : ℕ) → NoneOf kind (16 ∷ 13 ∷ 2 ∷ 1 ∷ []) → 1 ≡ telling kind
unfolding telling
other-telling kind h =
    rw (ne_eqb kind 1 h.0.0.0.1, ne_eqb kind 2 h.0.0.1, ne_eqb kind 13 h.0.1, ne_eqb kind 16 h.1) refl
